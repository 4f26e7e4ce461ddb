-- Whatever exchanges there are, the fed session is lawful, and each watcher is sound.
use Rattle.std.proofs.Common.{◌≡◌, ℕ, ◌+◌, ◌*◌, ◌<◌, ◌≤◌, Bool, true, false, List, [], ◌∷◌, ◌++◌, length, drop, arith, refl, sym, ap, subst, ◌∙◌, append_assoc, inl, inr, Option, Some, None}
use Rattle.std.specs.Prelude.{codes, if◌then◌else◌, is_some, map}
use Rattle.std.specs.List.{AllByRecursion}
use Rattle.std.specs.Str.{bytes_eq}
use Rattle.std.proofs.Math.Seq.{drop-append_seam}
use Rattle.std.proofs.lemmas.List.{append-nil, length-append}
use Rattle.board_model.specs.declared.line.Line.TheVariants as board_line
use Rattle.board_model.proofs.ListLemmas.{same_bytes}
use Rattle.script_model.specs.declared.line.ScriptLine.{ScriptLine}
use Rattle.script_model.specs.declared.line.ScriptLine.TheVariants as line
use Rattle.script_model.specs.ScriptAnswers.{ScriptAnswer, is_refused}
use Rattle.script_model.specs.ScriptSession.{IsLawful, IsRight, Session}
use Rattle.script_model.specs.LawsOfComposition.{Pair, state_met}
use Rattle.script_model.specs.LawsOfLines.{names}
use Rattle.script_moments.specs.Gets.{Get, NamedEntry, named_entry}
use Rattle.script_moments.specs.LawsOfReports as laws
use Rattle.script_moments.specs.Reports.{IsItem, entry_got, last_report}
use Rattle.script_moments.specs.Watchers.{AskedId, IsWatcher, OpenTurn, getting, gets_of, idle, reports_of, waiting}
use Rattle.script_moments.proofs.ReportLemmas.{watchers_rise}
use Rattle.script_moments.proofs.KeptEntryLemmas.{entries_kept}
use Rattle.script_moments.proofs.WatchLemmas.{all_reports, fresh, report_items}
use Rattle.script_exchanges.specs.declared.line.DriveLine.{DriveLine}
use Rattle.script_exchanges.specs.declared.line.DriveLine.TheVariants.{Script, Start, Turn}
use Rattle.script_exchanges.specs.DrivenParties.{Got, abandoned_by, held_back, if_kept, kept_with, let_go, party_text}
use Rattle.script_exchanges.specs.Exchanges.{Exchanges, Told, fed_by, fed_session, given, said}
use Rattle.script_snapshots.proofs.FedLemmas.{fed_lawful}
use Rattle.script_watches.specs.Watchings.{Outcome, Watching, ended, goes_on, last_generation, line_at, new_watching, next_line, reports, reports_through, taken}
use Rattle.script_watches.specs.LawsOfWatches.{FedSessionsAreLawful, NoReportIsAboveTheLast, ReportedGenerationsRise, ReportsAreFresh, ReportsAreItems, Rise, WatchedPartiesHaveWatchers, got_of}
use Rattle.script_watches.specs.WatchExchanges.{AreToldIds, IsExchange, IsOpened, IsTurnedDown, Leads, OfScript, OfStart, OfTurn, Watchings, fed_with, id_line, kept_of, no_watchings, pairs_of_id, pairs_of_ids, said_of}
use Rattle.script_watches.proofs.OpeningLemmas.{ids_count, ids_lawful, opened_sound}
use Rattle.script_watches.proofs.ReportedLemmas.{highest_is}
use Rattle.script_watches.proofs.WatchingLemmas.{IsOutcome, IsSound, never_refused, next_pair, others_sound, outcome}

-- what holds after exchanges
pub record IsKept (s : Watchings) : Type 0 where
  pub lawful : IsLawful s.fed
  pub sound : (party : List ℕ) (x : Watching) → s.of party ≡ Some x → IsSound s.fed party x

-- ---- of one party and of others

here_or_there : {A : Type 0} (of : List ℕ → Option A) (party : List ℕ) (y : Option A) (p : List ℕ) (x : A) (P : List ℕ → A → Type 0) → kept_with of party y p ≡ Some x → (y ≡ Some x → P party x) → (bytes_eq p party ≡ false → of p ≡ Some x → P p x) → P p x
here_or_there of party y p x P e here there = at (bytes_eq p party) refl e
  where
    at : (b : Bool) → bytes_eq p party ≡ b → (if b then y else of p) ≡ Some x → P p x
    at true same k = subst (λ (q : List ℕ). P q x) (sym (same_bytes p party same)) (here k)
    at false apart k = there apart k

-- ---- pairs that don't name a watched party

others_so : (s : Watchings) (l : ScriptLine) (a : ScriptAnswer) → IsKept s → IsRight (state_met s.fed) l a → ((p : List ℕ) (x : Watching) → s.of p ≡ Some x → names p l ≡ false) → IsKept (fed_with s ((l, a) ∷ []) s.of)
others_so s l a h right off = record {
  lawful = fed_lawful s.fed (l, a) h.lawful right;
  sound = λ p x e. others_sound s.fed p x (l, a) h.lawful right (off p x e) (h.sound p x e);
}

-- ---- lines of a plain script

not_watched : (s : Watchings) (q : List ℕ) (p : List ℕ) (x : Watching) → if_kept s.of (Some q) ≡ None → s.of p ≡ Some x → (b : Bool) → bytes_eq p q ≡ b → b ≡ false
not_watched s q p x none e false k = refl
not_watched s q p x none e true k =
    let same : p ≡ q = same_bytes p q k in
    let watched : s.of q ≡ Some x = sym (ap s.of same) ∙ e in
    let some : is_some (s.of q) ≡ true = ap is_some watched in
    absurd (let f : (if true then Some q else None) ≡ None = subst (λ (b : Bool). (if b then Some q else None) ≡ None) some none in cc)

abandon_so : (s : Watchings) (q : List ℕ) (a : ScriptAnswer) (refused : Bool) → IsKept s → IsRight (state_met s.fed) (line.Board (board_line.Abandon q)) a → is_refused a ≡ refused → IsKept (fed_with s ((line.Board (board_line.Abandon q), a) ∷ []) (if refused then s.of else kept_with s.of q None))
abandon_so s q a true h right refusal = others_so s (line.Board (board_line.Abandon q)) a h right (λ p x e. at p x e (bytes_eq p q) refl)
  where
    at : (p : List ℕ) (x : Watching) → s.of p ≡ Some x → (b : Bool) → bytes_eq p q ≡ b → b ≡ false
    at p x e false k = refl
    at p x e true k = absurd (never_refused s.fed q x a right refusal (h.sound q x (sym (ap s.of (same_bytes p q k)) ∙ e)))
abandon_so s q a false h right accepts = record {
  lawful = fed_lawful s.fed (line.Board (board_line.Abandon q), a) h.lawful right;
  sound = λ p x e. here_or_there s.of q None p x (λ r y. IsSound (s.fed ++ (line.Board (board_line.Abandon q), a) ∷ []) r y) e (λ k. absurd cc)
      (λ apart k. others_sound s.fed p x (line.Board (board_line.Abandon q), a) h.lawful right apart (h.sound p x k));
}

given_so : (s : Watchings) (l : ScriptLine) (a : ScriptAnswer) → IsKept s → if_kept s.of (held_back l) ≡ None → IsRight (state_met s.fed) l a → IsKept (fed_with s ((l, a) ∷ []) (let_go s.of (abandoned_by l) (is_refused a)))
given_so s (line.Board (board_line.Begin q c)) a h none right = others_so s _ a h right (λ p x e. not_watched s q p x none e (bytes_eq p q) refl)
given_so s (line.Board (board_line.Step q)) a h none right = others_so s _ a h right (λ p x e. not_watched s q p x none e (bytes_eq p q) refl)
given_so s (line.Board (board_line.Release q n)) a h none right = others_so s _ a h right (λ p x e. not_watched s q p x none e (bytes_eq p q) refl)
given_so s (line.Board (board_line.Abandon q)) a h none right = abandon_so s q a (is_refused a) h right refl
given_so s (line.Board (board_line.Words b)) a h none right = others_so s _ a h right (λ p x e. refl)
given_so s (line.Event q r) a h none right = others_so s _ a h right (λ p x e. not_watched s q p x none e (bytes_eq p q) refl)
given_so s (line.Expire q) a h none right = others_so s _ a h right (λ p x e. not_watched s q p x none e (bytes_eq p q) refl)

script_kept : (s t : Watchings) (l : ScriptLine) (told : List Told) (o : Option (List ℕ)) → IsKept s → if_kept s.of (held_back l) ≡ o → OfScript s l o told t → IsKept t
script_kept s t l told None h e k = subst IsKept (sym k.after) (given_so s l k.answer h e k.right)
script_kept s t l told (Some party) h e k = subst IsKept (sym k.1) h

-- ---- a watcher begins

-- the questions for the ids name a party that isn't watched
pub ids_kept : (hs : List (List ℕ)) (xs : List AskedId) (s : Watchings) (party : List ℕ) → IsKept s → s.of party ≡ None → AreToldIds s.fed party hs xs → IsKept (fed_with s (pairs_of_ids xs) s.of)
ids_kept [] [] s party h none t = subst (λ (f : Session). IsKept (record { fed = f; of = s.of })) (sym (append-nil s.fed)) h
ids_kept [] (x ∷ xs) s party h none t = absurd t
ids_kept (g ∷ hs) [] s party h none t = absurd t
ids_kept (g ∷ hs) (x ∷ xs) s party h none t =
    let one : IsKept (fed_with s (x.begun.pair ∷ []) s.of) = others_so s x.begun.pair.0 x.begun.pair.1 h t.0.begun_right (λ p y e. ap (λ (q : Pair). names p q.0) t.0.is.begun ∙ off p y e) in
    let two : IsKept (fed_with (fed_with s (x.begun.pair ∷ []) s.of) (x.ended.pair ∷ []) s.of) = others_so (fed_with s (x.begun.pair ∷ []) s.of) x.ended.pair.0 x.ended.pair.1 one t.0.ended_right (λ p y e. ap (λ (q : Pair). names p q.0) t.0.is.ended ∙ off p y e) in
    let both : IsKept (fed_with s (pairs_of_id x) s.of) = subst (λ (f : Session). IsKept (record { fed = f; of = s.of })) (append_assoc s.fed (x.begun.pair ∷ []) (x.ended.pair ∷ [])) two in
    subst (λ (f : Session). IsKept (record { fed = f; of = s.of })) (append_assoc s.fed (pairs_of_id x) (pairs_of_ids xs)) (ids_kept hs xs (fed_with s (pairs_of_id x) s.of) party both none t.1)
  where
    off : (p : List ℕ) (y : Watching) → s.of p ≡ Some y → bytes_eq p party ≡ false
    off p y e = at (bytes_eq p party) refl
      where
        at : (b : Bool) → bytes_eq p party ≡ b → b ≡ false
        at false k = refl
        at true k = absurd (let f : s.of p ≡ None = ap s.of (same_bytes p party k) ∙ none in cc)

opened_kept : (s t : Watchings) (party listener : List ℕ) (handles : List (List ℕ)) (told : List Told) → IsKept s → s.of party ≡ None → 0 < length handles → IsOpened s party listener handles told t → IsKept t
opened_kept s t party listener handles told h none some k =
    let x : Watching = new_watching listener handles s.fed k.asked in
    let others = ids_kept handles k.asked s party h none k.ids in
    subst IsKept (sym k.after) (record {
      lawful = ids_lawful handles k.asked s.fed party h.lawful k.ids;
      sound = λ p y e. here_or_there s.of party (Some x) p y (IsSound (s.fed ++ pairs_of_ids k.asked)) e
          (λ f. subst (IsSound (s.fed ++ pairs_of_ids k.asked) party) (some_is x y f) (opened_sound s.fed party listener handles k.asked h.lawful some k.ids))
          (λ apart f. others.sound p y f);
    })
  where
    some_is : (x y : Watching) → Some x ≡ Some y → x ≡ y
    some_is x y e = cc

down_kept : (s t : Watchings) (party : List ℕ) (handles : List (List ℕ)) (told : List Told) → IsKept s → s.of party ≡ None → IsTurnedDown s party handles told t → IsKept t
down_kept s t party handles told h none k =
    let first = ids_kept k.first k.asked s party h none k.ids in
    let all = others_so (fed_with s (pairs_of_ids k.asked) s.of) (id_line party k.handle) k.answer first k.right (λ p y e. at p y e (bytes_eq p party) refl) in
    subst IsKept (sym k.after) (subst (λ (f : Session). IsKept (record { fed = f; of = s.of })) (append_assoc s.fed (pairs_of_ids k.asked) ((id_line party k.handle, k.answer) ∷ [])) all)
  where
    at : (p : List ℕ) (y : Watching) → s.of p ≡ Some y → (b : Bool) → bytes_eq p party ≡ b → b ≡ false
    at p y e false f = refl
    at p y e true f = absurd (let g : s.of p ≡ None = ap s.of (same_bytes p party f) ∙ none in cc)

start_kept : (s t : Watchings) (party listener : List ℕ) (handles : List (List ℕ)) (told : List Told) (o : Option Watching) → IsKept s → s.of party ≡ o → 0 < length handles → OfStart s party listener handles o told t → IsKept t
start_kept s t party listener handles told (Some x) h e some k = subst IsKept (sym k.1) h
start_kept s t party listener handles told None h e some (inl k) = opened_kept s t party listener handles told h e some k
start_kept s t party listener handles told None h e some (inr k) = down_kept s t party handles told h e k

-- ---- a turn

-- the party's next line names it alone
names_next : (p party : List ℕ) (x : Watching) (o : OpenTurn) → names p (line_at party x o) ≡ bytes_eq p party
names_next p party x idle = refl
names_next p party x (waiting begun steps) = refl
names_next p party x (getting w gets None) = refl
names_next p party x (getting w gets (Some get)) = refl

kept_sound : (fed : Session) (party : List ℕ) (o : Outcome) (x : Watching) → IsOutcome fed party o → kept_of o ≡ Some x → IsSound fed party x
kept_sound fed party (goes_on y) x h e = let k : y ≡ x = cc in subst (IsSound fed party) k h
kept_sound fed party (reports y r) x h e = let k : y ≡ x = cc in subst (IsSound fed party) k h
kept_sound fed party ended x h e = absurd cc

turn_so : (s : Watchings) (party : List ℕ) (y : Watching) (a : ScriptAnswer) → IsKept s → s.of party ≡ Some y → IsRight (state_met s.fed) (next_line party y) a → IsKept (fed_with s (next_pair party y a ∷ []) (kept_with s.of party (kept_of (taken s.fed party y a))))
turn_so s party y a h takes right = record {
  lawful = fed_lawful s.fed (next_pair party y a) h.lawful right;
  sound = λ p x e. here_or_there s.of party (kept_of (taken s.fed party y a)) p x (IsSound (s.fed ++ next_pair party y a ∷ [])) e
      (λ k. kept_sound (s.fed ++ next_pair party y a ∷ []) party (taken s.fed party y a) x (outcome s.fed party y a (h.sound party y takes) right) k)
      (λ apart k. others_sound s.fed p x (next_pair party y a) h.lawful right (names_next p party y y.watcher.rest ∙ apart) (h.sound p x k));
}

turn_kept : (s t : Watchings) (party : List ℕ) (told : List Told) (o : Option Watching) → IsKept s → s.of party ≡ o → OfTurn s party o told t → IsKept t
turn_kept s t party told None h e k = subst IsKept (sym k.1) h
turn_kept s t party told (Some y) h e k = subst IsKept (sym k.after) (turn_so s party y k.answer h e k.right)

-- ---- exchanges

exchange_kept : (s t : Watchings) (l : DriveLine) (told : List Told) → IsKept s → IsExchange s l told t → IsKept t
exchange_kept s t (Script l) told h x = script_kept s t l told (if_kept s.of (held_back l)) h refl x.exchanged
exchange_kept s t (Start party []) told h x = absurd x.exchanged
exchange_kept s t (Start party (listener ∷ handles)) told h x = start_kept s t party listener handles told (s.of party) h refl (omega (arith, x.line.1.least)) x.exchanged
exchange_kept s t (Turn party) told h x = turn_kept s t party told (s.of party) h refl x.exchanged

pub leads_kept : (xs : Exchanges) (s t : Watchings) → IsKept s → Leads s xs t → IsKept t
leads_kept [] s t h k = subst IsKept (sym k) h
leads_kept (x ∷ xs) s t h k = leads_kept xs k.0 t (exchange_kept s k.0 x.0 x.1 h k.1) k.2

pub none_kept : IsKept no_watchings
none_kept = record { lawful = tt; sound = λ party x e. absurd cc }

-- ---- the fed session

abbrev fed_more : Session → List Told → Session → Type 0
fed_more fed told now = now ≡ fed ++ fed_by told

-- of lines that were given, and what is said behind them
given_all : (pairs : Session) (rest : List Told) → fed_by (map given pairs ++ rest) ≡ pairs ++ fed_by rest
given_all [] rest = refl
given_all (p ∷ ps) rest = ap (λ (x : Session). p ∷ x) (given_all ps rest)

some_given : (s t : Watchings) (pairs : Session) (of : List ℕ → Option Watching) (told rest : List Told) → told ≡ map given pairs ++ rest → fed_by rest ≡ [] → t ≡ fed_with s pairs of → fed_more s.fed told t.fed
some_given s t pairs of told rest e none k =
    let all : fed_by told ≡ pairs = ap fed_by e ∙ given_all pairs rest ∙ ap (λ (x : Session). pairs ++ x) none ∙ append-nil pairs in
    ap (λ (x : Watchings). x.fed) k ∙ ap (λ (x : Session). s.fed ++ x) (sym all)

none_given : (s t : Watchings) (text : List ℕ) (told : List Told) → told ≡ said text ∷ [] → t.fed ≡ s.fed → fed_more s.fed told t.fed
none_given s t text told e k = k ∙ sym (ap (λ (x : List Told). s.fed ++ fed_by x) e ∙ append-nil s.fed)

nothing_said : (party : List ℕ) (o : Outcome) → fed_by (said_of party o) ≡ []
nothing_said party (goes_on x) = refl
nothing_said party (reports x r) = refl
nothing_said party ended = refl

script_fed : (s t : Watchings) (l : ScriptLine) (told : List Told) (o : Option (List ℕ)) → OfScript s l o told t → fed_more s.fed told t.fed
script_fed s t l told None k = some_given s t ((l, k.answer) ∷ []) (let_go s.of (abandoned_by l) (is_refused k.answer)) told [] k.told_is refl k.after
script_fed s t l told (Some party) k = none_given s t _ told k.0 (ap (λ (x : Watchings). x.fed) k.1)

start_fed : (s t : Watchings) (party listener : List ℕ) (handles : List (List ℕ)) (told : List Told) (o : Option Watching) → OfStart s party listener handles o told t → fed_more s.fed told t.fed
start_fed s t party listener handles told (Some x) k = none_given s t _ told k.0 (ap (λ (y : Watchings). y.fed) k.1)
start_fed s t party listener handles told None (inl k) = some_given s t (pairs_of_ids k.asked) _ told (said (party_text (codes "watching") party) ∷ []) k.told_is refl k.after
start_fed s t party listener handles told None (inr k) = some_given s t (pairs_of_ids k.asked ++ (id_line party k.handle, k.answer) ∷ []) s.of told (said (party_text (codes "unwatched") party) ∷ []) k.told_is refl k.after

turn_fed : (s t : Watchings) (party : List ℕ) (told : List Told) (o : Option Watching) → OfTurn s party o told t → fed_more s.fed told t.fed
turn_fed s t party told None k = none_given s t _ told k.0 (ap (λ (x : Watchings). x.fed) k.1)
turn_fed s t party told (Some x) k =
    some_given s t (next_pair party x k.answer ∷ []) (kept_with s.of party (kept_of (taken s.fed party x k.answer))) told (said_of party (taken s.fed party x k.answer)) k.told_is (nothing_said party (taken s.fed party x k.answer)) k.after

exchange_fed : (s t : Watchings) (l : DriveLine) (told : List Told) → IsExchange s l told t → fed_more s.fed told t.fed
exchange_fed s t (Script l) told x = script_fed s t l told (if_kept s.of (held_back l)) x.exchanged
exchange_fed s t (Start party []) told x = absurd x.exchanged
exchange_fed s t (Start party (listener ∷ handles)) told x = start_fed s t party listener handles told (s.of party) x.exchanged
exchange_fed s t (Turn party) told x = turn_fed s t party told (s.of party) x.exchanged

pub leads_fed : (xs : Exchanges) (s t : Watchings) → Leads s xs t → t.fed ≡ s.fed ++ fed_session xs
leads_fed [] s t k = ap (λ (x : Watchings). x.fed) k ∙ sym (append-nil s.fed)
leads_fed (x ∷ xs) s t k =
    leads_fed xs k.0 t k.2 ∙ ap (λ (f : Session). f ++ fed_session xs) (exchange_fed s k.0 x.0 x.1 k.1) ∙ append_assoc s.fed (fed_by x.1) (fed_session xs)

pub fed_lawful_law : FedSessionsAreLawful
fed_lawful_law = record {
  fed = λ xs s k. leads_fed xs no_watchings s k;
  lawful = λ xs s k. (leads_kept xs no_watchings s none_kept k).lawful;
}

-- ---- watchers and their reports

sound_now : (xs : Exchanges) (s : Watchings) → Leads no_watchings xs s → (party : List ℕ) (x : Watching) → s.of party ≡ Some x → IsSound s.fed party x
sound_now xs s k party x e = (leads_kept xs no_watchings s none_kept k).sound party x e

pub watched_law : WatchedPartiesHaveWatchers
watched_law xs s k party x e = let h = sound_now xs s k party x e in record { since = h.since; fed_is = h.fed_is; watcher = h.watcher }

rise_so : (top : ℕ) (gets : List Get) → laws.Rise top gets → Rise top (map got_of gets)
rise_so top [] h = tt
rise_so top (x ∷ xs) h = (h.0, rise_so x.generation xs h.1)

pub rise_law : ReportedGenerationsRise
rise_law xs s k party x e handle = subst (Rise 0) (sym ((sound_now xs s k party x e).told handle)) (rise_so 0 (reports_of handle x.handles x.watcher) (watchers_rise handle x.handles x.watcher))

none_above : (top : ℕ) (gs : List Got) → Rise top gs → (top ≤ last_generation top gs) × AllByRecursion (λ (r : Got). r.generation ≤ last_generation top gs) gs
none_above top [] h = (omega arith, tt)
none_above top (x ∷ xs) h =
    let k = none_above x.generation xs h.1 in
    (omega (arith, h.0, k.0), (k.0, k.1))

pub highest_law : NoReportIsAboveTheLast
highest_law xs s k party x e handle = (none_above 0 (reports_through handle x.reported) (rise_law xs s k party x e handle)).1

all_with : {X : Type 0} (P Q R : X → Type 0) → ((x : X) → P x → Q x → R x) → (xs : List X) → AllByRecursion P xs → AllByRecursion Q xs → AllByRecursion R xs
all_with P Q R f [] h k = tt
all_with P Q R f (x ∷ xs) h k = (f x h.0 k.0, all_with P Q R f xs h.1 k.1)

pub items_law : ReportsAreItems
items_law xs s k party x e handle =
    let h = sound_now xs s k party x e in
    let told : List Get = reports_of handle x.handles x.watcher in
    let named : NamedEntry = named_entry (state_met x.before) party handle in
    let is_kept : Get → Type 0 = λ r. entry_got party handle r ≡ named in
    let is_item : Session → NamedEntry → Get → Type 0 = λ f n r. IsItem (state_met f) n r in
    let items = report_items x.before h.since party x.listener x.handles x.watcher h.watcher handle in
    let kept = all_reports is_kept 0 (gets_of handle x.handles x.watcher) (entries_kept x.before h.since party x.listener x.handles x.watcher h.watcher handle) in
    let both = all_with (λ (r : Get). is_item (x.before ++ h.since) (entry_got party handle r) r) is_kept (is_item (x.before ++ h.since) named) (λ r i q. subst (λ (n : NamedEntry). is_item (x.before ++ h.since) n r) q i) told items kept in
    record {
      gets = h.told handle;
      items = subst (λ (f : Session). AllByRecursion (is_item f named) told) (sym h.fed_is) both;
    }

-- the rest of a list behind a front is the same
same_rest : (a b c : Session) → a ++ b ≡ a ++ c → b ≡ c
same_rest a b c e = sym (drop-append_seam a b) ∙ ap (drop (length a)) e ∙ drop-append_seam a c

pub fresh_law : ReportsAreFresh
fresh_law xs s k party x e handle c b i n id g words q =
    let h = sound_now xs s k party x e in
    let since : h.since ≡ q.since = same_rest x.before h.since q.since (sym h.fed_is ∙ q.fed_is) in
    let w : IsWatcher x.before q.since party x.listener x.handles x.watcher = subst (λ (t : Session). IsWatcher x.before t party x.listener x.handles x.watcher) since h.watcher in
    let le : g ≤ last_report 0 (reports_of handle x.handles x.watcher) =
    fresh x.before q.since party x.listener x.handles x.watcher w q.earlier q.later q.turn c q.behind q.taken b i n id g words q.answers handle q.get q.of_turn q.of_entry in
    subst (λ (top : ℕ). g ≤ top) (sym (highest_is handle x (h.told handle))) le

-- ---- a line gives at most 33

map_length : (pairs : Session) (rest : List Told) → fed_by rest ≡ [] → length (fed_by (map given pairs ++ rest)) ≡ length pairs
map_length pairs rest none = ap (λ (x : Session). length x) (given_all pairs rest ∙ ap (λ (x : Session). pairs ++ x) none ∙ append-nil pairs)

some_few : (pairs : Session) (told rest : List Told) → told ≡ map given pairs ++ rest → fed_by rest ≡ [] → length (fed_by told) ≡ length pairs
some_few pairs told rest e none = ap (λ (x : List Told). length (fed_by x)) e ∙ map_length pairs rest none

none_few : (text : List ℕ) (told : List Told) → told ≡ said text ∷ [] → length (fed_by told) ≤ 33
none_few text told e = omega (arith, ap (λ (x : List Told). length (fed_by x)) e)

script_few : (s t : Watchings) (l : ScriptLine) (told : List Told) (o : Option (List ℕ)) → OfScript s l o told t → length (fed_by told) ≤ 33
script_few s t l told None k = omega (arith, some_few ((l, k.answer) ∷ []) told [] k.told_is refl)
script_few s t l told (Some party) k = none_few _ told k.0

start_few : (s t : Watchings) (party listener : List ℕ) (handles : List (List ℕ)) (told : List Told) (o : Option Watching) → length handles ≤ 16 → OfStart s party listener handles o told t → length (fed_by told) ≤ 33
start_few s t party listener handles told (Some x) few k = none_few _ told k.0
start_few s t party listener handles told None few (inl k) =
    omega (arith, few, some_few (pairs_of_ids k.asked) told (said (party_text (codes "watching") party) ∷ []) k.told_is refl, ids_count handles k.asked s.fed party k.ids)
start_few s t party listener handles told None few (inr k) =
    let first : length handles ≡ length k.first + length (k.handle ∷ k.others) = ap (λ (l : List (List ℕ)). length l) k.parts ∙ length-append k.first (k.handle ∷ k.others) in
    omega (
      arith,
      few,
      first,
      some_few (pairs_of_ids k.asked ++ (id_line party k.handle, k.answer) ∷ []) told (said (party_text (codes "unwatched") party) ∷ []) k.told_is refl,
      length-append (pairs_of_ids k.asked) ((id_line party k.handle, k.answer) ∷ []),
      ids_count k.first k.asked s.fed party k.ids,
    )

turn_few : (s t : Watchings) (party : List ℕ) (told : List Told) (o : Option Watching) → OfTurn s party o told t → length (fed_by told) ≤ 33
turn_few s t party told None k = none_few _ told k.0
turn_few s t party told (Some x) k = omega (arith, some_few (next_pair party x k.answer ∷ []) told (said_of party (taken s.fed party x k.answer)) k.told_is (nothing_said party (taken s.fed party x k.answer)))

exchange_few : (s t : Watchings) (l : DriveLine) (told : List Told) → IsExchange s l told t → length (fed_by told) ≤ 33
exchange_few s t (Script l) told x = script_few s t l told (if_kept s.of (held_back l)) x.exchanged
exchange_few s t (Start party []) told x = absurd x.exchanged
exchange_few s t (Start party (listener ∷ handles)) told x = start_few s t party listener handles told (s.of party) (omega (arith, x.line.1.most)) x.exchanged
exchange_few s t (Turn party) told x = turn_few s t party told (s.of party) x.exchanged

pub leads_few : (xs : Exchanges) (s t : Watchings) → Leads s xs t → length t.fed ≤ length s.fed + 33 * length xs
leads_few [] s t k = omega (arith, ap (λ (x : Watchings). length x.fed) k)
leads_few (x ∷ xs) s t k =
    let one = exchange_few s k.0 x.0 x.1 k.1 in
    let fed = ap (λ (f : Session). length f) (exchange_fed s k.0 x.0 x.1 k.1) in
    let more = leads_few xs k.0 t k.2 in
    omega (arith, one, fed, more, length-append s.fed (fed_by x.1))

-- ---- one exchange more

pub leads_more : (xs : Exchanges) (l : DriveLine) (told : List Told) (s t u : Watchings) → Leads s xs t → IsExchange t l told u → Leads s (xs ++ (l, told) ∷ []) u
leads_more [] l told s t u k x = (u, subst (λ (r : Watchings). IsExchange r l told u) k x, refl)
leads_more (y ∷ ys) l told s t u k x = (k.0, k.1, leads_more ys l told k.0 t u k.2 x)
