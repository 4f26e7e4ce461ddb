-- What is rightly told of a script's lines is clear, so the fed session is found again in the output.
use Rattle.std.proofs.Common.{◌≡◌, ℕ, Bool, true, false, cond, List, [], ◌∷◌, ◌++◌, length, map, refl, sym, subst, inl, inr, Option, Some, None}
use Rattle.std.specs.Prelude.{◌==◌, if◌then◌else◌, codes, filter, is_some}
use Rattle.std.specs.List.{list_any, AllByRecursion}
use Rattle.board_model.specs.AnswerGrammar.{reply_text}
use Rattle.board_model.specs.declared.answer.Reply.TheVariants as reply
use Rattle.script_model.specs.ScriptAnswers.{is_refused}
use Rattle.script_model.specs.declared.line.ScriptLine.{ScriptLine}
use Rattle.script_model.specs.LawsOfComposition.{Pair}
use Rattle.script_model.specs.ScriptGrammar.{script_spell}
use Rattle.script_model.specs.ScriptSession.{Session}
use Rattle.script_model.specs.ScriptSession as script
use Rattle.script_grammar.proofs.SplitLemmas.{IsFree, free_append, free_joined}
use Rattle.script_moments.specs.Gets.{Round}
use Rattle.script_moments.specs.Watchers.{AskedId, OpenTurn, Waited, called, each_once, getting, idle, waiting}
use Rattle.script_exchanges.specs.declared.line.Drive.TheVariants.{Watchers}
use Rattle.script_exchanges.specs.declared.line.DriveLine.{DriveLine}
use Rattle.script_exchanges.specs.declared.line.DriveLine.TheVariants.{Script, Start, Turn}
use Rattle.script_exchanges.specs.DrivenParties.{abandoned_by, held_back, if_kept, kept_with, party_text}
use Rattle.script_exchanges.specs.Exchanges.{AreLinesOf, Exchanges, Told, given, said}
use Rattle.script_snapshots.proofs.FedLemmas.{fed_lawful}
use Rattle.script_written.specs.GivenLines.{AllIsClear, AreClear, IsClear}
use Rattle.script_written.proofs.ClearLemmas.{AreFree, AreFreeLines, IsFreeLine, got_free, index_free, input_free, name_free, names_free, next_free, pair_clear, said_free, says_clear, text_clear}
use Rattle.script_written.proofs.GivenLemmas.{all_found, all_read}
use Rattle.script_watches.specs.Watchings.{Outcome, Report, Watching, called_by, ended, goes_on, line_at, new_watching, next_handle, next_line, report_text, reports, taken}
use Rattle.script_watches.specs.WatchExchanges.{AreToldIds, IsExchange, IsLawful, Leads, OfScript, OfStart, OfTurn, Watchings, id_line, kept_of, no_watchings, pairs_of_id, pairs_of_ids, said_of}
use Rattle.script_watches.proofs.OpeningLemmas.{id_lawful, ids_lawful}
use Rattle.script_watches.proofs.WatchLaws.{IsKept, leads_kept, none_kept}
use Rattle.board_watch.specs.LawsOfWatchRuns.{FedSessionsAreWritten, OutputsAreReadBack}
use Rattle.board_watch.proofs.OutcomeLemmas.{Becomes, IsNext, kept_so, let_go_so, some_is, taken_next}

-- ---- the handles that a wait calls for

called_free : (hs : List (List ℕ)) (xs : List AskedId) (ids : List ℕ) → AreFree hs → AreFree (called hs xs ids)
called_free [] xs ids f = tt
called_free (h ∷ hs) [] ids f = tt
called_free (h ∷ hs) (x ∷ xs) ids f = at (list_any (λ n. n == x.id) ids) (called_free hs xs ids f.1)
  where
    at : (b : Bool) → AreFree (called hs xs ids) → AreFree (if b then h ∷ called hs xs ids else called hs xs ids)
    at true rest = (f.0, rest)
    at false rest = rest

filter_free : (p : List ℕ → Bool) (ts : List (List ℕ)) → AreFree ts → AreFree (filter p ts)
filter_free p [] f = tt
filter_free p (t ∷ ts) f = at (p t) (filter_free p ts f.1)
  where
    at : (b : Bool) → AreFree (filter p ts) → AreFree (cond b (t ∷ filter p ts) (filter p ts))
    at true rest = (f.0, rest)
    at false rest = rest

once_free : (hs : List (List ℕ)) → AreFree hs → AreFree (each_once hs)
once_free [] f = tt
once_free (h ∷ hs) f = (f.0, filter_free _ (each_once hs) (once_free hs f.1))

handle_free : (x : Watching) (w : Waited) (gets : Round) → AreFree x.handles → IsFree 10 (next_handle x w gets)
handle_free x w gets f = index_free (called_by x w) (length gets) (once_free (called x.handles x.watcher.asked w.ids) (called_free x.handles x.watcher.asked w.ids f))

-- ---- the names that watchers have

record IsNamed (owner : List ℕ) (x : Watching) : Type 0 where
  party : IsFree 10 owner
  listener : IsFree 10 x.listener
  handles : AreFree x.handles

-- ---- what holds after exchanges

abbrev Names : (List ℕ → Option Watching) → Type 0
Names of = (party : List ℕ) (x : Watching) → of party ≡ Some x → IsNamed party x

record IsHeld (s : Watchings) : Type 0 where
  kept : IsKept s
  named : Names s.of

-- one party's is this, and the others' are as before
kept_named : (of : List ℕ → Option Watching) (q : List ℕ) (o : Option Watching) → Names of → ((x : Watching) → o ≡ Some x → IsNamed q x) → Names (kept_with of q o)
kept_named of q o h k = kept_so IsNamed of q o (λ p x apart e. h p x e) k

script_named : (s t : Watchings) (l : ScriptLine) (told : List Told) (o : Option (List ℕ)) → Names s.of → OfScript s l o told t → Names t.of
script_named s t l told None h k = subst (λ (u : Watchings). Names u.of) (sym k.after) (let_go_so IsNamed s.of (abandoned_by l) (is_refused k.answer) h)
script_named s t l told (Some party) h k = subst (λ (u : Watchings). Names u.of) (sym k.1) h

start_named : (s t : Watchings) (party listener : List ℕ) (handles : List (List ℕ)) (told : List Told) (o : Option Watching) → Names s.of → IsFree 10 party → IsFree 10 listener → AreFree handles → OfStart s party listener handles o told t → Names t.of
start_named s t party listener handles told (Some x) h p l hs k = subst (λ (u : Watchings). Names u.of) (sym k.1) h
start_named s t party listener handles told None h p l hs (inl k) =
    let new : Watching = new_watching listener handles s.fed k.asked in
    subst (λ (u : Watchings). Names u.of) (sym k.after)
    (kept_named s.of party (Some new) h (λ x e. subst (IsNamed party) (some_is new x e) (record { party = p; listener = l; handles = hs })))
start_named s t party listener handles told None h p l hs (inr k) = subst (λ (u : Watchings). Names u.of) (sym k.after) h

becomes_named : (party : List ℕ) (x y : Watching) (more : List Report) → IsNamed party x → Becomes x more y → IsNamed party y
becomes_named party x y more n h = record {
  party = n.party;
  listener = subst (IsFree 10) (sym h.listener) n.listener;
  handles = subst AreFree (sym h.handles) n.handles;
}

outcome_named : (party : List ℕ) (x : Watching) (o : Outcome) (y : Watching) → IsNamed party x → IsNext x o → kept_of o ≡ Some y → IsNamed party y
outcome_named party x (goes_on z) y n h e = subst (IsNamed party) (some_is z y e) (becomes_named party x z [] n h)
outcome_named party x (reports z r) y n h e = subst (IsNamed party) (some_is z y e) (becomes_named party x z (r ∷ []) n h.0)
outcome_named party x ended y n h e = absurd cc

turn_named : (s t : Watchings) (party : List ℕ) (told : List Told) (o : Option Watching) → Names s.of → s.of party ≡ o → OfTurn s party o told t → Names t.of
turn_named s t party told None h e k = subst (λ (u : Watchings). Names u.of) (sym k.1) h
turn_named s t party told (Some x) h e k =
    let n = h party x e in
    subst (λ (u : Watchings). Names u.of) (sym k.after)
    (kept_named s.of party (kept_of (taken s.fed party x k.answer)) h (λ y f. outcome_named party x (taken s.fed party x k.answer) y n (taken_next s.fed party x k.answer) f))

exchange_named : (s t : Watchings) (l : DriveLine) (told : List Told) → Names s.of → IsExchange s l told t → Names t.of
exchange_named s t (Script l) told h x = script_named s t l told (if_kept s.of (held_back l)) h x.exchanged
exchange_named s t (Start party []) told h x = absurd x.exchanged
exchange_named s t (Start party (listener ∷ handles)) told h x =
    let things : AreFree (listener ∷ handles) = names_free (listener ∷ handles) x.line.1.named in
    start_named s t party listener handles told (s.of party) h (name_free party x.line.0) things.0 things.1 x.exchanged
exchange_named s t (Turn party) told h x = turn_named s t party told (s.of party) h refl x.exchanged

exchange_held : (s t : Watchings) (l : DriveLine) (told : List Told) → IsHeld s → IsExchange s l told t → IsHeld t
exchange_held s t l told h x = record {
  kept = leads_kept ((l, told) ∷ []) s t h.kept (t, x, refl);
  named = exchange_named s t l told h.named x;
}

-- ---- what is told is clear

abbrev ArePairsClear : Session → Type 0
ArePairsClear pairs = AllByRecursion (λ (p : Pair). IsClear (given p)) pairs

pairs_append : (ps qs : Session) → ArePairsClear ps → ArePairsClear qs → ArePairsClear (ps ++ qs)
pairs_append [] qs h k = k
pairs_append (p ∷ ps) qs h k = (h.0, pairs_append ps qs h.1 k)

-- pairs that are given, and then one line that is said
given_clear : (pairs : Session) (text : List ℕ) → ArePairsClear pairs → IsClear (said text) → AreClear (map given pairs ++ said text ∷ [])
given_clear [] text h k = (k, tt)
given_clear (p ∷ ps) text h k = (h.0, given_clear ps text h.1 k)

-- the party for which a line is held back is watched
held_named : (s : Watchings) (o : Option (List ℕ)) (party : List ℕ) → Names s.of → if_kept s.of o ≡ Some party → IsFree 10 party
held_named s None party h e = absurd cc
held_named s (Some q) party h e = at (s.of q) refl e
  where
    at : (r : Option Watching) → s.of q ≡ r → (if is_some r then Some q else None) ≡ Some party → IsFree 10 party
    at None k f = absurd cc
    at (Some x) k f = subst (IsFree 10) (some_is q party f) (h q x k).party

script_clear : (s t : Watchings) (l : ScriptLine) (told : List Told) (o : Option (List ℕ)) → IsHeld s → IsFree 10 (script_spell l) → if_kept s.of (held_back l) ≡ o → OfScript s l o told t → AreClear told
script_clear s t l told None h line e k = subst AreClear (sym k.told_is) (pair_clear s.fed l k.answer h.kept.lawful line k.right, tt)
script_clear s t l told (Some party) h line e k = says_clear (codes "watched") party told refl refl (held_named s (held_back l) party h.named e) k.0

id_free : (party handle : List ℕ) → IsFree 10 party → IsFree 10 handle → IsFree 10 (script_spell (id_line party handle))
id_free party handle p h = free_joined 10 32 refl (codes "begin" ∷ party ∷ codes "id" ∷ handle ∷ []) (refl, (p, (refl, (h, tt))))

step_free : (party : List ℕ) → IsFree 10 party → IsFree 10 (codes "step " ++ party)
step_free party p = free_append 10 (codes "step ") party refl p

ids_clear : (hs : List (List ℕ)) (xs : List AskedId) (fed : Session) (party : List ℕ) → script.IsLawful fed → IsFree 10 party → AreFree hs → AreToldIds fed party hs xs → ArePairsClear (pairs_of_ids xs)
ids_clear [] [] fed party ok p f t = tt
ids_clear [] (x ∷ xs) fed party ok p f t = absurd t
ids_clear (h ∷ hs) [] fed party ok p f t = absurd t
ids_clear (h ∷ hs) (x ∷ xs) fed party ok p f t =
    let begun : IsFree 10 (script_spell x.begun.pair.0) = subst (λ (q : Pair). IsFree 10 (script_spell q.0)) (sym t.0.is.begun) (id_free party h p f.0) in
    let ended : IsFree 10 (script_spell x.ended.pair.0) = subst (λ (q : Pair). IsFree 10 (script_spell q.0)) (sym t.0.is.ended) (step_free party p) in
    let later : script.IsLawful (fed ++ x.begun.pair ∷ []) = fed_lawful fed x.begun.pair ok t.0.begun_right in (
      pair_clear fed x.begun.pair.0 x.begun.pair.1 ok begun t.0.begun_right,
      (pair_clear (fed ++ x.begun.pair ∷ []) x.ended.pair.0 x.ended.pair.1 later ended t.0.ended_right, ids_clear hs xs (fed ++ pairs_of_id x) party (id_lawful fed party h x ok t.0) p f.1 t.1),
    )

-- handles before one of them, and that one
parts_free : (first : List (List ℕ)) (h : List ℕ) (others : List (List ℕ)) → AreFree (first ++ h ∷ others) → AreFree first × IsFree 10 h
parts_free [] h others f = (tt, f.0)
parts_free (x ∷ xs) h others f = let more = parts_free xs h others f.1 in ((f.0, more.0), more.1)

start_clear : (s t : Watchings) (party listener : List ℕ) (handles : List (List ℕ)) (told : List Told) (o : Option Watching) → IsHeld s → IsFree 10 party → AreFree handles → OfStart s party listener handles o told t → AreClear told
start_clear s t party listener handles told (Some x) h p hs k = says_clear (codes "watched") party told refl refl p k.0
start_clear s t party listener handles told None h p hs (inl k) =
    subst AreClear (sym k.told_is)
    (given_clear (pairs_of_ids k.asked) (party_text (codes "watching") party) (ids_clear handles k.asked s.fed party h.kept.lawful p hs k.ids) (text_clear (party_text (codes "watching") party) (said_free (codes "watching") party refl p) refl))
start_clear s t party listener handles told None h p hs (inr k) =
    let f = parts_free k.first k.handle k.others (subst AreFree k.parts hs) in
    let ok : script.IsLawful (s.fed ++ pairs_of_ids k.asked) = ids_lawful k.first k.asked s.fed party h.kept.lawful k.ids in
    let last : IsClear (given (id_line party k.handle, k.answer)) = pair_clear (s.fed ++ pairs_of_ids k.asked) (id_line party k.handle) k.answer ok (id_free party k.handle p f.1) k.right in
    subst AreClear (sym k.told_is)
    (given_clear (pairs_of_ids k.asked ++ (id_line party k.handle, k.answer) ∷ []) (party_text (codes "unwatched") party)
    (pairs_append (pairs_of_ids k.asked) ((id_line party k.handle, k.answer) ∷ []) (ids_clear k.first k.asked s.fed party h.kept.lawful p f.0 k.ids) (last, tt))
    (text_clear (party_text (codes "unwatched") party) (said_free (codes "unwatched") party refl p) refl))

line_free : (party : List ℕ) (x : Watching) (rest : OpenTurn) → IsNamed party x → IsFree 10 (script_spell (line_at party x rest))
line_free party x idle n = free_joined 10 32 refl (codes "begin" ∷ party ∷ codes "wait" ∷ x.listener ∷ codes "all" ∷ codes "try" ∷ []) (refl, (n.party, (refl, (n.listener, (refl, (refl, tt))))))
line_free party x (waiting begun steps) n = step_free party n.party
line_free party x (getting w gets get) n = next_free party (next_handle x w gets) get n.party (handle_free x w gets n.handles)

report_free : (party : List ℕ) (r : Report) → IsFree 10 party → IsFree 10 r.handle → IsFree 10 (report_text party r)
report_free party r p h =
    let got = reply_text (reply.Got r.got.type r.got.words r.got.generation) in
    free_append 10 (party_text (codes "report") party) (codes " " ++ (r.handle ++ (codes " " ++ got))) (said_free (codes "report") party refl p)
    (free_append 10 (codes " ") (r.handle ++ (codes " " ++ got)) refl (free_append 10 r.handle (codes " " ++ got) h (free_append 10 (codes " ") got refl (got_free r.got.type r.got.words r.got.generation))))

said_clear : (party : List ℕ) (x : Watching) (o : Outcome) → IsNamed party x → IsNext x o → AreClear (said_of party o)
said_clear party x (goes_on y) n h = tt
said_clear party x (reports y r) n h =
    (text_clear (report_text party r) (report_free party r n.party (subst (IsFree 10) (sym h.1.handle) (handle_free x h.1.wait h.1.gets n.handles))) refl, tt)
said_clear party x ended n h = (text_clear (party_text (codes "unwatched") party) (said_free (codes "unwatched") party refl n.party) refl, tt)

turn_clear : (s t : Watchings) (party : List ℕ) (told : List Told) (o : Option Watching) → IsHeld s → IsFree 10 party → s.of party ≡ o → OfTurn s party o told t → AreClear told
turn_clear s t party told None h p e k = says_clear (codes "unwatched") party told refl refl p k.0
turn_clear s t party told (Some x) h p e k =
    let n = h.named party x e in
    subst AreClear (sym k.told_is) (
      pair_clear s.fed (next_line party x) k.answer h.kept.lawful (line_free party x x.watcher.rest n) k.right,
      said_clear party x (taken s.fed party x k.answer) n (taken_next s.fed party x k.answer),
    )

exchange_clear : (s t : Watchings) (l : DriveLine) (told : List Told) → IsHeld s → IsFreeLine l → IsExchange s l told t → AreClear told
exchange_clear s t (Script l) told h line x = script_clear s t l told (if_kept s.of (held_back l)) h line refl x.exchanged
exchange_clear s t (Start party []) told h line x = absurd x.exchanged
exchange_clear s t (Start party (listener ∷ handles)) told h line x =
    let things : AreFree (listener ∷ handles) = names_free (listener ∷ handles) x.line.1.named in
    start_clear s t party listener handles told (s.of party) h (name_free party x.line.0) things.1 x.exchanged
exchange_clear s t (Turn party) told h line x = turn_clear s t party told (s.of party) h (name_free party x.line) refl x.exchanged

-- ---- the whole output

all_clear : (xs : Exchanges) (s t : Watchings) → IsHeld s → AreFreeLines xs → Leads s xs t → AllIsClear xs
all_clear [] s t h free k = tt
all_clear (x ∷ xs) s t h free k = (exchange_clear s k.0 x.0 x.1 h free.0 k.1, all_clear xs k.0 t (exchange_held s k.0 x.0 x.1 h k.1) free.1 k.2)

none_held : IsHeld no_watchings
none_held = record { kept = none_kept; named = λ party x e. absurd cc }

clear : (input : List ℕ) (xs : Exchanges) → AreLinesOf Watchers (Some input) xs → IsLawful xs → AllIsClear xs
clear input xs lines lawful = all_clear xs no_watchings lawful.0 none_held (input_free Watchers input xs lines) lawful.1

pub fed_written : FedSessionsAreWritten
fed_written input xs lines lawful = all_found xs (clear input xs lines lawful)

pub read_back : OutputsAreReadBack
read_back input xs lines lawful = all_read xs (clear input xs lines lawful)
