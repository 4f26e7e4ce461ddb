-- Whatever exchanges there are, the fed session is lawful, and each snapshot is sound.
use Rattle.std.proofs.Common.{◌≡◌, ℕ, ◌+◌, ◌<◌, ◌≤◌, Bool, true, false, List, [], ◌∷◌, ◌++◌, length, arith, refl, sym, ap, subst, ◌∙◌, append_assoc, Option, Some, None}
use Rattle.std.specs.Prelude.{if◌then◌else◌, is_some}
use Rattle.std.specs.Str.{bytes_eq}
use Rattle.std.proofs.lemmas.List.{append-nil, length-append}
use Rattle.board_model.specs.declared.line.Line.TheVariants as board_line
use Rattle.board_model.proofs.ListLemmas.{same_bytes}
use Rattle.script_model.specs.declared.line.ScriptLine.{ScriptLine}
use Rattle.script_model.specs.declared.line.ScriptLine.TheVariants as line
use Rattle.script_model.specs.ScriptAnswers.{ScriptAnswer, is_refused}
use Rattle.script_model.specs.ScriptSession.{IsLawful, IsRight, Session}
use Rattle.script_model.specs.LawsOfComposition.{state_met}
use Rattle.script_model.specs.LawsOfLines.{names}
use Rattle.script_moments.specs.Moments.{Moment}
use Rattle.script_moments.specs.Snapshots.{steps_of_snapshot}
use Rattle.script_moments.proofs.CountLemmas.{alone_two, are_short}
use Rattle.script_moments.proofs.RoundLemmas.{of_one_moment}
use Rattle.script_exchanges.specs.declared.line.DriveLine.{DriveLine}
use Rattle.script_exchanges.specs.declared.line.DriveLine.TheVariants.{Script, Start, Turn}
use Rattle.script_exchanges.specs.DrivenParties.{abandoned_by, held_back, if_kept, kept_with, let_go}
use Rattle.script_exchanges.specs.Exchanges.{Exchanges, Told, fed_by, fed_session, given, said}
use Rattle.script_snapshots.specs.Takings.{Outcome, Taking, ended, goes_on, new_taking, next_line, next_of, next_handle, taken, whole}
use Rattle.script_snapshots.specs.LawsOfTakings.{FedSessionsAreLawful, IsShortTaking, TakingsAreShort, WrittenSnapshotsAreOfOneMoment}
use Rattle.script_snapshots.specs.SnapshotExchanges.{IsExchange, Leads, OfScript, OfTurn, Takings, fed_with, kept_of, no_takings, said_of, started}
use Rattle.script_snapshots.proofs.FedLemmas.{fed_lawful}
use Rattle.script_snapshots.proofs.TakingLemmas.{IsBegunIf, IsOutcome, IsSound, IsWholeNow, new_sound, next_pair, others_sound, outcome, refused_sound}

-- what holds after exchanges
pub record IsKept (s : Takings) : Type 0 where
  pub lawful : IsLawful s.fed
  pub sound : (party : List ℕ) (x : Taking) → s.of party ≡ Some x → IsSound s.fed party x

-- ---- of one party and of others

here_or_there : {A : Type 0} (of : List ℕ → Option A) (party : List ℕ) (y : Option A) (p : List ℕ) (x : A) (P : List ℕ → A → Type 0) → kept_with of party y p ≡ Some x → (y ≡ Some x → P party x) → (bytes_eq p party ≡ false → of p ≡ Some x → P p x) → P p x
here_or_there of party y p x P e here there = at (bytes_eq p party) refl e
  where
    at : (b : Bool) → bytes_eq p party ≡ b → (if b then y else of p) ≡ Some x → P p x
    at true same k = subst (λ (q : List ℕ). P q x) (sym (same_bytes p party same)) (here k)
    at false apart k = there apart k

-- ---- lines of a plain script

not_taking : (s : Takings) (q : List ℕ) (p : List ℕ) (x : Taking) → if_kept s.of (Some q) ≡ None → s.of p ≡ Some x → (b : Bool) → bytes_eq p q ≡ b → b ≡ false
not_taking s q p x none e false k = refl
not_taking s q p x none e true k =
    let same : p ≡ q = same_bytes p q k in
    let taking : s.of q ≡ Some x = sym (ap s.of same) ∙ e in
    let some : is_some (s.of q) ≡ true = ap is_some taking in
    absurd (let f : (if true then Some q else None) ≡ None = subst (λ (b : Bool). (if b then Some q else None) ≡ None) some none in cc)

others_so : (s : Takings) (l : ScriptLine) (a : ScriptAnswer) → IsKept s → IsRight (state_met s.fed) l a → ((p : List ℕ) (x : Taking) → s.of p ≡ Some x → names p l ≡ false) → IsKept (fed_with s l a s.of)
others_so s l a h right off = record {
  lawful = fed_lawful s.fed (l, a) h.lawful right;
  sound = λ p x e. others_sound s.fed p x (l, a) h.lawful right (off p x e) (h.sound p x e);
}

abandon_so : (s : Takings) (q : List ℕ) (a : ScriptAnswer) (refused : Bool) → IsKept s → IsRight (state_met s.fed) (line.Board (board_line.Abandon q)) a → is_refused a ≡ refused → IsKept (fed_with s (line.Board (board_line.Abandon q)) a (if refused then s.of else kept_with s.of q None))
abandon_so s q a true h right refusal = record {
  lawful = fed_lawful s.fed (line.Board (board_line.Abandon q), a) h.lawful right;
  sound = λ p x e. at p x e (bytes_eq p q) refl;
}
  where
    at : (p : List ℕ) (x : Taking) → s.of p ≡ Some x → (b : Bool) → bytes_eq p q ≡ b → IsSound (s.fed ++ (line.Board (board_line.Abandon q), a) ∷ []) p x
    at p x e true k =
        let same : p ≡ q = same_bytes p q k in
        subst (λ (r : List ℕ). IsSound (s.fed ++ (line.Board (board_line.Abandon q), a) ∷ []) r x) (sym same) (refused_sound s.fed q x a right refusal (h.sound q x (sym (ap s.of same) ∙ e)))
    at p x e false k = others_sound s.fed p x (line.Board (board_line.Abandon q), a) h.lawful right k (h.sound p x e)
abandon_so s q a false h right accepts = record {
  lawful = fed_lawful s.fed (line.Board (board_line.Abandon q), a) h.lawful right;
  sound = λ p x e. here_or_there s.of q None p x (λ r y. IsSound (s.fed ++ (line.Board (board_line.Abandon q), a) ∷ []) r y) e (λ k. absurd cc)
      (λ apart k. others_sound s.fed p x (line.Board (board_line.Abandon q), a) h.lawful right apart (h.sound p x k));
}

given_so : (s : Takings) (l : ScriptLine) (a : ScriptAnswer) → IsKept s → if_kept s.of (held_back l) ≡ None → IsRight (state_met s.fed) l a → IsKept (fed_with s l a (let_go s.of (abandoned_by l) (is_refused a)))
given_so s (line.Board (board_line.Begin q c)) a h none right = others_so s _ a h right (λ p x e. not_taking s q p x none e (bytes_eq p q) refl)
given_so s (line.Board (board_line.Step q)) a h none right = others_so s _ a h right (λ p x e. not_taking s q p x none e (bytes_eq p q) refl)
given_so s (line.Board (board_line.Release q n)) a h none right = others_so s _ a h right (λ p x e. not_taking s q p x none e (bytes_eq p q) refl)
given_so s (line.Board (board_line.Abandon q)) a h none right = abandon_so s q a (is_refused a) h right refl
given_so s (line.Board (board_line.Words b)) a h none right = others_so s _ a h right (λ p x e. refl)
given_so s (line.Event q r) a h none right = others_so s _ a h right (λ p x e. not_taking s q p x none e (bytes_eq p q) refl)
given_so s (line.Expire q) a h none right = others_so s _ a h right (λ p x e. not_taking s q p x none e (bytes_eq p q) refl)

script_kept : (s t : Takings) (l : ScriptLine) (told : List Told) (o : Option (List ℕ)) → IsKept s → if_kept s.of (held_back l) ≡ o → OfScript s l o told t → IsKept t
script_kept s t l told None h e k = subst IsKept (sym k.after) (given_so s l k.answer h e k.right)
script_kept s t l told (Some party) h e k = subst IsKept (sym k.1) h

-- ---- a snapshot begins

start_kept : (s : Takings) (party : List ℕ) (handles : List (List ℕ)) (o : Option Taking) → IsKept s → 0 < length handles → IsKept (started s party handles o)
start_kept s party handles (Some x) h some = h
start_kept s party handles None h some = record {
  lawful = h.lawful;
  sound = λ p x e. here_or_there s.of party (Some (new_taking handles)) p x (IsSound s.fed) e
      (λ k. subst (IsSound s.fed party) (some_is (new_taking handles) x k) (new_sound s.fed party handles some))
      (λ apart k. h.sound p x k);
}
  where
    some_is : (y x : Taking) → Some y ≡ Some x → y ≡ x
    some_is y x e = cc

-- ---- a turn

-- the party's next line names it alone
names_next : (p party handle : List ℕ) (o : Option (Moment × List Moment)) → names p (next_of party handle o) ≡ bytes_eq p party
names_next p party handle None = refl
names_next p party handle (Some get) = refl

kept_sound : (fed : Session) (party : List ℕ) (o : Outcome) (x : Taking) → IsOutcome fed party o → kept_of o ≡ Some x → IsSound fed party x
kept_sound fed party (goes_on y) x h e = let k : y ≡ x = cc in subst (IsSound fed party) k h
kept_sound fed party ended x h e = absurd cc
kept_sound fed party (whole y) x h e = absurd cc

turn_so : (s : Takings) (party : List ℕ) (y : Taking) (a : ScriptAnswer) → IsKept s → s.of party ≡ Some y → IsRight (state_met s.fed) (next_line party y) a → IsKept (fed_with s (next_line party y) a (kept_with s.of party (kept_of (taken s.fed party y a))))
turn_so s party y a h takes right = record {
  lawful = fed_lawful s.fed (next_pair party y a) h.lawful right;
  sound = λ p x e. here_or_there s.of party (kept_of (taken s.fed party y a)) p x (IsSound (s.fed ++ next_pair party y a ∷ [])) e
      (λ k. kept_sound (s.fed ++ next_pair party y a ∷ []) party (taken s.fed party y a) x (outcome s.fed party y a h.lawful (h.sound party y takes) right) k)
      (λ apart k. others_sound s.fed p x (next_pair party y a) h.lawful right (names_next p party (next_handle y) y.shot.begun ∙ apart) (h.sound p x k));
}

turn_kept : (s t : Takings) (party : List ℕ) (told : List Told) (o : Option Taking) → IsKept s → s.of party ≡ o → OfTurn s party o told t → IsKept t
turn_kept s t party told None h e k = subst IsKept (sym k.1) h
turn_kept s t party told (Some y) h e k = subst IsKept (sym k.after) (turn_so s party y k.answer h e k.right)

-- ---- exchanges

exchange_kept : (s t : Takings) (l : DriveLine) (told : List Told) → IsKept s → IsExchange s l told t → IsKept t
exchange_kept s t (Script l) told h x = script_kept s t l told (if_kept s.of (held_back l)) h refl x.exchanged
exchange_kept s t (Start party handles) told h x = subst IsKept (sym x.exchanged.1) (start_kept s party handles (s.of party) h (omega (arith, x.line.1.least)))
exchange_kept s t (Turn party) told h x = turn_kept s t party told (s.of party) h refl x.exchanged

pub leads_kept : (xs : Exchanges) (s t : Takings) → IsKept s → Leads s xs t → IsKept t
leads_kept [] s t h k = subst IsKept (sym k) h
leads_kept (x ∷ xs) s t h k = leads_kept xs k.0 t (exchange_kept s k.0 x.0 x.1 h k.1) k.2

pub none_kept : IsKept no_takings
none_kept = record { lawful = tt; sound = λ party x e. absurd cc }

-- ---- the fed session

abbrev fed_more : Session → List Told → Session → Type 0
fed_more fed told now = now ≡ fed ++ fed_by told

one_given : (s t : Takings) (l : ScriptLine) (a : ScriptAnswer) (of : List ℕ → Option Taking) (told rest : List Told) → told ≡ given (l, a) ∷ rest → fed_by rest ≡ [] → t ≡ fed_with s l a of → fed_more s.fed told t.fed
one_given s t l a of told rest e none k =
    let all : fed_by told ≡ (l, a) ∷ [] = ap fed_by e ∙ ap (λ (x : Session). (l, a) ∷ x) none in
    ap (λ (x : Takings). x.fed) k ∙ ap (λ (x : Session). s.fed ++ x) (sym all)

none_given : (s t : Takings) (text : List ℕ) (told : List Told) → told ≡ said text ∷ [] → t.fed ≡ s.fed → fed_more s.fed told t.fed
none_given s t text told e k = k ∙ sym (ap (λ (x : List Told). s.fed ++ fed_by x) e ∙ append-nil s.fed)

nothing_said : (party : List ℕ) (o : Outcome) → fed_by (said_of party o) ≡ []
nothing_said party (goes_on x) = refl
nothing_said party ended = refl
nothing_said party (whole x) = refl

script_fed : (s t : Takings) (l : ScriptLine) (told : List Told) (o : Option (List ℕ)) → OfScript s l o told t → fed_more s.fed told t.fed
script_fed s t l told None k = one_given s t l k.answer (let_go s.of (abandoned_by l) (is_refused k.answer)) told [] k.told_is refl k.after
script_fed s t l told (Some party) k = none_given s t _ told k.0 (ap (λ (x : Takings). x.fed) k.1)

started_fed : (s : Takings) (party : List ℕ) (handles : List (List ℕ)) (o : Option Taking) → (started s party handles o).fed ≡ s.fed
started_fed s party handles None = refl
started_fed s party handles (Some x) = refl

turn_fed : (s t : Takings) (party : List ℕ) (told : List Told) (o : Option Taking) → OfTurn s party o told t → fed_more s.fed told t.fed
turn_fed s t party told None k = none_given s t _ told k.0 (ap (λ (x : Takings). x.fed) k.1)
turn_fed s t party told (Some x) k =
    one_given s t (next_line party x) k.answer (kept_with s.of party (kept_of (taken s.fed party x k.answer))) told (said_of party (taken s.fed party x k.answer)) k.told_is (nothing_said party (taken s.fed party x k.answer)) k.after

exchange_fed : (s t : Takings) (l : DriveLine) (told : List Told) → IsExchange s l told t → fed_more s.fed told t.fed
exchange_fed s t (Script l) told x = script_fed s t l told (if_kept s.of (held_back l)) x.exchanged
exchange_fed s t (Start party handles) told x = none_given s t _ told x.exchanged.0 (ap (λ (y : Takings). y.fed) x.exchanged.1 ∙ started_fed s party handles (s.of party))
exchange_fed s t (Turn party) told x = turn_fed s t party told (s.of party) x.exchanged

pub leads_fed : (xs : Exchanges) (s t : Takings) → Leads s xs t → t.fed ≡ s.fed ++ fed_session xs
leads_fed [] s t k = ap (λ (x : Takings). x.fed) k ∙ sym (append-nil s.fed)
leads_fed (x ∷ xs) s t k =
    leads_fed xs k.0 t k.2 ∙ ap (λ (f : Session). f ++ fed_session xs) (exchange_fed s k.0 x.0 x.1 k.1) ∙ append_assoc s.fed (fed_by x.1) (fed_session xs)

pub fed_lawful_law : FedSessionsAreLawful
fed_lawful_law = record {
  fed = λ xs s k. leads_fed xs no_takings s k;
  lawful = λ xs s k. (leads_kept xs no_takings s none_kept k).lawful;
}

-- ---- counts

short_if : (fed : Session) (party : List ℕ) (x : Taking) (b : Option Session) → IsBegunIf fed party x.handles x.shot b → IsShortTaking fed party x b
short_if fed party x None h = ap steps_of_snapshot h
short_if fed party x (Some before) h = record { since = h.since; fed_is = h.fed_is; short = are_short before h.since party x.handles x.shot h.snapshot }

pub takings_short : TakingsAreShort
takings_short xs s k party x e = short_if s.fed party x x.before ((leads_kept xs no_takings s none_kept k).sound party x e).begun

-- ---- snapshots that are written

pub written_law : WrittenSnapshotsAreOfOneMoment
written_law xs s k party a y w =
    let h = leads_kept xs no_takings s none_kept k in
    let o : IsOutcome (s.fed ++ next_pair party w.taking a ∷ []) party (taken s.fed party w.taking a) = outcome s.fed party w.taking a h.lawful (h.sound party w.taking w.takes) w.right in
    let n : IsWholeNow (s.fed ++ next_pair party w.taking a ∷ []) party y = subst (IsOutcome (s.fed ++ next_pair party w.taking a ∷ []) party) w.is o in
    record {
      before = n.before;
      since = n.since;
      fed_is = n.fed_is;
      written = n.written;
      moment = of_one_moment n.before n.since party y.handles y.shot n.written;
      short = are_short n.before n.since party y.handles y.shot n.written.snapshot;
      alone = alone_two n.before n.since party y.handles y.shot n.written;
    }

-- ---- each line gives at most one

said_few : (party : List ℕ) (o : Outcome) → length (fed_by (said_of party o)) ≤ 0
said_few party o = omega (arith, ap (λ (x : Session). length x) (nothing_said party o))

given_few : (l : ScriptLine) (a : ScriptAnswer) (told rest : List Told) → told ≡ given (l, a) ∷ rest → fed_by rest ≡ [] → length (fed_by told) ≤ 1
given_few l a told rest e none =
    let all : fed_by told ≡ (l, a) ∷ [] = ap fed_by e ∙ ap (λ (x : Session). (l, a) ∷ x) none in
    omega (arith, ap (λ (x : Session). length x) all)

none_few : (text : List ℕ) (told : List Told) → told ≡ said text ∷ [] → length (fed_by told) ≤ 1
none_few text told e = omega (arith, ap (λ (x : List Told). length (fed_by x)) e)

script_few : (s t : Takings) (l : ScriptLine) (told : List Told) (o : Option (List ℕ)) → OfScript s l o told t → length (fed_by told) ≤ 1
script_few s t l told None k = given_few l k.answer told [] k.told_is refl
script_few s t l told (Some party) k = none_few _ told k.0

turn_few : (s t : Takings) (party : List ℕ) (told : List Told) (o : Option Taking) → OfTurn s party o told t → length (fed_by told) ≤ 1
turn_few s t party told None k = none_few _ told k.0
turn_few s t party told (Some x) k = given_few (next_line party x) k.answer told (said_of party (taken s.fed party x k.answer)) k.told_is (nothing_said party (taken s.fed party x k.answer))

exchange_few : (s t : Takings) (l : DriveLine) (told : List Told) → IsExchange s l told t → length (fed_by told) ≤ 1
exchange_few s t (Script l) told x = script_few s t l told (if_kept s.of (held_back l)) x.exchanged
exchange_few s t (Start party handles) told x = none_few _ told x.exchanged.0
exchange_few s t (Turn party) told x = turn_few s t party told (s.of party) x.exchanged

pub leads_few : (xs : Exchanges) (s t : Takings) → Leads s xs t → length t.fed ≤ length s.fed + length xs
leads_few [] s t k = omega (arith, ap (λ (x : Takings). length x.fed) k)
leads_few (x ∷ xs) s t k =
    let one = exchange_few s k.0 x.0 x.1 k.1 in
    let fed = ap (λ (f : Session). length f) (exchange_fed s k.0 x.0 x.1 k.1) in
    let more = leads_few xs k.0 t k.2 in
    omega (arith, one, fed, more, length-append s.fed (fed_by x.1))

-- ---- one exchange more

pub leads_more : (xs : Exchanges) (l : DriveLine) (told : List Told) (s t u : Takings) → Leads s xs t → IsExchange t l told u → Leads s (xs ++ (l, told) ∷ []) u
leads_more [] l told s t u k x = (u, subst (λ (r : Takings). IsExchange r l told u) k x, refl)
leads_more (y ∷ ys) l told s t u k x = (k.0, k.1, leads_more ys l told k.0 t u k.2 x)
