-- A snapshot that a party takes goes on line by line: what holds of it after each.
use Rattle.std.proofs.Common.{◌≡◌, ℕ, zero, suc, ◌+◌, ◌<◌, Bool, true, false, eqb, List, [], ◌∷◌, ◌++◌, length, get_or, arith, refl, sym, ap, subst, ◌∙◌, append_assoc, inl, inr, Option, Some, None}
use Rattle.std.specs.Prelude.{◌⊎◌, if◌then◌else◌, slice_get, unwrap_or}
use Rattle.std.specs.Str.{bytes_eq}
use Rattle.std.proofs.lemmas.Bool.{eqb-true, eqb-false, false≢true}
use Rattle.std.proofs.lemmas.List.{append-nil, length-append}
use Rattle.board_model.specs.declared.answer.Answer.TheVariants as answer
use Rattle.board_model.specs.declared.answer.Reason.{Reason}
use Rattle.board_model.specs.declared.answer.Reply.TheVariants as reply
use Rattle.board_model.specs.declared.line.Call.TheVariants as call
use Rattle.board_model.specs.declared.line.Line.TheVariants as board_line
use Rattle.board_model.specs.declared.value.ValueType.{ValueType}
use Rattle.board_model.proofs.ThingLemmas.{same_to_itself}
use Rattle.board_model.proofs.ListLemmas.{same_bytes}
use Rattle.script_model.specs.declared.line.ScriptLine.{ScriptLine}
use Rattle.script_model.specs.declared.line.ScriptLine.TheVariants as line
use Rattle.script_model.specs.ScriptAnswers.{ScriptAnswer, is_refused, of_boards}
use Rattle.script_model.specs.ScriptTurns.{ScriptState}
use Rattle.script_model.specs.ScriptSession.{IsLawful, IsRight, Session, after}
use Rattle.script_model.specs.LawsOfComposition.{Pair, state_met}
use Rattle.script_model.specs.LawsOfLines.{names}
use Rattle.script_moments.specs.Moments.{Moment, left, next_moment}
use Rattle.script_moments.specs.Gets.{Ends, GoesOn, IsBegin, Round, ended_get, generations}
use Rattle.script_moments.specs.Snapshots.{AreUnlike, IsSnapshot, IsWritten, Snapshot}
use Rattle.script_moments.specs.SnapshotLines.{snapshot_at}
use Rattle.script_moments.proofs.LineLemmas.{go_on}
use Rattle.script_moments.proofs.TurnLemmas.{begun_or_refused, pair_is, snapshots_step}
use Rattle.script_exchanges.specs.DrivenParties.{Got, got_by}
use Rattle.script_moments.specs.LawsOfTurns.{StepsOn}
use Rattle.script_snapshots.specs.Takings.{Outcome, Taking, after_round, ended, goes_on, is_alike, moment_of, new_taking, next_handle, next_line, next_of, shot_so, stepped_get, taken, taken_on, whole}
use Rattle.script_snapshots.proofs.AliveLemmas.{IsAlive, IsThere, abandon_accepted, begin_alive, others_leave_alive, step_alive}
use Rattle.script_snapshots.proofs.FedLemmas.{met_more}

-- ---- what holds of a snapshot that a party takes

-- the session since its first get began
pub record IsBegun (fed : Session) (party : List ℕ) (handles : List (List ℕ)) (shot : Snapshot) (before : Session) : Type 0 where
  pub since : Session
  pub fed_is : fed ≡ before ++ since
  pub snapshot : IsSnapshot before since party handles shot
  pub alive : IsAlive fed party

abbrev pub IsBegunIf : Session → List ℕ → List (List ℕ) → Snapshot → Option Session → Type 0
IsBegunIf fed party handles shot None = shot ≡ snapshot_at [] [] None
IsBegunIf fed party handles shot (Some before) = IsBegun fed party handles shot before

pub record IsSound (fed : Session) (party : List ℕ) (x : Taking) : Type 0 where
  pub room : length x.shot.gets < length x.handles
  pub begun : IsBegunIf fed party x.handles x.shot x.before

-- a snapshot that is whole, and the session since its first get began
pub record IsWholeNow (fed : Session) (party : List ℕ) (y : Taking) : Type 0 where
  pub before : Session
  pub since : Session
  pub fed_is : fed ≡ before ++ since
  pub written : IsWritten before since party y.handles y.shot

abbrev pub IsOutcome : Session → List ℕ → Outcome → Type 0
IsOutcome fed party (goes_on x) = IsSound fed party x
IsOutcome fed party ended = Unit {0}
IsOutcome fed party (whole y) = IsWholeNow fed party y

pub new_sound : (fed : Session) (party : List ℕ) (handles : List (List ℕ)) → 0 < length handles → IsSound fed party (new_taking handles)
new_sound fed party handles some = record { room = some; begun = refl }

-- ---- lines of others, and refused abandonments

others_if : (fed : Session) (party : List ℕ) (x : Taking) (b : Option Session) (pair : Pair) → IsLawful fed → IsRight (state_met fed) pair.0 pair.1 → names party pair.0 ≡ false → IsBegunIf fed party x.handles x.shot b → IsBegunIf (fed ++ pair ∷ []) party x.handles x.shot b
others_if fed party x None pair ok right off h = h
others_if fed party x (Some before) pair ok right off h = record {
  since = h.since ++ pair ∷ [];
  fed_is = ap (λ (s : Session). s ++ pair ∷ []) h.fed_is ∙ append_assoc before h.since (pair ∷ []);
  snapshot = go_on.others before h.since party x.handles x.shot pair h.snapshot (subst (λ (s : Session). IsRight (state_met s) pair.0 pair.1) h.fed_is right) off;
  alive = others_leave_alive fed party pair ok right off h.alive;
}

pub others_sound : (fed : Session) (party : List ℕ) (x : Taking) (pair : Pair) → IsLawful fed → IsRight (state_met fed) pair.0 pair.1 → names party pair.0 ≡ false → IsSound fed party x → IsSound (fed ++ pair ∷ []) party x
others_sound fed party x pair ok right off h = record { room = h.room; begun = others_if fed party x x.before pair ok right off h.begun }

refused_if : (fed : Session) (party : List ℕ) (x : Taking) (b : Option Session) (a : ScriptAnswer) → IsRight (state_met fed) (line.Board (board_line.Abandon party)) a → is_refused a ≡ true → IsBegunIf fed party x.handles x.shot b → IsBegunIf (fed ++ (line.Board (board_line.Abandon party), a) ∷ []) party x.handles x.shot b
refused_if fed party x None a right refusal h = h
refused_if fed party x (Some before) a right refusal h = absurd (false≢true (sym (abandon_accepted (state_met fed) party a right h.alive) ∙ refusal))

pub refused_sound : (fed : Session) (party : List ℕ) (x : Taking) (a : ScriptAnswer) → IsRight (state_met fed) (line.Board (board_line.Abandon party)) a → is_refused a ≡ true → IsSound fed party x → IsSound (fed ++ (line.Board (board_line.Abandon party), a) ∷ []) party x
refused_sound fed party x a right refusal h = record { room = h.room; begun = refused_if fed party x x.before a right refusal h.begun }

-- ---- rounds that are alike

-- the last of the rounds, with these generations
pub record IsLastAlike (rounds : List Round) (gets : Round) : Type 0 where
  pub earlier : List Round
  pub one : Round
  pub are : rounds ≡ earlier ++ one ∷ []
  pub alike : generations one ≡ generations gets

pub alike_last : (rounds : List Round) (gets : Round) → is_alike rounds gets ≡ true → IsLastAlike rounds gets
alike_last [] gets e = absurd (false≢true e)
alike_last (one ∷ []) gets e = record { earlier = []; one = one; are = refl; alike = same_bytes (generations one) (generations gets) e }
alike_last (one ∷ two ∷ more) gets e =
    let k = alike_last (two ∷ more) gets e in
    record { earlier = one ∷ k.earlier; one = k.one; are = ap (λ (r : List Round). one ∷ r) k.are; alike = k.alike }

pub unlike_more : (rounds : List Round) (gets : Round) → is_alike rounds gets ≡ false → AreUnlike rounds → AreUnlike (rounds ++ gets ∷ [])
unlike_more [] gets e u = tt
unlike_more (one ∷ []) gets e u = (λ k. false≢true (sym e ∙ ap (λ (g : List ℕ). bytes_eq (generations one) g) (sym k) ∙ same_to_itself (generations one)), tt)
unlike_more (one ∷ two ∷ more) gets e u = (u.0, unlike_more (two ∷ more) gets e u.1)

-- ---- small facts

alive_at : (fed : Session) (pair : Pair) (party : List ℕ) → IsThere ((after (state_met fed) pair.0 pair.1).boards.parties party) → IsAlive (fed ++ pair ∷ []) party
alive_at fed pair party there = subst (λ (t : ScriptState). IsThere (t.boards.parties party)) (sym (met_more fed pair)) there

-- an accepted begin has begun
accepted_begin : (a : ScriptAnswer) → (a ≡ of_boards answer.Begun) ⊎ ((why : Reason) × (a ≡ of_boards (answer.Refused why))) → is_refused a ≡ false → a ≡ of_boards answer.Begun
accepted_begin a (inl e) accepts = e
accepted_begin a (inr e) accepts = absurd (false≢true (sym accepts ∙ ap is_refused e.1))

-- the next handle stands in the line
slice_is : (hs : List (List ℕ)) (n : ℕ) → n < length hs → slice_get hs n ≡ Some (get_or hs n [])
slice_is [] n lt = absurd (omega arith)
slice_is (h ∷ hs) zero lt = refl
slice_is (h ∷ hs) (suc n) lt = slice_is hs n (omega arith)

-- ---- the party's next line

-- the pair of its next line, and its moment after this session
abbrev pub next_pair : List ℕ → Taking → ScriptAnswer → Pair
next_pair party x a = (next_line party x, a)

module _ (party : List ℕ) (x : Taking) (a : ScriptAnswer) (room : length x.shot.gets < length x.handles) where
  -- a get has begun
  abbrev Begins : Session → Session → Type 0
  Begins fed before = IsBegun (fed ++ next_pair party x a ∷ []) party x.handles (snapshot_at x.shot.rounds x.shot.gets (Some (moment_of fed party x a, []))) before

  begins : (before since : Session) → x.shot.begun ≡ None → IsSnapshot before since party x.handles (snapshot_at x.shot.rounds x.shot.gets None) → IsRight (state_met (before ++ since)) (next_line party x) a → a ≡ of_boards answer.Begun → Begins (before ++ since) before
  begins before since none k right accepted =
      let pair : Pair = next_pair party x a in
      let b : IsBegin party (next_handle x) (next_moment before since pair) = pair_is pair (line.Board (board_line.Begin party (call.Get (next_handle x) None))) (of_boards answer.Begun) (ap (next_of party (next_handle x)) none) accepted in
      record {
        since = since ++ pair ∷ [];
        fed_is = append_assoc before since (pair ∷ []);
        snapshot = go_on.begins before since party (next_handle x) x.handles x.shot.rounds x.shot.gets pair k right (slice_is x.handles (length x.shot.gets) room) b;
        alive = alive_at (before ++ since) pair party (begin_alive (next_moment before since pair) party (next_handle x) b right);
      }

  begins_if : (fed : Session) (b : Option Session) → IsLawful fed → x.shot.begun ≡ None → IsBegunIf fed party x.handles x.shot b → IsRight (state_met fed) (next_line party x) a → a ≡ of_boards answer.Begun → Begins fed (unwrap_or b fed)
  begins_if fed None ok none h right accepted =
      let start : IsSnapshot fed [] party x.handles (snapshot_at [] [] None) = go_on.start fed party x.handles ok in
      let rounds : [] ≡ x.shot.rounds = sym (ap (λ (y : Snapshot). y.rounds) h) in
      let gets : [] ≡ x.shot.gets = sym (ap (λ (y : Snapshot). y.gets) h) in
      let k : IsSnapshot fed [] party x.handles (snapshot_at x.shot.rounds x.shot.gets None) =
      subst (λ (r : List Round). IsSnapshot fed [] party x.handles (snapshot_at r x.shot.gets None)) rounds (subst (λ (g : Round). IsSnapshot fed [] party x.handles (snapshot_at [] g None)) gets start) in
      let core = begins fed [] none k (subst (λ (s : Session). IsRight (state_met s) (next_line party x) a) (sym (append-nil fed)) right) accepted in
      subst (λ (s : Session). Begins s fed) (append-nil fed) core
  begins_if fed (Some before) ok none h right accepted =
      let k : IsSnapshot before h.since party x.handles (snapshot_at x.shot.rounds x.shot.gets None) = subst (λ (o : Option (Moment × List Moment)). IsSnapshot before h.since party x.handles (snapshot_at x.shot.rounds x.shot.gets o)) none h.snapshot in
      let core = begins before h.since none k (subst (λ (s : Session). IsRight (state_met s) (next_line party x) a) h.fed_is right) accepted in
      subst (λ (s : Session). Begins s before) (sym h.fed_is) core

  -- the get that runs has taken a step
  module _ (before since : Session) (get : Moment × List Moment) (begun : x.shot.begun ≡ Some get) (x_before : x.before ≡ Some before) (k : IsSnapshot before since party x.handles (snapshot_at x.shot.rounds x.shot.gets (Some get))) (right : IsRight (state_met (before ++ since)) (next_line party x) a) (alive : IsAlive (before ++ since) party) where
    abbrev Now : Session
    Now = (before ++ since) ++ next_pair party x a ∷ []

    abbrev Here : Moment
    Here = moment_of (before ++ since) party x a

    sound_so : (y : Taking) → y.before ≡ x.before → length y.shot.gets < length y.handles → IsSnapshot before (since ++ next_pair party x a ∷ []) party y.handles y.shot → IsThere ((left Here).boards.parties party) → IsSound Now party y
    sound_so y e lt s there = record {
      room = lt;
      begun = subst (IsBegunIf Now party y.handles y.shot) (sym (e ∙ x_before)) (record {
        since = since ++ next_pair party x a ∷ [];
        fed_is = append_assoc before since (next_pair party x a ∷ []);
        snapshot = s;
        alive = alive_at (before ++ since) (next_pair party x a) party there;
      });
    }

    goes : GoesOn party Here → IsOutcome Now party (stepped_get x get Here None)
    goes g = sound_so (shot_so x x.shot.rounds x.shot.gets (Some (get.0, get.1 ++ Here ∷ []))) refl room
        (go_on.goes_on before since party x.handles x.shot.rounds x.shot.gets get.0 get.1 (next_pair party x a) k right g)
        (step_alive Here party g.0 None g.1 right alive)

    module _ (gets : Round) (longer : length gets ≡ length x.shot.gets + 1) (s : IsSnapshot before (since ++ next_pair party x a ∷ []) party x.handles (snapshot_at x.shot.rounds gets None)) (there : IsThere ((left Here).boards.parties party)) where
      round_ends : length gets ≡ length x.handles → (alike : Bool) → is_alike x.shot.rounds gets ≡ alike → IsOutcome Now party (after_round x gets alike)
      round_ends full true e =
          let l = alike_last x.shot.rounds gets e in
          let t : IsSnapshot before (since ++ next_pair party x a ∷ []) party x.handles (snapshot_at (l.earlier ++ l.one ∷ []) gets None) =
          subst (λ (r : List Round). IsSnapshot before (since ++ next_pair party x a ∷ []) party x.handles (snapshot_at r gets None)) l.are s in
          let w = go_on.written before (since ++ next_pair party x a ∷ []) party x.handles l.earlier l.one gets t full l.alike in
          record {
            before = before;
            since = since ++ next_pair party x a ∷ [];
            fed_is = append_assoc before since (next_pair party x a ∷ []);
            written = subst (λ (r : List Round). IsWritten before (since ++ next_pair party x a ∷ []) party x.handles (snapshot_at r gets None)) (sym l.are) w;
          }
      round_ends full false e = sound_so (shot_so x (x.shot.rounds ++ gets ∷ []) [] None) refl (omega (arith, room))
          (go_on.round before (since ++ next_pair party x a ∷ []) party x.handles x.shot.rounds gets s full (unlike_more x.shot.rounds gets e s.unlike)) there

      get_ends : (last : Bool) → eqb (length gets) (length x.handles) ≡ last → IsOutcome Now party (if last then after_round x gets (is_alike x.shot.rounds gets) else goes_on (shot_so x x.shot.rounds gets None))
      get_ends true e = round_ends (eqb-true (length gets) (length x.handles) e) (is_alike x.shot.rounds gets) refl
      get_ends false e =
          let apart = eqb-false (length gets) (length x.handles) e in
          sound_so (shot_so x x.shot.rounds gets None) refl (omega (arith, room, longer, apart)) s there

    ends : (type : ValueType) (words : List ℕ) (g : ℕ) → Ends party Here type words g → IsOutcome Now party (stepped_get x get Here (Some (record { type = type; words = words; generation = g })))
    ends type words g e =
        let gets : Round = x.shot.gets ++ ended_get get.0 get.1 Here type words g ∷ [] in
        get_ends gets (length-append x.shot.gets (ended_get get.0 get.1 Here type words g ∷ []))
        (go_on.ends before since party x.handles x.shot.rounds x.shot.gets get.0 get.1 (next_pair party x a) type words g k right e)
        (step_alive Here party e.0 (Some (reply.Got type words g)) e.1 right alive)
        (eqb (length gets) (length x.handles)) refl

    steps : IsOutcome Now party (stepped_get x get Here (got_by a))
    steps = by (snapshots_step before since party x.handles x.shot.rounds x.shot.gets get.0 get.1 (next_pair party x a) k right (ap (next_of party (next_handle x)) begun))
      where
        by : StepsOn party Here → IsOutcome Now party (stepped_get x get Here (got_by a))
        by (inl g) =
            let e : got_by a ≡ None = ap (λ (p : Pair). got_by p.1) g.1 in
            subst (λ (o : Option Got). IsOutcome Now party (stepped_get x get Here o)) (sym e) (goes g)
        by (inr g) =
            let e : got_by a ≡ Some (record { type = g.0; words = g.1; generation = g.2 }) = ap (λ (p : Pair). got_by p.1) g.3.1 in
            subst (λ (o : Option Got). IsOutcome Now party (stepped_get x get Here o)) (sym e) (ends g.0 g.1 g.2 g.3)

  -- ---- with the answer

  steps_if : (fed : Session) (get : Moment × List Moment) (b : Option Session) → x.shot.begun ≡ Some get → x.before ≡ b → IsBegunIf fed party x.handles x.shot b → IsRight (state_met fed) (next_line party x) a → IsOutcome (fed ++ next_pair party x a ∷ []) party (stepped_get x get (moment_of fed party x a) (got_by a))
  steps_if fed get None begun e h right = absurd (let none : x.shot.begun ≡ None = ap (λ (y : Snapshot). y.begun) h in cc)
  steps_if fed get (Some before) begun e h right =
      let k : IsSnapshot before h.since party x.handles (snapshot_at x.shot.rounds x.shot.gets (Some get)) = subst (λ (o : Option (Moment × List Moment)). IsSnapshot before h.since party x.handles (snapshot_at x.shot.rounds x.shot.gets o)) begun h.snapshot in
      let core = steps before h.since get begun e k (subst (λ (s : Session). IsRight (state_met s) (next_line party x) a) h.fed_is right) (subst (λ (s : Session). IsAlive s party) h.fed_is h.alive) in
      subst (λ (s : Session). IsOutcome (s ++ next_pair party x a ∷ []) party (stepped_get x get (moment_of s party x a) (got_by a))) (sym h.fed_is) core

  taken_so : (fed : Session) (o : Option (Moment × List Moment)) → IsLawful fed → x.shot.begun ≡ o → IsBegunIf fed party x.handles x.shot x.before → IsRight (state_met fed) (next_line party x) a → is_refused a ≡ false → IsOutcome (fed ++ next_pair party x a ∷ []) party (taken_on fed x o (moment_of fed party x a) (got_by a))
  taken_so fed None ok none h right accepted = record {
    room = room;
    begun = begins_if fed x.before ok none h right (accepted_begin a (begun_or_refused (state_met fed) party (call.Get (next_handle x) None) a (subst (λ (l : ScriptLine). IsRight (state_met fed) l a) (ap (next_of party (next_handle x)) none) right)) accepted);
  }
  taken_so fed (Some get) ok begun h right accepted = steps_if fed get x.before begun refl h right

  taken_if : (fed : Session) (refused : Bool) → IsLawful fed → is_refused a ≡ refused → IsBegunIf fed party x.handles x.shot x.before → IsRight (state_met fed) (next_line party x) a → IsOutcome (fed ++ next_pair party x a ∷ []) party (if refused then ended else taken_on fed x x.shot.begun (moment_of fed party x a) (got_by a))
  taken_if fed true ok e h right = tt
  taken_if fed false ok e h right = taken_so fed x.shot.begun ok refl h right e

-- what becomes of a sound snapshot is sound, or whole
pub outcome : (fed : Session) (party : List ℕ) (x : Taking) (a : ScriptAnswer) → IsLawful fed → IsSound fed party x → IsRight (state_met fed) (next_line party x) a → IsOutcome (fed ++ next_pair party x a ∷ []) party (taken fed party x a)
outcome fed party x a ok h right = taken_if party x a h.room fed (is_refused a) ok refl h.begun right

-- ---- the answers that a snapshot may be given

-- refused, or not; and then a step of its get goes on or ends
abbrev pub FitsTaking : Session → List ℕ → Taking → ScriptAnswer → Option (Moment × List Moment) → Type 0
FitsTaking fed party x a None = Unit {0}
FitsTaking fed party x a (Some get) = StepsOn party (moment_of fed party x a)

fits_if : (fed : Session) (party : List ℕ) (x : Taking) (a : ScriptAnswer) (get : Moment × List Moment) (b : Option Session) → x.shot.begun ≡ Some get → IsBegunIf fed party x.handles x.shot b → IsRight (state_met fed) (next_line party x) a → StepsOn party (moment_of fed party x a)
fits_if fed party x a get None begun h right = absurd (let none : x.shot.begun ≡ None = ap (λ (y : Snapshot). y.begun) h in cc)
fits_if fed party x a get (Some before) begun h right =
    let k : IsSnapshot before h.since party x.handles (snapshot_at x.shot.rounds x.shot.gets (Some get)) = subst (λ (o : Option (Moment × List Moment)). IsSnapshot before h.since party x.handles (snapshot_at x.shot.rounds x.shot.gets o)) begun h.snapshot in
    let core = snapshots_step before h.since party x.handles x.shot.rounds x.shot.gets get.0 get.1 (next_pair party x a) k (subst (λ (s : Session). IsRight (state_met s) (next_line party x) a) h.fed_is right) (ap (next_of party (next_handle x)) begun) in
    subst (λ (s : Session). StepsOn party (moment_of s party x a)) (sym h.fed_is) core

fits_so : (fed : Session) (party : List ℕ) (x : Taking) (a : ScriptAnswer) (o : Option (Moment × List Moment)) → x.shot.begun ≡ o → IsSound fed party x → IsRight (state_met fed) (next_line party x) a → FitsTaking fed party x a o
fits_so fed party x a None begun h right = tt
fits_so fed party x a (Some get) begun h right = fits_if fed party x a get x.before begun h.begun right

pub fits : (fed : Session) (party : List ℕ) (x : Taking) (a : ScriptAnswer) → IsSound fed party x → IsRight (state_met fed) (next_line party x) a → FitsTaking fed party x a x.shot.begun
fits fed party x a h right = fits_so fed party x a x.shot.begun refl h right
