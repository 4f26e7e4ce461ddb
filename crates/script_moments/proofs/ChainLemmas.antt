-- The own moments of a party, one after another, with lines of others between them.
use Rattle.std.proofs.Common.{◌≡◌, ℕ, ◌≤◌, Bool, true, false, cond, List, [], ◌∷◌, ◌++◌, length, arith, refl, sym, ap, subst, ◌∙◌, Option, Some, None, inl, inr, append_assoc}
use Rattle.std.proofs.lemmas.List.{append-nil, length-append}
use Rattle.std.specs.List.{AllByRecursion}
use Rattle.std.specs.Prelude.{IsSomeAnd}
use Rattle.board_event_model.proofs.SetLemmas.{either}
use Rattle.board_event_model.specs.EventMemory.{Event}
use Rattle.board_event_model.specs.EventSessions.{PartyCall, event_of}
use Rattle.board_model.specs.declared.answer.Answer.{Answer}
use Rattle.board_model.specs.declared.answer.Answer.TheVariants as answer
use Rattle.board_model.specs.declared.answer.Reason.{Reason}
use Rattle.board_model.specs.declared.answer.Reason.TheVariants as reason
use Rattle.board_model.specs.declared.line.Call.{Call}
use Rattle.board_model.specs.declared.line.Line.{Line}
use Rattle.board_model.specs.declared.line.Line.TheVariants as board_line
use Rattle.board_cell_model.specs.declared.access.Access.{Access}
use Rattle.board_model.specs.declared.answer.Reply.{Reply}
use Rattle.board_model.specs.LawfulSession as boards
use Rattle.board_model.specs.LawsOfOthers.{IsLeft, names_party}
use Rattle.board_model.specs.Parties.{Party, free, gone, running}
use Rattle.board_model.specs.Sound.{Sound}
use Rattle.board_model.proofs.SoundLemmas.{sound_after, sound_from}
use Rattle.board_model.proofs.GrowthLemmas.{line_growth, session_growth}
use Rattle.board_model.proofs.BoardLemmas.{KeepsBoards, session_boards}
use Rattle.board_model.proofs.OtherLemmas.{left_same, line_left}
use Rattle.script_model.specs.declared.line.ScriptLine.{ScriptLine}
use Rattle.script_model.specs.declared.line.ScriptLine.TheVariants as line
use Rattle.script_model.specs.ScriptAnswers.{ScriptAnswer, of_boards}
use Rattle.script_model.specs.ScriptEvents.{EventAsk, IsEventAccess, IsStepOf, ScriptEvents, runs_on_events}
use Rattle.script_model.specs.ScriptTurns.{EventTurn, IsTurnAnswer, ScriptState, begin_turn, refused, turn_of}
use Rattle.script_model.specs.ScriptSession.{IsLawfulFrom, IsRight, Session, after, after_turn}
use Rattle.script_model.specs.LawsOfRules.{IsRuled}
use Rattle.script_model.specs.LawsOfLines.{names}
use Rattle.script_model.proofs.RuleLemmas.{ruled}
use Rattle.script_moments.specs.Moments.{Moment, end_of, left, moments, own}

-- ---- from one state of boards to a later one

-- the lists only grew, and the boards that stand stood
pub record Grows (s t : boards.State) : Type 0 where
  pub sound : Sound t
  pub drawn : s.standing.tables.last_board ≤ t.standing.tables.last_board
  pub more : (b i : ℕ) → b ≤ s.standing.tables.last_board → (more : List (List ℕ)) × (t.published b i ≡ s.published b i ++ more)
  pub boards : KeepsBoards s.standing.tables t.standing.tables

pub grows_same : (s : boards.State) → Sound s → Grows s s
grows_same s sound = record {
  sound = sound;
  drawn = omega arith;
  more = λ b i le. ([], sym (append-nil (s.published b i)));
  boards = λ n b le f. f;
}

pub grows_more : (s t u : boards.State) → Grows s t → Grows t u → Grows s u
grows_more s t u h k = record {
  sound = k.sound;
  drawn = omega (arith, h.drawn, k.drawn);
  more = λ b i le.
      let x = h.more b i le in
      let y = k.more b i (omega (arith, h.drawn)) in
      (x.0 ++ y.0, y.1 ∙ ap (λ (l : List (List ℕ)). l ++ y.0) x.1 ∙ append_assoc (s.published b i) x.0 y.0);
  boards = λ n b le f. h.boards n b le (k.boards n b (omega (arith, h.drawn)) f);
}

pub grows_by : (pairs : boards.Session) (s : boards.State) → boards.IsLawfulFrom s pairs → Sound s → Grows s (boards.state_after s pairs)
grows_by pairs s ok sound = record {
  sound = sound_from s pairs sound ok;
  drawn = drawn_by pairs s ok;
  more = λ b i le.
      let g = session_growth pairs s b i le ok in
      (g.more, g.list);
  boards = session_boards pairs s ok sound;
}
  where
    drawn_by : (pairs : boards.Session) (s : boards.State) → boards.IsLawfulFrom s pairs → s.standing.tables.last_board ≤ (boards.state_after s pairs).standing.tables.last_board
    drawn_by [] s ok = omega arith
    drawn_by (x ∷ xs) s ok =
        let g = line_growth s x.0 x.1 0 0 (omega arith) ok.0 in
        let k = drawn_by xs (boards.after s x.0 x.1) ok.1 in
        omega (arith, g.drawn, k)

pub length_grows : (s t : boards.State) (b i : ℕ) → Grows s t → b ≤ s.standing.tables.last_board → length (s.published b i) ≤ length (t.published b i)
length_grows s t b i g le =
    let m = g.more b i le in
    omega (arith, ap length m.1, length-append (s.published b i) m.0)

-- ---- lines of others

-- lines that don't name the party lead from one state to the other
pub record Link (party : List ℕ) (s t : boards.State) : Type 0 where
  pub pairs : boards.Session
  pub lawful : boards.IsLawfulFrom s pairs
  pub others : AllByRecursion (λ (x : Line × Answer). names_party party x.0 ≡ false) pairs
  pub ends : boards.state_after s pairs ≡ t

link_none : (party : List ℕ) (s : boards.State) → Link party s s
link_none party s = record { pairs = []; lawful = tt; others = tt; ends = refl }

link_one : (party : List ℕ) (s t : boards.State) (x : Line × Answer) → names_party party x.0 ≡ false → boards.IsRight s x.0 x.1 → Link party (boards.after s x.0 x.1) t → Link party s t
link_one party s t x off ok k = record { pairs = x ∷ k.pairs; lawful = (ok, k.lawful); others = (off, k.others); ends = k.ends }

left_more : (s t u : boards.State) (party : List ℕ) → IsLeft s t party → IsLeft t u party → IsLeft s u party
left_more s t u party h k = record {
  holds = record {
    things = λ name. k.holds.things name ∙ h.holds.things name;
    loans = λ name. k.holds.loans name ∙ h.holds.loans name;
    values = λ name. k.holds.values name ∙ h.holds.values name;
  };
  runs = λ r e.
      let x = h.runs r e in
      let y = k.runs (record r { passed = x.0 }) x.1 in
      (y.0, y.1);
  stays_free = λ e. k.stays_free (h.stays_free e);
  stays_gone = λ e. k.stays_gone (h.stays_gone e);
}

pub link_grows : (party : List ℕ) (s t : boards.State) → Link party s t → Sound s → Grows s t
link_grows party s t k sound = subst (λ (u : boards.State). Grows s u) k.ends (grows_by k.pairs s k.lawful sound)

pub link_leaves : (party : List ℕ) (s t : boards.State) → Link party s t → Sound s → IsLeft s t party
link_leaves party s t k sound = subst (λ (u : boards.State). IsLeft s u party) k.ends (over k.pairs s k.lawful k.others sound)
  where
    over : (pairs : boards.Session) (s : boards.State) → boards.IsLawfulFrom s pairs → AllByRecursion (λ (x : Line × Answer). names_party party x.0 ≡ false) pairs → Sound s → IsLeft s (boards.state_after s pairs) party
    over [] s ok off sound = left_same s party
    over (x ∷ xs) s ok off sound =
        left_more s (boards.after s x.0 x.1) (boards.state_after (boards.after s x.0 x.1) xs) party
        (line_left s x.0 x.1 party sound off.0)
        (over xs (boards.after s x.0 x.1) ok.1 off.1 (sound_after s x.0 x.1 ok.0 sound))

-- ---- the party's own moments

abbrev pub Chain : List ℕ → ScriptState → List Moment → Type 0
Chain party s [] = Unit {0}
Chain party s (m ∷ ms) = Link party s.boards m.met.boards × IsRight m.met m.pair.0 m.pair.1 × Chain party (left m) ms

-- one line of another party before them
turn_link : (s : ScriptState) (l : ScriptLine) (a : ScriptAnswer) (o : Option EventTurn) (party : List ℕ) (t : boards.State) → names party l ≡ false → IsRuled s l a o → Link party (after_turn s l a o).boards t → Link party s.boards t
turn_link s l a (Some x) party t off ok k = k
turn_link s (line.Board l) a None party t off ok k =
    let k' = subst (λ (b : ScriptAnswer). Link party (after_turn s (line.Board l) b None).boards t) ok.is k in
    link_one party s.boards t (l, ok.answer) off ok.right k'
turn_link s (line.Event p q) a None party t off ok k = absurd ok
turn_link s (line.Expire p) a None party t off ok k = absurd ok

chain_more : (s : ScriptState) (l : ScriptLine) (a : ScriptAnswer) (party : List ℕ) (ms : List Moment) → names party l ≡ false → IsRight s l a → Chain party (after s l a) ms → Chain party s ms
chain_more s l a party [] off ok k = tt
chain_more s l a party (m ∷ ms) off ok k = (turn_link s l a (turn_of s l) party m.met.boards off (ruled s l a ok) k.0, k.1, k.2)

pub own_chain : (party : List ℕ) (pairs : Session) (s : ScriptState) → IsLawfulFrom s pairs → Chain party s (own party (moments s pairs))
own_chain party [] s ok = tt
own_chain party (x ∷ xs) s ok = at (names party x.0) refl (own_chain party xs (after s x.0 x.1) ok.1)
  where
    at : (z : Bool) → names party x.0 ≡ z → Chain party (after s x.0 x.1) (own party (moments (after s x.0 x.1) xs)) → Chain party s (cond z (record { met = s; pair = x } ∷ own party (moments (after s x.0 x.1) xs)) (own party (moments (after s x.0 x.1) xs)))
    at true e k = (link_none party s.boards, ok.0, k)
    at false e k = chain_more s x.0 x.1 party (own party (moments (after s x.0 x.1) xs)) e ok.0 k

pub chain_split : (party : List ℕ) (xs ys : List Moment) (s : ScriptState) → Chain party s (xs ++ ys) → Chain party s xs × Chain party (end_of s xs) ys
chain_split party [] ys s h = (tt, h)
chain_split party (x ∷ xs) ys s h =
    let k = chain_split party xs ys (left x) h.2 in
    ((h.0, h.1, k.0), k.1)

pub end_append : (xs ys : List Moment) (s : ScriptState) → end_of s (xs ++ ys) ≡ end_of (end_of s xs) ys
end_append [] ys s = refl
end_append (x ∷ xs) ys s = end_append xs ys (left x)

-- ---- own moments that are the boards' alone

-- a pair that boards judge and move
pub record IsAlone (s : ScriptState) (x : Line × Answer) : Type 0 where
  pub right : boards.IsRight s.boards x.0 x.1
  pub state : (after s (line.Board x.0) (of_boards x.1)).boards ≡ boards.after s.boards x.0 x.1

alone : (s : ScriptState) (x : Line × Answer) → IsRuled s (line.Board x.0) (of_boards x.1) (turn_of s (line.Board x.0)) → turn_of s (line.Board x.0) ≡ None → IsAlone s x
alone s x ok e =
    let k : IsRuled s (line.Board x.0) (of_boards x.1) None = subst (IsRuled s (line.Board x.0) (of_boards x.1)) e ok in
    let same : of_boards x.1 ≡ of_boards k.answer = k.is in
    let a : x.1 ≡ k.answer = cc in
    record {
      right = subst (λ (b : Answer). boards.IsRight s.boards x.0 b) (sym a) k.right;
      state = ap (λ (o : Option EventTurn). (after_turn s (line.Board x.0) (of_boards x.1) o).boards) e;
    }

no_refusal : (x : ScriptEvents) (o : Option EventTurn) (w : EventTurn) → o ≡ Some w → IsTurnAnswer x w (of_boards answer.Begun) → ((w : EventTurn) → o ≡ Some w → (why : _) × (w ≡ refused why)) → ⊥
no_refusal x o w e h k =
    let r = k w e in
    let g : of_boards answer.Begun ≡ of_boards (answer.Refused r.0) = subst (λ (y : EventTurn). IsTurnAnswer x y (of_boards answer.Begun)) r.1 h in
    cc

begin_refused : (x : Party) (b : Bool) (w : EventTurn) → begin_turn x b ≡ Some w → w ≡ refused reason.Taken
begin_refused free true w e = cc
begin_refused free false w e = absurd cc
begin_refused (running r) b w e = absurd cc
begin_refused gone b w e = absurd cc

-- a begin that events have to do with is refused
pub begin_turn_refused : (s : ScriptState) (party : List ℕ) (c : Call) (w : EventTurn) → turn_of s (line.Board (board_line.Begin party c)) ≡ Some w → (why : Reason) × (w ≡ refused why)
begin_turn_refused s party c w e =
    elim (either (runs_on_events s.events party)) [
      | inl busy ↦ (reason.Busy, (let k = rw busy at e in cc))
      | inr idle ↦ (reason.Taken, begin_refused (s.boards.parties party) _ w (rw idle at e))
    ]

pub begin_alone : (s : ScriptState) (party : List ℕ) (c : Call) → IsRight s (line.Board (board_line.Begin party c)) (of_boards answer.Begun) → IsAlone s (board_line.Begin party c, answer.Begun)
begin_alone s party c ok =
    let rule = ruled s (line.Board (board_line.Begin party c)) (of_boards answer.Begun) ok in
    alone s (board_line.Begin party c, answer.Begun) rule (at (turn_of s (line.Board (board_line.Begin party c))) refl rule)
  where
    at : (o : Option EventTurn) → turn_of s (line.Board (board_line.Begin party c)) ≡ o → IsRuled s (line.Board (board_line.Begin party c)) (of_boards answer.Begun) o → turn_of s (line.Board (board_line.Begin party c)) ≡ None
    at None e k = e
    at (Some w) e k = absurd (no_refusal s.events (turn_of s (line.Board (board_line.Begin party c))) w e k (λ v. begin_turn_refused s party c v))

no_event_step : (x : ScriptEvents) (q : Option EventAsk) (d : Option PartyCall) (a : Answer) → IsStepOf x q d (of_boards a) → ⊥
no_event_step x (Some q) d a h = cc
no_event_step x None None a h = h
no_event_step x None (Some d) a h = at (event_of x.session.stands d.on) h
  where
    at : (o : Option Event) → IsSomeAnd o (λ e. IsEventAccess e d.call (of_boards a)) → ⊥
    at None k = k
    at (Some e) k = cc (k.printed)

pub step_alone : (s : ScriptState) (party : List ℕ) (a : Access) (told : Option Reply) → IsRight s (line.Board (board_line.Step party)) (of_boards (answer.Step a told)) → IsAlone s (board_line.Step party, answer.Step a told)
step_alone s party a told ok =
    let rule = ruled s (line.Board (board_line.Step party)) (of_boards (answer.Step a told)) ok in
    alone s (board_line.Step party, answer.Step a told) rule (
    elim (either (runs_on_events s.events party)) [
      | inl busy ↦ absurd (no_event_step s.events (s.events.asked party) (s.events.session.doing party) (answer.Step a told) (rw busy at rule))
      | inr idle ↦ rw idle refl
    ])
