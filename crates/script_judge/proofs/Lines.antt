-- What a line is told, by what its party runs.
use Rattle.std.proofs.Common.{◌≡◌, ℕ, Bool, true, false, List, refl, sym, ap, subst, ◌∙◌, Option, Some, None, ◌⊎◌, inl, inr}
use Rattle.std.specs.Prelude.{◌&&◌, ◌||◌, if◌then◌else◌, is_some}
use Rattle.board_event_model.specs.EventSessions.{PartyCall}
use Rattle.board_model.specs.declared.answer.Answer.{Answer}
use Rattle.board_model.specs.declared.answer.Answer.TheVariants as answer
use Rattle.board_model.specs.declared.answer.Reason.{Reason}
use Rattle.board_model.specs.declared.answer.Reason.TheVariants as reason
use Rattle.board_model.specs.declared.line.Call.{Call}
use Rattle.board_model.specs.declared.line.Line.{Line}
use Rattle.board_model.specs.declared.line.Line.TheVariants as board_line
use Rattle.board_model.specs.AnswerGrammar.{answer_line}
use Rattle.board_model.specs.LineGrammar.{IsLine}
use Rattle.board_model.specs.Parties.{Party, free, gone, running}
use Rattle.board_model.specs.Requests.{new_name, request_of}
use Rattle.board_model.specs.Things.{is_held}
use Rattle.board_model.specs.LawfulSession as boards
use Rattle.board_model.specs.LawfulSession.{State, call_reason, free_reason}
use Rattle.script_model.specs.declared.line.EventRequest.{EventRequest}
use Rattle.script_model.specs.declared.line.ScriptLine.{ScriptLine}
use Rattle.script_model.specs.declared.line.ScriptLine.TheVariants as line
use Rattle.script_model.specs.ScriptAnswers.{IsScriptAnswer, ScriptAnswer, of_boards, script_answer_line}
use Rattle.script_model.specs.ScriptEvents.{EventAsk, ScriptEvents, holds_event, runs_on_events, task_of}
use Rattle.script_model.specs.ScriptGrammar.{IsScriptLine}
use Rattle.script_model.specs.ScriptSession.{IsRight, after, after_boards, after_turn}
use Rattle.script_model.specs.ScriptTurns.{EventTurn, IsTurnAnswer, ScriptState, begin_turn, board_turn, drop_turn, free_turn, refused, takes_event_name, task_turn, turn_of, turned}
use Rattle.script_model.proofs.RuleLemmas.{right_on_boards, right_on_events}

-- ---- what is told

-- the text is the line of a right answer, and this holds of what follows
pub record Told (R : ScriptState → Type 0) (s : ScriptState) (l : ScriptLine) (text : List ℕ) : Type 0 where
  pub answer : ScriptAnswer
  pub right : IsRight s l answer
  pub stands : R (after s l answer)
  pub told : text ≡ script_answer_line answer

-- what boards refuse changes nothing
after_refused : (b : State) (l : Line) (why : Reason) → boards.after b l (answer.Refused why) ≡ b
after_refused b (board_line.Begin party c) why = refl
after_refused b (board_line.Step party) why = refl
after_refused b (board_line.Release party name) why = refl
after_refused b (board_line.Abandon party) why = refl
after_refused b (board_line.Words n) why = refl

events_refused : (x : ScriptEvents) (l : Line) (why : Reason) → after_boards x l (answer.Refused why) ≡ x
events_refused x (board_line.Begin party c) why = refl
events_refused x (board_line.Step party) why = refl
events_refused x (board_line.Release party name) why = refl
events_refused x (board_line.Abandon party) why = refl
events_refused x (board_line.Words n) why = refl

module _ (R : ScriptState → Type 0) (s : ScriptState) where
  -- a line that is the boards' alone was answered by their rules
  pub told_alone : (l : Line) (a : Answer) (text : List ℕ) → board_turn s l ≡ None → boards.IsRight s.boards l a → R (record { boards = boards.after s.boards l a; events = after_boards s.events l a }) → text ≡ answer_line a → Told R s (line.Board l) text
  told_alone l a text turn right stands told = record {
    answer = of_boards a;
    right = right_on_boards s l a turn right;
    stands = subst (λ (t : Option EventTurn). R (after_turn s (line.Board l) (of_boards a) t)) (sym turn) stands;
    told = told;
  }

  -- a line that events have to do with was answered by theirs
  pub told_turn : (l : ScriptLine) (t : EventTurn) (a : ScriptAnswer) (text : List ℕ) → turn_of s l ≡ Some t → IsScriptLine l → IsTurnAnswer s.events t a → IsScriptAnswer a → R (record s { events = turned s.events t a }) → text ≡ script_answer_line a → Told R s l text
  told_turn l t a text turn formed right grammar stands told = record {
    answer = a;
    right = right_on_events s l t a turn formed right grammar;
    stands = subst (λ (x : Option EventTurn). R (after_turn s l a x)) (sym turn) stands;
    told = told;
  }

  -- a line was refused on their account
  pub told_refused : (l : ScriptLine) (why : Reason) (text : List ℕ) → turn_of s l ≡ Some (refused why) → IsScriptLine l → R s → text ≡ answer_line (answer.Refused why) → Told R s l text
  told_refused l why text turn formed stands told = told_turn l (refused why) (of_boards (answer.Refused why)) text turn formed refl tt stands told

  -- and on that of boards
  refused_right : (l : Line) (why : Reason) → boards.reason_of s.boards l ≡ Some why → IsLine l → boards.IsRight s.boards l (answer.Refused why)
  refused_right l why is formed = record {
    line = formed;
    answer = tt;
    reason = rw is refl;
    owed = rw is (λ h. absurd cc);
    word = rw is (λ h. absurd cc);
    reply = rw is (λ h. absurd cc);
  }

  pub board_refused : (l : Line) (why : Reason) (text : List ℕ) → board_turn s l ≡ None → boards.reason_of s.boards l ≡ Some why → IsLine l → R s → text ≡ answer_line (answer.Refused why) → Told R s (line.Board l) text
  board_refused l why text turn is formed stands told =
      let b = after_refused s.boards l why in
      let x = events_refused s.events l why in
      told_alone l (answer.Refused why) text turn (refused_right l why is formed)
      (subst (λ (y : State). R (record { boards = y; events = after_boards s.events l (answer.Refused why) })) (sym b)
      (subst (λ (y : ScriptEvents). R (record { boards = s.boards; events = y })) (sym x) stands)) told

-- ---- what a party runs

-- nothing on events
pub record IsQuiet (s : ScriptState) (party : List ℕ) : Type 0 where
  pub asked : s.events.asked party ≡ None
  pub doing : s.events.session.doing party ≡ None

pub quiet : (s : ScriptState) (party : List ℕ) → IsQuiet s party → runs_on_events s.events party ≡ false
quiet s party h = ap (λ (o : Option EventAsk). is_some o || is_some (s.events.session.doing party)) h.asked ∙ ap (λ (o : Option PartyCall). is_some o) h.doing

-- why a party that isn't free is refused a line that only a free one may have: it runs a call on events, or one on boards, or is gone
abbrev pub IsUnfree : ScriptState → List ℕ → Reason → Type 0
IsUnfree s party why = ((runs_on_events s.events party ≡ true) × (why ≡ reason.Busy)) ⊎ ((runs_on_events s.events party ≡ false) × (free_reason (s.boards.parties party) None ≡ Some why))

unfree_reason : (p : Party) (o : Option Reason) (why : Reason) → free_reason p None ≡ Some why → free_reason p o ≡ Some why
unfree_reason free o why h = absurd cc
unfree_reason (running r) o why h = h
unfree_reason gone o why h = h

unfree_begin : (p : Party) (taken : Bool) (why : Reason) → free_reason p None ≡ Some why → begin_turn p taken ≡ None
unfree_begin free taken why h = absurd cc
unfree_begin (running r) taken why h = refl
unfree_begin gone taken why h = refl

unfree_drop : (p : Party) (held : Bool) (party name : List ℕ) (why : Reason) → free_reason p None ≡ Some why → drop_turn p held party name ≡ None
unfree_drop free held party name why h = absurd cc
unfree_drop (running r) held party name why h = refl
unfree_drop gone held party name why h = refl

unfree_turn : (p : Party) (t : EventTurn) (why : Reason) → free_reason p None ≡ Some why → free_turn p t ≡ refused why
unfree_turn free t why h = absurd cc
unfree_turn (running r) t why h = (let w : why ≡ reason.Busy = cc in ap refused (sym w))
unfree_turn gone t why h = (let w : why ≡ reason.Abandoned = cc in ap refused (sym w))

module _ (R : ScriptState → Type 0) (s : ScriptState) (party : List ℕ) (why : Reason) (text : List ℕ) (stands : R s) (told : text ≡ answer_line (answer.Refused why)) where
  pub unfree_begins : (c : Call) → IsUnfree s party why → IsLine (board_line.Begin party c) → Told R s (line.Board (board_line.Begin party c)) text
  unfree_begins c (inl h) formed =
      let busy : board_turn s (board_line.Begin party c) ≡ Some (refused reason.Busy) = rw h.0 refl in
      told_refused R s (line.Board (board_line.Begin party c)) why text (busy ∙ ap (λ (w : Reason). Some (refused w)) (sym h.1)) formed stands told
  unfree_begins c (inr h) formed =
      let alone : board_turn s (board_line.Begin party c) ≡ None = rw h.0 (unfree_begin (s.boards.parties party) (is_some (request_of s.boards.standing s.boards.published party c) && takes_event_name s.events party (new_name c)) why h.1) in
      board_refused R s (board_line.Begin party c) why text alone (unfree_reason (s.boards.parties party) (call_reason s.boards.standing party c (request_of s.boards.standing s.boards.published party c)) why h.1) formed stands told

  pub unfree_releases : (name : List ℕ) → IsUnfree s party why → IsLine (board_line.Release party name) → Told R s (line.Board (board_line.Release party name)) text
  unfree_releases name (inl h) formed =
      let busy : board_turn s (board_line.Release party name) ≡ Some (refused reason.Busy) = rw h.0 refl in
      told_refused R s (line.Board (board_line.Release party name)) why text (busy ∙ ap (λ (w : Reason). Some (refused w)) (sym h.1)) formed stands told
  unfree_releases name (inr h) formed =
      let alone : board_turn s (board_line.Release party name) ≡ None = rw h.0 (unfree_drop (s.boards.parties party) (holds_event s.events party name) party name why h.1) in
      board_refused R s (board_line.Release party name) why text alone (unfree_reason (s.boards.parties party) (if is_held s.boards.standing party name then None else Some reason.Unknown) why h.1) formed stands told

  pub unfree_asks : (q : EventRequest) → IsUnfree s party why → IsScriptLine (line.Event party q) → Told R s (line.Event party q) text
  unfree_asks q (inl h) formed =
      let busy : turn_of s (line.Event party q) ≡ Some (refused reason.Busy) = rw h.0 refl in
      told_refused R s (line.Event party q) why text (busy ∙ ap (λ (w : Reason). Some (refused w)) (sym h.1)) formed stands told
  unfree_asks q (inr h) formed =
      let turn : turn_of s (line.Event party q) ≡ Some (refused why) = rw h.0 (ap (λ (t : EventTurn). Some t) (unfree_turn (s.boards.parties party) (task_turn s party q (task_of s.events party q)) why h.1)) in
      told_refused R s (line.Event party q) why text turn formed stands told
