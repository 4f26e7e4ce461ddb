-- A line that is refused is answered so, and changes nothing.
use Rattle.std.proofs.Common.{◌≡◌, ℕ, List, refl, sym, ◌∙◌, subst, Option, Some, None}
use Rattle.board_model.specs.declared.answer.Answer.TheVariants as answer
use Rattle.board_model.specs.declared.answer.Reason.{Reason}
use Rattle.board_model.specs.declared.line.Line.{Line}
use Rattle.board_model.specs.declared.line.Line.TheVariants as board_line
use Rattle.board_model.specs.AnswerGrammar.{answer_line}
use Rattle.board_model.specs.LineGrammar.{IsLine}
use Rattle.board_model.specs.LawfulSession as rules
use Rattle.script_model.specs.declared.line.ScriptLine.{ScriptLine}
use Rattle.script_model.specs.declared.line.ScriptLine.TheVariants as line
use Rattle.script_model.specs.ScriptAnswers.{of_boards}
use Rattle.script_model.specs.ScriptEvents.{ScriptEvents}
use Rattle.script_model.specs.ScriptGrammar.{IsScriptLine}
use Rattle.script_model.specs.ScriptSession.{IsRight, after_boards, after_turn}
use Rattle.script_model.specs.ScriptTurns.{EventTurn, ScriptState, begins, drops, expires, refused, steps, turn_of}
use Rattle.script_model.proofs.RuleLemmas.{right_on_boards}
use Rattle.script_machine.specs.declared.machine.Machine.{Machine}
use Rattle.script_machine.specs.ScriptMachine.{IsTelling, Represents}
use Rattle.script_machine.specs.Wants.{refusal, refusal_at}
use Rattle.script_machine.proofs.Wants.{refusal_right}

abbrev some_reason : Reason → Option Reason
some_reason why = Some why

-- a refusal by the boards is right
by_boards : (s : rules.State) (l : Line) (why : Reason) → some_reason why ≡ rules.reason_of s l → IsLine l → rules.IsRight s l (answer.Refused why)
by_boards s l why e formed = record {
  line = formed;
  answer = tt;
  reason = subst (λ (o : Option Reason). rules.IsReasoned o (answer.Refused why)) e refl;
  owed = λ none. absurd (unrefused none);
  word = λ none. absurd (unrefused none);
  reply = λ none. absurd (unrefused none);
}
  where
    unrefused : rules.reason_of s l ≡ None → ⊥
    unrefused none = (let no : some_reason why ≡ None = e ∙ none in cc)

boards_same : (s : rules.State) (l : Line) (why : Reason) → rules.after s l (answer.Refused why) ≡ s
boards_same s (board_line.Begin party c) why = refl
boards_same s (board_line.Step party) why = refl
boards_same s (board_line.Release party name) why = refl
boards_same s (board_line.Abandon party) why = refl
boards_same s (board_line.Words n) why = refl

events_same : (x : ScriptEvents) (l : Line) (why : Reason) → after_boards x l (answer.Refused why) ≡ x
events_same x (board_line.Begin party c) why = refl
events_same x (board_line.Step party) why = refl
events_same x (board_line.Release party name) why = refl
events_same x (board_line.Abandon party) why = refl
events_same x (board_line.Words n) why = refl

module _ (s : ScriptState) (why : Reason) where
  abbrev Told : ScriptLine → Type 0
  Told l = IsRight s l (of_boards (answer.Refused why))

  right_alone : (l : ScriptLine) → IsScriptLine l → turn_of s l ≡ None → some_reason why ≡ refusal_at s l None → Told l
  right_alone (line.Board b) formed alone e = right_on_boards s b (answer.Refused why) alone (by_boards s.boards b why e formed)
  right_alone (line.Event party q) formed alone e = absurd cc
  right_alone (line.Expire party) formed alone e = absurd cc

  -- the refusal is right
  pub refused_right : (l : ScriptLine) → some_reason why ≡ refusal s l → IsScriptLine l → Told l
  refused_right l e formed = at (turn_of s l) refl e
    where
      at : (t : Option EventTurn) → turn_of s l ≡ t → some_reason why ≡ refusal_at s l t → Told l
      at (Some t) turn e = refusal_right s l t why turn formed e
      at None alone e = right_alone l formed alone e

  same_at : (l : ScriptLine) (t : Option EventTurn) → some_reason why ≡ refusal_at s l t → after_turn s l (of_boards (answer.Refused why)) t ≡ s
  same_at l (Some (refused other)) e = refl
  same_at l (Some (begins party t)) e = absurd cc
  same_at l (Some (steps party)) e = absurd cc
  same_at l (Some (drops party name)) e = absurd cc
  same_at l (Some (expires party)) e = absurd cc
  same_at (line.Board b) None e = rw (boards_same s.boards b why, events_same s.events b why) refl
  same_at (line.Event party q) None e = absurd cc
  same_at (line.Expire party) None e = absurd cc

  -- and the machine stands for what follows
  pub refused_telling : {C : Type 0} (m : Machine C) (l : ScriptLine) (text : List ℕ) → some_reason why ≡ refusal s l → IsScriptLine l → Represents m s → text ≡ answer_line (answer.Refused why) → IsTelling m l text s
  refused_telling m l text e formed rep told = record {
    answer = of_boards (answer.Refused why);
    right = refused_right l e formed;
    represents = subst (λ (x : ScriptState). Represents m x) (sym (same_at l (turn_of s l) e)) rep;
    told = told;
  }
