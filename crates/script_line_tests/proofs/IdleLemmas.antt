-- What the machine of the tests answers is right.
use Rattle.std.proofs.Common.{◌≡◌, ℕ, true, List, refl, sym, subst, Option, Some, None}
use Rattle.board_model.specs.declared.line.Line.{Line}
use Rattle.board_model.specs.declared.line.Line.TheVariants as board_line
use Rattle.board_model.specs.declared.answer.Reason.{Reason}
use Rattle.board_model.specs.declared.answer.Answer.TheVariants as answer
use Rattle.board_model.specs.LineGrammar.{IsLine}
use Rattle.board_model.specs.LawfulSession as boards
use Rattle.script_model.specs.declared.line.EventRequest.TheVariants as request
use Rattle.script_model.specs.declared.line.ScriptLine.{ScriptLine}
use Rattle.script_model.specs.declared.line.ScriptLine.TheVariants as line
use Rattle.script_model.specs.ScriptAnswers.{ScriptAnswer, of_boards, script_answer_line}
use Rattle.script_model.specs.ScriptGrammar.{IsScriptLine, SpellsLine}
use Rattle.script_model.specs.ScriptSession.{Session, start, after, IsRight}
use Rattle.script_model.specs.ScriptTurns.{ScriptState}
use Rattle.script_model.proofs.RuleLemmas.{right_by}
use Rattle.script_parse.specs.Kept.{SpellsKept, is_kept_line}
use Rattle.script_loop.specs.Machines.{HasAnswered, StandsFor}
use Rattle.script_line_tests.specs.IdleMachine.{IdleWants, idle_reason}

-- a line that is kept is none that it refuses
kept_unrefused : (l : ScriptLine) → is_kept_line l ≡ true → idle_reason l ≡ None
kept_unrefused (line.Board (board_line.Begin p c)) e = refl
kept_unrefused (line.Board (board_line.Step p)) e = absurd cc
kept_unrefused (line.Board (board_line.Release p t)) e = refl
kept_unrefused (line.Board (board_line.Abandon p)) e = refl
kept_unrefused (line.Board (board_line.Words n)) e = absurd cc
kept_unrefused (line.Event p (request.ListenBits n event max)) e = refl
kept_unrefused (line.Event p (request.ListenQueue n event)) e = refl
kept_unrefused (line.Event p (request.Notifier n k event)) e = refl
kept_unrefused (line.Event p (request.Notify n id)) e = absurd cc
kept_unrefused (line.Event p (request.Wait n many m)) e = absurd cc
kept_unrefused (line.Expire p) e = absurd cc

pub kept_wants : (bytes : List ℕ) → SpellsKept bytes → IdleWants bytes
kept_wants bytes s = (s.0, s.1, kept_unrefused s.0 s.2)

abbrev refused : Reason → ScriptAnswer
refused why = of_boards (answer.Refused why)

record IsIdle (l : ScriptLine) (why : Reason) : Type 0 where
  pub right : IsScriptLine l → IsRight start l (refused why)
  pub same : after start l (refused why) ≡ start

abbrev there : Reason → Option Reason
there why = Some why

the_reason : (a b : Reason) → there a ≡ there b → a ≡ b
the_reason a b e = cc

refused_so : (a b : Reason) → there a ≡ there b → refused a ≡ refused b
refused_so a b e = subst (λ (w : Reason). refused a ≡ refused w) (the_reason a b e) refl

-- a line of boards that has a reason
right_on_boards : (l : Line) (why : Reason) → there why ≡ boards.reason_of boards.start l → IsLine l → boards.IsRight boards.start l (answer.Refused why)
right_on_boards l why e h = record {
  line = h;
  answer = tt;
  reason = subst (λ (o : Option Reason). boards.IsReasoned o (answer.Refused why)) e refl;
  owed = λ none. absurd cc;
  word = λ none. absurd cc;
  reply = λ none. absurd cc;
}

is_idle : (l : ScriptLine) (why : Reason) → there why ≡ idle_reason l → IsIdle l why
is_idle (line.Board (board_line.Step p)) why e = record {
  right = λ h. right_by _ _ _ h (record { answer = answer.Refused why; right = right_on_boards (board_line.Step p) why e h; is = refl }) tt;
  same = refl;
}
is_idle (line.Board (board_line.Words b)) why e = record {
  right = λ h. right_by _ _ _ h (record { answer = answer.Refused why; right = right_on_boards (board_line.Words b) why e h; is = refl }) tt;
  same = refl;
}
is_idle (line.Event p (request.Notify n id)) why e = record { right = λ h. right_by _ _ _ h (refused_so why _ e) tt; same = refl }
is_idle (line.Event p (request.Wait n many m)) why e = record { right = λ h. right_by _ _ _ h (refused_so why _ e) tt; same = refl }
is_idle (line.Expire p) why e = record { right = λ h. right_by _ _ _ h (refused_so why _ e) tt; same = refl }
is_idle l why e = absurd cc

pub answered : {M : Type 0} (m : M) (session : Session) (bytes text : List ℕ) (l : ScriptLine) (why : Reason) → StandsFor {M = M} (λ machine n s. s ≡ start) m session → SpellsLine bytes l → there why ≡ idle_reason l → text ≡ script_answer_line (refused why) → HasAnswered {M = M} (λ machine n s. s ≡ start) m session bytes text
answered m session bytes text l why s spelled e told =
    let i = is_idle l why e in
    record {
      line = l;
      answer = refused why;
      spelled = spelled;
      right = subst (λ (x : ScriptState). IsRight x l (refused why)) (sym s.state) (i.right spelled.line);
      state = subst (λ (x : ScriptState). after x l (refused why) ≡ start) (sym s.state) i.same;
      told = told;
    }
