-- Lines of a step that are refused, and parties that are abandoned.
use Rattle.std.proofs.Common.{◌≡◌, List, ℕ, refl}
use Rattle.board_model.specs.declared.answer.Answer.TheVariants as answer
use Rattle.board_model.specs.declared.answer.Reason.TheVariants as reason
use Rattle.board_model.specs.declared.line.Line.TheVariants as line
use Rattle.board_model.specs.LineGrammar.{IsLine}
use Rattle.board_model.specs.Parties.{free, gone}
use Rattle.board_model.specs.LawfulSession.{IsRight, State}

pub step_idle : (s : State) (party : List ℕ) → s.parties party ≡ free → IsLine (line.Step party) → IsRight s (line.Step party) (answer.Refused reason.Idle)
step_idle s party e l = record {
  line = l;
  answer = tt;
  reason = rw e refl;
  owed = rw e (λ h. absurd cc);
  word = λ _. tt;
  reply = λ _. rw e tt;
}

pub step_gone : (s : State) (party : List ℕ) → s.parties party ≡ gone → IsLine (line.Step party) → IsRight s (line.Step party) (answer.Refused reason.Abandoned)
step_gone s party e l = record {
  line = l;
  answer = tt;
  reason = rw e refl;
  owed = rw e (λ h. absurd cc);
  word = λ _. tt;
  reply = λ _. rw e tt;
}
