use Rattle.board_model.specs.declared.line.Line.TheVariants as board_line
use Rattle.script_model.specs.declared.line.ScriptLine.TheVariants as line
use Rattle.script_machine.proofs.BytesWant.{bytes_want}
use Rattle.script_machine.proofs.Wants.{anyway}
use Rattle.script_machine.proofs.machine.Machine.answer_bytes.Goals as goal

pub returns-in_err-step-clause-memory : goal.returns-in_err-step-clause-memory
returns-in_err-step-clause-memory g c =
    anyway c.from_residual.result _ (bytes_want c.args.self.now c.args.bytes.now c.args.out.now (line.Board (board_line.Step c.in-Some.party)) c.in-Some.ensures c.in_err-step.ensures.memory)
