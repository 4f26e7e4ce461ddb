use Rattle.script_machine.proofs.BytesWant.{bytes_want}
use Rattle.script_machine.proofs.Wants.{anyway}
use Rattle.script_machine.proofs.machine.Machine.answer_begun.Goals as goal

pub returns-in_err-begin_update-in-117-clause-memory : goal.returns-in_err-begin_update-in-117-clause-memory
returns-in_err-begin_update-in-117-clause-memory g c =
    anyway c.from_residual.result _ (bytes_want c.args.self.now c.args.bytes.now c.args.out.now _ c.in-Some-update_at.ensures c.in_err-begin_update-in-117.ensures.memory)

pub returns-in_err-begin_get-in-103-clause-memory : goal.returns-in_err-begin_get-in-103-clause-memory
returns-in_err-begin_get-in-103-clause-memory g c =
    anyway c.from_residual-in_err-begin_get-in-103.result _ (bytes_want c.args.self.now c.args.bytes.now c.args.out.now _ c.in-Some-get_at.ensures c.in_err-begin_get-in-103.ensures.memory)
