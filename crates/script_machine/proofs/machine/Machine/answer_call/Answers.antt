use Rattle.script_machine.proofs.BytesWant.{bytes_want}
use Rattle.script_machine.proofs.Wants.{anyway}
use Rattle.script_machine.proofs.machine.Machine.answer_call.Goals as goal

pub returns-in_err-event_call-clause-memory : goal.returns-in_err-event_call-clause-memory
returns-in_err-event_call-clause-memory g c =
    anyway c.from_residual.result _ (bytes_want c.args.self.now c.args.bytes.now c.args.out.now _ c.in-Some.ensures c.in_err-event_call.ensures.memory)

pub returns-in_err-event_call-2-clause-memory : goal.returns-in_err-event_call-2-clause-memory
returns-in_err-event_call-2-clause-memory g c =
    anyway c.from_residual-in_err-event_call-2.result _ (bytes_want c.args.self.now c.args.bytes.now c.args.out.now _ c.in-Some-wait_at.ensures c.in_err-event_call-2.ensures.memory)
