use Rattle.script_judge.proofs.EventSteps.{access_told}
use Rattle.script_judge.proofs.Stands.{on_ok}
use Rattle.script_judge.proofs.judge.Judge.tell_access.Goals as goal

pub returns : goal.returns
returns c = on_ok (λ e. access_told c.args.self.now.events c.args.number c.get-event.result.now c.kind.result c.name.result.now c.as_bytes.result.now c.args.access c.args.found c.args.told.now _ _ c.args.answer.now.items c.get-event.ensures c.kind.ensures c.name.ensures c.as_bytes.ensures.value c.as_ref.ensures.value e) c.push_event_step.result c.push_event_step.ensures.ok
