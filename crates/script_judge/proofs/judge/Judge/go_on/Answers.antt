use Rattle.std.proofs.Common.{subst}
use Rattle.script_event_rows.specs.declared.event_call.Took.{Took}
use Rattle.script_event_rows.specs.EventCalls.{HasTaken}
use Rattle.script_judge.proofs.EventSteps.{ended_kept, goes_on_kept}
use Rattle.script_judge.proofs.judge.Judge.go_on.Goals as goal

pub returns-in_ok-put_task-in-GoesOn : goal.returns-in_ok-put_task-in-GoesOn
returns-in_ok-put_task-in-GoesOn c = λ r kept.
    goes_on_kept c.args.self.now c.put_task.new.self c.args.party.now c.args.number c.args.found c.in-GoesOn.call r
    (subst (λ (t : Took). HasTaken c.args.found r t) c.in-GoesOn.is (c.in_ok-call.ensures r kept)) c.in_ok-put_task-in-GoesOn.ensures

pub returns-in-Ended : goal.returns-in-Ended
returns-in-Ended c = λ r kept.
    ended_kept c.args.self.now c.args.party.now c.args.number c.args.found c.in-Ended.told r (subst (λ (t : Took). HasTaken c.args.found r t) c.in-Ended.is (c.in_ok-call.ensures r kept)) c.requires
