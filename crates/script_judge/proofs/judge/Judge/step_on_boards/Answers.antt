use Rattle.std.proofs.Common.{subst}
use Rattle.script_board_tables.specs.declared.step.Stepped.{Stepped}
use Rattle.script_board_tables.specs.Steps.{Steps}
use Rattle.script_judge.proofs.BoardSteps.{can_go_on, ends, goes_on}
use Rattle.script_judge.proofs.Stands.{from_nothing, on_ok}
use Rattle.script_judge.proofs.judge.Judge.step_on_boards.Goals as goal

pub step-requires : goal.step-requires
step-requires c = can_go_on c.args.self.now c.args.party.now c.args.call c.requires.led.state c.requires.led.count c.requires.led.represents c.requires.led.out c.requires.led.reached c.running_calls_can_step.ensures

pub returns-in_ok-put_task-in-GoesOn : goal.returns-in_ok-put_task-in-GoesOn
returns-in_ok-put_task-in-GoesOn c = on_ok (λ e s count rep out reached.
    goes_on c.args.self.now c.args.party.now c.args.call s count rep out reached c.requires.line _ c.step.new.self c.put_task.new.self c.in-GoesOn.access c.in-GoesOn.call
    (subst (λ (t : Stepped). Steps c.args.self.now.boards c.step.new.self c.args.party.now c.args.call t) c.in-GoesOn.is c.in_ok-access.ensures) c.in_ok-put_task-in-GoesOn.ensures (from_nothing _ _ _ c.requires.empty e)) c.push_step.result c.push_step.ensures.ok

pub returns-in-Ends : goal.returns-in-Ends
returns-in-Ends c = on_ok (λ e s count rep out reached.
    ends c.args.self.now c.args.party.now c.args.call s count rep out reached c.requires.line _ c.step.new.self c.in-Ends.access c.in-Ends.reply
    (subst (λ (t : Stepped). Steps c.args.self.now.boards c.step.new.self c.args.party.now c.args.call t) c.in-Ends.is c.in_ok-access.ensures) (from_nothing _ _ _ c.requires.empty e)) c.push_step-in-Ends.result c.push_step-in-Ends.ensures.ok
