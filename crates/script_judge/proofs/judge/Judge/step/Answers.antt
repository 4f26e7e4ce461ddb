use Rattle.std.proofs.Common.{◌≡◌, Some}
use Rattle.script_judge.specs.declared.task.Task.TheVariants as task
use Rattle.script_judge.proofs.BoardSteps.{led_but, tells_by}
use Rattle.script_judge.proofs.Others.{step_free, step_gone}
use Rattle.script_judge.proofs.Stands.{from_nothing, on_ok}
use Rattle.script_judge.proofs.judge.Judge.step.Goals as goal

pub step_on_boards-requires-clause-led : goal.step_on_boards-requires-clause-led
step_on_boards-requires-clause-led c =
    let is : c.take_task.result ≡ Some (task.OnBoards c.in-Some-OnBoards.call) = cc in
    led_but c.args.self.now c.take_task.new.self c.args.party.now (task.OnBoards c.in-Some-OnBoards.call) c.take_task.result c.take_task.ensures.taken c.take_task.ensures.task is c.requires.led

pub returns-in-Some-OnBoards : goal.returns-in-Some-OnBoards
returns-in-Some-OnBoards c =
    let is : c.take_task.result ≡ Some (task.OnBoards c.in-Some-OnBoards.call) = cc in
    on_ok (λ t. tells_by c.args.self.now c.take_task.new.self c.step_on_boards.new.self c.args.party.now (task.OnBoards c.in-Some-OnBoards.call) c.take_task.result _ c.take_task.ensures.taken c.take_task.ensures.task is t) c.step_on_boards.result c.step_on_boards.ensures

pub step_asking-requires-clause-led : goal.step_asking-requires-clause-led
step_asking-requires-clause-led c =
    let is : c.take_task.result ≡ Some (task.Asks c.in-Some-Asks.ask) = cc in
    led_but c.args.self.now c.take_task.new.self c.args.party.now (task.Asks c.in-Some-Asks.ask) c.take_task.result c.take_task.ensures.taken c.take_task.ensures.task is c.requires.led

pub returns-in-Some-Asks : goal.returns-in-Some-Asks
returns-in-Some-Asks c =
    let is : c.take_task.result ≡ Some (task.Asks c.in-Some-Asks.ask) = cc in
    on_ok (λ t. tells_by c.args.self.now c.take_task.new.self c.step_asking.new.self c.args.party.now (task.Asks c.in-Some-Asks.ask) c.take_task.result _ c.take_task.ensures.taken c.take_task.ensures.task is t) c.step_asking.result c.step_asking.ensures

pub step_on_event-requires-clause-led : goal.step_on_event-requires-clause-led
step_on_event-requires-clause-led c =
    let is : c.take_task.result ≡ Some (task.OnEvent c.in-Some-OnEvent.number c.in-Some-OnEvent.call) = cc in
    led_but c.args.self.now c.take_task.new.self c.args.party.now (task.OnEvent c.in-Some-OnEvent.number c.in-Some-OnEvent.call) c.take_task.result c.take_task.ensures.taken c.take_task.ensures.task is c.requires.led

pub returns-in-Some-OnEvent : goal.returns-in-Some-OnEvent
returns-in-Some-OnEvent c =
    let is : c.take_task.result ≡ Some (task.OnEvent c.in-Some-OnEvent.number c.in-Some-OnEvent.call) = cc in
    on_ok (λ t. tells_by c.args.self.now c.take_task.new.self c.step_on_event.new.self c.args.party.now (task.OnEvent c.in-Some-OnEvent.number c.in-Some-OnEvent.call) c.take_task.result _ c.take_task.ensures.taken c.take_task.ensures.task is t) c.step_on_event.result c.step_on_event.ensures

pub returns-in_ok-put_task-in-Some-Gone : goal.returns-in_ok-put_task-in-Some-Gone
returns-in_ok-put_task-in-Some-Gone c = on_ok (λ e s count rep reached.
    let is : c.take_task.result ≡ Some task.Gone = cc in
    step_gone c.args.self.now s count rep reached c.args.party.now _ c.take_task.new.self c.put_task.new.self c.take_task.result c.take_task.ensures.taken c.in_ok-put_task-in-Some-Gone.ensures c.take_task.ensures.task is c.requires.line (from_nothing _ _ _ c.requires.empty e)) c.push_refused.result c.push_refused.ensures.ok

pub returns-in-None : goal.returns-in-None
returns-in-None c = on_ok (λ e s count rep reached.
    step_free c.args.self.now s count rep reached c.args.party.now _ c.take_task.new.self c.take_task.result c.take_task.ensures.taken c.take_task.ensures.task c.in-None.is c.requires.line (from_nothing _ _ _ c.requires.empty e)) c.push_refused-in-None.result c.push_refused-in-None.ensures.ok
