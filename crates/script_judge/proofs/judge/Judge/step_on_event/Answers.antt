use Rattle.std.proofs.Common.{refl}
use Rattle.script_judge.proofs.EventSteps.{event_can, event_made, event_step, from_empty, made_then}
use Rattle.script_judge.proofs.Stands.{on_ok}
use Rattle.script_judge.proofs.judge.Judge.step_on_event.Goals as goal

pub perform-requires-clause-made : goal.perform-requires-clause-made
perform-requires-clause-made c = event_made c.args.self.now c.args.party.now c.args.number c.args.call c.requires.led.state c.requires.led.count c.requires.led.represents c.requires.led.out c.requires.led.reached

pub perform-requires-clause-can : goal.perform-requires-clause-can
perform-requires-clause-can c = event_can c.args.self.now c.args.party.now c.args.number c.args.call c.requires.led.state c.requires.led.count c.requires.led.represents c.requires.led.out c.requires.led.reached c.owed-access.result c.owed-access.ensures

pub go_on-requires : goal.go_on-requires
go_on-requires c = c.requires.led.represents.out

pub tell_access-requires : goal.tell_access-requires
tell_access-requires c = made_then c.args.self.now c.args.party.now c.args.number c.args.call c.requires.led.state c.requires.led.count c.requires.led.represents c.requires.led.out c.requires.led.reached (record c.args.self.now { events = c.perform.new.self }) c.go_on.new.self c.owed-access.result c.in_ok-found.found c.in_ok-told.told c.in_ok-found.ensures.after c.in_ok-told.ensures

pub returns : goal.returns
returns c = on_ok (λ e s count rep out reached.
    event_step c.args.self.now c.args.party.now c.args.number c.args.call s count rep out reached (record c.args.self.now { events = c.perform.new.self }) c.go_on.new.self c.owed-access.result c.in_ok-found.found c.in_ok-told.told _
    c.owed-access.ensures c.in_ok-found.ensures.right c.in_ok-found.ensures.after refl (λ p m. refl) (λ p. refl) c.in_ok-told.ensures
    (from_empty c.go_on.new.self.events c.args.number _ c.args.answer.now.items c.owed-access.result c.in_ok-found.found c.in_ok-told.told c.requires.empty e) c.requires.line) c.tell_access.result c.tell_access.ensures
