use Rattle.std.proofs.Common.{◌≡◌, sym, ◌∙◌, Some}
use Rattle.board_model.specs.Requests as requests
use Rattle.script_machine.proofs.machine.Machine.takes_event_name.Goals as goal

pub returns-in-Some : goal.returns-in-Some
returns-in-Some g c = λ s count rep reached.
    let e : requests.new_name c.args.call.now ≡ Some c.in-Some.name = sym c.new_name.ensures ∙ c.in-Some.is in
    rw e (c.holds.ensures s.events count reached.few reached.sound.events rep.events)
