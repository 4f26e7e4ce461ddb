use Rattle.std.proofs.Common.{◌≡◌, false, sym, ◌∙◌}
use Rattle.board_model.specs.Things.{is_held}
use Rattle.script_machine.proofs.machine.Machine.holds.Goals as goal

pub returns-else-is_held : goal.returns-else-is_held
returns-else-is_held g c = λ s count rep reached.
    let unheld : is_held s.boards.standing c.args.party.now c.args.name.now ≡ false = sym (c.is_held.ensures s.boards rep.boards) ∙ c.if-is_held.false in
    rw unheld (c.holds.ensures s.events count reached.few reached.sound.events rep.events)
