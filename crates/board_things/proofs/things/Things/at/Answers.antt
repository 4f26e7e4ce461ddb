use Rattle.std.proofs.Common.{sym, ap, ◌∙◌}
use Rattle.std.specs.Prelude.{find}
use Rattle.board_things.specs.Things.{Numbered, is_thing}
use Rattle.board_things.proofs.Numbers.{found}
use Rattle.board_things.proofs.things.Things.at.Goals as goal

pub returns : goal.returns
returns c = c.get.ensures.value ∙ sym (found c.self.invariant.0 c.args.number) ∙ ap (λ (d : Numbered). find (is_thing c.args.number) d.things) c.self.view_is
