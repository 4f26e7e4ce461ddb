use Rattle.std.proofs.Common.{◌∙◌, ap}
use Rattle.std.specs.Prelude.{nat_eq, nat_lt}
use Rattle.board_numbered.specs.Standing.{standing, under}
use Rattle.board_things.specs.Nodes.{node_from}
use Rattle.board_things.specs.Things.{Numbered}
use Rattle.board_things.proofs.NodeLemmas.{node_kept}
use Rattle.board_things.proofs.things.Things.node_at.Goals as goal

pub returns : goal.returns
returns c =
    let board = c.args.board in
    let index = c.args.index in
    c.node_at.ensures
    ∙ node_kept board index c.self.inside.nodes.pairs (standing (under c.self.inside.items) c.self.inside.last) c.self.invariant.5
    ∙ ap (λ (d : Numbered). node_from nat_eq nat_lt board index d.things d.things) c.self.view_is
