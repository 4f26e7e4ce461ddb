use Rattle.std.proofs.Common.{rules, ◌≡◌, List, sym, subst}
use Rattle.board_cells.specs.Cells.{AreFor, PlaceSeen, without_end}
use Rattle.board_cells.proofs.Suiting.{without_for}
use Rattle.board_handles.proofs.board_ends.take_end_of.Goals as goal

pub change_cells-requires-clause-keeps : goal.change_cells-requires-clause-keeps
change_cells-requires-clause-keeps c entries old new told gave suits =
    let after : new ≡ without_end old c.args.entry = search rules in
    subst (λ (v : List PlaceSeen). AreFor entries v) (sym after) (without_for entries old c.args.entry suits)
