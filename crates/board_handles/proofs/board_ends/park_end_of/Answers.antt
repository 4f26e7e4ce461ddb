use Rattle.std.proofs.Common.{rules, ◌≡◌, List, sym, subst}
use Rattle.board_cells.specs.Cells.{AreFor, PlaceSeen, with_end}
use Rattle.board_cells.specs.Ends.{end_seen}
use Rattle.board_cells.proofs.Suiting.{with_for}
use Rattle.board_handles.proofs.board_ends.park_end_of.Goals as goal

pub change_cells-requires-clause-keeps : goal.change_cells-requires-clause-keeps
change_cells-requires-clause-keeps c entries old new told gave suits =
    let after : new ≡ with_end old c.args.entry (end_seen c.args.end) = search rules in
    subst (λ (v : List PlaceSeen). AreFor entries v) (sym after) (with_for entries old c.args.entry (end_seen c.args.end) suits)
