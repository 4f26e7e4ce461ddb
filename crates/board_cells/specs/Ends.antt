-- What is said of ends, by their cells and passes.
use Rattle.std.specs.Prelude.{◌≡◌, ◌≤◌, [], Option, option_map}
use Rattle.std.specs.Arc.{arc_value}
use Rattle.board_cell.specs.Passes.{CellSeen, ReaderSeen}
use Rattle.board_cells.specs.declared.ends.ReadEnd.{ReadEnd}
use Rattle.board_cells.specs.declared.ends.WriteEnd.{WriteEnd}
use Rattle.board_cells.specs.Cells.{EndSeen, end_of}

-- the cell of an end
abbrev pub cell_seen : ReadEnd → CellSeen
cell_seen e = arc_value e.cell

-- the read end is there exactly where the cell is, and it is that cell's
abbrev pub HasCell : Option ReadEnd → Option CellSeen → Type 0
HasCell end cell = option_map cell_seen end ≡ cell

-- nothing was read with this pass, nor was the counter looked at; it knows of the opening value
pub record IsUnread (pass : ReaderSeen) : Type 0 where
  pub notes : pass.notes ≡ []
  pub loads : pass.loads ≡ []
  pub opened : 1 ≤ pass.reached

-- a write end, as the cells of a board show it
abbrev pub end_seen : WriteEnd → EndSeen
end_seen e = end_of (arc_value e.cell) e.pass
