-- How the fields of a get give what contracts see of it. No public clause cites this module.
use Rattle.std.specs.Prelude.{ℕ, List}
use Rattle.board_cell_model.specs.OwedAccesses.{Reading, opening, trying, finished}
use Rattle.board_cell.specs.declared.get_call.Stage.{Stage}
use Rattle.board_cell.specs.declared.get_call.Stage.TheVariants.{Opening, Trying, Finished}

abbrev pub reading_of : Stage → ℕ → List ℕ → Reading
reading_of Opening counter words = opening
reading_of Trying counter words = trying counter words
reading_of Finished counter words = finished counter words
