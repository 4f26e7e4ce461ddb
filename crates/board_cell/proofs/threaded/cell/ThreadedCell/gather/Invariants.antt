use Rattle.std.proofs.Common.{◌≡◌, ◌<◌, ℕ, Some}
use Rattle.std.specs.Prelude.{slice_get}
use Rattle.std.specs.List.{All}
use Rattle.board_cell.specs.Passes.{ReaderSeen, Stands, NotesRise}
use Rattle.board_cell.proofs.threaded.cell.ThreadedCell.gather.Given as goal

abbrev pub invariant-loop-i : goal.invariant-loop-i
invariant-loop-i l = (l.writer ≡ l.initial.writer) × (l.readers.items ≡ l.initial.readers.items)
    × ((k : ℕ) (r : ReaderSeen) → k < l.i → slice_get l.initial.readers.items k ≡ Some r → All (Stands l.initial.writer.published) r.notes × NotesRise r.notes)
