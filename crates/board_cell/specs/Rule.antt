-- The rule of a cell's table: what holds of its words and of all views at every moment. Of a spent view it says nothing.
use Rattle.std.specs.Prelude.{◌≡◌, ℕ, ◌+◌, ◌*◌, ◌<◌, ◌≤◌, List, [], ◌∷◌, ◌++◌, length, take, slice_index, replicate}
use Rattle.std.specs.List.{All}
use mathlib.Core.Option.{some}
use lib.ListN.{get_elem?}
use Rattle.atomic_table.specs.Table.{State}
use Rattle.board_cell_model.specs.OwedAccesses.{spare_at, current_at}
use Rattle.board_cell.specs.Passes.{threaded_shape, Stands, NotesRise}
use Rattle.board_cell.specs.declared.threaded.view.Note.{Note}
use Rattle.board_cell.specs.declared.threaded.view.WriterView.{WriterView}
use Rattle.board_cell.specs.declared.threaded.view.ReaderView.{ReaderView}
use Rattle.board_cell.specs.declared.threaded.view.View.{View}
use Rattle.board_cell.specs.declared.threaded.view.View.TheVariants.{Spent, Writer, Reader}

abbrev pub last_of : List (List ℕ) → List ℕ
last_of [] = []
last_of (x ∷ []) = x
last_of (x ∷ y ∷ ys) = last_of (y ∷ ys)

-- none falls
abbrev pub IsRising : List ℕ → Type 0
IsRising [] = Unit {0}
IsRising (x ∷ xs) = All (λ y. x ≤ y) xs × IsRising xs

abbrev pub AreReached : ℕ → List Note → Type 0
AreReached reached notes = All (λ (n : Note). n.generation ≤ reached) notes

pub record ReaderFits (published : List (List ℕ)) (x : ReaderView) : Type 0 where
  -- each note, own or copied, is a published value
  pub noted : All (Stands published) x.notes
  pub copied : All (Stands published) x.copies
  -- neither notes nor loads fall
  pub notes_rise : NotesRise x.notes
  pub loads_rise : IsRising x.loads
  -- none is above what is known to be reached, and that isn't above the counter
  pub notes_reached : AreReached x.reached x.notes
  pub copies_reached : AreReached x.reached x.copies
  pub loads_reached : All (λ n. n ≤ x.reached) x.loads
  pub reached_kept : x.reached ≤ length published
  -- an open try isn't above the counter, and while it is at the counter, its words are the first ones of the last value
  pub opened_kept : x.opened ≤ length published
  pub found_is : x.opened ≡ length published → x.found ≡ take (length x.found) (last_of published)

-- a writer's view stands at the one writer's seat
pub record WriterFits (published : List (List ℕ)) (seat by : ℕ) (x : WriterView) : Type 0 where
  pub alone : by ≡ seat
  pub copied : All (Stands published) x.copies
  pub copies_reached : AreReached x.reached x.copies
  pub reached_kept : x.reached ≤ length published

-- what the rule says of the view of the seat `by`, where the writer has the other one
abbrev pub Fits : List (List ℕ) → ℕ → ℕ → View → Type 0
Fits published seat by Spent = Unit {0}
Fits published seat by (Writer x) = WriterFits published seat by x
Fits published seat by (Reader x) = ReaderFits published x

pub record KeptBy (w seat : ℕ) (writer : WriterView) (s : State (Unit {0}) View) : Type 0 where
  -- there is the writer's view
  pub there : get_elem? s.views seat ≡ some (Writer writer)
  pub wide : length s.words ≡ 2 + 2 * w
  pub even : All (λ (item : List ℕ). length item ≡ w) writer.published
  pub begun : 0 < length writer.published
  pub short : length writer.pending ≤ w
  -- the counter is the number of published values
  pub counter : slice_index s.words 0 ≡ length writer.published
  -- the current copy is the last of them
  pub current : (i : ℕ) → i < w → slice_index s.words (current_at (threaded_shape w) (length writer.published) + i) ≡ slice_index (last_of writer.published) i
  -- the spare copy begins with the pending words
  pub spare : (i : ℕ) → i < length writer.pending → slice_index s.words (spare_at (threaded_shape w) (length writer.published) + i) ≡ slice_index writer.pending i
  pub each_view : (by : ℕ) (v : View) → get_elem? s.views by ≡ some v → Fits writer.published seat by v

-- one seat is the writer's
abbrev pub Kept : ℕ → State (Unit {0}) View → Type 0
Kept w s = (seat : ℕ) × (writer : WriterView) × KeptBy w seat writer s

-- the words of a new cell
abbrev pub new_cell_words : List ℕ → List ℕ
new_cell_words words = 1 ∷ 0 ∷ (words ++ replicate (length words) 0)

-- the writer's view of a new cell
abbrev pub opening_view : List ℕ → View
opening_view words = Writer record { published = words ∷ []; pending = []; copies = []; reached = 0 }
