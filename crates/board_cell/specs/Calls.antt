-- The calls on a cell, as contracts see them.
use Rattle.std.specs.Prelude.{◌≡◌, ℕ, ◌+◌, ◌==◌, Bool, true, false, List, [], length, Option, option_map, slice_get}
use Rattle.board_layout.specs.declared.shape.CellShape.{CellShape}
use Rattle.board_cell_model.specs.OwedAccesses.{Owed, to_read, to_write, spare_at, Reading, opening, trying, finished, hear, reading_from, owed_read, owed_write}
use Rattle.board_cell.specs.declared.access.Access.{Access}
use Rattle.board_cell.specs.declared.access.Access.TheVariants as access
use Rattle.board_cell.specs.declared.access.Progress.{Progress}
use Rattle.board_cell.specs.declared.access.Progress.TheVariants.{More, Done}

-- an access of a call, as one of the board with this number
abbrev pub on_board : ℕ → Access → Owed
on_board board (access.Read word) = to_read board word
on_board board (access.Write word value) = to_write board word value

abbrev pub progress_of : Bool → Progress
progress_of false = More
progress_of true = Done

-- the counter that was read last
abbrev pub counter_of : Reading → ℕ
counter_of opening = 0
counter_of (trying counter words) = counter
counter_of (finished counter words) = counter

-- the words that were read since
abbrev pub words_of : Reading → List ℕ
words_of opening = []
words_of (trying counter words) = words
words_of (finished counter words) = words

-- a read, and how far it is
pub record Getting : Type 0 where
  pub shape : CellShape
  pub reading : Reading

-- a publication of these words at this generation, and how many of its accesses were made
pub record Updating : Type 0 where
  pub shape : CellShape
  pub generation : ℕ
  pub words : List ℕ
  pub written : ℕ

-- a look at the counter, and what it gave
pub record Asking : Type 0 where
  pub shape : CellShape
  pub generation : ℕ
  pub counter : Option ℕ

-- one word of a loan
pub record Putting : Type 0 where
  pub shape : CellShape
  pub generation : ℕ
  pub index : ℕ
  pub word : ℕ
  pub done : Bool

-- the end of a loan
pub record Publishing : Type 0 where
  pub shape : CellShape
  pub generation : ℕ
  pub done : Bool

-- ---- what a call owes next, on the board with this number

-- whichever board it is made on, the access is the one that is owed
abbrev pub Owes : Access → (ℕ → Owed) → Type 0
Owes access owed = (board : ℕ) → on_board board access ≡ owed board

abbrev pub next_read : Getting → ℕ → Owed
next_read call board = owed_read board call.shape call.reading

abbrev pub next_write : Updating → ℕ → Owed
next_write call board = owed_write board call.shape call.generation call.words call.written

abbrev pub next_put : Putting → ℕ → Owed
next_put call board = to_write board (spare_at call.shape call.generation + call.index) call.word

abbrev pub next_raise : Publishing → ℕ → Owed
next_raise call board = to_write board call.shape.first (call.generation + 1)

-- ---- calls at their begin, and after what they heard

abbrev pub publication : CellShape → ℕ → List ℕ → Updating
publication shape generation words = record { shape = shape; generation = generation; words = words; written = 0 }

abbrev pub put_at : CellShape → ℕ → ℕ → ℕ → Putting
put_at shape generation index word = record { shape = shape; generation = generation; index = index; word = word; done = false }

-- a get that heard one more word
abbrev pub hearing : Getting → ℕ → Getting
hearing call word = record call { reading = hear call.shape.words call.reading word }

-- a get that heard these words
abbrev pub hearing_all : Getting → List ℕ → Getting
hearing_all call words = record call { reading = reading_from call.shape.words call.reading words }

-- a publication whose accesses were all made
abbrev pub written_out : Updating → Updating
written_out call = record call { written = length call.words + 1 }

-- whether the first of these words is the generation that was asked for, where there is one
abbrev pub look_answer : Asking → List ℕ → Option Bool
look_answer call words = option_map (λ counter. counter == call.generation) (slice_get words 0)
