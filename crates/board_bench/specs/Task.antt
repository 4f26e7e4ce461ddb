-- The tasks, and how they are spelled, word by word.
use Rattle.std.specs.Prelude.{◌≡◌, ℕ, ◌≤◌, ◌<◌, ◌^◌, Bool, ◌==◌, ◌||◌, IsTrue, List, [], ◌∷◌, codes}
use Rattle.std.specs.Fmt.{decimal}
use Rattle.board_event_model.specs.declared.kind.EventKind.{EventKind}
use Rattle.board_event_model.specs.declared.kind.EventKind.TheVariants.{Bits, Queue}
use Rattle.board_bench.specs.declared.task.Call.{Call}
use Rattle.board_bench.specs.declared.task.Call.TheVariants.{Get, TryGet, Update}
use Rattle.board_bench.specs.declared.task.Calls.{Calls}
use Rattle.board_bench.specs.declared.task.Task.{Task}
use Rattle.board_bench.specs.declared.task.Task.TheVariants.{Solo, Typed, Event, Shared}

abbrev pub is_width : ℕ → Bool
is_width w = (w == 1) || (w == 4) || (w == 32)

-- so many can be counted
abbrev pub IsCount : ℕ → Type 0
IsCount n = n < 2 ^ 40

-- calls of a width that is measured, and not too many
abbrev pub AreBenchCalls : Calls → Type 0
AreBenchCalls calls = IsTrue (is_width calls.width) × IsCount calls.count

abbrev pub IsBenchTask : Task → Type 0
IsBenchTask (Solo calls) = AreBenchCalls calls
IsBenchTask (Typed calls) = AreBenchCalls calls
IsBenchTask (Event kind count) = IsCount count
IsBenchTask (Shared width readers updates) = IsTrue (is_width width) × (1 ≤ readers) × (readers ≤ 3) × IsCount updates

abbrev pub call_word : Call → List ℕ
call_word Get = codes "get"
call_word TryGet = codes "try_get"
call_word Update = codes "update"

abbrev pub kind_word : EventKind → List ℕ
kind_word Bits = codes "bits"
kind_word Queue = codes "queue"

-- the words of a task on events, and those of the others
abbrev pub event_words : List ℕ → List ℕ → List ℕ → List (List ℕ)
event_words what kind count = what ∷ kind ∷ count ∷ []

abbrev pub cell_words : List ℕ → List ℕ → List ℕ → List ℕ → List (List ℕ)
cell_words what width how count = what ∷ width ∷ how ∷ count ∷ []

abbrev pub spelling : Task → List (List ℕ)
spelling (Solo calls) = cell_words (codes "solo") (decimal calls.width) (call_word calls.call) (decimal calls.count)
spelling (Typed calls) = cell_words (codes "typed") (decimal calls.width) (call_word calls.call) (decimal calls.count)
spelling (Event kind count) = event_words (codes "event") (kind_word kind) (decimal count)
spelling (Shared width readers updates) = cell_words (codes "shared") (decimal width) (decimal readers) (decimal updates)

-- these words spell such calls
pub record AreCallsOf (first second third : List ℕ) (calls : Calls) : Type 0 where
  pub bench : AreBenchCalls calls
  pub width : first ≡ decimal calls.width
  pub call : second ≡ call_word calls.call
  pub count : third ≡ decimal calls.count

-- the words spell this task
abbrev pub IsTaskOf : List (List ℕ) → Task → Type 0
IsTaskOf words task = IsBenchTask task × (words ≡ spelling task)
