-- Files in memory that fail where they are told to.
use Rattle.std.specs.Prelude.{◌≡◌, ◌⊎◌, ℕ, ◌==◌, List, min, Bool, Option, Some, None, find, IsTrue}
use Rattle.std.specs.List.{list_any}
use Rattle.board_names.specs.Table.{IsFree}
use Rattle.board_files.specs.Files.{Counts, raised}
use Rattle.board_files.specs.declared.memory_files.MemoryFiles.{MemoryFiles}

-- what files in memory counted
abbrev pub counts_of : MemoryFiles → Counts
counts_of m = record { calls = m.calls; faults = m.faults; short_writes = m.short_writes }

-- one more, up to the last value of a count
abbrev pub one_more : ℕ → ℕ
one_more n = raised 1 n

-- whether the next call is to fail
abbrev pub fails_next : MemoryFiles → Bool
fails_next m = list_any (λ n. n == m.calls) m.fails.items

-- why the next call on a name that must be held fails: it is to fail, or the name isn't held
abbrev pub FailsAt : MemoryFiles → List ℕ → Type 0
FailsAt m name = IsTrue (fails_next m) ⊎ IsFree m.held.files name

abbrev pub room_in : ℕ → Option (ℕ × ℕ) → ℕ
room_in given None = given
room_in given (Some short) = min given short.1

-- what is listed of the next call, where it is to take less
abbrev pub planned_next : MemoryFiles → Option (ℕ × ℕ)
planned_next m = find (λ s. s.0 == m.calls) m.short.items

-- how much the next call takes of so many bytes, where it writes
abbrev pub room_next : MemoryFiles → ℕ → ℕ
room_next m given = room_in given (planned_next m)

-- after a call was counted
abbrev pub called : MemoryFiles → MemoryFiles
called m = record m { calls = one_more m.calls }

-- after a fault was counted
abbrev pub faulted : MemoryFiles → MemoryFiles
faulted m = record m { faults = one_more m.faults }

-- the lists of the calls that are to fail and of the writes that are to be short stay
pub record SamePlan (before now : MemoryFiles) : Type 0 where
  pub fails : now.fails ≡ before.fails
  pub short : now.short ≡ before.short
