-- How programs over scripts end: statuses and notes.
use Rattle.std.specs.Prelude.{ℕ, ◌<◌, ◌≤◌, ◌⊎◌, ◌++◌, List, [], length, take, codes, decimal, Result, Ok, Err}
use Rattle.script_loop.specs.declared.error.ScriptError.{ScriptError}
use Rattle.script_loop.specs.declared.error.ScriptError.TheVariants.{ReadFault, WriteFault, BadLine, TooLong, OutOfMemory}
use Rattle.script_loop.specs.Runs.{CountStays, CountsOn, Gains, HasFailed, HasFailedOnce, Stream}

-- the status of a run
abbrev pub status_of : Result (Unit {0}) ScriptError → ℕ
status_of (Ok x) = 0
status_of (Err ReadFault) = 3
status_of (Err WriteFault) = 4
status_of (Err (BadLine n)) = 5
status_of (Err TooLong) = 6
status_of (Err OutOfMemory) = 7

-- with their newline
abbrev pub note_of : Result (Unit {0}) ScriptError → List ℕ
note_of (Ok x) = []
note_of (Err ReadFault) = codes "read fault\n"
note_of (Err WriteFault) = codes "write fault\n"
note_of (Err (BadLine n)) = codes "line " ++ decimal n ++ codes ": not in the grammar\n"
note_of (Err TooLong) = codes "too long\n"
note_of (Err OutOfMemory) = codes "out of memory\n"

-- a front of the text was written: all of it where no write failed, and else not all, and the write that failed wasn't tried once more
pub record IsNoted (notes : Stream) (text : List ℕ) : Type 0 where
  pub written : ℕ
  pub bytes : Gains notes (take written text)
  pub cause : written < length text → HasFailed notes
  pub later : CountsOn notes
  pub once : (CountStays notes × (length text ≤ written)) ⊎ (HasFailedOnce notes × (written < length text))
