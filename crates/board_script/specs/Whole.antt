-- What running a script comes to, and scripts in memory that can be run to their end.
use Rattle.std.specs.Prelude.{◌≡◌, ◌≢◌, ℕ, ◌≤◌, List, [], length, Some, ⊤, IfErr, IfSome, IsErrOf, Result, Err}
use Rattle.script_model.specs.ScriptOutput.{IsOutputOf, IsScript}
use Rattle.script_loop.specs.declared.error.ScriptError.{ScriptError}
use Rattle.script_loop.specs.declared.error.ScriptError.TheVariants.{ReadFault, WriteFault, OutOfMemory}
use Rattle.script_loop.specs.Runs.{FitsInto, IsRunnable, Runs, StopsForMemory, Stream}
use Rattle.script_machine.specs.Wants.{SpellsTakingAfter}

-- the script of a source is run, at most so many lines of it; `reads` is that no read fails, and `takes room` that no write fails within so many bytes
pub record RunsScript (limit : ℕ) (reads : Type 0) (takes : ℕ → Type 0) (source sink : Stream) (result : Result (Unit {0}) ScriptError) : Type 0 where
  -- the sink gained the output of the lawful session of the input's lines, or the error says what stands
  pub runs : Runs limit source sink result
  -- where no read fails there is no read fault, and where no write fails within the output no write fault
  pub read : reads → result ≢ Err ReadFault
  pub written : (room : ℕ) → takes room → FitsInto room limit source.before → result ≢ Err WriteFault
  -- a known script is then run to its end, or memory is refused
  pub complete : reads → (room : ℕ) → takes room → IsRunnable room limit source.before → IfErr result (λ e. e ≡ OutOfMemory)
  -- memory is refused before the first line, or at one that takes some after the lines before it
  pub memory : IsErrOf result OutOfMemory → StopsForMemory SpellsTakingAfter limit source sink

-- the script's lines are of the grammar and not too many, and its output has at most so many bytes
pub record FitsRoom (room : ℕ) (bytes : List ℕ) : Type 0 where
  pub script : IsScript 4294967295 bytes
  pub output : (output : List ℕ) → IsOutputOf bytes output → length output ≤ room

-- a script in memory was run into an empty room of so many bytes, and answered so; no read fails, and no write within the room, and no more is held than fits into it
pub record RunsInMemory (room : ℕ) (script : List ℕ) (result : Result (Unit {0}) ScriptError) : Type 0 where
  pub source : Stream
  pub sink : Stream
  pub whole : source.before ≡ Some script
  pub empty : sink.before ≡ Some []
  pub fits : IfSome sink.after (λ held. length held ≤ room)
  pub run : RunsScript 4294967295 ⊤ (λ bytes. bytes ≤ room) source sink result
