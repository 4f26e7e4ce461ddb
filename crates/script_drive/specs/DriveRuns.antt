-- What a run of a script whose parties can be driven comes to, from its source to its sink: as with plain scripts, over its own lines.
use Rattle.std.specs.Prelude.{◌≡◌, ◌≢◌, ◌⊎◌, ℕ, ◌+◌, ◌<◌, ◌≤◌, List, ◌∷◌, ◌++◌, length, take, IsSomeAnd, Option, Some, None, ⊤, Result, Err, IfErr, IsErrOf, OnOk}
use Rattle.std.specs.List.{AllByRecursion}
use Rattle.std.specs.Io.KnownBytes.{IsAtEnd, prepend_known}
use Rattle.board_model.specs.Lines.{IsOneLine}
use Rattle.script_loop.specs.Reader.{IsShortLine}
use Rattle.script_loop.specs.declared.error.ScriptError.{ScriptError}
use Rattle.script_loop.specs.declared.error.ScriptError.TheVariants.{ReadFault, WriteFault, BadLine, TooLong, OutOfMemory}
use Rattle.script_loop.specs.Runs.{CountStays, CountsOn, Gains, HasFailed, HasFailedOnce, IsUnstarted, Stream}
use Rattle.script_loop.specs.WholeLines.{with_newlines}
use Rattle.script_exchanges.specs.declared.line.Drive.{Drive}
use Rattle.script_drive.specs.Drivers.{SpellsSomeDrive}
use Rattle.script_exchanges.specs.Exchanges.{AreLinesOf, BeginsWith, Exchanges, FollowedBy, GoesOnAfter, IsDriveScript, LeavesGrammarAfter, SpellsAll, output_of}

-- ---- lines that were whole when they were read

-- the input is the lines of the exchanges, each with its newline, and then what is left
pub record WholeLines (d : Drive) (input left : List ℕ) (xs : Exchanges) : Type 0 where
  pub lines : List (List ℕ)
  pub bytes : input ≡ with_newlines lines ++ left
  pub whole : AllByRecursion IsOneLine lines
  pub spelled : SpellsAll d lines xs

-- the same, where the bytes are known
abbrev pub HasWholeLines : Drive → Option (List ℕ) → Option (List ℕ) → Exchanges → Type 0
HasWholeLines d None left xs = ⊤
HasWholeLines d (Some input) None xs = ⊥
HasWholeLines d (Some input) (Some left) xs = WholeLines d input left xs

-- ---- runs

-- all lines of the input were answered
pub record IsRunOf (d : Drive) (Lawful : Exchanges → Type 0) (limit : ℕ) (source sink : Stream) : Type 0 where
  pub exchanges : Exchanges
  pub lawful : Lawful exchanges
  pub lines : AreLinesOf d source.before exchanges
  pub few : length exchanges ≤ limit
  pub output : Gains sink (output_of exchanges)

-- the source failed: the input is the whole lines, each with its newline, then a part of a line, then what is left; the whole lines were answered, and the part wasn't
pub record IsReadCut (d : Drive) (Lawful : Exchanges → Type 0) (limit : ℕ) (source sink : Stream) : Type 0 where
  pub exchanges : Exchanges
  pub lawful : Lawful exchanges
  pub part : List ℕ
  pub cut : IsShortLine part
  pub lines : HasWholeLines d source.before (prepend_known part source.after) exchanges
  pub few : length exchanges ≤ limit
  pub output : Gains sink (output_of exchanges)

-- the sink failed: of what is told of the first lines a front was written, and not all
pub record IsWriteCut (d : Drive) (Lawful : Exchanges → Type 0) (limit : ℕ) (source sink : Stream) : Type 0 where
  pub exchanges : Exchanges
  pub lawful : Lawful exchanges
  pub lines : BeginsWith d source.before exchanges
  pub few : length exchanges ≤ limit
  pub written : ℕ
  pub cut : written < length (output_of exchanges)
  pub output : Gains sink (take written (output_of exchanges))

-- line n is the first outside the grammar, and the lines before it were answered
pub record IsBadAt (d : Drive) (Lawful : Exchanges → Type 0) (n limit : ℕ) (source sink : Stream) : Type 0 where
  pub exchanges : Exchanges
  pub lawful : Lawful exchanges
  pub lines : LeavesGrammarAfter d source.before exchanges
  pub number : n ≡ length exchanges + 1
  pub allowed : n ≤ limit
  pub output : Gains sink (output_of exchanges)

-- as many lines as are allowed were answered, and another one follows
pub record IsPast (d : Drive) (Lawful : Exchanges → Type 0) (limit : ℕ) (source sink : Stream) : Type 0 where
  pub exchanges : Exchanges
  pub lawful : Lawful exchanges
  pub lines : GoesOnAfter d source.before exchanges
  pub full : length exchanges ≡ limit
  pub output : Gains sink (output_of exchanges)

-- memory was refused: the lines before were answered
pub record IsSpent (d : Drive) (Lawful : Exchanges → Type 0) (limit : ℕ) (source sink : Stream) : Type 0 where
  pub exchanges : Exchanges
  pub lawful : Lawful exchanges
  pub lines : BeginsWith d source.before exchanges
  pub few : length exchanges ≤ limit
  pub output : Gains sink (output_of exchanges)

-- what stands after each error
abbrev pub IsStopped : ScriptError → Drive → (Exchanges → Type 0) → ℕ → Stream → Stream → Type 0
IsStopped ReadFault d Lawful limit source sink = IsReadCut d Lawful limit source sink
IsStopped WriteFault d Lawful limit source sink = IsWriteCut d Lawful limit source sink
IsStopped (BadLine n) d Lawful limit source sink = IsBadAt d Lawful n limit source sink
IsStopped TooLong d Lawful limit source sink = IsPast d Lawful limit source sink
IsStopped OutOfMemory d Lawful limit source sink = IsSpent d Lawful limit source sink

-- ---- where a run may stop for memory

-- where the input is known, its first lines are those of the exchanges, and this one is the next
abbrev pub HasNextLine : Drive → Option (List ℕ) → Exchanges → List ℕ → Type 0
HasNextLine d None xs line = ⊤
HasNextLine d (Some input) xs line = (more : List (List ℕ)) × FollowedBy d input xs (line ∷ more)

-- what is told of the lines before was written, and the next one is of the grammar
pub record IsWanting (d : Drive) (Lawful : Exchanges → Type 0) (limit : ℕ) (source sink : Stream) : Type 0 where
  pub exchanges : Exchanges
  pub lawful : Lawful exchanges
  pub few : length exchanges < limit
  pub output : Gains sink (output_of exchanges)
  pub line : List ℕ
  pub next : HasNextLine d source.before exchanges line
  pub spelled : SpellsSomeDrive d line

-- a run stops for memory before its first line, or at a line of the grammar
abbrev pub StopsForMemory : Drive → (Exchanges → Type 0) → ℕ → Stream → Stream → Type 0
StopsForMemory d Lawful limit source sink = IsUnstarted source sink ⊎ IsWanting d Lawful limit source sink

-- ---- runs that are run to their end

-- what is rightly told of the first lines of the input, at most so many, has at most so many bytes
abbrev pub FitsInto : Drive → (Exchanges → Type 0) → ℕ → ℕ → Option (List ℕ) → Type 0
FitsInto d Lawful room limit input = (xs : Exchanges) → Lawful xs → BeginsWith d input xs → length xs ≤ limit → length (output_of xs) ≤ room

-- the input is known to be a script of at most so many lines, and what is told of it has at most so many bytes
pub record IsRunnable (d : Drive) (Lawful : Exchanges → Type 0) (room limit : ℕ) (input : Option (List ℕ)) : Type 0 where
  pub script : IsSomeAnd input (IsDriveScript d limit)
  pub output : FitsInto d Lawful room limit input

-- the source is known to be a script of at most so many lines, and neither it nor the sink failed
pub record IsUndisturbed (d : Drive) (limit : ℕ) (source sink : Stream) : Type 0 where
  pub script : IsSomeAnd source.before (IsDriveScript d limit)
  pub read : ¬ HasFailed source
  pub written : ¬ HasFailed sink

-- what a run of at most so many lines comes to
pub record DriveRuns (d : Drive) (Lawful : Exchanges → Type 0) (limit : ℕ) (source sink : Stream) (result : Result (Unit {0}) ScriptError) : Type 0 where
  -- the sink gained what is told of the input's lines, which was read to its end
  pub ok : OnOk result (IsRunOf d Lawful limit source sink)
  pub end : OnOk result (IsAtEnd source.after)
  -- each error comes where this says, and leaves what it says
  pub err : IfErr result (λ e. IsStopped e d Lawful limit source sink)
  -- memory is wanted for no other line
  pub memory : IsErrOf result OutOfMemory → StopsForMemory d Lawful limit source sink
  -- a known script is run to its end where nothing fails
  pub complete : IsUndisturbed d limit source sink → IfErr result (λ e. e ≡ OutOfMemory)
  -- the faults are those of the source and of the sink, and one call failed, not a second
  pub read : IsErrOf result ReadFault → HasFailedOnce source
  pub write : IsErrOf result WriteFault → HasFailedOnce sink
  -- a fault is told: with any other answer the count of faults stays
  pub read_told : result ≢ Err ReadFault → CountStays source
  pub write_told : result ≢ Err WriteFault → CountStays sink
  pub read_later : CountsOn source
  pub write_later : CountsOn sink
