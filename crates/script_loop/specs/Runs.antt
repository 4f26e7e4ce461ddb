-- What a run of a script comes to, from its source to its sink.
use Rattle.std.specs.Prelude.{◌≡◌, ◌≢◌, ◌⊎◌, ℕ, ◌+◌, ◌<◌, ◌≤◌, List, ◌∷◌, length, take, IsSomeAnd, Option, Some, None, ⊤, Result, Err, IfErr, IsErrOf, OnOk}
use Rattle.std.specs.Io.KnownBytes.{Appends, IsAtEnd, prepend_known}
use Rattle.board_model.specs.Lines.{Rose}
use Rattle.script_loop.specs.Reader.{IsShortLine}
use Rattle.script_model.specs.ScriptSession.{Session, IsLawful, start, state_after}
use Rattle.script_model.specs.ScriptTurns.{ScriptState}
use Rattle.script_model.specs.ScriptOutput.{AreLinesOf, BeginsWith, FollowedBy, GoesOnAfter, IsScript, LeavesGrammarAfter, output_of}
use Rattle.script_loop.specs.Streams.{one_fault_more}
use Rattle.script_loop.specs.WholeLines.{HasWholeLines}
use Rattle.script_loop.specs.declared.error.ScriptError.{ScriptError}
use Rattle.script_loop.specs.declared.error.ScriptError.TheVariants.{ReadFault, WriteFault, BadLine, TooLong, OutOfMemory}

-- ---- before and after

-- a source or a sink: the bytes that a source has left or that a sink holds, where they are known, and its count of faults, each before and after
pub record Stream : Type 0 where
  pub before : Option (List ℕ)
  pub after : Option (List ℕ)
  pub faults_before : ℕ
  pub faults_after : ℕ

-- a value before and after as a stream, by its bytes and its count
abbrev pub stream_of : {A : Type 0} → (A → Option (List ℕ)) → (A → ℕ) → A → A → Stream
stream_of bytes faults old new = record { before = bytes old; after = bytes new; faults_before = faults old; faults_after = faults new }

-- its known bytes grew by these
abbrev pub Gains : Stream → List ℕ → Type 0
Gains sink bytes = Appends sink.before sink.after bytes

-- its count of faults has risen
abbrev pub HasFailed : Stream → Type 0
HasFailed stream = Rose stream.faults_before stream.faults_after

-- its count of faults has risen by one: one call failed, and not a second
abbrev pub HasFailedOnce : Stream → Type 0
HasFailedOnce stream = stream.faults_after ≡ one_fault_more stream.faults_before

-- its count of faults hasn't fallen
abbrev pub CountsOn : Stream → Type 0
CountsOn stream = stream.faults_before ≤ stream.faults_after

-- its count of faults is as it was: no call failed, or it stands at its last value
abbrev pub CountStays : Stream → Type 0
CountStays stream = stream.faults_after ≡ stream.faults_before

-- ---- runs

-- all lines of the input were answered
pub record IsRunOf (limit : ℕ) (source sink : Stream) : Type 0 where
  pub session : Session
  pub lawful : IsLawful session
  pub lines : AreLinesOf source.before session
  pub few : length session ≤ limit
  pub output : Gains sink (output_of session)

-- the source failed: the input is the whole lines, each with its newline, then a part of a line, then what is left; the whole lines were answered, and the part wasn't
pub record IsReadCut (limit : ℕ) (source sink : Stream) : Type 0 where
  pub session : Session
  pub lawful : IsLawful session
  pub part : List ℕ
  pub cut : IsShortLine part
  pub lines : HasWholeLines source.before (prepend_known part source.after) session
  pub few : length session ≤ limit
  pub output : Gains sink (output_of session)

-- the sink failed: of the answers to the first lines a front was written, and not all
pub record IsWriteCut (limit : ℕ) (source sink : Stream) : Type 0 where
  pub session : Session
  pub lawful : IsLawful session
  pub lines : BeginsWith source.before session
  pub few : length session ≤ limit
  pub written : ℕ
  pub cut : written < length (output_of session)
  pub output : Gains sink (take written (output_of session))

-- line n is the first outside the grammar, and the lines before it were answered
pub record IsBadAt (n limit : ℕ) (source sink : Stream) : Type 0 where
  pub session : Session
  pub lawful : IsLawful session
  pub lines : LeavesGrammarAfter source.before session
  pub number : n ≡ length session + 1
  pub allowed : n ≤ limit
  pub output : Gains sink (output_of session)

-- as many lines as are allowed were answered, and another one follows
pub record IsPast (limit : ℕ) (source sink : Stream) : Type 0 where
  pub session : Session
  pub lawful : IsLawful session
  pub lines : GoesOnAfter source.before session
  pub full : length session ≡ limit
  pub output : Gains sink (output_of session)

-- memory was refused: the lines before were answered
pub record IsSpent (limit : ℕ) (source sink : Stream) : Type 0 where
  pub session : Session
  pub lawful : IsLawful session
  pub lines : BeginsWith source.before session
  pub few : length session ≤ limit
  pub output : Gains sink (output_of session)

-- what stands after each error
abbrev pub IsStopped : ScriptError → ℕ → Stream → Stream → Type 0
IsStopped ReadFault limit source sink = IsReadCut limit source sink
IsStopped WriteFault limit source sink = IsWriteCut limit source sink
IsStopped (BadLine n) limit source sink = IsBadAt n limit source sink
IsStopped TooLong limit source sink = IsPast limit source sink
IsStopped OutOfMemory limit source sink = IsSpent limit source sink

-- ---- where a run may stop for memory

-- before the first line: nothing was read or written
pub record IsUnstarted (source sink : Stream) : Type 0 where
  pub unread : source.after ≡ source.before
  pub unwritten : sink.after ≡ sink.before

-- where the input is known, its first lines are those of the session, and this one is the next
abbrev pub HasNextLine : Option (List ℕ) → Session → List ℕ → Type 0
HasNextLine None session line = ⊤
HasNextLine (Some input) session line = (more : List (List ℕ)) × FollowedBy input session (line ∷ more)

-- the lines before were answered, and it holds of them and of the next line, by which memory may be wanted
pub record IsWanting (Wants : Session → List ℕ → Type 0) (limit : ℕ) (source sink : Stream) : Type 0 where
  pub session : Session
  pub lawful : IsLawful session
  pub few : length session < limit
  pub output : Gains sink (output_of session)
  pub line : List ℕ
  pub next : HasNextLine source.before session line
  pub wants : Wants session line

-- a run stops for memory before its first line, or at a line that may want some
abbrev pub StopsForMemory : (Session → List ℕ → Type 0) → ℕ → Stream → Stream → Type 0
StopsForMemory Wants limit source sink = IsUnstarted source sink ⊎ IsWanting Wants limit source sink

-- a machine that stands for the session may want memory for the line
abbrev pub SomeWants : {M : Type 0} → (M → ℕ → ScriptState → Type 0) → (M → List ℕ → Type 0) → Session → List ℕ → Type 0
SomeWants {M = M} stands wants session line = (m : M) × stands m (length session) (state_after start session) × wants m line

-- ---- runs that are run to their end

-- right answers to the first lines of the input, at most so many, have at most so many bytes
abbrev pub FitsInto : ℕ → ℕ → Option (List ℕ) → Type 0
FitsInto room limit input = (session : Session) → IsLawful session → BeginsWith input session → length session ≤ limit → length (output_of session) ≤ room

-- the input is known to be a script of at most so many lines, and its output has at most so many bytes
pub record IsRunnable (room limit : ℕ) (input : Option (List ℕ)) : Type 0 where
  pub script : IsSomeAnd input (IsScript limit)
  pub output : FitsInto room limit input

-- the source is known to be a script of at most so many lines, and neither it nor the sink failed
pub record IsUndisturbed (limit : ℕ) (source sink : Stream) : Type 0 where
  pub script : IsSomeAnd source.before (IsScript limit)
  pub read : ¬ HasFailed source
  pub written : ¬ HasFailed sink

-- what a run of at most so many lines comes to
pub record Runs (limit : ℕ) (source sink : Stream) (result : Result (Unit {0}) ScriptError) : Type 0 where
  -- the sink gained the output of the lawful session of the input's lines, which was read to its end
  pub ok : OnOk result (IsRunOf limit source sink)
  pub end : OnOk result (IsAtEnd source.after)
  -- each error comes where this says, and leaves what it says
  pub err : IfErr result (λ e. IsStopped e limit source sink)
  -- a known script is run to its end where nothing fails
  pub complete : IsUndisturbed limit source sink → IfErr result (λ e. e ≡ OutOfMemory)
  -- the faults are those of the source and of the sink, and one call failed, not a second
  pub read : IsErrOf result ReadFault → HasFailedOnce source
  pub write : IsErrOf result WriteFault → HasFailedOnce sink
  -- a fault is told: with any other answer the count of faults stays
  pub read_told : result ≢ Err ReadFault → CountStays source
  pub write_told : result ≢ Err WriteFault → CountStays sink
  pub read_later : CountsOn source
  pub write_later : CountsOn sink
