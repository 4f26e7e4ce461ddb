-- The program of the checker: its verdicts as text, its statuses and its notes.
use Rattle.std.specs.Prelude.{◌≡◌, ◌≢◌, ◌⊎◌, ℕ, ◌<◌, ◌≤◌, List, [], ◌++◌, length, codes, decimal, take, IfOk, IsErrOf, IsSomeAnd, Option, Some, None, ⊤, Result, Ok, Err}
use Rattle.std.specs.Io.KnownBytes.{IsAtEnd}
use Rattle.board_model.specs.Lines.{lines_of}
use Rattle.script_model.specs.ScriptOutput.{IsOutputOf}
use Rattle.script_lengths.specs.CheckedRuns.{in_turn}
use Rattle.script_rules.specs.declared.rule.Rule.{Rule}
use Rattle.script_rules.specs.RuleNames.{rule_name}
use Rattle.script_loop.specs.declared.error.ScriptError.{ScriptError}
use Rattle.script_loop.specs.declared.error.ScriptError.TheVariants as script_error
use Rattle.script_loop.specs.Runs.{CountStays, CountsOn, Gains, HasFailedOnce, Stream}
use Rattle.script_endings.specs.Endings.{IsNoted, note_of, status_of}
use Rattle.script_pairs.specs.declared.verdict.Verdict.{Verdict}
use Rattle.script_pairs.specs.declared.verdict.Verdict.TheVariants.{Lawful, No}
use Rattle.script_pairs.specs.declared.verdict.CheckError.{CheckError}
use Rattle.script_pairs.specs.declared.verdict.CheckError.TheVariants as error
use Rattle.script_pairs.specs.Checks.{AreLawfulIn, BreaksIn, Checks, IsReadToEnd, Tells}

-- ---- runs

-- the lines of these bytes are those of an input of so many lines and of its output, in turn
pub record AreOfRun (bytes : List ℕ) (count : ℕ) : Type 0 where
  pub input : List ℕ
  pub output : List ℕ
  pub run : IsOutputOf input output
  pub lines : lines_of bytes ≡ in_turn (lines_of input) (lines_of output)
  pub counted : length (lines_of input) ≡ count

-- they are told to be a lawful session, where they are no more than may be
abbrev pub AcceptsRuns : Option (List ℕ) → Result Verdict CheckError → Type 0
AcceptsRuns None result = ⊤
AcceptsRuns (Some bytes) result = (count : ℕ) → count ≤ 4294967295 → AreOfRun bytes count → Tells (Lawful count) result

-- the bytes are known to be those of a run, with no more lines than may be
abbrev pub IsRunIn : Option (List ℕ) → Type 0
IsRunIn bytes = IsSomeAnd bytes (λ known. (count : ℕ) × (count ≤ 4294967295) × AreOfRun known count)

-- ---- verdicts

-- a verdict with its newline
abbrev pub verdict_text : Verdict → List ℕ
verdict_text (Lawful n) = codes "lawful " ++ decimal n ++ codes "\n"
verdict_text (No n r) = codes "line " ++ decimal n ++ codes ": " ++ rule_name r ++ codes "\n"

-- the status of a verdict
abbrev pub status_told : Verdict → ℕ
status_told (Lawful n) = 0
status_told (No n r) = 1

-- the status is that of a verdict, or of want of memory
abbrev pub IsJudged : ℕ → Type 0
IsJudged status = (status ≡ 0) ⊎ (status ≡ 1) ⊎ (status ≡ 7)

-- the lines of the source, which was read to its end, are a lawful session, and so it was written
pub record IsLawfulIn (source sink : Stream) : Type 0 where
  pub pairs : ℕ
  pub few : pairs ≤ 4294967295
  pub lawful : AreLawfulIn source.before pairs
  pub end : IsAtEnd source.after
  pub output : Gains sink (verdict_text (Lawful pairs))

-- a pair of the source is the first that isn't right, and the rule that it breaks was written
pub record IsBrokenIn (source sink : Stream) : Type 0 where
  pub pair : ℕ
  pub few : pair ≤ 4294967295
  pub rule : Rule
  pub breaks : BreaksIn source.before pair rule
  pub output : Gains sink (verdict_text (No pair rule))

-- ---- the status and the note

-- an error of a check as one of a run
abbrev pub error_in : CheckError → ScriptError
error_in error.ReadFault = script_error.ReadFault
error_in error.TooLong = script_error.TooLong
error_in error.OutOfMemory = script_error.OutOfMemory

-- how the program is called
abbrev pub usage_note : List ℕ
usage_note = codes "usage: board_check_run\n"

-- the verdict was written whole
pub record IsWritten (v : Verdict) (status : ℕ) (sink : Stream) : Type 0 where
  pub output : Gains sink (verdict_text v)
  pub is : status ≡ status_told v

-- the sink failed, and a front of the verdict was written, and not all
pub record IsCut (v : Verdict) (status : ℕ) (sink notes : Stream) : Type 0 where
  pub written : ℕ
  pub cut : written < length (verdict_text v)
  pub output : Gains sink (take written (verdict_text v))
  pub failed : HasFailedOnce sink
  pub is : status ≡ 4
  pub note : IsNoted notes (note_of (Err script_error.WriteFault))

-- no verdict was reached or written, and this error is noted
pub record IsUnjudged (e : CheckError) (status : ℕ) (sink notes : Stream) : Type 0 where
  pub unwritten : sink.after ≡ sink.before
  pub is : status ≡ status_of (Err (error_in e))
  pub note : IsNoted notes (note_of (Err (error_in e)))

-- the status, what is written and the note are those of the answer
abbrev pub IsEnding : Result Verdict CheckError → ℕ → Stream → Stream → Type 0
IsEnding (Ok v) status sink notes = IsWritten v status sink ⊎ IsCut v status sink notes
IsEnding (Err e) status sink notes = IsUnjudged e status sink notes

-- the session of the source was checked, and the status and the note are those of the answer
pub record IsAnswered (status : ℕ) (source sink notes : Stream) : Type 0 where
  pub answer : Result Verdict CheckError
  pub checks : Checks 4294967295 source.before answer
  pub end : IfOk answer (λ verdict. IsReadToEnd verdict source.after)
  pub runs : AcceptsRuns source.before answer
  pub ending : IsEnding answer status sink notes
  -- the faults are those of the source and of the sink
  pub read : IsErrOf answer error.ReadFault → HasFailedOnce source
  pub write : status ≡ 4 → HasFailedOnce sink
  -- a fault is told: with any other answer the source's count of faults stays, and with any other status the sink's
  pub read_told : answer ≢ Err error.ReadFault → CountStays source
  pub write_told : status ≢ 4 → CountStays sink
  pub read_later : CountsOn source
  pub write_later : CountsOn sink

-- the status and the note are those that the words of the command line ask for
pub record HasEnded (words : List (List ℕ)) (status : ℕ) (source sink notes : Stream) : Type 0 where
  -- without words the session of the source was checked
  pub ran : words ≡ [] → IsAnswered status source sink notes
  pub lawful : status ≡ 0 → IsLawfulIn source sink
  pub broken : status ≡ 1 → IsBrokenIn source sink
  -- and with words nothing
  pub usage : (words ≡ [] → ⊥) → status ≡ 2
  pub usage_note : (words ≡ [] → ⊥) → IsNoted notes usage_note
