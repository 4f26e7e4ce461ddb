-- The program of snapshots: what a script comes to, its status and its note.
use Rattle.std.specs.Prelude.{◌≡◌, ℕ, List, [], ◌++◌, codes, Some, Result}
use Rattle.std.specs.Io.KnownBytes.{IsAtEnd}
use Rattle.script_model.specs.ScriptAnswers.{ScriptAnswer}
use Rattle.script_model.specs.ScriptSession as script
use Rattle.script_loop.specs.declared.error.ScriptError.{ScriptError}
use Rattle.script_loop.specs.Runs.{Gains, Stream}
use Rattle.script_endings.specs.Endings.{IsNoted, note_of, status_of}
use Rattle.script_exchanges.specs.declared.line.Drive.TheVariants.{Snapshots}
use Rattle.script_exchanges.specs.Exchanges.{AreLinesOf, Exchanges, fed_session, output_of}
use Rattle.script_drive.specs.DriveRuns.{DriveRuns}
use Rattle.script_snapshots.specs.LawsOfTakings.{IsOfOneMoment, IsShortTaking, IsWhole}
use Rattle.script_snapshots.specs.Takings.{Taking}
use Rattle.script_snapshots.specs.SnapshotExchanges.{IsLawful, Leads, Takings, no_takings}
use Rattle.script_written.specs.GivenLines.{IsFedAsWritten, IsReadBack}

-- ---- what a script comes to

-- some first exchanges led to these snapshots
pub record IsMet (xs : Exchanges) (s : Takings) : Type 0 where
  pub earlier : Exchanges
  pub later : Exchanges
  pub parts : xs ≡ earlier ++ later
  pub leads : Leads no_takings earlier s

-- each snapshot that is written is that of one moment, and has taken few steps: with no publication meanwhile those of two rounds
abbrev pub WrittenAreOfOneMoment : Exchanges → Type 0
WrittenAreOfOneMoment xs =
    (s : Takings) → IsMet xs s → (party : List ℕ) (a : ScriptAnswer) (y : Taking) → (w : IsWhole s party a y) → IsOfOneMoment s party a y w.taking

-- each snapshot that still runs has taken few steps
abbrev pub RunningAreShort : Exchanges → Type 0
RunningAreShort xs =
    (s : Takings) → IsMet xs s → (party : List ℕ) (x : Taking) → s.of party ≡ Some x → IsShortTaking s.fed party x x.before

-- a script was run to its end
pub record IsSnapshotRun (source sink : Stream) : Type 0 where
  pub exchanges : Exchanges
  -- the lines are those of the source, and the sink gained what is told of them
  pub lines : AreLinesOf Snapshots source.before exchanges
  pub output : Gains sink (output_of exchanges)
  -- which lines were given, and where `snapping`, `unsnapped` and `snapshot` stand, is as the definition says
  pub lawful : IsLawful exchanges
  -- the lines that were given are a lawful session, which stands behind each `> ` of what is told
  pub fed : script.IsLawful (fed_session exchanges)
  pub written : (input : List ℕ) → source.before ≡ Some input → IsFedAsWritten exchanges
  -- read line by line, it is these lines with their answers and, in their places, those that the program says of its own
  pub read_back : (input : List ℕ) → source.before ≡ Some input → IsReadBack exchanges
  pub moments : WrittenAreOfOneMoment exchanges
  pub short : RunningAreShort exchanges

-- ---- the status and the note

-- how the program is called
abbrev pub usage_note : List ℕ
usage_note = codes "usage: board_snapshot_run\n"

-- a script was run, and the status and the note are those of its answer
pub record IsAnswered (status : ℕ) (source sink notes : Stream) : Type 0 where
  pub answer : Result (Unit {0}) ScriptError
  pub run : DriveRuns Snapshots IsLawful 4294967295 source sink answer
  pub is : status ≡ status_of answer
  pub note : IsNoted notes (note_of answer)

-- the status and the note are those that the words of the command line ask for
pub record HasEnded (words : List (List ℕ)) (status : ℕ) (source sink notes : Stream) : Type 0 where
  -- without words the script of the source was run
  pub ran : words ≡ [] → IsAnswered status source sink notes
  pub ok : status ≡ 0 → IsSnapshotRun source sink
  pub end : status ≡ 0 → IsAtEnd source.after
  -- and with words nothing
  pub usage : (words ≡ [] → ⊥) → status ≡ 2
  pub usage_note : (words ≡ [] → ⊥) → IsNoted notes usage_note
