-- The program of watchers: what a script comes to, its status and its note.
use Rattle.std.specs.Prelude.{◌≡◌, ℕ, ◌≤◌, List, [], ◌++◌, codes, Some, Result}
use Rattle.std.specs.List.{AllByRecursion}
use Rattle.std.specs.Io.KnownBytes.{IsAtEnd}
use Rattle.script_model.specs.ScriptSession as script
use Rattle.script_model.specs.LawsOfComposition.{state_met}
use Rattle.script_moments.specs.Reports.{Take}
use Rattle.script_loop.specs.declared.error.ScriptError.{ScriptError}
use Rattle.script_loop.specs.Runs.{Gains, Stream}
use Rattle.script_endings.specs.Endings.{IsNoted, note_of, status_of}
use Rattle.script_exchanges.specs.declared.line.Drive.TheVariants.{Watchers}
use Rattle.script_exchanges.specs.Exchanges.{AreLinesOf, Exchanges, fed_session, output_of}
use Rattle.script_drive.specs.DriveRuns.{DriveRuns}
use Rattle.script_written.specs.GivenLines.{IsFedAsWritten, IsReadBack}
use Rattle.script_watches.specs.LawsOfWatches.{AreItems, IsCalledGet, IsWatched, Rise}
use Rattle.script_exchanges.specs.DrivenParties.{Got}
use Rattle.script_watches.specs.Watchings.{Watching, highest_of, reports_through}
use Rattle.script_watches.specs.WatchExchanges.{IsLawful, Leads, Watchings, no_watchings}
use Rattle.board_watch.specs.LawsOfWatchRuns.{AreReportsWritten}

-- ---- what a script comes to

-- some first exchanges led to these watchers, of which this is one
pub record IsMet (xs : Exchanges) (s : Watchings) (party : List ℕ) (x : Watching) : Type 0 where
  pub earlier : Exchanges
  pub later : Exchanges
  pub parts : xs ≡ earlier ++ later
  pub leads : Leads no_watchings earlier s
  pub watches : s.of party ≡ Some x

-- what a watcher reports, at whatever moment it is met: after these exchanges
pub record ReportsRightly (earlier : Exchanges) (s : Watchings) (party : List ℕ) (x : Watching) : Type 0 where
  -- since its `watch` the party's own lines ask for its ids, wait, and get what the ids call for
  pub watched : IsWatched s.fed party x
  -- what it has reported is what was written behind the party's turns since it began
  pub written : AreReportsWritten earlier party x
  -- the generations that are reported of a handle rise
  pub rise : (handle : List ℕ) → Rise 0 (reports_through handle x.reported)
  -- the last of them is the highest
  pub highest : (handle : List ℕ) → AllByRecursion (λ (r : Got). r.generation ≤ highest_of x handle) (reports_through handle x.reported)
  -- each is an item of the list of the one entry that the handle named when the watcher began
  pub items : (handle : List ℕ) → AreItems (state_met s.fed) party handle x
  -- once a get that a taken id called for has ended, the last is at least what was published before the notify
  pub fresh : (handle : List ℕ) (c : Take) (b i n id g : ℕ) (words : List ℕ) → IsCalledGet s.fed party handle x c b i n id g words → g ≤ highest_of x handle

abbrev pub AllReportRightly : Exchanges → Type 0
AllReportRightly xs = (s : Watchings) (party : List ℕ) (x : Watching) → (met : IsMet xs s party x) → ReportsRightly met.earlier s party x

-- a script was run to its end
pub record IsWatchRun (source sink : Stream) : Type 0 where
  pub exchanges : Exchanges
  -- the lines are those of the source, and the sink gained what is told of them
  pub lines : AreLinesOf Watchers source.before exchanges
  pub output : Gains sink (output_of exchanges)
  -- which lines were given, and where `watched`, `unwatched`, `watching` and `report` stand, is as the definition says
  pub lawful : IsLawful exchanges
  -- the lines that were given are a lawful session
  pub fed : script.IsLawful (fed_session exchanges)
  -- and stand, each with its answer, behind each `> ` of what is told
  pub written : (input : List ℕ) → source.before ≡ Some input → IsFedAsWritten exchanges
  -- read line by line, it is these lines with their answers and, in their places, those that the program says of its own
  pub read_back : (input : List ℕ) → source.before ≡ Some input → IsReadBack exchanges
  pub reports : AllReportRightly exchanges

-- ---- the status and the note

-- how the program is called
abbrev pub usage_note : List ℕ
usage_note = codes "usage: board_watch_run\n"

-- a script was run, and the status and the note are those of its answer
pub record IsAnswered (status : ℕ) (source sink notes : Stream) : Type 0 where
  pub answer : Result (Unit {0}) ScriptError
  pub run : DriveRuns Watchers IsLawful 4294967295 source sink answer
  pub is : status ≡ status_of answer
  pub note : IsNoted notes (note_of answer)

-- the status and the note are those that the words of the command line ask for
pub record HasEnded (words : List (List ℕ)) (status : ℕ) (source sink notes : Stream) : Type 0 where
  -- without words the script of the source was run
  pub ran : words ≡ [] → IsAnswered status source sink notes
  pub ok : status ≡ 0 → IsWatchRun source sink
  pub end : status ≡ 0 → IsAtEnd source.after
  -- and with words nothing
  pub usage : (words ≡ [] → ⊥) → status ≡ 2
  pub usage_note : (words ≡ [] → ⊥) → IsNoted notes usage_note
