-- Laws of scripts with watchers and of their output: the fed session and all that was told can be read off it, an input has one, and what a watcher reports is written.
use Rattle.std.specs.Prelude.{◌≡◌, ℕ, if◌then◌else◌, List, [], ◌∷◌, ◌++◌, map, Some}
use Rattle.std.specs.List.{flat_map}
use Rattle.std.specs.Str.{bytes_eq}
use Rattle.script_exchanges.specs.declared.line.Drive.TheVariants.{Watchers}
use Rattle.script_exchanges.specs.declared.line.DriveLine.{DriveLine}
use Rattle.script_exchanges.specs.declared.line.DriveLine.TheVariants.{Script, Start, Turn}
use Rattle.script_exchanges.specs.Exchanges.{AreLinesOf, Exchange, Exchanges, Told, fed_session, given, said}
use Rattle.script_written.specs.GivenLines.{IsFedAsWritten, IsReadBack}
use Rattle.script_watches.specs.Watchings.{Watching, report_text}
use Rattle.script_watches.specs.WatchExchanges.{IsLawful, Leads, Watchings, no_watchings}

-- ---- the output

-- the fed session of each script stands in its output
abbrev pub FedSessionsAreWritten : Type 0
FedSessionsAreWritten = (input : List ℕ) (xs : Exchanges) → AreLinesOf Watchers (Some input) xs → IsLawful xs → IsFedAsWritten xs

-- and all that is told of it is read back
abbrev pub OutputsAreReadBack : Type 0
OutputsAreReadBack = (input : List ℕ) (xs : Exchanges) → AreLinesOf Watchers (Some input) xs → IsLawful xs → IsReadBack xs

-- an input has at most one list of lawful exchanges, and so one output
abbrev pub InputsHaveOneRun : Type 0
InputsHaveOneRun =
    (input : List ℕ) (xs ys : Exchanges) → AreLinesOf Watchers (Some input) xs → AreLinesOf Watchers (Some input) ys → IsLawful xs → IsLawful ys → xs ≡ ys

-- ---- reports

-- a line that the program says of its own
abbrev pub said_by : Told → List (List ℕ)
said_by (given pair) = []
said_by (said text) = text ∷ []

-- those behind a turn of the party
abbrev pub said_at : List ℕ → DriveLine → List Told → List (List ℕ)
said_at party (Script l) told = []
said_at party (Start owner things) told = []
said_at party (Turn owner) told = if bytes_eq party owner then flat_map said_by told else []

abbrev pub said_in_turns : List ℕ → Exchanges → List (List ℕ)
said_in_turns party xs = flat_map (λ (x : Exchange). said_at party x.0 x.1) xs

-- the party was told to watch after the first of these exchanges; what was said behind its turns since are the watcher's reports, one after another
pub record AreReportsWritten (xs : Exchanges) (party : List ℕ) (x : Watching) : Type 0 where
  pub first : Exchanges
  pub told : List Told
  pub since : Exchanges
  pub parts : xs ≡ first ++ (Start party (x.listener ∷ x.handles), told) ∷ since
  pub before : x.before ≡ fed_session first
  pub written : said_in_turns party since ≡ map (report_text party) x.reported

-- so it is of each party that is watched
abbrev pub ReportsAreWritten : Type 0
ReportsAreWritten = (xs : Exchanges) (s : Watchings) → Leads no_watchings xs s → (party : List ℕ) (x : Watching) → s.of party ≡ Some x → AreReportsWritten xs party x
