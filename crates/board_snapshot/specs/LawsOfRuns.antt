-- Laws of scripts with snapshots: the fed session and all that was told can be read off the output, bytes spell one line, and the lines of a script settle all that is told of them.
use Rattle.std.specs.Prelude.{◌≡◌, ℕ, List, Some}
use Rattle.script_exchanges.specs.declared.line.Drive.TheVariants.{Snapshots}
use Rattle.script_exchanges.specs.declared.line.DriveLine.{DriveLine}
use Rattle.script_exchanges.specs.DriveGrammar.{SpellsDrive}
use Rattle.script_exchanges.specs.Exchanges.{AreLinesOf, Exchanges}
use Rattle.script_snapshots.specs.SnapshotExchanges.{IsLawful}
use Rattle.script_written.specs.GivenLines.{IsFedAsWritten, IsReadBack}

-- the fed session of each script stands in its output
abbrev pub FedSessionsAreWritten : Type 0
FedSessionsAreWritten = (input : List ℕ) (xs : Exchanges) → AreLinesOf Snapshots (Some input) xs → IsLawful xs → IsFedAsWritten xs

-- and all that is told of it is read back
abbrev pub OutputsAreReadBack : Type 0
OutputsAreReadBack = (input : List ℕ) (xs : Exchanges) → AreLinesOf Snapshots (Some input) xs → IsLawful xs → IsReadBack xs

-- bytes spell at most one line
abbrev pub BytesSpellOneLine : Type 0
BytesSpellOneLine = (bytes : List ℕ) (k l : DriveLine) → SpellsDrive Snapshots bytes k → SpellsDrive Snapshots bytes l → k ≡ l

-- an input has at most one list of lawful exchanges, and so one output
abbrev pub InputsHaveOneRun : Type 0
InputsHaveOneRun =
    (input : List ℕ) (xs ys : Exchanges) → AreLinesOf Snapshots (Some input) xs → AreLinesOf Snapshots (Some input) ys → IsLawful xs → IsLawful ys → xs ≡ ys
