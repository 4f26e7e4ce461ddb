-- The lines of a script whose parties can be driven, and their bytes.
use Rattle.std.specs.Prelude.{◌≡◌, ℕ, ◌≤◌, true, List, [], ◌∷◌, length, codes}
use Rattle.std.specs.List.{join_with_byte, AllByRecursion}
use Rattle.board_model.specs.LineGrammar.{is_name}
use Rattle.script_model.specs.ScriptGrammar.{IsScriptLine, script_tokens}
use Rattle.script_exchanges.specs.declared.line.Drive.{Drive}
use Rattle.script_exchanges.specs.declared.line.Drive.TheVariants.{Snapshots, Watchers}
use Rattle.script_exchanges.specs.declared.line.DriveLine.{DriveLine}
use Rattle.script_exchanges.specs.declared.line.DriveLine.TheVariants.{Script, Start, Turn}

-- ---- the line that starts to drive a party

-- its word
abbrev pub start_word : Drive → List ℕ
start_word Snapshots = codes "snap"
start_word Watchers = codes "watch"

-- how many things it names: 1 to 16 read handles, and of a watcher the listener before them
abbrev pub least_things : Drive → ℕ
least_things Snapshots = 1
least_things Watchers = 2

abbrev pub most_things : Drive → ℕ
most_things Snapshots = 16
most_things Watchers = 17

-- ---- lines

-- a whole line, token after token
abbrev pub drive_tokens : Drive → DriveLine → List (List ℕ)
drive_tokens d (Script l) = script_tokens l
drive_tokens d (Start party things) = start_word d ∷ party ∷ things
drive_tokens d (Turn party) = codes "turn" ∷ party ∷ []

-- the bytes of a line: its tokens with one space between two
abbrev pub drive_spell : Drive → DriveLine → List ℕ
drive_spell d l = join_with_byte 32 (drive_tokens d l)

-- the things that are named, as many as may be
pub record AreThings (d : Drive) (things : List (List ℕ)) : Type 0 where
  pub named : AllByRecursion (λ n. is_name n ≡ true) things
  pub least : least_things d ≤ length things
  pub most : length things ≤ most_things d

-- a line of the grammar
abbrev pub IsDriveLine : Drive → DriveLine → Type 0
IsDriveLine d (Script l) = IsScriptLine l
IsDriveLine d (Start party things) = (is_name party ≡ true) × AreThings d things
IsDriveLine d (Turn party) = is_name party ≡ true

-- these bytes are a line of the grammar
pub record SpellsDrive (d : Drive) (text : List ℕ) (l : DriveLine) : Type 0 where
  pub line : IsDriveLine d l
  pub bytes : text ≡ drive_spell d l
  pub short : length text ≤ 4096

-- no line of the grammar has these bytes
abbrev pub SpellsNoDrive : Drive → List ℕ → Type 0
SpellsNoDrive d text = (l : DriveLine) → SpellsDrive d text l → ⊥
