-- Drivers that answer lines, and how far a run of one has come.
use Rattle.std.specs.Prelude.{◌≡◌, ℕ, ◌<◌, ◌^◌, List, [], ◌∷◌, ◌++◌, length, Option}
use Rattle.std.specs.Io.KnownBytes.{Appends}
use Rattle.script_exchanges.specs.declared.line.Drive.{Drive}
use Rattle.script_exchanges.specs.declared.line.DriveLine.{DriveLine}
use Rattle.script_exchanges.specs.DriveGrammar.{SpellsDrive}
use Rattle.script_exchanges.specs.Exchanges.{Answered, Exchanges, Told, output_of, text_of}

-- the driver stands for these exchanges, which are lawful and few
pub record StandsFor {M : Type 0} (Lawful : Exchanges → Type 0) (stands : M → Exchanges → Type 0) (m : M) (xs : Exchanges) : Type 0 where
  pub lawful : Lawful xs
  pub few : length xs < 2 ^ 32
  pub state : stands m xs

-- it stands for some exchanges
abbrev pub IsAtWork : {M : Type 0} → (Exchanges → Type 0) → (M → Exchanges → Type 0) → M → Type 0
IsAtWork Lawful stands m = (xs : Exchanges) × StandsFor Lawful stands m xs

-- the text is what is rightly told of the line, and the driver stands for the exchanges with this one
pub record IsTelling {M : Type 0} (Lawful : Exchanges → Type 0) (stands : M → Exchanges → Type 0) (new : M) (xs : Exchanges) (line : DriveLine) (text : List ℕ) : Type 0 where
  pub told : List Told
  pub lawful : Lawful (xs ++ (line, told) ∷ [])
  pub state : stands new (xs ++ (line, told) ∷ [])
  pub text_is : text ≡ text_of told

-- so it is for all exchanges that it stands for
abbrev pub Tells : {M : Type 0} → (Exchanges → Type 0) → (M → Exchanges → Type 0) → M → M → DriveLine → List ℕ → Type 0
Tells Lawful stands old new line text = (xs : Exchanges) → StandsFor Lawful stands old xs → IsTelling Lawful stands new xs line text

-- the bytes spell a line, and the text is what is rightly told of it
pub record HasTold {M : Type 0} (d : Drive) (Lawful : Exchanges → Type 0) (stands : M → Exchanges → Type 0) (new : M) (xs : Exchanges) (bytes text : List ℕ) : Type 0 where
  pub line : DriveLine
  pub spelled : SpellsDrive d bytes line
  pub is : IsTelling Lawful stands new xs line text

-- so it is for all exchanges that it stands for
abbrev pub TellsEach : {M : Type 0} → Drive → (Exchanges → Type 0) → (M → Exchanges → Type 0) → M → M → List ℕ → List ℕ → Type 0
TellsEach d Lawful stands old new bytes text = (xs : Exchanges) → StandsFor Lawful stands old xs → HasTold d Lawful stands new xs bytes text

-- a line of the grammar has these bytes
abbrev pub SpellsSomeDrive : Drive → List ℕ → Type 0
SpellsSomeDrive d bytes = (line : DriveLine) × SpellsDrive d bytes line

-- it stands for what it stood for
abbrev pub StandsStill : {M : Type 0} → (M → Exchanges → Type 0) → M → M → Type 0
StandsStill stands old new = (xs : Exchanges) → stands old xs → stands new xs

-- so many lines were answered, and the rest is left
pub record HasRun {M : Type 0} (d : Drive) (Lawful : Exchanges → Type 0) (stands : M → Exchanges → Type 0) (m : M) (count : ℕ) (input left before held : Option (List ℕ)) : Type 0 where
  pub exchanges : Exchanges
  pub lawful : Lawful exchanges
  pub state : stands m exchanges
  pub counted : length exchanges ≡ count
  pub answered : Answered d input left exchanges
  pub output : Appends before held (output_of exchanges)
