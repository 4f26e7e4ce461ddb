-- Scripts whose parties can take snapshots: what is told of each line, and what stands afterwards.
use Rattle.std.specs.Prelude.{◌≡◌, ℕ, List, [], ◌∷◌, ◌++◌, codes, Option, Some, None}
use Rattle.script_model.specs.declared.line.ScriptLine.{ScriptLine}
use Rattle.script_model.specs.ScriptAnswers.{ScriptAnswer, is_refused}
use Rattle.script_model.specs.ScriptSession.{IsRight, Session}
use Rattle.script_model.specs.LawsOfComposition.{state_met}
use Rattle.script_exchanges.specs.declared.line.Drive.TheVariants.{Snapshots}
use Rattle.script_exchanges.specs.declared.line.DriveLine.{DriveLine}
use Rattle.script_exchanges.specs.declared.line.DriveLine.TheVariants.{Script, Start, Turn}
use Rattle.script_exchanges.specs.DriveGrammar.{IsDriveLine}
use Rattle.script_exchanges.specs.DrivenParties.{abandoned_by, held_back, if_kept, kept_with, let_go, party_text}
use Rattle.script_exchanges.specs.Exchanges.{Exchanges, Told, given, said}
use Rattle.script_snapshots.specs.Takings.{Outcome, Taking, ended, goes_on, new_taking, next_line, snapshot_text, taken, whole}

-- after a script: the session that was fed, and the snapshots that parties take
pub record Takings : Type 0 where
  pub fed : Session
  pub of : List ℕ → Option Taking

-- before the first line
abbrev pub no_takings : Takings
no_takings = record { fed = []; of = λ party. None }

-- this is said, and nothing else
abbrev pub says : List Told → List ℕ → List ℕ → Type 0
says told word party = told ≡ said (party_text word party) ∷ []

-- one pair more is fed, and these snapshots are taken
abbrev pub fed_with : Takings → ScriptLine → ScriptAnswer → (List ℕ → Option Taking) → Takings
fed_with s l a of = record { fed = s.fed ++ (l, a) ∷ []; of = of }

-- ---- lines of a plain script

-- the line is given, and its answer is right; an abandonment that isn't refused ends the snapshot of its party
pub record IsGiven (s : Takings) (l : ScriptLine) (told : List Told) (t : Takings) : Type 0 where
  pub answer : ScriptAnswer
  pub right : IsRight (state_met s.fed) l answer
  pub told_is : told ≡ given (l, answer) ∷ []
  pub after : t ≡ fed_with s l answer (let_go s.of (abandoned_by l) (is_refused answer))

-- the line is held back where the party that it names takes a snapshot
abbrev pub OfScript : Takings → ScriptLine → Option (List ℕ) → List Told → Takings → Type 0
OfScript s l None told t = IsGiven s l told t
OfScript s l (Some party) told t = says told (codes "snapping") party × (t ≡ s)

-- ---- a snapshot begins

-- where the party takes one already, nothing changes
abbrev pub started : Takings → List ℕ → List (List ℕ) → Option Taking → Takings
started s party handles None = record s { of = kept_with s.of party (Some (new_taking handles)) }
started s party handles (Some x) = s

-- ---- a turn

-- what is said behind the answer
abbrev pub said_of : List ℕ → Outcome → List Told
said_of party (goes_on x) = []
said_of party ended = said (party_text (codes "unsnapped") party) ∷ []
said_of party (whole x) = said (snapshot_text party x) ∷ []

-- the snapshot is taken on
abbrev pub kept_of : Outcome → Option Taking
kept_of (goes_on x) = Some x
kept_of ended = None
kept_of (whole x) = None

-- the snapshot's next line is given, and its answer is right
pub record IsTurn (s : Takings) (party : List ℕ) (x : Taking) (told : List Told) (t : Takings) : Type 0 where
  pub answer : ScriptAnswer
  pub right : IsRight (state_met s.fed) (next_line party x) answer
  pub told_is : told ≡ given (next_line party x, answer) ∷ said_of party (taken s.fed party x answer)
  pub after : t ≡ fed_with s (next_line party x) answer (kept_with s.of party (kept_of (taken s.fed party x answer)))

abbrev pub OfTurn : Takings → List ℕ → Option Taking → List Told → Takings → Type 0
OfTurn s party None told t = says told (codes "unsnapped") party × (t ≡ s)
OfTurn s party (Some x) told t = IsTurn s party x told t

-- ---- exchanges

-- what is rightly told of a line, and what stands afterwards
abbrev pub Exchanged : Takings → DriveLine → List Told → Takings → Type 0
Exchanged s (Script l) told t = OfScript s l (if_kept s.of (held_back l)) told t
Exchanged s (Start party handles) told t = says told (codes "snapping") party × (t ≡ started s party handles (s.of party))
Exchanged s (Turn party) told t = OfTurn s party (s.of party) told t

-- the exchange is right, and leads so
pub record IsExchange (s : Takings) (l : DriveLine) (told : List Told) (t : Takings) : Type 0 where
  pub line : IsDriveLine Snapshots l
  pub exchanged : Exchanged s l told t

-- the exchanges are right, one after another, and lead so
abbrev pub Leads : Takings → Exchanges → Takings → Type 0
Leads s [] t = t ≡ s
Leads s (x ∷ xs) t = (u : Takings) × IsExchange s x.0 x.1 u × Leads u xs t

-- they are right from the start
abbrev pub IsLawful : Exchanges → Type 0
IsLawful xs = (t : Takings) × Leads no_takings xs t
