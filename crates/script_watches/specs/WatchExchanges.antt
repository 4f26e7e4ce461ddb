-- Scripts whose parties can be watchers: what is told of each line, and what stands afterwards.
use Rattle.std.specs.Prelude.{◌≡◌, ℕ, true, List, [], ◌∷◌, ◌++◌, codes, map, Option, Some, None, ⊤, ◌⊎◌}
use Rattle.std.specs.List.{flat_map}
use Rattle.board_model.specs.declared.line.Call.TheVariants as call
use Rattle.board_model.specs.declared.line.Line.TheVariants as board_line
use Rattle.script_model.specs.declared.line.ScriptLine.{ScriptLine}
use Rattle.script_model.specs.declared.line.ScriptLine.TheVariants as line
use Rattle.script_model.specs.ScriptAnswers.{ScriptAnswer, is_refused}
use Rattle.script_model.specs.ScriptSession.{IsRight, Session}
use Rattle.script_model.specs.LawsOfComposition.{state_met}
use Rattle.script_moments.specs.Watchers.{AskedId, IsAskedId}
use Rattle.script_exchanges.specs.declared.line.Drive.TheVariants.{Watchers}
use Rattle.script_exchanges.specs.declared.line.DriveLine.{DriveLine}
use Rattle.script_exchanges.specs.declared.line.DriveLine.TheVariants.{Script, Start, Turn}
use Rattle.script_exchanges.specs.DriveGrammar.{IsDriveLine}
use Rattle.script_exchanges.specs.DrivenParties.{abandoned_by, held_back, if_kept, kept_with, let_go, party_text}
use Rattle.script_exchanges.specs.Exchanges.{Exchanges, Told, given, said}
use Rattle.script_snapshots.specs.SnapshotExchanges.{says}
use Rattle.script_watches.specs.Watchings.{Outcome, Watching, ended, goes_on, new_watching, next_line, report_text, reports, taken}

-- after a script: the session that was fed, and the watchers of parties
pub record Watchings : Type 0 where
  pub fed : Session
  pub of : List ℕ → Option Watching

-- before the first line
abbrev pub no_watchings : Watchings
no_watchings = record { fed = []; of = λ party. None }

-- these pairs more are fed, and these are the watchers
abbrev pub fed_with : Watchings → Session → (List ℕ → Option Watching) → Watchings
fed_with s pairs of = record { fed = s.fed ++ pairs; of = of }

-- the pairs are given, and this is said of the party
abbrev pub gives_and_says : List Told → Session → List ℕ → List ℕ → Type 0
gives_and_says told pairs word party = told ≡ map given pairs ++ said (party_text word party) ∷ []

-- ---- lines of a plain script

-- the line is given, and its answer is right; an abandonment that isn't refused ends the watcher of its party
pub record IsGiven (s : Watchings) (l : ScriptLine) (told : List Told) (t : Watchings) : Type 0 where
  pub answer : ScriptAnswer
  pub right : IsRight (state_met s.fed) l answer
  pub told_is : told ≡ given (l, answer) ∷ []
  pub after : t ≡ fed_with s ((l, answer) ∷ []) (let_go s.of (abandoned_by l) (is_refused answer))

-- the line is held back where the party that it names is watched
abbrev pub OfScript : Watchings → ScriptLine → Option (List ℕ) → List Told → Watchings → Type 0
OfScript s l None told t = IsGiven s l told t
OfScript s l (Some party) told t = says told (codes "watched") party × (t ≡ s)

-- ---- a watcher begins

-- the line that begins to ask for the id of the handle's entry
abbrev pub id_line : List ℕ → List ℕ → ScriptLine
id_line party handle = line.Board (board_line.Begin party (call.Id handle))

abbrev pub pairs_of_id : AskedId → Session
pairs_of_id x = x.begun.pair ∷ x.ended.pair ∷ []

abbrev pub pairs_of_ids : List AskedId → Session
pairs_of_ids xs = flat_map pairs_of_id xs

-- after this session the party asks for the id of the handle in two lines, `begin P id H` and `step P`, and is told it; both answers are right
pub record IsToldId (fed : Session) (party handle : List ℕ) (x : AskedId) : Type 0 where
  pub is : IsAskedId party handle x
  pub begun_met : x.begun.met ≡ state_met fed
  pub begun_right : IsRight (state_met fed) x.begun.pair.0 x.begun.pair.1
  pub ended_met : x.ended.met ≡ state_met (fed ++ x.begun.pair ∷ [])
  pub ended_right : IsRight (state_met (fed ++ x.begun.pair ∷ [])) x.ended.pair.0 x.ended.pair.1

-- so for each of these handles, one after another
abbrev pub AreToldIds : Session → List ℕ → List (List ℕ) → List AskedId → Type 0
AreToldIds fed party [] [] = ⊤
AreToldIds fed party [] (x ∷ xs) = ⊥
AreToldIds fed party (h ∷ hs) [] = ⊥
AreToldIds fed party (h ∷ hs) (x ∷ xs) = IsToldId fed party h x × AreToldIds (fed ++ pairs_of_id x) party hs xs

-- each id is told, and the party is watched from now on
pub record IsOpened (s : Watchings) (party listener : List ℕ) (handles : List (List ℕ)) (told : List Told) (t : Watchings) : Type 0 where
  pub asked : List AskedId
  pub ids : AreToldIds s.fed party handles asked
  pub told_is : gives_and_says told (pairs_of_ids asked) (codes "watching") party
  pub after : t ≡ fed_with s (pairs_of_ids asked) (kept_with s.of party (Some (new_watching listener handles s.fed asked)))

-- the ids of the first handles are told, and the begin for the next one is refused: with that it ends. A step of such a begin is never refused
pub record IsTurnedDown (s : Watchings) (party : List ℕ) (handles : List (List ℕ)) (told : List Told) (t : Watchings) : Type 0 where
  pub first : List (List ℕ)
  pub handle : List ℕ
  pub others : List (List ℕ)
  pub parts : handles ≡ first ++ handle ∷ others
  pub asked : List AskedId
  pub ids : AreToldIds s.fed party first asked
  pub answer : ScriptAnswer
  pub right : IsRight (state_met (s.fed ++ pairs_of_ids asked)) (id_line party handle) answer
  pub refused : is_refused answer ≡ true
  pub told_is : gives_and_says told (pairs_of_ids asked ++ (id_line party handle, answer) ∷ []) (codes "unwatched") party
  pub after : t ≡ fed_with s (pairs_of_ids asked ++ (id_line party handle, answer) ∷ []) s.of

-- where the party is watched already, nothing is given
abbrev pub OfStart : Watchings → List ℕ → List ℕ → List (List ℕ) → Option Watching → List Told → Watchings → Type 0
OfStart s party listener handles (Some x) told t = says told (codes "watched") party × (t ≡ s)
OfStart s party listener handles None told t = IsOpened s party listener handles told t ⊎ IsTurnedDown s party handles told t

-- ---- a turn

-- what is said behind the answer
abbrev pub said_of : List ℕ → Outcome → List Told
said_of party (goes_on x) = []
said_of party (reports x r) = said (report_text party r) ∷ []
said_of party ended = said (party_text (codes "unwatched") party) ∷ []

-- the party is watched on
abbrev pub kept_of : Outcome → Option Watching
kept_of (goes_on x) = Some x
kept_of (reports x r) = Some x
kept_of ended = None

-- the watcher's next line is given, and its answer is right
pub record IsTurn (s : Watchings) (party : List ℕ) (x : Watching) (told : List Told) (t : Watchings) : Type 0 where
  pub answer : ScriptAnswer
  pub right : IsRight (state_met s.fed) (next_line party x) answer
  pub told_is : told ≡ given (next_line party x, answer) ∷ said_of party (taken s.fed party x answer)
  pub after : t ≡ fed_with s ((next_line party x, answer) ∷ []) (kept_with s.of party (kept_of (taken s.fed party x answer)))

abbrev pub OfTurn : Watchings → List ℕ → Option Watching → List Told → Watchings → Type 0
OfTurn s party None told t = says told (codes "unwatched") party × (t ≡ s)
OfTurn s party (Some x) told t = IsTurn s party x told t

-- ---- exchanges

-- what is rightly told of a line, and what stands afterwards
abbrev pub Exchanged : Watchings → DriveLine → List Told → Watchings → Type 0
Exchanged s (Script l) told t = OfScript s l (if_kept s.of (held_back l)) told t
Exchanged s (Start party []) told t = ⊥
Exchanged s (Start party (listener ∷ handles)) told t = OfStart s party listener handles (s.of party) told t
Exchanged s (Turn party) told t = OfTurn s party (s.of party) told t

-- the exchange is right, and leads so
pub record IsExchange (s : Watchings) (l : DriveLine) (told : List Told) (t : Watchings) : Type 0 where
  pub line : IsDriveLine Watchers l
  pub exchanged : Exchanged s l told t

-- the exchanges are right, one after another, and lead so
abbrev pub Leads : Watchings → Exchanges → Watchings → Type 0
Leads s [] t = t ≡ s
Leads s (x ∷ xs) t = (u : Watchings) × IsExchange s x.0 x.1 u × Leads u xs t

-- they are right from the start
abbrev pub IsLawful : Exchanges → Type 0
IsLawful xs = (t : Watchings) × Leads no_watchings xs t
