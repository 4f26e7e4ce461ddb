-- How a snapshot that a party takes is kept.
use Rattle.std.specs.Prelude.{◌≡◌, ℕ, true, false, List, [], ◌∷◌, Option, Some, None, is_some, ◌⊎◌, if◌then◌else◌}
use Rattle.std.specs.List.{AllByRecursion}
use Rattle.board_cell_model.specs.declared.access.Access.{Access}
use Rattle.board_model.specs.declared.answer.Answer.TheVariants as answer
use Rattle.board_model.specs.declared.answer.Reply.TheVariants as reply
use Rattle.board_model.specs.AnswerGrammar.{IsAnswer}
use Rattle.board_model.specs.LineGrammar.{is_name}
use Rattle.script_model.specs.ScriptAnswers.{ScriptAnswer, is_refused, of_boards, script_answer_line}
use Rattle.script_model.specs.ScriptSession.{Session}
use Rattle.script_moments.specs.Moments.{Moment}
use Rattle.script_moments.specs.Gets.{Round, generations}
use Rattle.script_exchanges.specs.DrivenParties.{Got}
use Rattle.script_exchanges.specs.Exchanges.{said, told_text}
use Rattle.script_snapshots.specs.Takings.{Outcome, Taking, ended, gets_text, goes_on, snapshot_text, stepped_get, taken, whole}
use Rattle.script_shots.specs.declared.shot.Progress.{Progress}
use Rattle.script_shots.specs.declared.shot.Progress.TheVariants.{GoesOn, Refused, Whole}
use Rattle.script_shots.specs.declared.shot.Shot.{Shot}

-- the generations of the last of the rounds
abbrev pub last_generations : List Round → Option (List ℕ)
last_generations [] = None
last_generations (one ∷ []) = Some (generations one)
last_generations (one ∷ two ∷ more) = last_generations (two ∷ more)

-- the snapshot is kept so
pub record Keeps (c : Shot) (x : Taking) : Type 0 where
  pub handles : c.handles.items ≡ x.handles
  pub named : AllByRecursion (λ n. is_name n ≡ true) x.handles
  pub runs : c.runs ≡ is_some x.shot.begun
  pub earlier : last_generations x.shot.rounds ≡ (if c.has_earlier then Some c.earlier.items else None)
  pub generations : c.generations.items ≡ generations x.shot.gets
  pub told : c.told.items ≡ gets_text x.handles x.shot.gets

-- what is written of its gets is that of the whole snapshot
abbrev pub SaysWhole : Shot → Taking → Type 0
SaysWhole c y = c.told.items ≡ gets_text y.handles y.shot.gets

abbrev pub whole_line : List ℕ → Taking → List ℕ
whole_line party y = told_text (said (snapshot_text party y))

-- what became of it
abbrev pub IsProgress : Shot → Progress → Outcome → Type 0
IsProgress c GoesOn (goes_on y) = Keeps c y
IsProgress c GoesOn ended = ⊥
IsProgress c GoesOn (whole y) = ⊥
IsProgress c Refused (goes_on y) = ⊥
IsProgress c Refused ended = Unit {0}
IsProgress c Refused (whole y) = ⊥
IsProgress c Whole (goes_on y) = ⊥
IsProgress c Whole ended = ⊥
IsProgress c Whole (whole y) = SaysWhole c y

-- ---- the answers that a snapshot may be given

-- a step of its get goes on
abbrev pub IsGoingOn : ScriptAnswer → Type 0
IsGoingOn a = (x : Access) × IsAnswer (answer.Step x None) × (a ≡ of_boards (answer.Step x None))

-- or its get ends
abbrev pub IsGetting : ScriptAnswer → Type 0
IsGetting a = (x : Access) × (got : Got) × IsAnswer (answer.Step x (Some (reply.Got got.type got.words got.generation))) × (a ≡ of_boards (answer.Step x (Some (reply.Got got.type got.words got.generation))))

-- an accepted line, which begins a get or is a step of the one that runs
abbrev pub FitsGet : Option (Moment × List Moment) → ScriptAnswer → Type 0
FitsGet None a = Unit {0}
FitsGet (Some get) a = IsGoingOn a ⊎ IsGetting a

abbrev pub Fits : Taking → ScriptAnswer → Type 0
Fits x a = (is_refused a ≡ true) ⊎ ((is_refused a ≡ false) × FitsGet x.shot.begun a)

-- ---- what its calls do

-- with the answer the snapshot becomes what the definitions say
abbrev pub Follows : Shot → Shot → List ℕ → Progress → Type 0
Follows old new bytes p =
    (fed : Session) (party : List ℕ) (x : Taking) (a : ScriptAnswer) → Keeps old x → Fits x a → bytes ≡ script_answer_line a → IsProgress new p (taken fed party x a)

-- the get that runs has ended with this
abbrev pub FollowsGot : Shot → Shot → Got → Progress → Type 0
FollowsGot old new got p = (x : Taking) (get : Moment × List Moment) (m : Moment) → Keeps old x → IsProgress new p (stepped_get x get m (Some got))
