-- Laws for programs that stand on scripts: what a line leaves of other parties, where it lengthens a list, and how the laws of boards are used.
use Rattle.std.specs.Prelude.{◌≡◌, ℕ, ◌+◌, ◌<◌, ◌≤◌, Bool, false, if◌then◌else◌, List, [], ◌∷◌, ◌++◌, length, None, is_some}
use Rattle.std.specs.Str.{bytes_eq}
use Rattle.board_model.specs.declared.answer.Answer.{Answer}
use Rattle.board_model.specs.declared.line.Line.{Line}
use Rattle.board_model.specs.declared.line.Line.TheVariants as board_line
use Rattle.board_model.specs.LawsOfOthers.{IsLeft, names_party}
use Rattle.board_model.specs.LawsOfSessions.{Pairs, publications_in, publishes_entry}
use Rattle.board_model.specs.LawsOfSessions as board_pairs
use Rattle.board_model.specs.Tables.{entry_at}
use Rattle.board_model.specs.Parties.{Running, running}
use Rattle.board_model.specs.Sound.{Sound}
use Rattle.script_model.specs.declared.line.ScriptLine.{ScriptLine}
use Rattle.script_model.specs.declared.line.ScriptLine.TheVariants as line
use Rattle.script_model.specs.ScriptAnswers.{ScriptAnswer, of_boards}
use Rattle.script_model.specs.ScriptTurns.{ScriptState, turn_of}
use Rattle.script_model.specs.ScriptSession.{IsLawful, IsLawfulFrom, IsRight, Session, after, start, state_after}
use Rattle.script_model.specs.SoundEvents.{IsSoundScript}
use Rattle.script_model.specs.Parts.{board_part}
use Rattle.script_model.specs.LawsOfComposition.{of_pair, state_met}

-- ---- other parties

-- the line names the party
abbrev pub names : List ℕ → ScriptLine → Bool
names party (line.Board l) = names_party party l
names party (line.Event p q) = bytes_eq party p
names party (line.Expire p) = bytes_eq party p

-- the party holds what it held, and what it runs is where it was: of boards and of events
pub record IsLeftAlone (old new : ScriptState) (party : List ℕ) : Type 0 where
  pub boards : IsLeft old.boards new.boards party
  pub things : (name : List ℕ) → new.events.things party name ≡ old.events.things party name
  pub asked : new.events.asked party ≡ old.events.asked party
  pub doing : new.events.session.doing party ≡ old.events.session.doing party

-- so a line leaves each party that it doesn't name
abbrev pub LinesLeaveParties : Type 0
LinesLeaveParties = (s : ScriptState) (l : ScriptLine) (a : ScriptAnswer) (party : List ℕ) → Sound s.boards → IsRight s l a → names party l ≡ false
    → IsLeftAlone s (after s l a) party

-- ---- published lists

-- the line and its answer end a publication of the entry
abbrev pub publishes : ScriptState → ScriptLine → ScriptAnswer → ℕ → ℕ → Bool
publishes s (line.Board l) (of_boards a) b i = publishes_entry s.boards l a b i
publishes s l a b i = false

-- what stands in a list stays, and a line makes it longer by one exactly where it ends a publication of the entry
abbrev pub LinesLengthenLists : Type 0
LinesLengthenLists = (s : ScriptState) (l : ScriptLine) (a : ScriptAnswer) (b i : ℕ) → b ≤ s.boards.standing.tables.last_board → IsRight s l a
    → (more : List (List ℕ)) × ((after s l a).boards.published b i ≡ s.boards.published b i ++ more) × (length more ≡ (if publishes s l a b i then 1 else 0))

-- a board that wasn't drawn before a line has no list after it; or the line made it, and each of its entries has one value
abbrev pub NewBoardsHaveOneValueEach : Type 0
NewBoardsHaveOneValueEach = (s : ScriptState) (l : ScriptLine) (a : ScriptAnswer) (b i : ℕ) → Sound s.boards → IsRight s l a → s.boards.standing.tables.last_board < b
    → length ((after s l a).boards.published b i) ≡ (if is_some (entry_at (after s l a).boards.standing.tables b i) then 1 else 0)

-- how many values of the entry a session publishes from this state on
abbrev pub publications : ScriptState → Session → ℕ → ℕ → ℕ
publications s [] b i = 0
publications s (pair ∷ pairs) b i = (if publishes s pair.0 pair.1 b i then 1 else 0) + publications (after s pair.0 pair.1) pairs b i

-- so many items longer is its list afterwards
abbrev pub SessionsLengthenLists : Type 0
SessionsLengthenLists = (s : ScriptState) (pairs : Session) (b i : ℕ) → b ≤ s.boards.standing.tables.last_board → IsLawfulFrom s pairs
    → (more : List (List ℕ)) × ((state_after s pairs).boards.published b i ≡ s.boards.published b i ++ more) × (length more ≡ publications s pairs b i)

-- ---- sessions of boards in a script

-- a session publishes as many values of an entry as its boards' part
abbrev pub PublicationsAreOfBoards : Type 0
PublicationsAreOfBoards = (s : ScriptState) (pairs : Session) (b i : ℕ) → IsLawfulFrom s pairs → publications s pairs b i ≡ publications_in s.boards (board_part s pairs) b i

-- the boards' part of two sessions, one after the other, is that of both
abbrev pub PartsJoin : Type 0
PartsJoin = (s : ScriptState) (xs ys : Session) → board_part s (xs ++ ys) ≡ board_part s xs ++ board_part (state_after s xs) ys

-- a step of a party whose call on boards runs is the boards' alone
abbrev pub BoardStepsAreAlone : Type 0
BoardStepsAreAlone = (s : ScriptState) (count : ℕ) (party : List ℕ) (r : Running) → IsSoundScript s count → s.boards.parties party ≡ running r
    → turn_of s (line.Board (board_line.Step party)) ≡ None

-- two pairs of boards in one lawful session of a script, one after the other, and all that came before and between
pub record ScriptPairs : Type 0 where
  pub before : Session
  pub one : Line × Answer
  pub between : Session
  pub two : Line × Answer
  pub lawful : IsLawful ((before ++ of_pair one ∷ between) ++ of_pair two ∷ [])

-- the states that they met
abbrev pub at_one : ScriptPairs → ScriptState
at_one p = state_met p.before

abbrev pub at_two : ScriptPairs → ScriptState
at_two p = state_met (p.before ++ of_pair p.one ∷ p.between)

-- the same two pairs in a lawful session of boards, where they met the same boards; before and between them is the boards' part of what was there
pub record ArePairsOfBoards (p : ScriptPairs) : Type 0 where
  pub pairs : Pairs
  pub before : pairs.before ≡ board_part start p.before
  pub one : pairs.one ≡ p.one
  pub between : pairs.between ≡ board_part (after (at_one p) (line.Board p.one.0) (of_boards p.one.1)) p.between
  pub two : pairs.two ≡ p.two
  pub met_one : board_pairs.at_one pairs ≡ (at_one p).boards
  pub met_two : board_pairs.at_two pairs ≡ (at_two p).boards

-- so each law of sessions of boards holds of two pairs of a script that are the boards' alone
abbrev pub PairsAreOfBoards : Type 0
PairsAreOfBoards = (p : ScriptPairs) → turn_of (at_one p) (line.Board p.one.0) ≡ None → turn_of (at_two p) (line.Board p.two.0) ≡ None → ArePairsOfBoards p
