-- A step by the short way: a word is read or written, and nothing is told, or `ok` with the last write of an update.
use Rattle.std.specs.Prelude.{◌≡◌, ℕ, ◌+◌, Bool, true, false, if◌then◌else◌, List, Option, Some, None}
use Rattle.board_cell.specs.Calls.{Getting, Updating, hearing}
use Rattle.board_cell_model.specs.declared.access.Access.{Access}
use Rattle.board_cell_model.specs.declared.access.Access.TheVariants as access
use Rattle.board_cell_model.specs.OwedAccesses.{owed_read, owed_write, to_read, to_write}
use Rattle.board_model.specs.AnswerGrammar.{IsAccess}
use Rattle.board_model.specs.declared.answer.Answer.{Answer}
use Rattle.board_model.specs.declared.answer.Answer.TheVariants as answer
use Rattle.board_model.specs.declared.answer.Reason.TheVariants as reason
use Rattle.board_model.specs.declared.answer.Reply.TheVariants as reply
use Rattle.board_model.specs.declared.line.Line.TheVariants as line
use Rattle.script_parties.specs.Parties.{HasWord, IsLoaded, IsStored, Parties}
use Rattle.script_boards.specs.declared.machine.BoardMachine.{BoardMachine}
use Rattle.script_boards.specs.declared.machine.Task.{Task}
use Rattle.script_boards.specs.declared.machine.Task.TheVariants as task
use Rattle.script_boards.specs.declared.short_steps.ShortStep.{ShortStep}
use Rattle.script_boards.specs.declared.short_steps.ShortWay.{ShortWay}
use Rattle.script_boards.specs.declared.short_steps.ShortWay.TheVariants as way
use Rattle.script_boards.specs.declared.step.OwedAccess.TheVariants as owed
use Rattle.script_boards.specs.declared.step.OwedRead.{OwedRead}
use Rattle.script_boards.specs.declared.step.OwedWrite.{OwedWrite}
use Rattle.script_boards.specs.GetSteps.{RunsPlainGet}
use Rattle.script_boards.specs.Machine.{Serves}
use Rattle.script_boards.specs.Steps.{IsOwedBy, IsSame, ends_call, ticked}

-- ---- one access of a call on a cell

-- the word that a get owes is one of the board
abbrev pub HasReadWord : Parties → ℕ → Getting → Type 0
HasReadWord p board call = (word : ℕ) → to_read board word ≡ owed_read board call.shape call.reading → HasWord p board word

-- the get read the word that it owed, and heard it
pub record IsWordRead (old new : Parties) (board : ℕ) (call heard : Getting) (made : Access) : Type 0 where
  pub word : ℕ
  pub value : ℕ
  pub made_is : made ≡ access.Read board word value
  pub owed : to_read board word ≡ owed_read board call.shape call.reading
  pub loaded : IsLoaded old board word value
  pub heard_is : heard ≡ hearing call value
  pub same : new ≡ old
  pub numbers : IsAccess (access.Read board word value)

-- the word that a publication owes is one of the board
abbrev pub HasWrittenWord : Parties → ℕ → Updating → Type 0
HasWrittenWord p board call = (word value : ℕ) → to_write board word value ≡ owed_write board call.shape call.generation call.words call.written → HasWord p board word

-- the publication wrote the word that it owed
pub record IsWordWritten (old new : Parties) (board : ℕ) (call after : Updating) (made : Access) : Type 0 where
  pub word : ℕ
  pub value : ℕ
  pub made_is : made ≡ access.Write board word value
  pub owed : to_write board word value ≡ owed_write board call.shape call.generation call.words call.written
  pub stored : IsStored old new board word value
  pub after_is : after ≡ record call { written = call.written + 1 }
  pub numbers : IsAccess (access.Write board word value)

-- ---- of a task

-- the words that the task may owe are of their boards
pub record HasOwedWords (p : Parties) (t : Task) : Type 0 where
  pub reads : (r : OwedRead) → IsOwedBy t (owed.Read r) → HasWord p r.board r.word
  pub writes : (w : OwedWrite) → IsOwedBy t (owed.Write w) → HasWord p w.board w.word

-- the word that the task owes was read, and that isn't the last access of its call
pub record IsReadOf (old new : Parties) (t after : Task) (board word value : ℕ) (is_done : Bool) : Type 0 where
  pub owed : IsOwedBy t (owed.Read (record { board = board; word = word }))
  pub loaded : IsLoaded old board word value
  pub more : ends_call t value ≡ false
  pub after_is : after ≡ ticked t value
  pub same : new ≡ old
  pub numbers : IsAccess (access.Read board word value)
  pub goes_on : is_done ≡ false

-- an update
abbrev pub IsUpdateTask : Task → Type 0
IsUpdateTask (task.Update board call) = Unit {0}
IsUpdateTask t = ⊥

-- the word that the task owes was written, and its call is done with it, or goes on; none but an update is done
pub record IsWriteOf (old new : Parties) (t after : Task) (board word value : ℕ) (is_done : Bool) : Type 0 where
  pub owed : IsOwedBy t (owed.Write (record { board = board; word = word; value = value; is_last = is_done }))
  pub stored : IsStored old new board word value
  pub after_is : after ≡ ticked t 0
  pub numbers : IsAccess (access.Write board word value)
  pub ends : is_done ≡ true → IsUpdateTask t

-- the task made this access
abbrev pub IsAccessOf : Parties → Parties → Task → Task → Access → Bool → Type 0
IsAccessOf old new t after access.Table is_done = ⊥
IsAccessOf old new t after (access.Read board word value) is_done = IsReadOf old new t after board word value is_done
IsAccessOf old new t after (access.Write board word value) is_done = IsWriteOf old new t after board word value is_done

-- it did where there is one, and else nothing changes
abbrev pub MakesAccess : Parties → Parties → Task → Task → Option ShortStep → Type 0
MakesAccess old new t after (Some made) = IsAccessOf old new t after made.access made.is_done
MakesAccess old new t after None = (after ≡ t) × (new ≡ old)

-- ---- the step

-- its answer: `ok` is told where the call is done
abbrev pub short_answer : ShortStep → Answer
short_answer made = answer.Step made.access (if made.is_done then Some reply.Done else None)

-- the step is answered so; where the way leads nowhere, nothing of the machine changed
abbrev pub IsShortWay : {C : Type 0} → BoardMachine C → BoardMachine C → List ℕ → ShortWay → Type 0
IsShortWay old new party way.Idle = Serves old new (line.Step party) (answer.Refused reason.Idle)
IsShortWay old new party (way.Made made) = Serves old new (line.Step party) (short_answer made)
IsShortWay old new party way.Get = IsSame old new × RunsPlainGet new party
IsShortWay old new party way.Nowhere = IsSame old new
