-- The state of a script that a machine stands for.
use Rattle.std.specs.Prelude.{◌≡◌, ℕ, ◌<◌, ◌^◌, Bool, List, length, Option, Some, None, is_some, option_map}
use Rattle.std.specs.HashMap as hash
use Rattle.std.specs.Option.{option_flatten}
use Rattle.std.specs.Str.{bytes_eq}
use Rattle.board_cell_model.specs.declared.access.Access.{Access}
use Rattle.board_model.specs.declared.answer.Answer.{Answer}
use Rattle.board_model.specs.declared.line.Line.{Line}
use Rattle.board_model.specs.declared.value.ValueType.{ValueType}
use Rattle.board_model.specs.TypeTable.{value_type_of, value_words}
use Rattle.board_model.specs.Tables.{Tables, board_at}
use Rattle.board_model.specs.Things.{Kept}
use Rattle.board_model.specs.Requests.{Fetch, Look, Publication, Request, create, info, entry, entry_mut, fresh, get, id, open_, keys, nodes, reader, table, gen, update, writer}
use Rattle.board_model.specs.Parties.{Party, Running, free, gone, reading, running}
use Rattle.board_model.specs.LineGrammar.{IsLine}
use Rattle.board_model.specs.LawsOfBounds.{AreNumbers, IsWithin}
use Rattle.board_model.specs.LawsOfForms.{AreFormed}
use Rattle.board_model.specs.LawfulSession.{IsRight, State, after}
use Rattle.board_model.specs.Sound.{Sound}
use Rattle.board_cell.specs.Calls.{Asking, Getting, Updating}
use Rattle.script_parties.specs.Parties.{words_of_boards}
use Rattle.script_seats.specs.Seats.{same_seat}
use Rattle.script_boards.specs.Loans.{IsDiscardTask, IsFillTask, IsLoanTask, IsPublishTask, IsPutTask, lent_words}
use Rattle.script_boards.specs.declared.machine.KeptValue.{KeptValue}
use Rattle.script_boards.specs.declared.machine.BoardMachine.{BoardMachine}
use Rattle.script_boards.specs.declared.machine.Task.{Task}
use Rattle.script_boards.specs.declared.machine.Task.TheVariants as task
use Rattle.script_boards.specs.declared.tasks.PartyTasks.{PartyTasks}
use Rattle.script_boards.specs.declared.machine.TableTask.{TableTask}
use Rattle.script_boards.specs.declared.machine.TableTask.TheVariants as table_task

-- ---- running calls

-- what the call of a party has still to do, or that the party is gone
abbrev pub task_in : PartyTasks → List ℕ → Option Task
task_in tasks party = option_flatten (hash.get bytes_eq tasks.places party)

-- the same, of a machine
abbrev pub task_of : {C : Type 0} → BoardMachine C → List ℕ → Option Task
task_of m party = task_in m.parties party

-- the call of a task on the tables is this request
abbrev pub IsTableTask : TableTask → Request → Type 0
IsTableTask (table_task.Create f n k l attributes entries) q = q ≡ table (create f n k l attributes entries)
IsTableTask (table_task.Open f n k l needs) q = q ≡ table (open_ f n k l needs)
IsTableTask (table_task.Reader n x) q = q ≡ table (reader n x)
IsTableTask (table_task.Writer n x) q = q ≡ table (writer n x)
IsTableTask (table_task.Entry n x k type) q = q ≡ table (entry n x k type)
IsTableTask (table_task.EntryMut n x k type) q = q ≡ table (entry_mut n x k type)
IsTableTask (table_task.Loan handle lent words) q = IsLoanTask handle lent words q
IsTableTask (table_task.Discard lent handle) q = IsDiscardTask lent handle q
IsTableTask (table_task.Keys x) q = q ≡ table (keys x)
IsTableTask (table_task.Nodes x) q = q ≡ table (nodes x)
IsTableTask (table_task.Info x) q = q ≡ table (info x)
IsTableTask (table_task.Id x) q = q ≡ table (id x)
IsTableTask (table_task.Gen x) q = q ≡ table (gen x)

-- a get after these accesses
abbrev pub getting : Fetch → List Access → Getting
getting f so_far = record { shape = f.shape; reading = reading f.shape.words so_far }

-- a get that runs is what is left of this fetch
pub record IsGet (board : ℕ) (call : Getting) (type : ValueType) (name : Option (List ℕ)) (q : Request) (so_far : List Access) : Type 0 where
  pub fetch : Fetch
  pub request : q ≡ get fetch
  pub board_is : board ≡ fetch.board
  pub call_is : call ≡ getting fetch so_far
  pub type_is : type ≡ value_type_of fetch.type
  pub name_is : name ≡ fetch.name

-- a look that has read nothing
abbrev pub asking : Look → Asking
asking l = record { shape = l.shape; generation = l.generation; counter = None }

-- a look that runs is this one
pub record IsFresh (board : ℕ) (call : Asking) (q : Request) : Type 0 where
  pub look : Look
  pub request : q ≡ fresh look
  pub board_is : board ≡ look.board
  pub call_is : call ≡ asking look

-- an update after so many accesses
abbrev pub updating : Publication → ℕ → Updating
updating u k = record { shape = u.shape; generation = u.generation; words = value_words u.value; written = k }

-- an update that runs is what is left of this publication
pub record IsUpdate (board : ℕ) (call : Updating) (q : Request) (k : ℕ) : Type 0 where
  pub publication : Publication
  pub request : q ≡ update publication
  pub board_is : board ≡ publication.board
  pub call_is : call ≡ updating publication k

-- the task is what a call has still to do after these accesses
abbrev pub IsTaskOf : Task → Request → List Access → Type 0
IsTaskOf (task.Table t) q so_far = IsTableTask t q
IsTaskOf (task.Get board call type name) q so_far = IsGet board call type name q so_far
IsTaskOf (task.Fresh board call) q so_far = IsFresh board call q
IsTaskOf (task.Update board call) q so_far = IsUpdate board call q (length so_far)
IsTaskOf (task.Put board call lent index word) q so_far = IsPutTask board call lent index word q
IsTaskOf (task.Publish board call lent handle) q so_far = IsPublishTask board call lent handle q
IsTaskOf (task.Fill board call lent handle) q so_far = IsFillTask board call lent handle q (length so_far)
IsTaskOf task.Gone q so_far = ⊥

-- the task of a party whose call runs
pub record IsKeptCall (kept : Option Task) (r : Running) : Type 0 where
  pub task : Task
  pub found : kept ≡ Some task
  pub is : IsTaskOf task r.request r.so_far

-- this is kept of a party
abbrev pub IsKeptOf : Option Task → Party → Type 0
IsKeptOf kept free = kept ≡ None
IsKeptOf kept (running r) = IsKeptCall kept r
IsKeptOf kept gone = kept ≡ Some task.Gone

-- ---- values

-- a value as the definitions have it
abbrev pub kept_of : KeptValue → Kept
kept_of v = record { type = v.value_type; words = v.words; generation = v.generation }

-- the value that a party kept last under a name
abbrev pub kept : {C : Type 0} → BoardMachine C → List ℕ → List ℕ → Option Kept
kept m party name = option_map kept_of (hash.get same_seat m.values (record { party = party; name = name }))

-- ---- the machine

-- the tables of the machine's domain
abbrev pub tables_of : {C : Type 0} → BoardMachine C → Tables (List ℕ) (List ℕ)
tables_of m = m.domain.tables

-- the machine stands for the state
pub record Represents {C : Type 0} (m : BoardMachine C) (s : State) : Type 0 where
  pub tables : s.standing.tables ≡ tables_of m
  pub words : m.domain.words ≡ words_of_boards s.memory m.domain.tables.boards
  pub parties : (p : List ℕ) → IsKeptOf (task_of m p) (s.parties p)
  pub loans : (p n : List ℕ) → s.standing.loans p n ≡ lent_words m p n
  pub values : (p n : List ℕ) → s.standing.values p n ≡ kept m p n

-- it holds of each state that the machine stands for
abbrev pub OfEach : {C : Type 0} → BoardMachine C → (State → Type 0) → Type 0
OfEach m Holds = (s : State) → Represents m s → Holds s

-- the board stands
abbrev pub has_board : State → ℕ → Bool
has_board s number = is_some (board_at s.standing.tables number)

-- what holds of a state that a lawful session of fewer than 2^63 pairs led to
pub record IsReached (s : State) : Type 0 where
  pub sound : Sound s
  pub count : ℕ
  pub few : count < 2 ^ 63
  pub within : IsWithin s count
  pub numbers : AreNumbers s
  pub formed : AreFormed s count

-- the machine stands for a state that a lawful session led to
pub record IsLed {C : Type 0} (m : BoardMachine C) : Type 0 where
  pub state : State
  pub represents : Represents m state
  pub reached : IsReached state
  pub few : m.domain.drawn < 2 ^ 63

-- how many things were made
abbrev pub drawn_by : {C : Type 0} → BoardMachine C → ℕ
drawn_by m = m.domain.drawn

-- the answer is right after each state that the machine stood for, and the machine stands for what follows
abbrev pub Serves : {C : Type 0} → BoardMachine C → BoardMachine C → Line → Answer → Type 0
Serves old new l a = OfEach old (λ s. IsReached s → IsLine l → IsRight s l a × Represents new (after s l a))
