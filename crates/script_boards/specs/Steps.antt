-- What the parts of a step do to a machine.
use Rattle.std.specs.Prelude.{◌≡◌, ℕ, ◌+◌, ◌<◌, ◌≤◌, ◌==◌, if◌then◌else◌, Bool, true, false, List, length, Option, Some, None, IsSome, is_some, option_map, slice_index, slice_index_or}
use Rattle.std.specs.List.{position_from}
use Rattle.std.specs.Str.{bytes_eq}
use Rattle.board_model.specs.declared.answer.Reply.{Reply}
use Rattle.board_model.specs.declared.answer.Reply.TheVariants as reply
use Rattle.board_model.specs.declared.tables.Entry.{Entry}
use Rattle.board_model.specs.declared.value.ValueType.{ValueType}
use Rattle.board_cell_model.specs.OwedAccesses.{spare_at}
use Rattle.board_cell_model.specs.OwedAccesses.{Owed, hear, is_finished, owed_read, owed_write, to_read, to_write}
use Rattle.board_model.specs.declared.tables.ThingKind.TheVariants as thing_kind
use Rattle.board_model.specs.LawfulSession.{is_typed_key}
use Rattle.board_model.specs.LineGrammar.{AreAttributes, AreRequirements, is_board_name}
use Rattle.board_model.specs.Tables.{board_at, entry_at, entry_of, is_numbered, kind_of}
use Rattle.board_model.specs.Things.{Held, Kept, with_at}
use Rattle.board_model.specs.Replies.{id_number, info_of, nodes_of}
use Rattle.board_cell.specs.Calls.{Getting, Updating, counter_of}
use Rattle.board_cell.specs.Calls as cells
use Rattle.board_cell.specs.declared.access.Access.{Access}
use Rattle.board_cell.specs.declared.access.Access.TheVariants as access
use Rattle.script_boards.specs.declared.machine.BoardMachine.{BoardMachine}
use Rattle.script_boards.specs.declared.machine.TableTask.{TableTask}
use Rattle.script_boards.specs.declared.machine.TableTask.TheVariants as table_task
use Rattle.script_boards.specs.declared.machine.Task.{Task}
use Rattle.script_boards.specs.declared.machine.Task.TheVariants as task
use Rattle.script_boards.specs.declared.step.OwedAccess.{OwedAccess}
use Rattle.script_boards.specs.declared.step.OwedAccess.TheVariants as owed
use Rattle.script_boards.specs.declared.step.OwedWrite.{OwedWrite}
use Rattle.script_boards.specs.LoanCalls.{IsGivenBack, IsLoaned}
use Rattle.script_boards.specs.Loans.{lent_words}
use Rattle.script_parties.specs.Overview.{keys_shown, standing_with}
use Rattle.script_parties.specs.Parties.{IsCreate, IsEntry, IsEntryMut, IsFew, IsOpen, IsReader, IsReleased, IsStored, IsWriter, IsStandingThing}
use Rattle.script_boards.specs.Machine.{kept, tables_of, task_of}
use Rattle.script_boards.specs.TableCalls.{IsRest}

-- ---- the access that is owed

-- the party was abandoned
abbrev pub is_gone : Task → Bool
is_gone (task.Table t) = false
is_gone (task.Get board call type name) = false
is_gone (task.Fresh board call) = false
is_gone (task.Update board call) = false
is_gone (task.Put board call loan index word) = false
is_gone (task.Publish board call loan handle) = false
is_gone (task.Fill board call loan handle) = false
is_gone task.Gone = true

-- the party whose task this is, if it has one, was abandoned
abbrev pub was_abandoned : Option Task → Bool
was_abandoned None = false
was_abandoned (Some t) = is_gone t

-- the call owes an access
abbrev pub CanGoOn : Task → Type 0
CanGoOn (task.Table t) = Unit {0}
CanGoOn (task.Get board call type name) = is_finished call.reading ≡ false
CanGoOn (task.Fresh board call) = call.counter ≡ None
CanGoOn (task.Update board call) = call.written ≤ length call.words
CanGoOn (task.Put board call loan index word) = call.done ≡ false
CanGoOn (task.Publish board call loan handle) = call.done ≡ false
CanGoOn (task.Fill board call loan handle) = call.written ≤ length call.words
CanGoOn task.Gone = ⊥

-- an access to a cell, as one of the board; a write is its call's last one, or not
abbrev pub owed_on : ℕ → Access → Bool → OwedAccess
owed_on board (access.Read word) last = owed.Read (record { board = board; word = word })
owed_on board (access.Write word value) last = owed.Write (record { board = board; word = word; value = value; is_last = last })

-- the write is the one that a publication of words owes
pub record IsOwedWrite (board : ℕ) (call : Updating) (w : OwedWrite) : Type 0 where
  pub board_is : w.board ≡ board
  pub access : to_write w.board w.word w.value ≡ owed_write board call.shape call.generation call.words call.written
  pub last : w.is_last ≡ (call.written == length call.words)

-- the write is the one that a call of one write owes
pub record IsOnlyWrite (board : ℕ) (owes : Owed) (w : OwedWrite) : Type 0 where
  pub board_is : w.board ≡ board
  pub access : to_write w.board w.word w.value ≡ owes
  pub last : w.is_last ≡ true

-- the call owes this access
abbrev pub IsOwedBy : Task → OwedAccess → Type 0
IsOwedBy (task.Table t) owed.Table = Unit {0}
IsOwedBy (task.Get board call type name) (owed.Read r) = to_read r.board r.word ≡ owed_read board call.shape call.reading
IsOwedBy (task.Fresh board call) (owed.Read r) = to_read r.board r.word ≡ to_read board call.shape.first
IsOwedBy (task.Update board call) (owed.Write w) = IsOwedWrite board call w
IsOwedBy (task.Put board call loan index word) (owed.Write w) = IsOnlyWrite board (to_write board (spare_at call.shape call.generation + call.index) call.word) w
IsOwedBy (task.Publish board call loan handle) (owed.Write w) = IsOnlyWrite board (to_write board call.shape.first (call.generation + 1)) w
IsOwedBy (task.Fill board call loan handle) (owed.Write w) = IsOwedWrite board call w
IsOwedBy t o = ⊥

-- the party's call owes this access
pub record Owes {C : Type 0} (m : BoardMachine C) (party : List ℕ) (o : OwedAccess) : Type 0 where
  pub task : Task
  pub stands : task_of m party ≡ Some task
  pub owes : IsOwedBy task o

-- an access was made, and a read gave this word
abbrev pub ticked : Task → ℕ → Task
ticked (task.Get board call type name) v = task.Get board (record call { reading = hear call.shape.words call.reading v }) type name
ticked (task.Fresh board call) v = task.Fresh board (record call { counter = Some v })
ticked (task.Update board call) v = task.Update board (record call { written = call.written + 1 })
ticked (task.Put board call loan index word) v = task.Put board (record call { done = true }) loan index word
ticked (task.Publish board call loan handle) v = task.Publish board (record call { done = true }) loan handle
ticked (task.Fill board call loan handle) v = task.Fill board (record call { written = call.written + 1 }) loan handle
ticked t v = t

-- the access is the last of its call
abbrev pub ends_call : Task → ℕ → Bool
ends_call (task.Get board call type name) v = is_finished (hear call.shape.words call.reading v)
ends_call (task.Update board call) v = call.written == length call.words
ends_call (task.Fill board call loan handle) v = call.written == length call.words
ends_call t v = true

-- ---- tasks of parties

-- the boards and their words stand, and each party holds what it held
pub record HoldsAsBefore {C : Type 0} (old new : BoardMachine C) : Type 0 where
  pub domain : new.domain ≡ old.domain
  pub values : new.values ≡ old.values
  pub loans : new.loans ≡ old.loans

-- a party has this from now on, or nothing, and the others have what they had
abbrev pub IsPut : (List ℕ → Option Task) → (List ℕ → Option Task) → List ℕ → Option Task → Type 0
IsPut old new party o = (p : List ℕ) → new p ≡ (if bytes_eq party p then o else old p)

-- the call made an access that isn't its last, and the other calls stay
pub record GoesOn (old new : List ℕ → Option Task) (party : List ℕ) (t : Task) (word : ℕ) : Type 0 where
  pub more : ends_call t word ≡ false
  pub tasks : IsPut old new party (Some (ticked t word))

-- the call made its last access, and its task is taken out
pub record EndsWith (old new : List ℕ → Option Task) (party : List ℕ) (t : Task) (word : ℕ) (x : Task) : Type 0 where
  pub last : ends_call t word ≡ true
  pub task : x ≡ ticked t word
  pub tasks : IsPut old new party None

-- the call goes on, or it ends with this task
abbrev pub GoesOnOrEnds : (List ℕ → Option Task) → (List ℕ → Option Task) → List ℕ → Task → ℕ → Option Task → Type 0
GoesOnOrEnds old new party t word None = GoesOn old new party t word
GoesOnOrEnds old new party t word (Some x) = EndsWith old new party t word x

-- so it is of the party's call
abbrev pub HasHeard : (List ℕ → Option Task) → (List ℕ → Option Task) → List ℕ → ℕ → Option Task → Type 0
HasHeard old new party word left = (t : Task) → old party ≡ Some t → GoesOnOrEnds old new party t word left

-- the party's call made a write, and the other calls stay
abbrev pub HasTicked : (List ℕ → Option Task) → (List ℕ → Option Task) → List ℕ → Type 0
HasTicked old new party = (t : Task) → old party ≡ Some t → IsPut old new party (Some (ticked t 0))

-- ---- words

-- nothing of it changed
pub record IsSame {C : Type 0} (old new : BoardMachine C) : Type 0 where
  pub domain : new.domain ≡ old.domain
  pub rest : IsRest old new

-- one word of the board's words is set
pub record IsWordSet {C : Type 0} (old new : BoardMachine C) (board word value : ℕ) : Type 0 where
  pub stored : IsStored old.domain new.domain board word value
  pub rest : IsRest old new

-- the board and the entry stand, and the entry's counter is a word of the board
pub record HasCounter {C : Type 0} (m : BoardMachine C) (board i : ℕ) : Type 0 where
  pub place : ℕ
  pub entry : Entry
  pub stands : Some place ≡ position_from (is_numbered board) 0 m.domain.tables.boards
  pub found : entry_at (tables_of m) board i ≡ Some entry
  pub inside : place < length m.domain.words
  pub word_inside : (d : List ℕ) → entry.cell.first < length (slice_index_or m.domain.words place d)

-- the number is the counter word of the entry
abbrev pub IsCounter : {C : Type 0} → BoardMachine C → ℕ → ℕ → ℕ → Type 0
IsCounter m board i g = (place : ℕ) (e : Entry) (d : List ℕ) → Some place ≡ position_from (is_numbered board) 0 m.domain.tables.boards → entry_at (tables_of m) board i ≡ Some e
    → g ≡ slice_index (slice_index_or m.domain.words place d) e.cell.first

-- ---- calls on the tables

-- numbers can be drawn, names and attributes are of the grammar, and what the call uses stands
abbrev pub CanRun : {C : Type 0} → BoardMachine C → List ℕ → TableTask → Type 0
CanRun m party (table_task.Create f n k l attributes entries) = IsFew m.domain × (is_board_name n ≡ true) × AreAttributes attributes
CanRun m party (table_task.Open f n k l needs) = IsFew m.domain × (is_board_name n ≡ true) × AreRequirements needs
CanRun m party (table_task.Reader n x) = IsFew m.domain × IsStandingThing m.domain x
CanRun m party (table_task.Writer n x) = IsFew m.domain × IsStandingThing m.domain x
CanRun m party (table_task.Entry n x k type) = IsFew m.domain × IsStandingThing m.domain x × (kind_of x.kind ≡ thing_kind.Reader) × (is_typed_key (board_at m.domain.tables x.board) k ≡ true)
CanRun m party (table_task.EntryMut n x k type) = IsFew m.domain × IsStandingThing m.domain x × (kind_of x.kind ≡ thing_kind.Writer) × (is_typed_key (board_at m.domain.tables x.board) k ≡ true)
CanRun m party (table_task.Loan handle loan words) = Unit {0}
CanRun m party (table_task.Discard loan handle) = Unit {0}
CanRun m party (table_task.Keys x) = Unit {0}
CanRun m party (table_task.Nodes x) = Unit {0}
CanRun m party (table_task.Info x) = is_some (board_at m.domain.tables x.board) ≡ true
CanRun m party (table_task.Id x) = Unit {0}
CanRun m party (table_task.Gen x) = HasCounter m x.board (entry_of x.kind)

-- the counter is told, and nothing changes
pub record IsGen {C : Type 0} (old new : BoardMachine C) (x : Held) (told : Reply) : Type 0 where
  pub counter : ℕ
  pub told_is : told ≡ reply.Generation counter
  pub is_counter : IsCounter old x.board (entry_of x.kind) counter
  pub same : new ≡ old

-- the reply is told, and nothing changes
pub record IsShown {C : Type 0} (old new : BoardMachine C) (shown told : Reply) : Type 0 where
  pub told_is : told ≡ shown
  pub same : new ≡ old

-- what a call on the tables is told, and what it changes
abbrev pub IsTold : {C : Type 0} → BoardMachine C → BoardMachine C → List ℕ → TableTask → Reply → Type 0
IsTold old new party (table_task.Create f n k l attributes entries) told = IsCreate old.domain new.domain party f n k l attributes entries told × IsRest old new
IsTold old new party (table_task.Open f n k l needs) told = IsOpen old.domain new.domain party f n k l needs told × IsRest old new
IsTold old new party (table_task.Reader n x) told = IsReader old.domain new.domain n x told × IsRest old new
IsTold old new party (table_task.Writer n x) told = IsWriter old.domain new.domain n x told × IsRest old new
IsTold old new party (table_task.Entry n x k type) told = IsEntry old.domain new.domain n x k type told × IsRest old new
IsTold old new party (table_task.EntryMut n x k type) told = IsEntryMut old.domain new.domain n x k type told × IsRest old new
IsTold old new party (table_task.Loan handle loan words) told = (told ≡ reply.Done) × IsLoaned old new party handle loan words
IsTold old new party (table_task.Discard loan handle) told = (told ≡ reply.Done) × IsGivenBack old new party loan handle
IsTold old new party (table_task.Keys x) told = IsShown old new (reply.Keys (keys_shown (board_at old.domain.tables x.board))) told
IsTold old new party (table_task.Nodes x) told = IsShown old new (reply.Nodes (nodes_of x.board old.domain.tables.things)) told
IsTold old new party (table_task.Info x) told = IsShown old new (reply.Info (info_of old.domain.tables.things (board_at old.domain.tables x.board))) told
IsTold old new party (table_task.Id x) told = IsShown old new (reply.Id (id_number (standing_with old.domain.tables) x x.kind)) told
IsTold old new party (table_task.Gen x) told = IsGen old new x told

-- ---- drop

-- what a party held under a name is gone, and a board with its last thing
pub record IsLetGo {C : Type 0} (old new : BoardMachine C) (party name : List ℕ) : Type 0 where
  pub domain : IsReleased old.domain new.domain party name
  pub values : kept new ≡ with_at (kept old) party name None
  pub loans : lent_words new ≡ with_at (lent_words old) party name None
  pub parties : task_of new ≡ task_of old

-- ---- reads that end

-- the read has all of its words
abbrev pub HasRead : Task → Type 0
HasRead (task.Get board call type name) = is_finished call.reading ≡ true
HasRead (task.Fresh board call) = IsSome call.counter
HasRead t = ⊥

-- the party keeps this under the name, and all else stays
pub record IsKept {C : Type 0} (old new : BoardMachine C) (party name : List ℕ) (value : Kept) : Type 0 where
  pub values : kept new ≡ with_at (kept old) party name (Some value)
  pub domain : new.domain ≡ old.domain
  pub parties : task_of new ≡ task_of old
  pub loans : lent_words new ≡ lent_words old

-- the values of parties, with that of a get where it is to be kept
abbrev pub kept_anew : (List ℕ → List ℕ → Option Kept) → List ℕ → Option (List ℕ) → ValueType → Getting → List ℕ → List ℕ → Option Kept
kept_anew values party None type call = values
kept_anew values party (Some name) type call = with_at values party name (Some (record { type = type; words = cells.words_of call.reading; generation = counter_of call.reading }))

-- what a finished read tells
abbrev pub read_told : Task → Option Reply
read_told (task.Get board call type name) = Some (reply.Got type (cells.words_of call.reading) (counter_of call.reading))
read_told (task.Fresh board call) = option_map (λ v. reply.Fresh (v == call.generation)) call.counter
read_told t = None

-- the values of parties after a finished read
abbrev pub values_read : (List ℕ → List ℕ → Option Kept) → List ℕ → Task → List ℕ → List ℕ → Option Kept
values_read values party (task.Get board call type name) = kept_anew values party name type call
values_read values party t = values

-- a finished read is told so, and its value is kept
pub record IsReadTold {C : Type 0} (old new : BoardMachine C) (party : List ℕ) (t : Task) (told : Reply) : Type 0 where
  pub told_is : read_told t ≡ Some told
  pub values : kept new ≡ values_read (kept old) party t
  pub domain : new.domain ≡ old.domain
  pub parties : task_of new ≡ task_of old
  pub loans : lent_words new ≡ lent_words old
