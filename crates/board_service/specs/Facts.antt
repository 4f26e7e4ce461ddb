-- What is true of every domain, whoever has it.
use Rattle.std.specs.Prelude.{◌≡◌, ℕ, ◌*◌, ◌≤◌, ◌<◌, Bool, true, ◌==◌, nat_eq, List, [], ◌∷◌, ◌++◌, length, find, Option, Some, None, is_some, IfSome, false}
use Rattle.std.specs.List.{list_any, count_by, cons_option, AllByRecursion}
use Rattle.board_layout.specs.declared.shape.CellPlace.{CellPlace}
use Rattle.board_layout.specs.Layout.{LiesBefore}
use Rattle.board_model.specs.declared.tables.Board.{Board}
use Rattle.board_model.specs.declared.tables.Entry.{Entry}
use Rattle.board_model.specs.declared.tables.Thing.{Thing}
use Rattle.board_model.specs.declared.tables.Kind.{Kind}
use Rattle.board_model.specs.declared.tables.Kind.TheVariants as kind
use Rattle.board_model.specs.Tables.{Tables, board_at, entry_at, has_name, is_numbered, is_of_board, is_write_handle, port_of, reader_slots, writer_slots, nodes_taken}
use Rattle.board_model.specs.declared.tables.ThingKind.{ThingKind}
use Rattle.board_layout.specs.declared.type_detail.TypeDetail.{TypeDetail}
use Rattle.board_service.specs.Domain.{Domain, Stands, is_thing, stands_as}

-- the numbers of all in a list differ, and none is above the last that was drawn; `has` looks for a number
abbrev pub AreDrawn : {A : Type 0} → (A → ℕ) → (ℕ → A → Bool) → ℕ → List A → Type 0
AreDrawn number has last [] = Unit {0}
AreDrawn number has last (x ∷ xs) = (number x ≤ last) × (find (has (number x)) xs ≡ None) × AreDrawn number has last xs

abbrev pub board_number : Board → ℕ
board_number b = b.number

abbrev pub thing_number : Thing ℕ ℕ → ℕ
thing_number t = t.name

abbrev pub port_number : ℕ → ℕ
port_number port = port

abbrev pub is_port : ℕ → ℕ → Bool
is_port number port = port == number

-- the port that was drawn for a reader or a writer; a write handle has its writer's
abbrev pub drawn_port : Kind → Option ℕ
drawn_port kind.Factory = None
drawn_port (kind.Reader port) = Some port
drawn_port (kind.Writer port) = Some port
drawn_port (kind.ReadHandle entry) = None
drawn_port (kind.WriteHandle entry port) = None

-- the ports of the readers and writers
abbrev pub ports_of : List (Thing ℕ ℕ) → List ℕ
ports_of [] = []
ports_of (t ∷ ts) = cons_option (drawn_port t.kind) (ports_of ts)

-- a thing's port, its own or its writer's, is none above the last that was drawn
abbrev pub HasPort : ℕ → Thing ℕ ℕ → Type 0
HasPort last t = port_of t.kind ≤ last

-- the place of a handle's entry among its board's; None where the thing is no handle
abbrev pub handle_entry : Kind → Option ℕ
handle_entry kind.Factory = None
handle_entry (kind.Reader port) = None
handle_entry (kind.Writer port) = None
handle_entry (kind.ReadHandle entry) = Some entry
handle_entry (kind.WriteHandle entry port) = Some entry

-- how many entries a board has; none where no board stands
abbrev pub entry_count : Option Board → ℕ
entry_count None = 0
entry_count (Some b) = length b.entries

-- a handle's entry is one of its board's
abbrev pub HasEntry : List Board → Thing ℕ ℕ → Type 0
HasEntry boards t = IfSome (handle_entry t.kind) (λ entry. entry < entry_count (find (is_numbered t.board) boards))

-- the place of the entry that a thing writes
abbrev pub written_entry : Kind → Option ℕ
written_entry kind.Factory = None
written_entry (kind.Reader port) = None
written_entry (kind.Writer port) = None
written_entry (kind.ReadHandle entry) = None
written_entry (kind.WriteHandle entry port) = Some entry

-- the entry that the thing is to write has no write handle yet
abbrev pub WritesAlone : List (Thing ℕ ℕ) → Thing ℕ ℕ → Type 0
WritesAlone things t = IfSome (written_entry t.kind) (λ entry. list_any (is_write_handle t.board entry) things ≡ false)

-- no more readers, writer slots and nodes are taken of the board than it may have
pub record IsWithinLimits (things : List (Thing ℕ ℕ)) (b : Board) : Type 0 where
  pub readers : reader_slots b.number things ≤ b.max_readers
  pub writers : writer_slots b.number things ≤ b.max_writers
  pub nodes : nodes_taken nat_eq b.number things ≤ b.max_nodes

-- the same of the board with a number, where it stands
abbrev pub KeepsLimits : List Board → List (Thing ℕ ℕ) → ℕ → Type 0
KeepsLimits boards things board = IfSome (find (is_numbered board) boards) (λ b. IsWithinLimits things b)

-- the cell has a head, and its place is the byte at which its first word begins
pub record IsPlaced (c : CellPlace) : Type 0 where
  pub head : 0 < c.head
  pub begins : c.place ≡ 8 * c.first

-- what is true of the tables of every domain: numbers differ and were drawn, names of boards differ, a board stands exactly while
-- a thing of it does, its limits are kept, and each of its entries has at most one write handle; a board's entries lie one behind
-- another, and its keys are short
pub record AreTables (t : Tables ℕ ℕ) (last_thing : ℕ) : Type 0 where
  pub boards : AreDrawn board_number is_numbered t.last_board t.boards
  pub names : (name : List ℕ) → count_by (has_name name) t.boards ≤ 1
  pub things : AreDrawn thing_number is_thing last_thing t.things
  pub ports : AreDrawn port_number is_port t.last_port (ports_of t.things)
  pub handles : AllByRecursion (HasPort t.last_port) t.things
  pub entries : AllByRecursion (HasEntry t.boards) t.things
  pub standing : (board : ℕ) → is_some (board_at t board) ≡ list_any (is_of_board board) t.things
  pub limits : (board : ℕ) → KeepsLimits t.boards t.things board
  pub writers : (board entry : ℕ) → count_by (is_write_handle board entry) t.things ≤ 1
  pub apart : (board i j : ℕ) (e f : Entry) → entry_at t board i ≡ Some e → entry_at t board j ≡ Some f → i < j
      → LiesBefore e.cell f.cell
  pub placed : (board i : ℕ) (e : Entry) → entry_at t board i ≡ Some e → IsPlaced e.cell
  pub keyed : (board : ℕ) → IfSome (board_at t board) (λ b. b.key.size ≤ 64)

-- what is true of every domain: besides, each board has its cells
pub record IsDomain {C : Type 0} (d : Domain C) : Type 0 where
  pub tables : AreTables d.tables d.last_thing
  pub cells : length d.cells ≡ length d.tables.boards

-- one thing more is within the limits of its board
abbrev pub HasRoomFor : {C : Type 0} → Domain C → Thing ℕ ℕ → Type 0
HasRoomFor d x = KeepsLimits d.tables.boards (d.tables.things ++ x ∷ []) x.board

-- ---- who holds what

-- a thing of this kind stands, of a board with keys of this type: what `is_held` would tell
pub record IsHeldAs {C : Type 0} (d : Domain C) (key : TypeDetail) (thing : ℕ) (k : ThingKind) : Type 0 where
  pub as_kind : stands_as d key thing k ≡ true
  pub stands : Stands d thing

-- a thing of this kind stands, of the board of another one, whatever the type of its keys
pub record IsHeldBeside {C : Type 0} (old new : Domain C) (other thing : ℕ) (k : ThingKind) : Type 0 where
  pub as_kind : (key : TypeDetail) (was : ThingKind) → stands_as old key other was ≡ true → stands_as new key thing k ≡ true
  pub stands : Stands new thing

-- what was held is held still
pub record KeepsHeld {C : Type 0} (old new : Domain C) : Type 0 where
  pub as_kind : (key : TypeDetail) (thing : ℕ) (k : ThingKind) → stands_as old key thing k ≡ true → stands_as new key thing k ≡ true
  pub stands : (thing : ℕ) → Stands old thing → Stands new thing
