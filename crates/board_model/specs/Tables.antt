-- Boards, and the things of them. A thing has a holder and a name, of any kind: in a script a party and a text.
use Rattle.std.specs.Prelude.{ℕ, ◌+◌, Bool, true, false, not, ◌&&◌, ◌||◌, ◌==◌, max, if◌then◌else◌, List, [], ◌∷◌, length, map, find, Option, Some, None, slice_get}
use Rattle.std.specs.List.{list_any, list_all, count_by}
use Rattle.std.specs.Str.{bytes_eq}
use Rattle.board_layout.specs.declared.shape.CellPlace.{CellPlace}
use Rattle.board_layout.specs.declared.shape.Shape.{Shape}
use Rattle.board_layout.specs.declared.type_detail.TypeDetail.{TypeDetail}
use Rattle.board_layout.specs.Layout.{places_from}
use Rattle.board_model.specs.declared.attributes.Attribute.{Attribute}
use Rattle.board_model.specs.declared.attributes.Requirements.{Requirements}
use Rattle.board_model.specs.declared.tables.Entry.{Entry}
use Rattle.board_model.specs.declared.tables.Thing.{Thing}
use Rattle.board_model.specs.declared.tables.Board.{Board}
use Rattle.board_model.specs.declared.tables.NewLimits.{NewLimits}
use Rattle.board_model.specs.declared.tables.Kind.{Kind}
use Rattle.board_model.specs.declared.tables.Kind.TheVariants as kind
use Rattle.board_model.specs.declared.tables.ThingKind.{ThingKind}
use Rattle.board_model.specs.declared.tables.ThingKind.TheVariants as thing_kind
use Rattle.board_model.specs.TypeTable.{same_type}

-- the boards that stand, the things of them, and the numbers last drawn
pub record Tables (H N : Type 0) : Type 0 where
  pub boards : List Board
  pub things : List (Thing H N)
  pub last_board : ℕ
  pub last_port : ℕ

-- an entry that a new board is to have: the bytes of its key, the type of its values, and the words of its first value
pub record Added : Type 0 where
  pub key : List ℕ
  pub value : TypeDetail
  pub words : List ℕ

-- one where it holds, and else none
abbrev pub number_if : Bool → ℕ
number_if b = if b then 1 else 0

-- ---- lists

-- the test holds of what is there
abbrev pub holds_at : {A : Type 0} → Option A → (A → Bool) → Bool
holds_at None test = false
holds_at (Some x) test = test x

-- the list without the first that passes the test
abbrev pub without_first : {A : Type 0} → (A → Bool) → List A → List A
without_first p [] = []
without_first p (x ∷ xs) = if p x then xs else x ∷ without_first p xs

-- ---- looking up

-- it is the board that was given this number
abbrev pub is_numbered : ℕ → Board → Bool
is_numbered number b = b.number == number

-- it is the board that is called so
abbrev pub has_name : List ℕ → Board → Bool
has_name name b = bytes_eq b.name name

-- the board that stands under a number, if one does
abbrev pub board_at : {H N : Type 0} → Tables H N → ℕ → Option Board
board_at t number = find (is_numbered number) t.boards

-- the board that stands under a name, if one does
abbrev pub board_named : {H N : Type 0} → Tables H N → List ℕ → Option Board
board_named t name = find (has_name name) t.boards

-- the entry at a place among those of a board
abbrev pub entry_in : Option Board → ℕ → Option Entry
entry_in None i = None
entry_in (Some b) i = slice_get b.entries i

-- the entry at a place of the board with this number, if there is one
abbrev pub entry_at : {H N : Type 0} → Tables H N → ℕ → ℕ → Option Entry
entry_at t number i = entry_in (board_at t number) i

-- the first entry whose key passes the test, with its place
abbrev pub entry_from : ℕ → (List ℕ → Bool) → List Entry → Option (ℕ × Entry)
entry_from i is_key [] = None
entry_from i is_key (e ∷ es) = if is_key e.key.bytes then Some (i, e) else entry_from (i + 1) is_key es

-- what was found, where it has the type
abbrev pub of_type : TypeDetail → Option (ℕ × Entry) → Option (ℕ × Entry)
of_type value None = None
of_type value (Some found) = if same_type found.1.value value then Some found else None

-- the entry of a board with a key and a value type, with its place
abbrev pub entry_found : Option Board → (List ℕ → Bool) → TypeDetail → Option (ℕ × Entry)
entry_found None is_key value = None
entry_found (Some b) is_key value = of_type value (entry_from 0 is_key b.entries)

-- ---- what a thing is

-- what a thing is, without its port and its entry
abbrev pub kind_of : Kind → ThingKind
kind_of kind.Factory = thing_kind.Factory
kind_of (kind.Reader port) = thing_kind.Reader
kind_of (kind.Writer port) = thing_kind.Writer
kind_of (kind.ReadHandle entry) = thing_kind.ReadHandle
kind_of (kind.WriteHandle entry port) = thing_kind.WriteHandle

-- whether two kinds of things are one
abbrev pub same_kind : ThingKind → ThingKind → Bool
same_kind thing_kind.Factory thing_kind.Factory = true
same_kind thing_kind.Reader thing_kind.Reader = true
same_kind thing_kind.Writer thing_kind.Writer = true
same_kind thing_kind.ReadHandle thing_kind.ReadHandle = true
same_kind thing_kind.WriteHandle thing_kind.WriteHandle = true
same_kind a b = false

-- the port number that a thing keeps; 0 where it keeps none
abbrev pub port_of : Kind → ℕ
port_of kind.Factory = 0
port_of (kind.Reader port) = port
port_of (kind.Writer port) = port
port_of (kind.ReadHandle entry) = 0
port_of (kind.WriteHandle entry port) = port

-- the place of a handle's entry
abbrev pub entry_of : Kind → ℕ
entry_of kind.Factory = 0
entry_of (kind.Reader port) = 0
entry_of (kind.Writer port) = 0
entry_of (kind.ReadHandle entry) = entry
entry_of (kind.WriteHandle entry port) = entry

-- the thing belongs to the board with this number
abbrev pub is_of_board : {H N : Type 0} → ℕ → Thing H N → Bool
is_of_board board t = t.board == board

-- ---- what is counted over the things

-- a reader, which takes one of the reader slots
abbrev pub is_reader : Kind → Bool
is_reader kind.Factory = false
is_reader (kind.Reader port) = true
is_reader (kind.Writer port) = false
is_reader (kind.ReadHandle entry) = false
is_reader (kind.WriteHandle entry port) = false

-- the thing takes a reader slot of this board
abbrev pub is_reader_of : {H N : Type 0} → ℕ → Thing H N → Bool
is_reader_of board t = is_of_board board t && is_reader t.kind

-- the readers of the board
abbrev pub reader_slots : {H N : Type 0} → ℕ → List (Thing H N) → ℕ
reader_slots board things = count_by (is_reader_of board) things

-- the port of a writer, or of a handle made from one
abbrev pub writer_port : Kind → Option ℕ
writer_port kind.Factory = None
writer_port (kind.Reader port) = None
writer_port (kind.Writer port) = Some port
writer_port (kind.ReadHandle entry) = None
writer_port (kind.WriteHandle entry port) = Some port

-- the thing keeps the writer slot of this port of the board
abbrev pub is_of_port : {H N : Type 0} → ℕ → ℕ → Thing H N → Bool
is_of_port board port t = is_of_board board t && holds_at (writer_port t.kind) (λ p. p == port)

-- no later thing keeps the writer slot that this one keeps
abbrev pub is_last_of_port : {H N : Type 0} → ℕ → Thing H N → List (Thing H N) → Bool
is_last_of_port board t later = is_of_board board t && holds_at (writer_port t.kind) (λ p. not (list_any (is_of_port board p) later))

-- the different ports of the board's writers and of the handles made from them
abbrev pub writer_slots : {H N : Type 0} → ℕ → List (Thing H N) → ℕ
writer_slots board [] = 0
writer_slots board (t ∷ ts) = if is_last_of_port board t ts then writer_slots board ts + 1 else writer_slots board ts

-- a write handle of the entry
abbrev pub writes_entry : ℕ → Kind → Bool
writes_entry i kind.Factory = false
writes_entry i (kind.Reader port) = false
writes_entry i (kind.Writer port) = false
writes_entry i (kind.ReadHandle entry) = false
writes_entry i (kind.WriteHandle entry port) = entry == i

-- through this thing the entry at a place of the board may be written
abbrev pub is_write_handle : {H N : Type 0} → ℕ → ℕ → Thing H N → Bool
is_write_handle board i t = is_of_board board t && writes_entry i t.kind

-- the thing is of the board, and the holder has it
abbrev pub is_held_by : {H N : Type 0} → (H → H → Bool) → ℕ → H → Thing H N → Bool
is_held_by same board holder t = is_of_board board t && same t.holder holder

-- the holder has a thing of the board
abbrev pub is_node : {H N : Type 0} → (H → H → Bool) → ℕ → H → List (Thing H N) → Bool
is_node same board holder things = list_any (is_held_by same board holder) things

-- the different holders of things of the board
abbrev pub nodes_taken : {H N : Type 0} → (H → H → Bool) → ℕ → List (Thing H N) → ℕ
nodes_taken same board [] = 0
nodes_taken same board (t ∷ ts) =
    if is_of_board board t && not (is_node same board t.holder ts)
    then nodes_taken same board ts + 1 else nodes_taken same board ts

-- ---- new boards

-- the room that an added entry needs for a copy of its value
abbrev pub shape_of : Added → Shape
shape_of a = record { words = length a.words; alignment = a.value.alignment }

-- the room that each of the added entries needs, in their order
abbrev pub shapes_of : List Added → List Shape
shapes_of entries = map shape_of entries

-- one of the added entries has a key that is equal to this one
abbrev pub has_key : (List ℕ → List ℕ → Bool) → List ℕ → List Added → Bool
has_key same key entries = list_any (λ a. same a.key key) entries

-- two of the added entries have equal keys
abbrev pub has_equal_keys : (List ℕ → List ℕ → Bool) → List Added → Bool
has_equal_keys same [] = false
has_equal_keys same (a ∷ more) = has_key same a.key more || has_equal_keys same more

-- what was added, each at the cell that was planned for it
abbrev pub entries_of : List CellPlace → List Added → List Entry
entries_of [] entries = []
entries_of (c ∷ cs) [] = []
entries_of (c ∷ cs) (a ∷ more) = record { key = record { bytes = a.key }; value = a.value; cell = c } ∷ entries_of cs more

-- the limit that was asked for, raised to 1, or a default
abbrev pub limit_of : ℕ → Option ℕ → ℕ
limit_of default None = default
limit_of default (Some n) = max n 1

-- a board as it is made, with its limits settled and its cells planned
abbrev pub new_board : ℕ → List ℕ → TypeDetail → NewLimits → List Attribute → List Added → Board
new_board number name key limits attributes entries = record {
  number = number;
  name = name;
  key = key;
  max_readers = limit_of 8 limits.shared.max_readers;
  max_nodes = limit_of 20 limits.shared.max_nodes;
  max_writers = limit_of 1 limits.max_writers;
  attributes = attributes;
  entries = entries_of (places_from 0 (shapes_of entries)) entries;
}

-- ---- attributes

-- one of the attributes is this key with this value
abbrev pub has_pair : List Attribute → Attribute → Bool
has_pair attributes p = list_any (λ (a : Attribute). bytes_eq a.key p.key && bytes_eq a.value p.value) attributes

-- one of the attributes has this key, whatever its value
abbrev pub has_attribute : List Attribute → List ℕ → Bool
has_attribute attributes key = list_any (λ (a : Attribute). bytes_eq a.key key) attributes

-- the attributes have every pair and every key that is needed
abbrev pub meets : Requirements → List Attribute → Bool
meets needs attributes = list_all (has_pair attributes) needs.pairs && list_all (has_attribute attributes) needs.keys

-- ---- the same tables, with other holders and names

-- the same thing, with another holder and another name
abbrev pub rename : {H N K M : Type 0} → (H → K) → (N → M) → Thing H N → Thing K M
rename f g t = record { holder = f t.holder; name = g t.name; board = t.board; kind = t.kind }

-- the same boards and things, where each thing has another holder and name
abbrev pub renamed : {H N K M : Type 0} → (H → K) → (N → M) → Tables H N → Tables K M
renamed f g t = record { boards = t.boards; things = map (rename f g) t.things; last_board = t.last_board; last_port = t.last_port }
