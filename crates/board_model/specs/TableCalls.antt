-- The calls on the tables: their refusals in order, what they answer, and the tables after them.
use Rattle.std.specs.Prelude.{ℕ, ◌+◌, Bool, not, ◌&&◌, ◌||◌, ◌==◌, nat_le, nat_lt, if◌then◌else◌, List, [], ◌∷◌, ◌++◌, length, Option, Some, None, is_none, Result, Ok, Err}
use Rattle.std.specs.List.{list_any}
use Rattle.board_layout.specs.declared.type_detail.TypeDetail.{TypeDetail}
use Rattle.board_layout.specs.Layout.{payload}
use Rattle.board_model.specs.declared.attributes.Attribute.{Attribute}
use Rattle.board_model.specs.declared.attributes.Requirements.{Requirements}
use Rattle.board_model.specs.declared.tables.Entry.{Entry}
use Rattle.board_model.specs.declared.tables.Thing.{Thing}
use Rattle.board_model.specs.declared.tables.Board.{Board}
use Rattle.board_model.specs.declared.tables.Limits.{Limits}
use Rattle.board_model.specs.declared.tables.NewLimits.{NewLimits}
use Rattle.board_model.specs.declared.tables.Kind.TheVariants as kind
use Rattle.board_names.specs.declared.errors.boards.BlackboardCreateError.{BlackboardCreateError}
use Rattle.board_names.specs.declared.errors.boards.BlackboardCreateError.TheVariants as create_error
use Rattle.board_names.specs.declared.errors.boards.BlackboardOpenError.{BlackboardOpenError}
use Rattle.board_names.specs.declared.errors.boards.BlackboardOpenError.TheVariants as open_error
use Rattle.board_names.specs.declared.errors.boards.ReaderCreateError.{ReaderCreateError}
use Rattle.board_names.specs.declared.errors.boards.ReaderCreateError.TheVariants as reader_error
use Rattle.board_names.specs.declared.errors.boards.WriterCreateError.{WriterCreateError}
use Rattle.board_names.specs.declared.errors.boards.WriterCreateError.TheVariants as writer_error
use Rattle.board_names.specs.declared.errors.boards.EntryHandleError.{EntryHandleError}
use Rattle.board_names.specs.declared.errors.boards.EntryHandleError.TheVariants as entry_error
use Rattle.board_names.specs.declared.errors.boards.EntryHandleMutError.{EntryHandleMutError}
use Rattle.board_names.specs.declared.errors.boards.EntryHandleMutError.TheVariants as entry_mut_error
use Rattle.board_model.specs.TypeTable.{same_type}
use Rattle.board_model.specs.Tables.{Tables, Added, holds_at, without_first, is_numbered, has_name, board_at, board_named, is_of_board, reader_slots, writer_slots, is_write_handle, is_node, nodes_taken, shapes_of, has_equal_keys, new_board, meets, port_of}

-- neither limit is set
abbrev pub no_limits : Limits
no_limits = record { max_readers = None; max_nodes = None }

-- ---- refusals

-- the first refusal whose test holds
abbrev pub first_of : {E : Type 0} → List (Bool × E) → Option E
first_of [] = None
first_of (r ∷ rs) = if r.0 then Some r.1 else first_of rs

-- so a call is answered
abbrev pub answer_of : {A E : Type 0} → Option E → A → Result A E
answer_of None x = Ok x
answer_of (Some e) x = Err e

-- what a call is told, and the tables after it
abbrev pub asked : {A E T : Type 0} → Option E → A → T → T → Result A E × T
asked None x after before = (Ok x, after)
asked (Some e) x after before = (Err e, before)

-- the tables with one more thing, after all the others
abbrev pub with_thing : {H N : Type 0} → Tables H N → Thing H N → Tables H N
with_thing t x = record t { things = t.things ++ x ∷ [] }

-- ---- create

-- two keys are equal, or the cells are too large
abbrev pub is_corrupted : (List ℕ → List ℕ → Bool) → List Added → Bool
is_corrupted same_key entries = has_equal_keys same_key entries || nat_lt 4294967295 (payload (shapes_of entries))

-- why a new board may be refused, in the order of trying
abbrev pub create_refusals : (List ℕ → List ℕ → Bool) → List Board → List ℕ → List Added → List (Bool × BlackboardCreateError)
create_refusals same_key boards name entries =
    (list_any (has_name name) boards, create_error.AlreadyExists)
    ∷ (length entries == 0, create_error.NoEntriesProvided)
    ∷ (is_corrupted same_key entries, create_error.ServiceInCorruptedState)
    ∷ []

-- a board with the next number, and a factory of it
abbrev pub created : {H N : Type 0} → Tables H N → H → N → List ℕ → TypeDetail → NewLimits → List Attribute → List Added → Tables H N
created t holder name board key limits attributes entries =
    with_thing
    (record t { boards = t.boards ++ new_board (t.last_board + 1) board key limits attributes entries ∷ []; last_board = t.last_board + 1 })
    (record { holder = holder; name = name; board = t.last_board + 1; kind = kind.Factory })

-- what the making of a board is told, and the tables after it
abbrev pub create_asked : {H N : Type 0} → (List ℕ → List ℕ → Bool) → Tables H N → H → N → List ℕ → TypeDetail → NewLimits → List Attribute → List Added → Result ℕ BlackboardCreateError × Tables H N
create_asked same_key t holder name board key limits attributes entries =
    asked (first_of (create_refusals same_key t.boards board entries)) (t.last_board + 1) (created t holder name board key limits attributes entries) t

-- ---- open

-- more is asked for than the limit of the board
abbrev pub asks_above : Option ℕ → ℕ → Bool
asks_above asked limit = holds_at asked (λ n. nat_lt limit n)

-- the holder is no node of the board, and as many are as may be
abbrev pub has_all_nodes : {H N : Type 0} → (H → H → Bool) → H → List (Thing H N) → Board → Bool
has_all_nodes same holder things b = not (is_node same b.number holder things) && nat_le b.max_nodes (nodes_taken same b.number things)

-- why an opening of a board may be refused, in the order of trying
abbrev pub open_refusals : {H N : Type 0} → (H → H → Bool) → List (Thing H N) → H → Option Board → TypeDetail → Limits → Requirements → List (Bool × BlackboardOpenError)
open_refusals same things holder board key limits needs =
    (is_none board, open_error.DoesNotExist)
    ∷ (holds_at board (λ b. not (same_type b.key key)), open_error.IncompatibleKeys)
    ∷ (holds_at board (λ b. not (meets needs b.attributes)), open_error.IncompatibleAttributes)
    ∷ (holds_at board (λ b. asks_above limits.max_readers b.max_readers), open_error.DoesNotSupportRequestedAmountOfReaders)
    ∷ (holds_at board (λ b. asks_above limits.max_nodes b.max_nodes), open_error.DoesNotSupportRequestedAmountOfNodes)
    ∷ (holds_at board (has_all_nodes same holder things), open_error.ExceedsMaxNumberOfNodes)
    ∷ []

-- the number of the board that was found; 0 where none was
abbrev pub number_of : Option Board → ℕ
number_of None = 0
number_of (Some b) = b.number

-- one more factory
abbrev pub joined : {H N : Type 0} → Tables H N → H → N → Option Board → Tables H N
joined t holder name board = with_thing t (record { holder = holder; name = name; board = number_of board; kind = kind.Factory })

-- what the opening of a board is told, and the tables after it
abbrev pub open_asked : {H N : Type 0} → (H → H → Bool) → Tables H N → H → N → List ℕ → TypeDetail → Limits → Requirements → Result ℕ BlackboardOpenError × Tables H N
open_asked same t holder name board key limits needs =
    asked (first_of (open_refusals same t.things holder (board_named t board) key limits needs)) (number_of (board_named t board)) (joined t holder name (board_named t board)) t

-- ---- ports; `of` is the factory

-- a board has as many reader slots as its limit says
abbrev pub reader_refusals : {H N : Type 0} → List (Thing H N) → Option Board → List (Bool × ReaderCreateError)
reader_refusals things board = (holds_at board (λ b. nat_le b.max_readers (reader_slots b.number things)), reader_error.ExceedsMaxSupportedReaders) ∷ []

-- one more reader for the factory's holder, with the next port number
abbrev pub with_reader : {H N : Type 0} → Tables H N → Thing H N → N → Tables H N
with_reader t of name =
    with_thing (record t { last_port = t.last_port + 1 }) (record { holder = of.holder; name = name; board = of.board; kind = kind.Reader (t.last_port + 1) })

-- what the making of a reader is told, and the tables after it
abbrev pub reader_asked : {H N : Type 0} → Tables H N → Thing H N → N → Result ℕ ReaderCreateError × Tables H N
reader_asked t of name = asked (first_of (reader_refusals t.things (board_at t of.board))) (t.last_port + 1) (with_reader t of name) t

-- a board has as many writer slots as its limit says
abbrev pub writer_refusals : {H N : Type 0} → List (Thing H N) → Option Board → List (Bool × WriterCreateError)
writer_refusals things board = (holds_at board (λ b. nat_le b.max_writers (writer_slots b.number things)), writer_error.ExceedsMaxSupportedWriters) ∷ []

-- one more writer for the factory's holder, with the next port number
abbrev pub with_writer : {H N : Type 0} → Tables H N → Thing H N → N → Tables H N
with_writer t of name =
    with_thing (record t { last_port = t.last_port + 1 }) (record { holder = of.holder; name = name; board = of.board; kind = kind.Writer (t.last_port + 1) })

-- what the making of a writer is told, and the tables after it
abbrev pub writer_asked : {H N : Type 0} → Tables H N → Thing H N → N → Result ℕ WriterCreateError × Tables H N
writer_asked t of name = asked (first_of (writer_refusals t.things (board_at t of.board))) (t.last_port + 1) (with_writer t of name) t

-- ---- handles; `of` is the reader or writer, and `found` the entry that was looked up, with its place

-- the place of the entry that was found; 0 where none was
abbrev pub place_of : Option (ℕ × Entry) → ℕ
place_of None = 0
place_of (Some found) = found.0

-- the entry id: the byte at which its cell begins
abbrev pub id_of : Option (ℕ × Entry) → ℕ
id_of None = 0
id_of (Some found) = found.1.cell.place

-- a read handle is refused only where no such entry was found
abbrev pub entry_refusals : Option (ℕ × Entry) → List (Bool × EntryHandleError)
entry_refusals found = (is_none found, entry_error.EntryDoesNotExist) ∷ []

-- one more read handle for the reader's holder, of the entry that was found
abbrev pub with_read_handle : {H N : Type 0} → Tables H N → Thing H N → N → Option (ℕ × Entry) → Tables H N
with_read_handle t of name found =
    with_thing t (record { holder = of.holder; name = name; board = of.board; kind = kind.ReadHandle (place_of found) })

-- what the making of a read handle is told, and the tables after it
abbrev pub entry_asked : {H N : Type 0} → Tables H N → Thing H N → N → Option (ℕ × Entry) → Result ℕ EntryHandleError × Tables H N
entry_asked t of name found = asked (first_of (entry_refusals found)) (id_of found) (with_read_handle t of name found) t

-- a write handle is refused where no entry was found, or it has one already
abbrev pub entry_mut_refusals : {H N : Type 0} → List (Thing H N) → ℕ → Option (ℕ × Entry) → List (Bool × EntryHandleMutError)
entry_mut_refusals things board found =
    (is_none found, entry_mut_error.EntryDoesNotExist)
    ∷ (holds_at found (λ f. list_any (is_write_handle board f.0) things), entry_mut_error.HandleAlreadyExists)
    ∷ []

-- one more write handle for the writer's holder, which keeps the writer's port
abbrev pub with_write_handle : {H N : Type 0} → Tables H N → Thing H N → N → Option (ℕ × Entry) → Tables H N
with_write_handle t of name found =
    with_thing t (record { holder = of.holder; name = name; board = of.board; kind = kind.WriteHandle (place_of found) (port_of of.kind) })

-- what the making of a write handle is told, and the tables after it
abbrev pub entry_mut_asked : {H N : Type 0} → Tables H N → Thing H N → N → Option (ℕ × Entry) → Result ℕ EntryHandleMutError × Tables H N
entry_mut_asked t of name found = asked (first_of (entry_mut_refusals t.things of.board found)) (id_of found) (with_write_handle t of name found) t

-- ---- release

-- a board stands while a thing of it does
abbrev pub boards_left : {H N : Type 0} → List Board → ℕ → List (Thing H N) → List Board
boards_left boards board things = if list_any (is_of_board board) things then boards else without_first (is_numbered board) boards

-- without the thing that passes the test, which is of this board
abbrev pub released : {H N : Type 0} → Tables H N → (Thing H N → Bool) → ℕ → Tables H N
released t is_it board = record t { things = without_first is_it t.things; boards = boards_left t.boards board (without_first is_it t.things) }
