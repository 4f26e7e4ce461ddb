-- What the lent forms of ports and handles answer over a domain's tables, and how they leave them.
use Rattle.std.specs.Prelude.{ℕ, Bool, if◌then◌else◌, List, Option, Some, None, Result, Ok, Err}
use Rattle.board_layout.specs.Answer.{Answers, Refuses, with_value}
use Rattle.board_layout.specs.declared.type_detail.TypeDetail.{TypeDetail}
use Rattle.board_model.specs.declared.tables.Entry.{Entry}
use Rattle.board_model.specs.declared.tables.ThingKind.{ThingKind}
use Rattle.board_model.specs.declared.tables.ThingKind.TheVariants.{Factory, Reader, Writer, WriteHandle}
use Rattle.board_model.specs.TableCalls.{place_of}
use Rattle.board_names.specs.declared.errors.boards.ReaderCreateError.{ReaderCreateError}
use Rattle.board_names.specs.declared.errors.boards.ReaderCreateError.TheVariants as reader_error
use Rattle.board_names.specs.declared.errors.boards.WriterCreateError.{WriterCreateError}
use Rattle.board_names.specs.declared.errors.boards.WriterCreateError.TheVariants as writer_error
use Rattle.board_names.specs.declared.errors.boards.EntryHandleError.{EntryHandleError}
use Rattle.board_names.specs.declared.errors.boards.EntryHandleError.TheVariants as entry_error
use Rattle.board_names.specs.declared.errors.boards.EntryHandleMutError.{EntryHandleMutError}
use Rattle.board_names.specs.declared.errors.boards.EntryHandleMutError.TheVariants as entry_mut_error
use Rattle.board_cell.specs.Passes.{CellSeen}
use Rattle.board_service.specs.declared.made.Made.{Made}
use Rattle.board_service.specs.declared.made.Found.{Found}
use Rattle.board_service.specs.Domain.{stands_as, held, entry_of_thing, reader_answer, writer_answer, entry_answer, after_entry, entry_mut_answer, after_entry_mut, after_release}
use Rattle.board_service.specs.Facts.{IsDomain}
use Rattle.board_cells.specs.Cells.{EndSeen, cell_width, end_width, fits}
use Rattle.board_handles.specs.BoardEnds.{Core, cell_of, parked_of, taken, parked}
use Rattle.board_handles.specs.Handles.{ReadSeen, WriteSeen}

-- ---- ports

-- what the making of a reader answers, by the number of a factory of a board with keys of this type
abbrev pub reader_made : Core → TypeDetail → ℕ → Result Made ReaderCreateError
reader_made d keys factory =
    if stands_as d keys factory Factory then reader_answer d (held d factory) else Err (reader_error.ThingUnknown factory)

-- what the making of a writer answers
abbrev pub writer_made : Core → TypeDetail → ℕ → Result Made WriterCreateError
writer_made d keys factory =
    if stands_as d keys factory Factory then writer_answer d (held d factory) else Err (writer_error.ThingUnknown factory)

-- ---- handles

-- what a port's `entry` asks for: the type of the board's keys, which keys are the one, and the type of the values with its words
pub record Asked : Type 0 where
  pub keys : TypeDetail
  pub is_key : List ℕ → Bool
  pub values : TypeDetail
  pub width : ℕ

abbrev pub asked : TypeDetail → (List ℕ → Bool) → TypeDetail → ℕ → Asked
asked keys is_key values width = record { keys = keys; is_key = is_key; values = values; width = width }

-- the entry that is asked for among those of the port's board, with its place
abbrev pub entry_for : Core → Asked → ℕ → Option (ℕ × Entry)
entry_for d a port = entry_of_thing d port a.is_key a.values

-- an entry with what its cells give for it
abbrev pub given : {A E : Type 0} → E → Found → Option A → Result (Found × A) E
given unknown f None = Err unknown
given unknown f (Some x) = Ok (f, x)

-- the same where that is there and of this width
abbrev pub fitting : {A E : Type 0} → E → ℕ → (A → ℕ) → Found → Option A → Result (Found × A) E
fitting unknown width width_of f found = if fits width width_of found then given unknown f found else Err unknown

-- the same behind the tables' answer
abbrev pub handed : {A E : Type 0} → E → ℕ → (A → ℕ) → (ℕ → Option A) → Result Found E → Result (Found × A) E
handed unknown width width_of at (Err e) = Err e
handed unknown width width_of at (Ok f) = fitting unknown width width_of f (at f.entry)

-- what the tables answer a reader's `entry`
abbrev pub read_asked : Core → Asked → ℕ → Result Found EntryHandleError
read_asked d a reader =
    if stands_as d a.keys reader Reader then entry_answer d (entry_for d a reader) else Err (entry_error.ThingUnknown reader)

-- what a reader's `entry` answers: the thing and entry of the handle, and the cell of that entry
abbrev pub read_answer : Core → Asked → ℕ → Result (Found × CellSeen) EntryHandleError
read_answer d a reader =
    handed (entry_error.ThingUnknown reader) a.width cell_width (cell_of d (held d reader).board) (read_asked d a reader)

-- what the tables answer a writer's `entry`
abbrev pub write_asked : Core → Asked → ℕ → Result Found EntryHandleMutError
write_asked d a writer =
    if stands_as d a.keys writer Writer then entry_mut_answer d (held d writer) (entry_for d a writer) else Err (entry_mut_error.ThingUnknown writer)

-- what a writer's `entry` answers: the thing and entry of the handle, and the write end that was parked at that entry
abbrev pub write_answer : Core → Asked → ℕ → Result (Found × EndSeen) EntryHandleMutError
write_answer d a writer =
    handed (entry_mut_error.ThingUnknown writer) a.width end_width (parked_of d (held d writer).board) (write_asked d a writer)

-- so they are seen in a handle
abbrev pub read_given : ReadSeen → Found × CellSeen
read_given h = (h.found, h.cell)

abbrev pub write_given : WriteSeen → Found × EndSeen
write_given h = (h.found, h.held)

-- a read handle, or want of memory
abbrev pub AnswersReader : Result ReadSeen EntryHandleError → Core → Asked → ℕ → Type 0
AnswersReader result d a reader = Answers (with_value read_given result) entry_error.OutOfMemory (read_answer d a reader)

-- each refusal comes where it is due
abbrev pub RefusesReader : Result ReadSeen EntryHandleError → Core → Asked → ℕ → Type 0
RefusesReader result d a reader = Refuses (with_value read_given result) (read_answer d a reader)

-- a write handle, or want of memory
abbrev pub AnswersWriter : Result WriteSeen EntryHandleMutError → Core → Asked → ℕ → Type 0
AnswersWriter result d a writer = Answers (with_value write_given result) entry_mut_error.OutOfMemory (write_answer d a writer)

-- each refusal comes where it is due
abbrev pub RefusesWriter : Result WriteSeen EntryHandleMutError → Core → Asked → ℕ → Type 0
RefusesWriter result d a writer = Refuses (with_value write_given result) (write_answer d a writer)

-- ---- what is left

-- the tables without a thing; where it was its board's last, the board goes
abbrev pub without_thing : Core → ℕ → Core
without_thing d thing = after_release d thing (held d thing).board

-- the tables with a read handle more
abbrev pub with_read : Core → Asked → ℕ → Core
with_read d a reader = after_entry d (held d reader) (entry_for d a reader)

-- the tables with a write handle more
abbrev pub with_write : Core → Asked → ℕ → Core
with_write d a writer = after_entry_mut d (held d writer) (entry_for d a writer)

-- the same, and the entry's end is taken
abbrev pub with_write_taken : Core → Asked → ℕ → Core
with_write_taken d a writer = taken (with_write d a writer) (held d writer).board (place_of (entry_for d a writer))

-- ---- typed calls: what stands behind the lock is some domain, of which nothing more is known

abbrev pub MakesReader : Result Made ReaderCreateError → TypeDetail → ℕ → Type 0
MakesReader result keys factory =
    (d : Core) × IsDomain d
    × Answers result reader_error.OutOfMemory (reader_made d keys factory) × Refuses result (reader_made d keys factory)

abbrev pub MakesWriter : Result Made WriterCreateError → TypeDetail → ℕ → Type 0
MakesWriter result keys factory =
    (d : Core) × IsDomain d
    × Answers result writer_error.OutOfMemory (writer_made d keys factory) × Refuses result (writer_made d keys factory)

abbrev pub FindsToRead : Result ReadSeen EntryHandleError → Asked → ℕ → Type 0
FindsToRead result a reader = (d : Core) × IsDomain d × AnswersReader result d a reader × RefusesReader result d a reader

abbrev pub FindsToWrite : Result WriteSeen EntryHandleMutError → Asked → ℕ → Type 0
FindsToWrite result a writer = (d : Core) × IsDomain d × AnswersWriter result d a writer × RefusesWriter result d a writer

-- ---- release

-- the tables after a thing was given up, where it is held as this kind, by a board with keys of this type
abbrev pub given_up : Core → TypeDetail → ℕ → ThingKind → Core
given_up d keys thing kind = if stands_as d keys thing kind then without_thing d thing else d

-- the tables after a write handle's thing went, whose end is parked where its board stands and the place is free
abbrev pub without_writing : Core → ℕ → ℕ → EndSeen → Core
without_writing d thing entry e = parked (without_thing d thing) (held d thing).board entry e

-- the tables after a write handle was given up with its end, where it is held, by a board with keys of this type
abbrev pub write_given_up : Core → TypeDetail → WriteSeen → Core
write_given_up d keys h =
    if stands_as d keys h.found.thing WriteHandle then without_writing d h.found.thing h.found.entry h.held else d
