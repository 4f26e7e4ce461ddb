-- The laws of a domain that is reached by typed calls alone.
use Rattle.std.specs.Prelude.{◌≡◌, ◌≢◌, ◌≤◌, ℕ, true, List, find, Some, Ok, Err}
use Rattle.std.specs.List.{AllByRecursion}
use Rattle.board_layout.specs.declared.type_detail.TypeDetail.{TypeDetail}
use Rattle.board_layout.specs.Words.{IsWordCount}
use Rattle.board_cell.specs.Passes.{CellSeen}
use Rattle.board_model.specs.declared.tables.Thing.{Thing}
use Rattle.board_model.specs.declared.tables.ThingKind.{ThingKind}
use Rattle.board_model.specs.declared.tables.ThingKind.TheVariants.{Factory, Reader, Writer, WriteHandle}
use Rattle.board_model.specs.Tables.{board_at}
use Rattle.board_names.specs.declared.errors.boards.ReaderCreateError.TheVariants as reader_error
use Rattle.board_names.specs.declared.errors.boards.WriterCreateError.TheVariants as writer_error
use Rattle.board_names.specs.declared.errors.boards.EntryHandleError.TheVariants as entry_error
use Rattle.board_names.specs.declared.errors.boards.EntryHandleMutError.TheVariants as entry_mut_error
use Rattle.board_service.specs.declared.made.Found.{Found}
use Rattle.board_service.specs.Domain.{Stands, after_open, after_reader, after_writer, empty, held, is_thing, stands_as}
use Rattle.board_service.specs.Entries.{TakesItsWords}
use Rattle.board_service.specs.Facts.{IsDomain, handle_entry}
use Rattle.board_cells.specs.Cells.{EndSeen}
use Rattle.board_handles.specs.BoardEnds.{Core, cell_of}
use Rattle.board_handles.specs.Handles.{WriteSeen}
use Rattle.board_handles.specs.LentForms.{Asked, given_up, read_answer, reader_made, with_read, with_write_taken, write_answer, write_given_up, writer_made}
use Rattle.board_domain.specs.LentForms.{IsMade, NewBoard}
use Rattle.board_typed.specs.Order.{IsInOrder}

-- a write handle is of the entry of its thing, and has that entry's cell
pub record IsWhole (d : Core) (h : WriteSeen) : Type 0 where
  pub entry : handle_entry (held d h.found.thing).kind ≡ Some h.found.entry
  pub cell : cell_of d (held d h.found.thing).board h.found.entry ≡ Some h.held.cell

-- a new domain's cells are in order, and each call leaves them so
pub record CallsKeepOrder : Type 0 where
  pub empty_one : IsInOrder empty
  pub created : (b : NewBoard) (old new : Core) → IsDomain old → IsDomain new → IsInOrder old → AllByRecursion TakesItsWords b.entries → IsMade b old new → IsInOrder new
  pub opened : (d : Core) (node : ℕ) (name : List ℕ) → IsInOrder d → IsInOrder (after_open d node name)
  pub reader : (d : Core) (of : Thing ℕ ℕ) → IsInOrder d → IsInOrder (after_reader d of)
  pub writer : (d : Core) (of : Thing ℕ ℕ) → IsInOrder d → IsInOrder (after_writer d of)
  pub entry : (d : Core) (a : Asked) (reader : ℕ) → IsInOrder d → IsInOrder (with_read d a reader)
  pub entry_mut : (d : Core) (a : Asked) (writer : ℕ) → IsInOrder d → IsInOrder (with_write_taken d a writer)
  pub release : (d : Core) (keys : TypeDetail) (thing : ℕ) (kind : ThingKind) → IsDomain d → IsInOrder d → kind ≢ WriteHandle → IsInOrder (given_up d keys thing kind)
  pub release_mut : (d : Core) (keys : TypeDetail) (h : WriteSeen) → IsDomain d → IsInOrder d → IsWhole d h → IsInOrder (write_given_up d keys h)

-- every thing but this one that stood stands as it did, with its board and the cells of its board's entries
pub record KeepsOthers (gone : ℕ) (old new : Core) : Type 0 where
  pub things : (n : ℕ) → n ≢ gone → Stands old n → find (is_thing n) new.tables.things ≡ find (is_thing n) old.tables.things
  pub boards : (n : ℕ) → n ≢ gone → Stands old n → board_at new.tables (held old n).board ≡ board_at old.tables (held old n).board
  pub cells : (n i : ℕ) → n ≢ gone → Stands old n → cell_of new (held old n).board i ≡ cell_of old (held old n).board i

-- a call that gives nothing up leaves every thing as it was
abbrev pub KeepsAll : Core → Core → Type 0
KeepsAll old new = (gone : ℕ) → KeepsOthers gone old new

-- each call leaves every other thing as it was
pub record CallsKeepOthers : Type 0 where
  pub created : (b : NewBoard) (old new : Core) → IsDomain old → IsMade b old new → KeepsAll old new
  pub opened : (d : Core) (node : ℕ) (name : List ℕ) → KeepsAll d (after_open d node name)
  pub reader : (d : Core) (of : Thing ℕ ℕ) → KeepsAll d (after_reader d of)
  pub writer : (d : Core) (of : Thing ℕ ℕ) → KeepsAll d (after_writer d of)
  pub entry : (d : Core) (a : Asked) (reader : ℕ) → KeepsAll d (with_read d a reader)
  pub entry_mut : (d : Core) (a : Asked) (writer : ℕ) → KeepsAll d (with_write_taken d a writer)
  pub release : (d : Core) (keys : TypeDetail) (thing : ℕ) (kind : ThingKind) → IsDomain d → IsDomain (given_up d keys thing kind) → KeepsOthers thing d (given_up d keys thing kind)
  pub release_mut : (d : Core) (keys : TypeDetail) (h : WriteSeen) → IsDomain d → IsDomain (write_given_up d keys h) → KeepsOthers h.found.thing d (write_given_up d keys h)

-- where the cells are in order, a thing that is held is of a board with short keys
abbrev pub KeysAreShort : Type 0
KeysAreShort = (d : Core) (keys : TypeDetail) (thing : ℕ) (kind : ThingKind) → IsInOrder d → stands_as d keys thing kind ≡ true → keys.size ≤ 64

-- where the cells are in order, a port that is held is never an unknown thing, whatever entry it is asked for, nor is a factory that is held as a port is made by it
pub record PortsAreKnown : Type 0 where
  pub reader : (d : Core) (a : Asked) (reader n : ℕ) → IsInOrder d → stands_as d a.keys reader Reader ≡ true → IsWordCount a.values.size a.width → read_answer d a reader ≢ Err (entry_error.ThingUnknown n)
  pub writer : (d : Core) (a : Asked) (writer n : ℕ) → IsInOrder d → stands_as d a.keys writer Writer ≡ true → IsWordCount a.values.size a.width → write_answer d a writer ≢ Err (entry_mut_error.ThingUnknown n)
  pub factory_reader : (d : Core) (keys : TypeDetail) (factory n : ℕ) → stands_as d keys factory Factory ≡ true → reader_made d keys factory ≢ Err (reader_error.ThingUnknown n)
  pub factory_writer : (d : Core) (keys : TypeDetail) (factory n : ℕ) → stands_as d keys factory Factory ≡ true → writer_made d keys factory ≢ Err (writer_error.ThingUnknown n)

-- where the cells are in order, the handles that readers and writers are given of an entry have its one cell
pub record HandlesShareTheCell : Type 0 where
  pub read : (d : Core) (a : Asked) (reader : ℕ) (f : Found) (c : CellSeen) → read_answer d a reader ≡ Ok (f, c) → cell_of d (held d reader).board f.entry ≡ Some c
  pub write : (d : Core) (a : Asked) (writer : ℕ) (f : Found) (p : EndSeen) → IsInOrder d → write_answer d a writer ≡ Ok (f, p) → cell_of d (held d writer).board f.entry ≡ Some p.cell
