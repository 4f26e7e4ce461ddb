-- A program that reaches a domain by typed calls alone: what it holds, what its calls do, and where it may come.
use Rattle.std.specs.Prelude.{◌≡◌, ◌≢◌, ℕ, ◌+◌, Bool, true, ◌==◌, List, [], ◌∷◌, ◌++◌, All, Contains, find, remove, slice_get, Option, Some, None, IfSome, Ok, Err}
use Rattle.std.specs.List.{AllByRecursion}
use Rattle.board_layout.specs.declared.type_detail.TypeDetail.{TypeDetail}
use Rattle.board_layout.specs.Words.{IsWordCount}
use Rattle.board_cell.specs.Passes.{CellSeen}
use Rattle.board_model.specs.declared.tables.ThingKind.{ThingKind}
use Rattle.board_model.specs.declared.tables.ThingKind.TheVariants.{Factory, Reader, Writer, ReadHandle, WriteHandle}
use Rattle.board_model.specs.Tables.{without_first}
use Rattle.board_names.specs.declared.errors.boards.ReaderCreateError.TheVariants as reader_error
use Rattle.board_names.specs.declared.errors.boards.WriterCreateError.TheVariants as writer_error
use Rattle.board_names.specs.declared.errors.boards.EntryHandleError.TheVariants as entry_error
use Rattle.board_names.specs.declared.errors.boards.EntryHandleMutError.TheVariants as entry_mut_error
use Rattle.board_service.specs.declared.made.Found.{Found}
use Rattle.board_service.specs.Domain.{after_open, after_reader, after_writer, empty, held, stands_as}
use Rattle.board_service.specs.Entries.{TakesItsWords}
use Rattle.board_service.specs.Facts.{IsDomain, IsHeldAs, IsHeldBeside, handle_entry}
use Rattle.board_cells.specs.Cells.{EndSeen}
use Rattle.board_handles.specs.BoardEnds.{Core, cell_of}
use Rattle.board_handles.specs.Handles.{WriteSeen}
use Rattle.board_handles.specs.LentForms.{Asked, given_up, read_answer, reader_made, with_read, with_write_taken, write_answer, write_given_up, writer_made}
use Rattle.board_domain.specs.LentForms.{IsMade, NewBoard}

-- a typed value that was not given back: its thing, what kind that is of, the type of its board's keys, and of a handle its entry and cell
pub record Value : Type 0 where
  pub thing : ℕ
  pub kind : ThingKind
  pub keys : TypeDetail
  pub end : Option (ℕ × CellSeen)

abbrev pub a_value : ℕ → ThingKind → TypeDetail → Option (ℕ × CellSeen) → Value
a_value thing kind keys end = record { thing = thing; kind = kind; keys = keys; end = end }

abbrev pub value_thing : Value → ℕ
value_thing v = v.thing

abbrev pub has_thing : ℕ → Value → Bool
has_thing n v = v.thing == n

-- a builder of ports: the factory that it borrows, and whether it makes a reader or a writer
pub record Builder : Type 0 where
  pub factory : Value
  pub makes : ThingKind

abbrev pub a_builder : Value → ThingKind → Builder
a_builder factory makes = record { factory = factory; makes = makes }

-- a domain, and the values and the builders of ports that a program holds
pub record World : Type 0 where
  pub tables : Core
  pub values : List Value
  pub builders : List Builder

abbrev pub start : World
start = record { tables = empty; values = []; builders = [] }

-- the program holds a value
abbrev pub Holds : World → Value → Type 0
Holds w v = find (has_thing v.thing) w.values ≡ Some v

-- the next thing goes out as a value
abbrev pub Gains : World → World → ThingKind → TypeDetail → Option (ℕ × CellSeen) → Type 0
Gains old new kind keys end = new.values ≡ old.values ++ a_value (old.tables.last_thing + 1) kind keys end ∷ []

-- the value is given back
abbrev pub Loses : World → World → Value → Type 0
Loses old new v = new.values ≡ without_first (has_thing v.thing) old.values

-- the builders stay as they are
abbrev pub KeepsBuilders : World → World → Type 0
KeepsBuilders old new = new.builders ≡ old.builders

-- a builder goes out, and nothing else changes
abbrev pub Lends : World → World → Value → ThingKind → Type 0
Lends old new factory makes =
    (new.tables ≡ old.tables) × (new.values ≡ old.values) × (new.builders ≡ old.builders ++ a_builder factory makes ∷ [])

-- the builder is used up
abbrev pub Spends : World → World → Builder → Type 0
Spends old new b = (i : ℕ) × (slice_get old.builders i ≡ Some b) × (new.builders ≡ remove old.builders i)

-- no builder borrows the value
abbrev pub IsNotLent : World → Value → Type 0
IsNotLent w v = All (λ b. b.factory.thing ≢ v.thing) w.builders

-- a call that changes something: one that goes through. A call that is refused, or wants memory, leaves all as it was, but that the builder of a port is used up by it too, as by a drop
pub data Call : Type 0 where
  Creates : NewBoard → Call
  Opens : ℕ → List ℕ → TypeDetail → Call
  LendsReaderBuilder : Value → Call
  LendsWriterBuilder : Value → Call
  MakesReader : Builder → Call
  MakesWriter : Builder → Call
  Drops : Builder → Call
  Reads : Value → Asked → Found → CellSeen → Call
  Writes : Value → Asked → Found → EndSeen → Call
  GivesUp : Value → Call
  GivesUpWriting : Value → WriteSeen → Call

-- what the clauses of the call's lent form say: what it answers and leaves (`answer`, `ok`, `tables`), that what is made is held (`held`), that a creator's entries take the words of their types (`width`), and that a builder has its factory's thing (`ok`); and what a builder's type says: it borrows its factory, which is not given up meanwhile
abbrev pub Happens : Call → World → World → Type 0
Happens (Creates b) old new =
    AllByRecursion TakesItsWords b.entries × IsMade b old.tables new.tables
    × IsHeldAs new.tables b.keys (old.tables.last_thing + 1) Factory × Gains old new Factory b.keys None × KeepsBuilders old new
Happens (Opens node name keys) old new =
    (new.tables ≡ after_open old.tables node name)
    × IsHeldAs new.tables keys (old.tables.last_thing + 1) Factory × Gains old new Factory keys None × KeepsBuilders old new
Happens (LendsReaderBuilder v) old new = Lends old new v Reader × Holds old v × (v.kind ≡ Factory)
Happens (LendsWriterBuilder v) old new = Lends old new v Writer × Holds old v × (v.kind ≡ Factory)
Happens (MakesReader b) old new =
    (b.makes ≡ Reader) × Spends old new b × (new.tables ≡ after_reader old.tables (held old.tables b.factory.thing))
    × IsHeldBeside old.tables new.tables b.factory.thing (old.tables.last_thing + 1) Reader × Gains old new Reader b.factory.keys None
Happens (MakesWriter b) old new =
    (b.makes ≡ Writer) × Spends old new b × (new.tables ≡ after_writer old.tables (held old.tables b.factory.thing))
    × IsHeldBeside old.tables new.tables b.factory.thing (old.tables.last_thing + 1) Writer × Gains old new Writer b.factory.keys None
Happens (Drops b) old new = Spends old new b × (new.tables ≡ old.tables) × (new.values ≡ old.values)
Happens (Reads v a f c) old new =
    Holds old v × (v.kind ≡ Reader) × (read_answer old.tables a v.thing ≡ Ok (f, c)) × (new.tables ≡ with_read old.tables a v.thing)
    × IsHeldBeside old.tables new.tables v.thing (old.tables.last_thing + 1) ReadHandle × Gains old new ReadHandle v.keys (Some (f.entry, c)) × KeepsBuilders old new
Happens (Writes v a f e) old new =
    Holds old v × (v.kind ≡ Writer) × (write_answer old.tables a v.thing ≡ Ok (f, e)) × (new.tables ≡ with_write_taken old.tables a v.thing)
    × IsHeldBeside old.tables new.tables v.thing (old.tables.last_thing + 1) WriteHandle × Gains old new WriteHandle v.keys (Some (f.entry, e.cell)) × KeepsBuilders old new
Happens (GivesUp v) old new =
    Holds old v × (v.kind ≢ WriteHandle) × (v.kind ≡ Factory → IsNotLent old v)
    × (new.tables ≡ given_up old.tables v.keys v.thing v.kind) × Loses old new v × KeepsBuilders old new
Happens (GivesUpWriting v h) old new =
    Holds old v × (v.kind ≡ WriteHandle) × (h.found.thing ≡ v.thing) × (v.end ≡ Some (h.found.entry, h.held.cell))
    × (new.tables ≡ write_given_up old.tables v.keys h) × Loses old new v × KeepsBuilders old new

-- calls one after another lead from the start to here; before and after each the tables are a domain's, as `facts` tells of any
abbrev pub Comes : List Call → World → Type 0
Comes [] w = w ≡ start
Comes (c ∷ cs) w = (old : World) × Comes cs old × IsDomain old.tables × Happens c old w × IsDomain w.tables

-- ---- what holds wherever a program comes

-- a value's thing stands as what it is, and a handle is of its entry, whose cell it has
pub record IsGood (d : Core) (v : Value) : Type 0 where
  pub stands : stands_as d v.keys v.thing v.kind ≡ true
  pub end : IfSome v.end (λ e. (handle_entry (held d v.thing).kind ≡ Some e.0) × (cell_of d (held d v.thing).board e.0 ≡ Some e.1))

-- readers and writers are never unknown things, whatever entry they are asked for by the type of their keys, nor is the factory of a builder that makes a port
pub record NothingIsUnknown (w : World) : Type 0 where
  pub reader : (v : Value) (a : Asked) (n : ℕ) → Holds w v → v.kind ≡ Reader → a.keys ≡ v.keys → IsWordCount a.values.size a.width → read_answer w.tables a v.thing ≢ Err (entry_error.ThingUnknown n)
  pub writer : (v : Value) (a : Asked) (n : ℕ) → Holds w v → v.kind ≡ Writer → a.keys ≡ v.keys → IsWordCount a.values.size a.width → write_answer w.tables a v.thing ≢ Err (entry_mut_error.ThingUnknown n)
  pub factory_reader : (b : Builder) (n : ℕ) → Contains w.builders b → reader_made w.tables b.factory.keys b.factory.thing ≢ Err (reader_error.ThingUnknown n)
  pub factory_writer : (b : Builder) (n : ℕ) → Contains w.builders b → writer_made w.tables b.factory.keys b.factory.thing ≢ Err (writer_error.ThingUnknown n)

-- two handles of an entry have one cell
abbrev pub CellsAreShared : World → Type 0
CellsAreShared w =
    (u v : Value) (i : ℕ) (c e : CellSeen) → Holds w u → Holds w v → (held w.tables u.thing).board ≡ (held w.tables v.thing).board
    → u.end ≡ Some (i, c) → v.end ≡ Some (i, e) → c ≡ e

-- each value that a program holds stands as what it is
abbrev pub ValuesStand : World → Type 0
ValuesStand w = (v : Value) → Holds w v → stands_as w.tables v.keys v.thing v.kind ≡ true

-- the factory of each builder is held still
abbrev pub BuildersStand : World → Type 0
BuildersStand w = (b : Builder) → Contains w.builders b → Holds w b.factory × (stands_as w.tables b.factory.keys b.factory.thing Factory ≡ true)

-- wherever typed calls alone lead, each value stands, and the factory of each builder, none of them is an unknown thing, and handles of an entry share its cell
pub record TypedCallsAlone : Type 0 where
  pub stand : (calls : List Call) (w : World) → Comes calls w → ValuesStand w
  pub lent : (calls : List Call) (w : World) → Comes calls w → BuildersStand w
  pub known : (calls : List Call) (w : World) → Comes calls w → NothingIsUnknown w
  pub shared : (calls : List Call) (w : World) → Comes calls w → CellsAreShared w
