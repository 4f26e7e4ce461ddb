-- How the steps of a cell change the views, and what each step tells.
use Rattle.std.specs.Prelude.{◌≡◌, ℕ, ◌+◌, ◌^◌, ◌<◌, ◌≤◌, max, Bool, true, false, eqb, List, [], ◌∷◌, ◌++◌, length, take}
use Rattle.std.specs.List.{All}
use Rattle.atomic_table.specs.Table.{Me, Step}
use Rattle.board_cell_model.specs.OwedAccesses.{current_at, trying}
use Rattle.board_cell.specs.Calls.{Getting, Updating}
use Rattle.board_cell.specs.Passes.{threaded_shape, note, Stands, NotesRise, ClimbsFrom, last_from}
use Rattle.board_cell.specs.declared.threaded.view.Note.{Note}
use Rattle.board_cell.specs.declared.threaded.view.WriterView.{WriterView}
use Rattle.board_cell.specs.declared.threaded.view.ReaderView.{ReaderView}
use Rattle.board_cell.specs.declared.threaded.view.View.{View}
use Rattle.board_cell.specs.declared.threaded.view.View.TheVariants.{Spent, Writer, Reader}

abbrev pub no_writer : WriterView
no_writer = record { published = []; pending = []; copies = []; reached = 0 }

abbrev pub no_reader : ReaderView
no_reader = record { notes = []; copies = []; loads = []; reached = 0; opened = 0; found = [] }

abbrev pub writer_of : View → WriterView
writer_of (Writer x) = x
writer_of _ = no_writer

abbrev pub reader_of : View → ReaderView
reader_of (Reader x) = x
reader_of _ = no_reader

-- the writer stores a word of the spare copy
abbrev pub with_pending : WriterView → ℕ → WriterView
with_pending x n = record x { pending = x.pending ++ n ∷ [] }

-- the writer raises the counter
abbrev pub with_publish : WriterView → WriterView
with_publish x = record x { published = x.published ++ x.pending ∷ []; pending = [] }

-- the writer has published a value
abbrev pub with_item : WriterView → List ℕ → WriterView
with_item x item = record x { published = x.published ++ item ∷ []; pending = [] }

-- the reader opens a try at the counter that it loads
abbrev pub with_open : ReaderView → ℕ → ReaderView
with_open x n = record x { loads = x.loads ++ n ∷ []; reached = n; opened = n; found = [] }

-- the reader loads a word of the try
abbrev pub with_found : ReaderView → ℕ → ReaderView
with_found x n = record x { found = x.found ++ n ∷ [] }

abbrev pub with_words : ReaderView → List ℕ → ReaderView
with_words x words = record x { found = words }

abbrev pub noted_if : Bool → List Note → Note → List Note
noted_if true notes n = notes ++ n ∷ []
noted_if false notes n = notes

-- the reader closes the try: an equal counter adds its note, another one opens the next try
abbrev pub with_close : ReaderView → ℕ → ReaderView
with_close x n = record x { notes = noted_if (eqb n x.opened) x.notes (note n x.found); loads = x.loads ++ n ∷ []; reached = n; opened = n; found = [] }

-- the reader's try of these words was accepted
abbrev pub with_note : ReaderView → ℕ → List ℕ → ReaderView
with_note x n words = record x { notes = x.notes ++ note n words ∷ []; loads = x.loads ++ n ∷ []; reached = n; opened = n; found = [] }

-- the reader loads the counter
abbrev pub with_load : ReaderView → ℕ → ReaderView
with_load x n = record x { loads = x.loads ++ n ∷ []; reached = n }

-- the view of a seat that is split off
abbrev pub newcomer : View → View
newcomer Spent = Spent
newcomer (Writer x) = Reader record { notes = []; copies = []; loads = []; reached = length x.published; opened = 0; found = [] }
newcomer (Reader x) = Reader record { notes = []; copies = x.notes; loads = []; reached = x.reached; opened = 0; found = [] }

abbrev pub writer_with : WriterView → ReaderView → WriterView
writer_with x y = record x { copies = x.copies ++ (y.notes ++ y.copies); reached = max x.reached y.reached }

abbrev pub reader_with : ReaderView → ReaderView → ReaderView
reader_with x y = record x { copies = x.copies ++ (y.notes ++ y.copies); reached = max x.reached y.reached }

-- the view of a seat that another was joined into
abbrev pub joined_view : View → View → View
joined_view (Writer x) (Reader y) = Writer (writer_with x y)
joined_view (Reader x) (Reader y) = Reader (reader_with x y)
joined_view v _ = v

-- the view of a receipt of this generation is a reader's, who has read nothing and knows it to be reached
pub record IsReceiptOf (generation : ℕ) (v : View) : Type 0 where
  pub reader : v ≡ Reader (reader_of v)
  pub notes : (reader_of v).notes ≡ []
  pub loads : (reader_of v).loads ≡ []
  pub reached : (reader_of v).reached ≡ generation

-- a reader's view, with a try open at this counter of which no word was found
abbrev pub HasOpened : View → ℕ → Type 0
HasOpened v opened = (v ≡ Reader (reader_of v)) × ((reader_of v).found ≡ []) × ((reader_of v).opened ≡ opened)

-- the reader's open try lies in this copy, its words found so far are the slice's first ones, and it has so many more
pub record HasMoreWords (width : ℕ) (v : View) (copy : ℕ) (words : List ℕ) (at count : ℕ) : Type 0 where
  pub reader : v ≡ Reader (reader_of v)
  pub place : copy ≡ current_at (threaded_shape width) (reader_of v).opened
  pub fits : copy + width < 2 ^ 64
  pub size : length words ≡ width
  pub found : (reader_of v).found ≡ take at words
  pub more : at + count ≤ width

-- the call is in the reader's open try
abbrev pub IsTrying : ℕ → Getting → ReaderView → Type 0
IsTrying w call x = call ≡ record { shape = threaded_shape w; reading = trying x.opened x.found }

-- the call has written the writer's pending words
pub record IsWriting (w : ℕ) (call : Updating) (x : WriterView) : Type 0 where
  pub width : length call.words ≡ w
  pub owes : call ≡ record { shape = threaded_shape w; generation = length x.published; words = call.words; written = length x.pending }

-- x is the reader whose try is open at `opened`, and y after tries of which the last was accepted at g
pub record AfterTries (x : ReaderView) (v : View) (opened g : ℕ) (words : List ℕ) : Type 0 where
  pub y : ReaderView
  pub is : v ≡ Reader y
  pub notes : y.notes ≡ x.notes ++ note g words ∷ []
  pub reached : y.reached ≡ g
  pub rest : List ℕ
  pub climbs : ClimbsFrom opened rest
  pub ends : last_from opened rest ≡ g
  pub loads : y.loads ≡ (x.loads ++ rest) ++ g ∷ []

-- the same in at most this many tries
pub record AfterTriesWithin (tries : ℕ) (x : ReaderView) (v : View) (opened g : ℕ) (words : List ℕ) : Type 0 where
  pub after : AfterTries x v opened g words
  pub few : length after.rest < tries

-- the same after tries of which none was accepted
pub record AfterFailures (tries : ℕ) (x : ReaderView) (v : View) (opened before after : ℕ) : Type 0 where
  pub y : ReaderView
  pub is : v ≡ Reader y
  pub notes : y.notes ≡ x.notes
  pub reached : y.reached ≡ after
  pub rest : List ℕ
  pub climbs : ClimbsFrom opened (rest ++ after ∷ [])
  pub ends : last_from opened rest ≡ before
  pub all : length rest + 1 ≡ tries
  pub loads : y.loads ≡ (x.loads ++ rest) ++ after ∷ []

-- what a step tells: of the step, the seat before, the value found, and the seat after
abbrev Seen : Type 0
Seen = Me (Unit {0}) View

abbrev Told : Type 1
Told = Step (Unit {0}) → Seen → ℕ → Seen → Type 0

abbrev pub puts : Told
puts st m n m' = (x : WriterView) → m.0 ≡ Writer x → m' ≡ (Writer (with_pending x st.first), m.1)

abbrev pub publishes : Told
publishes st m n m' = (x : WriterView) → m.0 ≡ Writer x → m' ≡ (Writer (with_publish x), m.1)

abbrev pub opens : Told
opens st m n m' = (x : ReaderView) → m.0 ≡ Reader x → (m' ≡ (Reader (with_open x n), m.1)) × (x.reached ≤ n)

abbrev pub reads : Told
reads st m n m' = (x : ReaderView) → m.0 ≡ Reader x → m' ≡ (Reader (with_found x n), m.1)

abbrev pub closes : Told
closes st m n m' = (x : ReaderView) → m.0 ≡ Reader x → (m' ≡ (Reader (with_close x n), m.1)) × (x.reached ≤ n) × (x.opened ≤ n) × NotesRise (with_close x n).notes

abbrev pub glances : Told
glances st m n m' = (x : ReaderView) → m.0 ≡ Reader x → (m' ≡ (Reader (with_load x n), m.1)) × (x.reached ≤ n)

-- the writer compares the copied notes with what it published
abbrev pub looks : Told
looks st m n m' = (m' ≡ m) × ((x : WriterView) → m.0 ≡ Writer x → All (Stands x.published) x.copies × (x.reached ≤ length x.published) × (n ≡ length x.published))
