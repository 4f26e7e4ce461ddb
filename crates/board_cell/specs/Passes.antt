-- What callers see of a cell between threads and of its passes.
use Rattle.std.specs.Prelude.{◌≡◌, ℕ, ◌+◌, ◌-◌, ◌<◌, ◌≤◌, ◌==◌, Bool, List, [], ◌∷◌, ◌++◌, length, max, slice_get, Some}
use Rattle.std.specs.List.{All}
use Rattle.atomic_table.specs.Seated.{TableId}
use Rattle.board_layout.specs.declared.shape.CellShape.{CellShape}
use Rattle.board_cell.specs.declared.threaded.view.Note.{Note}

-- which cell it is, and how many words a value has
pub record CellSeen : Type 0 where
  pub cell : TableId
  pub width : ℕ

-- a writer's pass: the published values, the opening one first
pub record WriterSeen : Type 0 where
  pub cell : TableId
  pub published : List (List ℕ)

-- a reader's pass: the values that it read, the counters that it loaded, and the generation that it knows to be reached
pub record ReaderSeen : Type 0 where
  pub cell : TableId
  pub notes : List Note
  pub loads : List ℕ
  pub reached : ℕ

-- a receipt names a publication
pub record ReceiptSeen : Type 0 where
  pub cell : TableId
  pub generation : ℕ

-- how the cell of this many words lies in its table
abbrev pub threaded_shape : ℕ → CellShape
threaded_shape w = record { first = 0; head = 2; words = w }

abbrev pub note : ℕ → List ℕ → Note
note generation words = record { generation = generation; words = words }

abbrev pub notes_of : ReaderSeen → List Note
notes_of r = r.notes

-- the passes of a new cell
abbrev pub new_writer : TableId → List ℕ → WriterSeen
new_writer cell words = record { cell = cell; published = words ∷ [] }

abbrev pub new_reader : TableId → ℕ → ReaderSeen
new_reader cell reached = record { cell = cell; notes = []; loads = []; reached = reached }

-- the note's words are the published ones of its generation
pub record Stands (published : List (List ℕ)) (n : Note) : Type 0 where
  pub counted : 1 ≤ n.generation
  pub item : slice_get published (n.generation - 1) ≡ Some n.words

-- no generation falls
abbrev pub NotesRise : List Note → Type 0
NotesRise [] = Unit {0}
NotesRise (n ∷ ns) = All (λ (m : Note). n.generation ≤ m.generation) ns × NotesRise ns

-- each is greater than the one before, and the first is greater than x
abbrev pub ClimbsFrom : ℕ → List ℕ → Type 0
ClimbsFrom x [] = Unit {0}
ClimbsFrom x (y ∷ ys) = (x < y) × ClimbsFrom y ys

abbrev pub last_from : ℕ → List ℕ → ℕ
last_from x [] = x
last_from x (y ∷ ys) = last_from y ys

-- the counters of tries of which the last was accepted at g: a climbing list that begins no lower than what was known to be reached and ends with g, and g once more
pub record LoadsUntil (reached g : ℕ) (before after : List ℕ) : Type 0 where
  pub first : ℕ
  pub rest : List ℕ
  pub begins : reached ≤ first
  pub climbs : ClimbsFrom first rest
  pub ends : last_from first rest ≡ g
  pub gained : after ≡ before ++ first ∷ (rest ++ g ∷ [])

-- an accepted get: the pass gains its note and knows its generation to be reached
pub record Gets (g : ℕ) (words : List ℕ) (old new : ReaderSeen) : Type 0 where
  pub cell : new.cell ≡ old.cell
  pub notes : new.notes ≡ old.notes ++ note g words ∷ []
  pub reached : new.reached ≡ g
  pub loads : LoadsUntil old.reached g old.loads new.loads

-- the same in at most this many tries
pub record GetsWithin (tries g : ℕ) (words : List ℕ) (old new : ReaderSeen) : Type 0 where
  pub gets : Gets g words old new
  pub few : length gets.loads.rest < tries

-- a get is of the generation that its reader knew to be reached, or of a later one
abbrev pub GetsAreNoOlder : Type 0
GetsAreNoOlder = (g : ℕ) (words : List ℕ) (old new : ReaderSeen) → Gets g words old new → old.reached ≤ g

-- no try was accepted: each of the counters is greater than the one before, and these are the last two
pub record GivesUp (tries before after : ℕ) (old new : ReaderSeen) : Type 0 where
  pub cell : new.cell ≡ old.cell
  pub notes : new.notes ≡ old.notes
  pub reached : new.reached ≡ after
  pub first : ℕ
  pub rest : List ℕ
  pub begins : old.reached ≤ first
  pub climbs : ClimbsFrom first (rest ++ after ∷ [])
  pub ends : last_from first rest ≡ before
  pub all : length rest + 1 ≡ tries
  pub gained : new.loads ≡ old.loads ++ first ∷ (rest ++ after ∷ [])

-- one load of the counter
pub record Looks (counter : ℕ) (old new : ReaderSeen) : Type 0 where
  pub begins : old.reached ≤ counter
  pub pass : new ≡ record old { loads = old.loads ++ counter ∷ []; reached = counter }

-- the counter was loaded once, and it is told whether it is this generation
abbrev pub LooksAt : ℕ → Bool → ReaderSeen → ReaderSeen → Type 0
LooksAt generation same old new = (counter : ℕ) × Looks counter old new × (same ≡ (counter == generation))

-- the pass published these words
abbrev pub publishing : WriterSeen → List ℕ → WriterSeen
publishing pass words = record pass { published = pass.published ++ words ∷ [] }

-- the pass of a reader that got to know a generation
abbrev pub reaching : ReaderSeen → ℕ → ReaderSeen
reaching pass generation = record pass { reached = max pass.reached generation }

-- names the last publication
abbrev pub receipt_of : WriterSeen → ReceiptSeen
receipt_of pass = record { cell = pass.cell; generation = length pass.published }

-- the passes are of this cell
abbrev pub AreOf : TableId → List ReaderSeen → Type 0
AreOf cell readers = All (λ (r : ReaderSeen). r.cell ≡ cell) readers
