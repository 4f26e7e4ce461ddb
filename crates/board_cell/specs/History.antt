-- One history of a cell: the publications in order, and behind each one the reads of its generation, reader by reader.
use Rattle.std.specs.Prelude.{◌≡◌, ℕ, suc, Bool, true, false, eqb, List, [], ◌∷◌, ◌++◌, map, slice_get, Some}
use Rattle.std.specs.List.{All}
use Rattle.board_cell.specs.Passes.{NotesRise, ReaderSeen, Stands, WriterSeen, notes_of}
use Rattle.board_cell.specs.declared.threaded.view.Note.{Note}

pub data Event : Type 0 where
  publish : (words : List ℕ) → Event
  read : (reader : ℕ) (note : Note) → Event

abbrev pub kept_if : {X : Type 0} → Bool → X → List X → List X
kept_if true x xs = x ∷ xs
kept_if false x xs = xs

-- the reads of one reader of this generation, in its order
abbrev pub reads_of : ℕ → ℕ → List Note → List Event
reads_of reader g [] = []
reads_of reader g (n ∷ ns) = kept_if (eqb n.generation g) (read reader n) (reads_of reader g ns)

-- the reads of this generation, reader by reader, of which the first has this number
abbrev pub reads_from : ℕ → ℕ → List (List Note) → List Event
reads_from reader g [] = []
reads_from reader g (ns ∷ rest) = reads_of reader g ns ++ reads_from (suc reader) g rest

-- the history of these values, of which the first has the generation g
abbrev pub history_from : ℕ → List (List ℕ) → List (List Note) → List Event
history_from g [] readers = []
history_from g (item ∷ items) readers = publish item ∷ (reads_from 0 g readers ++ history_from (suc g) items readers)

abbrev pub history : List (List ℕ) → List (List Note) → List Event
history published readers = history_from 1 published readers

-- after `count` publications, of which these words were the last: each read has the number and the words of the last publication before it
abbrev pub LegalAfter : ℕ → List ℕ → List Event → Type 0
LegalAfter count last [] = Unit {0}
LegalAfter count last (publish item ∷ events) = LegalAfter (suc count) item events
LegalAfter count last (read reader n ∷ events) = (n.generation ≡ count) × (n.words ≡ last) × LegalAfter count last events

abbrev pub IsLegal : List Event → Type 0
IsLegal events = LegalAfter 0 [] events

abbrev pub publishes_in : List Event → List (List ℕ)
publishes_in [] = []
publishes_in (publish item ∷ events) = item ∷ publishes_in events
publishes_in (read reader n ∷ events) = publishes_in events

-- the reads of the reader with this number
abbrev pub reads_in : ℕ → List Event → List Note
reads_in k [] = []
reads_in k (publish item ∷ events) = reads_in k events
reads_in k (read reader n ∷ events) = kept_if (eqb reader k) n (reads_in k events)

-- the history of what a writer's pass published and what readers' passes noted
abbrev pub history_of : WriterSeen → List ReaderSeen → List Event
history_of writer readers = history writer.published (map notes_of readers)

-- each reader's notes are in it once, in the reader's order
abbrev pub TellsReadsOf : List ReaderSeen → List Event → Type 0
TellsReadsOf readers events = (k : ℕ) (r : ReaderSeen) → slice_get readers k ≡ Some r → reads_in k events ≡ r.notes

-- ---- what holds of every history

-- notes that stand make a legal one
abbrev pub HistoriesAreLegal : Type 0
HistoriesAreLegal = (published : List (List ℕ)) (readers : List (List Note)) → All (All (Stands published)) readers → IsLegal (history published readers)

-- it has each publication once, in order
abbrev pub HistoriesTellPublications : Type 0
HistoriesTellPublications = (published : List (List ℕ)) (readers : List (List Note)) → publishes_in (history published readers) ≡ published

-- it has the notes of each reader once, in the reader's order, where they stand and don't fall
abbrev pub HistoriesTellReads : Type 0
HistoriesTellReads = (published : List (List ℕ)) (readers : List (List Note)) (k : ℕ) (notes : List Note) → slice_get readers k ≡ Some notes → NotesRise notes → All (Stands published) notes → reads_in k (history published readers) ≡ notes
