-- What callers see of the cells of a board.
use Rattle.std.specs.Prelude.{◌≡◌, ℕ, Bool, ◌==◌, List, [], ◌∷◌, length, slice_get, slice_set, Option, Some, None, option_map}
use Rattle.board_cell.specs.Passes.{CellSeen, WriterSeen}
use Rattle.board_model.specs.declared.tables.Entry.{Entry}
use Rattle.board_model.specs.Tables.{Added, holds_at}

-- a write end: its cell, and the values that its pass has published
pub record EndSeen : Type 0 where
  pub cell : CellSeen
  pub published : List (List ℕ)

-- an entry's cell, and the write end that is parked there
pub record PlaceSeen : Type 0 where
  pub cell : CellSeen
  pub parked : Option EndSeen

abbrev pub end_of : CellSeen → WriterSeen → EndSeen
end_of cell pass = record { cell = cell; published = pass.published }

-- how many words a value of the cell has
abbrev pub cell_width : CellSeen → ℕ
cell_width c = c.width

-- how many words a value has that the end publishes
abbrev pub end_width : EndSeen → ℕ
end_width e = e.cell.width

-- the cell of a place
abbrev pub cell_of : PlaceSeen → CellSeen
cell_of p = p.cell

-- the entry's cell, where there is such an entry
abbrev pub cell_at : List PlaceSeen → ℕ → Option CellSeen
cell_at places entry = option_map cell_of (slice_get places entry)

-- what is there has this width
abbrev pub fits : {A : Type 0} → ℕ → (A → ℕ) → Option A → Bool
fits width width_of found = holds_at found (λ x. width_of x == width)

-- the entry is there, and its values have this many words
abbrev pub has_cell : List PlaceSeen → ℕ → ℕ → Bool
has_cell places entry words = fits words cell_width (cell_at places entry)

-- the end parked at a place
abbrev pub parked_in : Option PlaceSeen → Option EndSeen
parked_in None = None
parked_in (Some p) = p.parked

-- the end parked at the entry
abbrev pub parked_at : List PlaceSeen → ℕ → Option EndSeen
parked_at places entry = parked_in (slice_get places entry)

-- an end is parked at the entry that publishes values of this many words
abbrev pub has_parked : List PlaceSeen → ℕ → ℕ → Bool
has_parked places entry words = fits words end_width (parked_at places entry)

-- the place is there, and no end is parked there
abbrev pub IsFreePlace : Option PlaceSeen → Type 0
IsFreePlace None = ⊥
IsFreePlace (Some p) = p.parked ≡ None

-- the entry is there, and no end is parked at it
abbrev pub IsFree : List PlaceSeen → ℕ → Type 0
IsFree places entry = IsFreePlace (slice_get places entry)

-- the places after the end at one of them was taken
abbrev pub emptied : List PlaceSeen → ℕ → Option PlaceSeen → List PlaceSeen
emptied places entry None = places
emptied places entry (Some p) = slice_set places entry record { cell = p.cell; parked = None }

-- no end is parked at the entry any more
abbrev pub without_end : List PlaceSeen → ℕ → List PlaceSeen
without_end places entry = emptied places entry (slice_get places entry)

-- the end that is parked there stays, or this one is parked
abbrev pub or_else : Option EndSeen → EndSeen → EndSeen
or_else None e = e
or_else (Some old) e = old

-- the places after an end was parked at one of them
abbrev pub filled : List PlaceSeen → ℕ → Option PlaceSeen → EndSeen → List PlaceSeen
filled places entry None e = places
filled places entry (Some p) e = slice_set places entry record { cell = p.cell; parked = Some (or_else p.parked e) }

-- the end is parked at the entry, where that is free
abbrev pub with_end : List PlaceSeen → ℕ → EndSeen → List PlaceSeen
with_end places entry e = filled places entry (slice_get places entry) e

-- ---- new cells

-- a cell of so many words that opens with these, with its own write end parked
pub record IsNew (added : Added) (p : PlaceSeen) : Type 0 where
  pub width : p.cell.width ≡ length added.words
  pub parked : p.parked ≡ Some record { cell = p.cell; published = added.words ∷ [] }

-- one new cell for each entry
abbrev pub AreNew : List Added → List PlaceSeen → Type 0
AreNew [] [] = Unit {0}
AreNew [] (p ∷ ps) = ⊥
AreNew (a ∷ more) [] = ⊥
AreNew (a ∷ more) (p ∷ ps) = IsNew a p × AreNew more ps

-- ---- cells of a board that stands

-- each entry has its cell, with as many words as a value of the entry
abbrev pub AreFor : List Entry → List PlaceSeen → Type 0
AreFor [] [] = Unit {0}
AreFor [] (p ∷ ps) = ⊥
AreFor (e ∷ more) [] = ⊥
AreFor (e ∷ more) (p ∷ ps) = (p.cell.width ≡ e.cell.words) × AreFor more ps
