-- A domain whose cells are in order, after the places of one board changed.
use Rattle.std.proofs.Common.{◌≡◌, ◌≢◌, ℕ, Bool, true, false, List, Option, Some, None, refl, sym, ap, ◌∙◌, subst, arith}
use Rattle.std.specs.Prelude.{◌==◌, option_map}
use Rattle.board_model.specs.declared.tables.Board.{Board}
use Rattle.board_model.specs.Tables.{board_at, is_numbered}
use Rattle.board_service.specs.Domain.{cells_of, place_of_board, set_at, with_cells}
use Rattle.board_service.proofs.DrawnLemmas.{numbered_other}
use Rattle.board_cells.specs.Cells.{PlaceSeen, cell_at}
use Rattle.board_handles.specs.BoardEnds.{Core, cell_in, cell_of}
use Rattle.board_typed.specs.Order.{AreInOrder, IsInOrder, is_written}
use Rattle.board_typed.proofs.Beside.{beside, is_beside, beside-set, beside-set-other}

pub by_number : (X : Type 0) (n m : ℕ) → (n ≡ m → X) → (n ≢ m → X) → X
by_number X n m f g = elim (n == m) as (λ b. (n == m) ≡ b → X) [
  | true ↦ λ h. f (grind (arith, h))
  | false ↦ λ h. g (λ e. (let t : (n == m) ≡ true = grind (arith, e) in absurd cc))
] refl

pub apart : (n m : ℕ) → n ≢ m → (b : Board) → is_numbered n b ≡ true → is_numbered m b ≡ false
apart n m d b h = let same : b.number ≡ n = grind (arith, h) in numbered_other m b.number (λ e. d (sym same ∙ sym e))

pub cells_beside : (d : Core) (board : ℕ) → cells_of d board ≡ beside (is_numbered board) d.tables.boards d.cells
cells_beside d board = is_beside (is_numbered board) d.tables.boards d.cells

-- no board and no cells are in order
pub none_order : (written : ℕ → Bool) → AreInOrder None None written
none_order written = record { keys = tt; cells = λ i. tt; own = λ i. tt; there = λ i h. refl }

-- the same board and cells, with no fewer write handles
pub order_more : (w : Option Board) (c : Option (List PlaceSeen)) (old new : ℕ → Bool) → AreInOrder w c old → ((i : ℕ) → new i ≡ false → old i ≡ false) → AreInOrder w c new
order_more w c old new o less = record { keys = o.keys; cells = o.cells; own = o.own; there = λ i h. o.there i (less i h) }

-- the same, told in another way
pub order_as : (w v : Option Board) (c e : Option (List PlaceSeen)) (written : ℕ → Bool) → v ≡ w → e ≡ c → AreInOrder w c written → AreInOrder v e written
order_as w v c e written same_board same_cells o = subst (λ b. AreInOrder b e written) (sym same_board) (subst (λ x. AreInOrder w x written) (sym same_cells) o)

-- the places of one board changed
module _ (d : Core) (board : ℕ) (ps qs : List PlaceSeen) (stand : cells_of d board ≡ Some ps) where
  set_own : cells_of (with_cells d board qs) board ≡ Some qs
  set_own =
      is_beside (is_numbered board) d.tables.boards (set_at d.cells (place_of_board d board) qs)
      ∙ beside-set (is_numbered board) d.tables.boards d.cells qs
      ∙ ap (option_map (λ (old : List PlaceSeen). qs)) (sym (cells_beside d board) ∙ stand)

  set_other : (b : ℕ) → board ≢ b → cells_of (with_cells d board qs) b ≡ cells_of d b
  set_other b ne =
      is_beside (is_numbered b) d.tables.boards (set_at d.cells (place_of_board d board) qs)
      ∙ beside-set-other (is_numbered board) (is_numbered b) (apart board b ne) d.tables.boards d.cells qs
      ∙ sym (cells_beside d b)

  -- no cell changes where those of its places are the same
  pub cell_changed : ((i : ℕ) → cell_at qs i ≡ cell_at ps i) → (b i : ℕ) → cell_of (with_cells d board qs) b i ≡ cell_of d b i
  cell_changed same b i = by_number _ board b
      (λ here. subst (λ n. cell_of (with_cells d board qs) n i ≡ cell_of d n i) here
      (ap (λ o. cell_in o i) set_own ∙ same i ∙ sym (ap (λ o. cell_in o i) stand)))
      (λ ne. ap (λ o. cell_in o i) (set_other b ne))

  pub order_changed : ((b : ℕ) → board ≢ b → AreInOrder (board_at d.tables b) (cells_of d b) (is_written d b))
      → AreInOrder (board_at d.tables board) (Some qs) (is_written d board) → IsInOrder (with_cells d board qs)
  order_changed others own b = by_number _ board b
      (λ here. subst (λ n. AreInOrder (board_at d.tables n) (cells_of (with_cells d board qs) n) (is_written d n)) here
      (order_as (board_at d.tables board) (board_at d.tables board) (Some qs) (cells_of (with_cells d board qs) board) (is_written d board) refl set_own own))
      (λ ne. order_as (board_at d.tables b) (board_at d.tables b) (cells_of d b) (cells_of (with_cells d board qs) b) (is_written d b) refl (set_other b ne) (others b ne))
