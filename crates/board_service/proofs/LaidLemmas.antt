-- The entries of a board lie one behind another, as boards come and go.
use Rattle.std.proofs.Common.{◌≡◌, ◌≢◌, ℕ, zero, suc, ◌+◌, ◌*◌, ◌≤◌, ◌<◌, Bool, true, false, cond, ◌==◌, List, [], ◌∷◌, ◌++◌, All, refl, sym, subst, Option, Some, None, ⊎_elim, arith}
use Rattle.std.specs.Prelude.{find, slice_get, IfSome}
use Rattle.std.proofs.lemmas.Bool.{cases_lt}
use Rattle.std.proofs.lemmas.List.Elements.{All-head, All-tail}
use Rattle.board_layout.specs.declared.shape.Shape.{Shape}
use Rattle.board_layout.specs.declared.shape.CellPlace.{CellPlace}
use Rattle.board_layout.specs.Layout.{IsShape, LiesBefore, cell_bytes, cell_end, cell_shape, head_bytes, place_at, places_from, start_of}
use Rattle.board_layout.proofs.Places.{alignment_bound}
use Rattle.board_layout.proofs.Cells.{IsCellFor-place_at, align_ge, cell_end-place_at, start_ge}
use Rattle.board_model.specs.declared.tables.Board.{Board}
use Rattle.board_model.specs.declared.tables.Entry.{Entry}
use Rattle.board_model.specs.Tables.{Added, Tables, board_at, entries_of, entry_at, entry_in, is_numbered, shape_of, shapes_of, without_first}
use Rattle.board_service.specs.Facts.{AreTables, IsPlaced, board_number}
use Rattle.board_service.proofs.DrawnLemmas.{find-without-other}

-- what the facts say of one board
pub record IsLaid (b : Board) : Type 0 where
  pub apart : (i j : ℕ) (e f : Entry) → slice_get b.entries i ≡ Some e → slice_get b.entries j ≡ Some f → i < j → LiesBefore e.cell f.cell
  pub placed : (i : ℕ) (e : Entry) → slice_get b.entries i ≡ Some e → IsPlaced e.cell
  pub keyed : b.key.size ≤ 64

-- ---- planned entries

-- an entry with the cell that is laid for it from this byte on
abbrev laid_at : ℕ → Added → Entry
laid_at at a = record { key = record { bytes = a.key }; value = a.value; cell = place_at at (shape_of a) }

-- the byte behind that cell
abbrev behind : ℕ → Added → ℕ
behind at a = start_of at (shape_of a) + cell_bytes (shape_of a)

abbrev planned : ℕ → List Added → List Entry
planned at added = entries_of (places_from at (shapes_of added)) added

-- a laid cell is placed, and lies at or after the byte from which it was laid
pub record IsLaidFrom (at : ℕ) (c : CellPlace) : Type 0 where
  pub placed : IsPlaced c
  pub low : at ≤ 8 * c.first

laid_one : (at : ℕ) (s : Shape) → IsShape s → IsLaidFrom at (place_at at s)
laid_one at s h =
    let c = IsCellFor-place_at at s h in
    let head : 16 ≤ head_bytes s = align_ge s.alignment 16 (alignment_bound s.alignment h.alignment).0 in
    record {
      placed = record { head = omega (arith, head, c.head); begins = sym c.first };
      low = omega (arith, c.first, start_ge at s);
    }

laid_from : (at : ℕ) (added : List Added) → All IsShape (shapes_of added) → (i : ℕ) (e : Entry) → slice_get (planned at added) i ≡ Some e → IsLaidFrom at e.cell
laid_from at [] h i e f = absurd cc
laid_from at (a ∷ more) h zero e f =
    let same : laid_at at a ≡ e = cc in
    subst (λ (y : Entry). IsLaidFrom at y.cell) same (laid_one at (shape_of a) (All-head IsShape (shape_of a) (shapes_of more) h))
laid_from at (a ∷ more) h (suc i) e f =
    let later = laid_from (behind at a) more (All-tail IsShape (shape_of a) (shapes_of more) h) i e f in
    record { placed = later.placed; low = omega (arith, later.low, start_ge at (shape_of a)) }

laid_apart : (at : ℕ) (added : List Added) → All IsShape (shapes_of added) → (i j : ℕ) (e f : Entry)
    → slice_get (planned at added) i ≡ Some e → slice_get (planned at added) j ≡ Some f → i < j → LiesBefore e.cell f.cell
laid_apart at [] h i j e f p q lt = absurd cc
laid_apart at (a ∷ more) h zero zero e f p q lt = absurd (omega arith)
laid_apart at (a ∷ more) h (suc i) zero e f p q lt = absurd (omega arith)
laid_apart at (a ∷ more) h zero (suc j) e f p q lt =
    let same : laid_at at a ≡ e = cc in
    let ends = cell_end-place_at at (shape_of a) (All-head IsShape (shape_of a) (shapes_of more) h) in
    let later = laid_from (behind at a) more (All-tail IsShape (shape_of a) (shapes_of more) h) j f q in
    subst (λ (y : Entry). LiesBefore y.cell f.cell) same (omega (arith, ends, later.low))
laid_apart at (a ∷ more) h (suc i) (suc j) e f p q lt =
    laid_apart (behind at a) more (All-tail IsShape (shape_of a) (shapes_of more) h) i j e f p q (omega arith)

-- a board with planned entries
pub new_laid : (b : Board) (added : List Added) → All IsShape (shapes_of added) → b.entries ≡ planned 0 added → b.key.size ≤ 64 → IsLaid b
new_laid b added h are short = record {
  apart = λ i j e f p q lt. laid_apart 0 added h i j e f (rw are at p) (rw are at q) lt;
  placed = λ i e p. (laid_from 0 added h i e (rw are at p)).placed;
  keyed = short;
}

-- ---- the board with a number

abbrev pub EachLaid : List Board → Type 0
EachLaid bs = (n : ℕ) → IfSome (find (is_numbered n) bs) (λ b. IsLaid b)

pub are_laid : (t : Tables ℕ ℕ) (last : ℕ) → AreTables t last → EachLaid t.boards
are_laid t last are n = of (board_at t n) (are.apart n) (are.placed n) (are.keyed n)
  where
    of : (o : Option Board) → ((i j : ℕ) (e f : Entry) → entry_in o i ≡ Some e → entry_in o j ≡ Some f → i < j → LiesBefore e.cell f.cell)
        → ((i : ℕ) (e : Entry) → entry_in o i ≡ Some e → IsPlaced e.cell) → IfSome o (λ b. b.key.size ≤ 64) → IfSome o (λ b. IsLaid b)
    of None apart placed short = tt
    of (Some b) apart placed short = record { apart = apart; placed = placed; keyed = short }

pub apart_in : (o : Option Board) → IfSome o (λ b. IsLaid b) → (i j : ℕ) (e f : Entry) → entry_in o i ≡ Some e → entry_in o j ≡ Some f → i < j → LiesBefore e.cell f.cell
apart_in None h i j e f p q lt = absurd cc
apart_in (Some b) h i j e f p q lt = h.apart i j e f p q lt

pub placed_in : (o : Option Board) → IfSome o (λ b. IsLaid b) → (i : ℕ) (e : Entry) → entry_in o i ≡ Some e → IsPlaced e.cell
placed_in None h i e p = absurd cc
placed_in (Some b) h i e p = h.placed i e p

pub keyed_in : (o : Option Board) → IfSome o (λ b. IsLaid b) → IfSome o (λ b. b.key.size ≤ 64)
keyed_in None h = tt
keyed_in (Some b) h = h.keyed

-- one board more
pub laid_more : (bs : List Board) (b : Board) → EachLaid bs → IsLaid b → EachLaid (bs ++ b ∷ [])
laid_more bs b all one n = among bs (all n)
  where
    among : (xs : List Board) → IfSome (find (is_numbered n) xs) (λ x. IsLaid x) → IfSome (find (is_numbered n) (xs ++ b ∷ [])) (λ x. IsLaid x)
    among [] h = elim (is_numbered n b) as (λ c. IfSome (cond c (Some b) None) (λ x. IsLaid x)) [ true ↦ one | false ↦ tt ]
    among (x ∷ xs) h =
        elim (is_numbered n x) as (λ c. IfSome (cond c (Some x) (find (is_numbered n) xs)) (λ y. IsLaid y) → IfSome (cond c (Some x) (find (is_numbered n) (xs ++ b ∷ []))) (λ y. IsLaid y)) [
          | true ↦ λ k. k
          | false ↦ λ k. among xs k
        ] h

-- one board less
pub laid_less : (bs : List Board) (of : ℕ) → EachLaid bs → find (is_numbered of) (without_first (is_numbered of) bs) ≡ None → EachLaid (without_first (is_numbered of) bs)
laid_less bs of all gone n = at (n == of) refl
  where
    at : (c : Bool) → (n == of) ≡ c → IfSome (find (is_numbered n) (without_first (is_numbered of) bs)) (λ b. IsLaid b)
    at true e =
        let same : of ≡ n = grind (arith, e) in
        let none = subst (λ (m : ℕ). find (is_numbered m) (without_first (is_numbered of) bs) ≡ None) same gone in
        subst (λ (o : Option Board). IfSome o (λ b. IsLaid b)) (sym none) tt
    at false e =
        let other : n ≢ of = λ s. (let t : (n == of) ≡ true = grind (arith, s) in absurd cc) in
        subst (λ (o : Option Board). IfSome o (λ b. IsLaid b)) (sym (find-without-other board_number is_numbered (λ m y. refl) of n bs other)) (all n)

-- ---- places

-- entries of one board that have one place are one
pub one_place : (t : Tables ℕ ℕ) (last : ℕ) → AreTables t last → (board i j : ℕ) (e f : Entry) → entry_at t board i ≡ Some e → entry_at t board j ≡ Some f
    → e.cell.place ≡ f.cell.place → i ≡ j
one_place t last are board i j e f p q same = ⊎_elim
    (λ (lt : i < j). absurd (off i j e f p q same lt))
    (λ (le : j ≤ i). ⊎_elim (λ (lt : j < i). absurd (off j i f e q p (sym same) lt)) (λ (ge : i ≤ j). omega (arith, le, ge)) (cases_lt j i))
    (cases_lt i j)
  where
    off : (k l : ℕ) (x y : Entry) → entry_at t board k ≡ Some x → entry_at t board l ≡ Some y → x.cell.place ≡ y.cell.place → k < l → ⊥
    off k l x y r s e lt =
        let before : cell_end (cell_shape x.cell) ≤ y.cell.first = are.apart board k l x y r s lt in
        let first = are.placed board k x r in
        let second = are.placed board l y s in
        absurd (omega (arith, before, first.head, first.begins, second.begins, e))
