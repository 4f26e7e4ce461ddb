-- Laws of places.
use Rattle.std.proofs.Common.{◌≡◌, ℕ, suc, ◌+◌, ◌-◌, ◌^◌, ◌<◌, ◌≤◌, List, [], ◌∷◌, ◌++◌, length, drop, get_or, arith, sym, ap, ◌∙◌, append_assoc, add-one, drop-cons}
use Rattle.std.proofs.lemmas.List.{append-nil, drop_all}
use Rattle.std.proofs.Math.Pow.{pow_mono}
use Rattle.std.proofs.lemmas.Nat.{pow_pos}
use Rattle.std.proofs.Math.Nat.{div-mul-le_self}
use Rattle.board_layout.specs.declared.shape.Shape.{Shape}
use Rattle.board_layout.specs.Layout.{IsAlignment, IsShape, align, cell_alignment, head_bytes, cell_bytes, start_of, place_at, places_from, end_from, payload}
use Rattle.board_layout.specs.declared.shape.CellPlace.{CellPlace}

pub alignment_bound : (a : ℕ) → IsAlignment a → (0 < a) × (a ≤ 4096)
alignment_bound a h =
    let low : 0 < 2 ^ h.0 = pow_pos h.0 in
    let high : 2 ^ h.0 ≤ 2 ^ 12 = pow_mono h.1 in
    (omega (arith, h.2), omega (arith, h.2))

pub align_le : (a n : ℕ) → align a n ≤ n + (a - 1)
align_le a n = div-mul-le_self (n + (a - 1)) a

-- the bytes of a cell and of what may lie before it
pub record IsBounded (at : ℕ) (s : Shape) : Type 0 where
  pub start : start_of at s ≤ at + (cell_alignment s - 1)
  pub head : head_bytes s ≤ 16 + (s.alignment - 1)
  pub low : 0 < s.alignment
  pub high : s.alignment ≤ 4096

pub is_bounded : (at : ℕ) (s : Shape) → IsShape s → IsBounded at s
is_bounded at s h =
    let b = alignment_bound s.alignment h.alignment in
    record { start = align_le (cell_alignment s) at; head = align_le s.alignment 16; low = b.0; high = b.1 }

-- the cells of what is left go on from here, and there is room for them
pub record IsLaid (laid : List CellPlace) (at room : ℕ) (left shapes : List Shape) : Type 0 where
  pub cells : laid ++ places_from at left ≡ places_from 0 shapes
  pub ends : end_from at left ≡ end_from 0 shapes
  pub fits : at + payload left ≤ room

-- the next shape of a list, and what is left of it
pub next_shape : (shapes : List Shape) (i : ℕ) (s : Shape) → i < length shapes → s ≡ get_or shapes i s → drop i shapes ≡ s ∷ drop (i + 1) shapes
next_shape shapes i s lt is = rw (add-one, drop-cons shapes i s) (ap (λ (x : Shape). x ∷ drop (suc i) shapes) (sym is))

-- the first of what is left is laid down
pub lay : (cells : List CellPlace) (at room i : ℕ) (shapes : List Shape) (s : Shape) → i < length shapes → s ≡ get_or shapes i s
    → IsLaid cells at room (drop i shapes) shapes
    → IsLaid (cells ++ place_at at s ∷ []) (start_of at s + cell_bytes s) room (drop (i + 1) shapes) shapes
lay cells at room i shapes s lt is h =
    let e : drop i shapes ≡ s ∷ drop (i + 1) shapes = next_shape shapes i s lt is in
    let h' : IsLaid cells at room (s ∷ drop (i + 1) shapes) shapes = rw e at h in
    record {
      cells = append_assoc cells (place_at at s ∷ []) (places_from (start_of at s + cell_bytes s) (drop (i + 1) shapes)) ∙ h'.cells;
      ends = h'.ends;
      fits = omega (arith, h'.fits, align_le (cell_alignment s) at);
    }

-- nothing is left to lay
pub all_laid : (cells : List CellPlace) (at room i : ℕ) (shapes : List Shape) → length shapes ≤ i → IsLaid cells at room (drop i shapes) shapes
    → (cells ≡ places_from 0 shapes) × (at ≡ end_from 0 shapes)
all_laid cells at room i shapes le h =
    let h' : IsLaid cells at room [] shapes = rw (drop_all i shapes le) at h in
    (sym (append-nil cells) ∙ h'.cells, h'.ends)
