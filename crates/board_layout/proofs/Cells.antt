-- Laws of planned cells.
use Rattle.std.proofs.Common.{◌≡◌, ℕ, zero, suc, ◌+◌, ◌-◌, ◌*◌, ◌/◌, ◌^◌, ◌<◌, ◌≤◌, List, [], ◌∷◌, length, refl, arith, ap, ◌∙◌, ⊎_elim}
use Rattle.std.specs.Prelude.{All, AllPairs}
use Rattle.std.specs.List.{AllZip}
use Rattle.std.proofs.Math.Pow.{pow_mono}
use Rattle.std.proofs.Math.Nat.{mul-mod_left, lt-div-mul-add}
use Rattle.std.proofs.lemmas.Nat.{pow-add}
use Rattle.std.proofs.lemmas.Bool.{cases_lt}
use Rattle.std.proofs.lemmas.List.Elements.{All-nil, All-cons, All-head, All-tail, All-weaker}
use Rattle.board_layout.specs.declared.shape.Shape.{Shape}
use Rattle.board_layout.specs.Layout.{cell_shape, IsAlignment, IsShape, IsCellFor, LiesBefore, LiesWithin, align, cell_alignment, cell_bytes, cell_end, end_from, head_bytes, payload, place_at, places_from, start_of}
use Rattle.board_layout.proofs.Places.{align_le}

-- a number of whole words, in bytes
abbrev pub IsWhole : ℕ → Type 0
IsWhole n = (q : ℕ) × (n ≡ 8 * q)

IsWhole-align : (a n : ℕ) → IsWhole a → IsWhole (align a n)
IsWhole-align a n h =
    let q : ℕ = (n + (a - 1)) / a in
    let e : q * a ≡ q * (8 * h.0) = ap (λ (m : ℕ). q * m) h.1 in
    (q * h.0, omega (arith, e))

-- a power of two from 8 on
IsWhole-power : (a k : ℕ) → 3 ≤ k → a ≡ 2 ^ k → IsWhole a
IsWhole-power a k h e =
    let s : k ≡ 3 + (k - 3) = omega arith in
    (2 ^ (k - 3), e ∙ ap (λ (n : ℕ). 2 ^ n) s ∙ pow-add 2 3 (k - 3))

head_low : (k : ℕ) → k < 3 → align (2 ^ k) 16 ≡ 16
head_low zero h = refl
head_low (suc zero) h = refl
head_low (suc (suc zero)) h = refl
head_low (suc (suc (suc k))) h = absurd (omega arith)

IsWhole-head : (s : Shape) → IsAlignment s.alignment → IsWhole (head_bytes s)
IsWhole-head s h = ⊎_elim
    (λ (low : h.0 < 3). (2, ap (λ (a : ℕ). align a 16) h.2 ∙ head_low h.0 low))
    (λ (high : 3 ≤ h.0). IsWhole-align s.alignment 16 (IsWhole-power s.alignment h.0 high h.2))
    (cases_lt h.0 3)

IsWhole-unit : (s : Shape) → IsAlignment s.alignment → IsWhole (cell_alignment s)
IsWhole-unit s h = ⊎_elim
    (λ (low : h.0 < 3). let le : h.0 ≤ 2 = omega (arith, low) in let small : 2 ^ h.0 ≤ 2 ^ 2 = pow_mono le in (1, omega (arith, h.2, small)))
    (λ (high : 3 ≤ h.0).
    let large : 2 ^ 3 ≤ 2 ^ h.0 = pow_mono high in
    let w : IsWhole s.alignment = IsWhole-power s.alignment h.0 high h.2 in
    (w.0, omega (arith, h.2, w.1, large)))
    (cases_lt h.0 3)

IsWhole-start : (at : ℕ) (s : Shape) → IsShape s → IsWhole (start_of at s)
IsWhole-start at s h = IsWhole-align (cell_alignment s) at (IsWhole-unit s h.alignment)

IsWhole-next : (at : ℕ) (s : Shape) → IsShape s → IsWhole (start_of at s + cell_bytes s)
IsWhole-next at s h =
    let p : IsWhole (start_of at s) = IsWhole-start at s h in
    let q : IsWhole (head_bytes s) = IsWhole-head s h.alignment in
    (p.0 + q.0 + 2 * s.words, omega (arith, p.1, q.1))

pub words_of_bytes : (n : ℕ) → IsWhole n → 8 * (n / 8) ≡ n
words_of_bytes n h = omega (arith, h.1)

-- a planned cell suits its shape
pub IsCellFor-place_at : (at : ℕ) (s : Shape) → IsShape s → IsCellFor s (place_at at s)
IsCellFor-place_at at s h = record {
  aligned = mul-mod_left ((at + (cell_alignment s - 1)) / cell_alignment s) (cell_alignment s);
  first = words_of_bytes (start_of at s) (IsWhole-start at s h);
  head = words_of_bytes (head_bytes s) (IsWhole-head s h.alignment);
  words = refl;
}

pub align_ge : (a n : ℕ) → 0 < a → n ≤ align a n
align_ge a n h = let lt : n + (a - 1) < (n + (a - 1)) / a * a + a = lt-div-mul-add h in omega (arith, lt)

-- the last byte of a planned cell, by its words
pub cell_end-place_at : (at : ℕ) (s : Shape) → IsShape s → 8 * cell_end (cell_shape (place_at at s)) ≡ start_of at s + cell_bytes s
cell_end-place_at at s h = let c = IsCellFor-place_at at s h in omega (arith, c.first, c.head)

-- each planned cell suits its shape
pub suited : (at : ℕ) (shapes : List Shape) → All IsShape shapes → AllZip IsCellFor shapes (places_from at shapes)
suited at [] h = tt
suited at (s ∷ ss) h = (IsCellFor-place_at at s (All-head IsShape s ss h), suited (start_of at s + cell_bytes s) ss (All-tail IsShape s ss h))

-- there is a cell for each shape
pub length-places_from : (at : ℕ) (shapes : List Shape) → length (places_from at shapes) ≡ length shapes
length-places_from at [] = refl
length-places_from at (s ∷ ss) = ap suc (length-places_from (start_of at s + cell_bytes s) ss)

-- the end is a whole number of words
pub IsWhole-end_from : (at : ℕ) (shapes : List Shape) → IsWhole at → All IsShape shapes → IsWhole (end_from at shapes)
IsWhole-end_from at [] w h = w
IsWhole-end_from at (s ∷ ss) w h =
    IsWhole-end_from (start_of at s + cell_bytes s) ss (IsWhole-next at s (All-head IsShape s ss h)) (All-tail IsShape s ss h)

-- a cell starts at or after the place from which one is looked for
pub start_ge : (at : ℕ) (s : Shape) → at ≤ start_of at s
start_ge at s = align_ge (cell_alignment s) at (omega arith)

-- the end lies at or after the first place
pub end_ge : (at : ℕ) (shapes : List Shape) → at ≤ end_from at shapes
end_ge at [] = omega arith
end_ge at (s ∷ ss) = omega (arith, end_ge (start_of at s + cell_bytes s) ss, start_ge at s)

-- the cells take no more bytes than are asked for
pub end_le : (at : ℕ) (shapes : List Shape) → end_from at shapes ≤ at + payload shapes
end_le at [] = omega arith
end_le at (s ∷ ss) = omega (arith, end_le (start_of at s + cell_bytes s) ss, align_le (cell_alignment s) at)

-- each cell lies at or after the place from which cells are laid
pub cells_from : (at from : ℕ) (shapes : List Shape) → from ≤ at → All IsShape shapes → All (λ c. from ≤ 8 * c.first) (places_from at shapes)
cells_from at from [] le h = All-nil (λ c. from ≤ 8 * c.first)
cells_from at from (s ∷ ss) le h =
    let c = IsCellFor-place_at at s (All-head IsShape s ss h) in
    All-cons (λ c. from ≤ 8 * c.first) (place_at at s) (places_from (start_of at s + cell_bytes s) ss)
    (omega (arith, c.first, start_ge at s))
    (cells_from (start_of at s + cell_bytes s) from ss (omega (arith, start_ge at s)) (All-tail IsShape s ss h))

-- each cell ends before the end
pub cells_within : (at end : ℕ) (shapes : List Shape) → end_from at shapes ≤ 8 * end → All IsShape shapes → All (LiesWithin end) (places_from at shapes)
cells_within at end [] le h = All-nil (LiesWithin end)
cells_within at end (s ∷ ss) le h =
    let e : 8 * cell_end (cell_shape (place_at at s)) ≡ start_of at s + cell_bytes s = cell_end-place_at at s (All-head IsShape s ss h) in
    All-cons (LiesWithin end) (place_at at s) (places_from (start_of at s + cell_bytes s) ss)
    (omega (arith, e, end_ge (start_of at s + cell_bytes s) ss))
    (cells_within (start_of at s + cell_bytes s) end ss le (All-tail IsShape s ss h))

AllPairs-cons : {X : Type 0} (R : X → X → Type 0) (x : X) (xs : List X) → All (R x) xs → AllPairs R xs → AllPairs R (x ∷ xs)
AllPairs-cons R x xs first rest zero zero d lt in_list = absurd (omega arith)
AllPairs-cons R x xs first rest zero (suc j) d lt in_list = first j d (omega arith)
AllPairs-cons R x xs first rest (suc i) zero d lt in_list = absurd (omega arith)
AllPairs-cons R x xs first rest (suc i) (suc j) d lt in_list = rest i j d (omega arith) (omega arith)

-- each cell lies before the later ones
pub cells_disjoint : (at : ℕ) (shapes : List Shape) → All IsShape shapes → AllPairs LiesBefore (places_from at shapes)
cells_disjoint at [] h = λ i j d lt in_list. absurd (omega arith)
cells_disjoint at (s ∷ ss) h =
    let next : ℕ = start_of at s + cell_bytes s in
    let e : 8 * cell_end (cell_shape (place_at at s)) ≡ next = cell_end-place_at at s (All-head IsShape s ss h) in
    AllPairs-cons LiesBefore (place_at at s) (places_from next ss)
    (All-weaker (λ c. next ≤ 8 * c.first) (LiesBefore (place_at at s)) (λ c le. omega (arith, e, le)) (places_from next ss)
    (cells_from next next ss (omega arith) (All-tail IsShape s ss h)))
    (cells_disjoint next ss (All-tail IsShape s ss h))
