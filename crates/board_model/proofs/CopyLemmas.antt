-- Words, copies and stores.
use Rattle.std.proofs.Common.{◌≡◌, ℕ, ◌+◌, ◌-◌, ◌*◌, ◌%◌, ◌<◌, ◌≤◌, ◌≢◌, List, [], ◌∷◌, ◌++◌, length, take, set, get_or, arith, sym, ap, subst, ◌∙◌, get_or-set_same, get_or-set_other, inl, inr}
use Rattle.std.proofs.lemmas.List.{length-set, length_push, get_or-take, length-take-le, get_or_push}
use Rattle.std.proofs.lemmas.Bool.{cases_eq}
use Rattle.std.specs.Prelude.{◌⊎◌}
use Rattle.board_layout.specs.declared.shape.CellShape.{CellShape}
use Rattle.board_model.specs.Replies.{latest}
use Rattle.board_cell_model.specs.OwedAccesses.{copy_at, spare_at, current_at}
use Rattle.board_layout.specs.Layout.{cell_end}
use Rattle.board_model.specs.Sound.{Stands, IsCell}

-- ---- numbers

-- a number is even and the next one odd, or the other way round
pub record IsEven (g : ℕ) : Type 0 where
  pub this : g % 2 ≡ 0
  pub next : (g + 1) % 2 ≡ 1

pub record IsOdd (g : ℕ) : Type 0 where
  pub this : g % 2 ≡ 1
  pub next : (g + 1) % 2 ≡ 0

pub parity : (g : ℕ) → IsEven g ⊎ IsOdd g
parity g = at (cases_eq (g % 2) 0)
  where
    at : (g % 2 ≡ 0) ⊎ (g % 2 ≡ 0 → ⊥) → IsEven g ⊎ IsOdd g
    at (inl h) = inl (record { this = h; next = omega arith })
    at (inr h) = inr (record { this = omega arith; next = omega arith })

pub twice : (g : ℕ) → (g + 1 + 1) % 2 ≡ g % 2
twice g = omega arith

-- a copy lies inside its cell, behind the counter
pub record IsInside (c : CellShape) (at : ℕ) : Type 0 where
  pub low : c.first + c.head ≤ at
  pub high : at + c.words ≤ cell_end c

pub copy_inside : (c : CellShape) (g : ℕ) → IsInside c (copy_at c g)
copy_inside c g = at (parity g)
  where
    at : IsEven g ⊎ IsOdd g → IsInside c (copy_at c g)
    at (inl h) = rw h.this (record { low = omega arith; high = omega arith })
    at (inr h) = rw h.this (record { low = omega arith; high = omega arith })

-- the spare copy and the current one have no word in common
pub copies_apart : (c : CellShape) (g i j : ℕ) → i < c.words → j < c.words → current_at c g + j ≢ spare_at c g + i
copies_apart c g i j hi hj = at (parity g)
  where
    at : IsEven g ⊎ IsOdd g → current_at c g + j ≢ spare_at c g + i
    at (inl h) e = absurd (omega (arith, rw (h.this, h.next) at e))
    at (inr h) e = absurd (omega (arith, rw (h.this, h.next) at e))

-- ---- stores

-- a word that is neither the counter nor in the current copy
pub record IsUntouched (c : CellShape) (g i : ℕ) : Type 0 where
  pub counter : c.first ≢ i
  pub current : (k : ℕ) → k < c.words → current_at c g + k ≢ i

pub spare_untouched : (c : CellShape) (g k : ℕ) → 0 < c.head → k < c.words → IsUntouched c g (spare_at c g + k)
spare_untouched c g k h lt =
    let b = copy_inside c g in
    record { counter = λ e. absurd (omega (arith, b.low)); current = λ j l. copies_apart c g k j lt l }

pub outside_untouched : (c : CellShape) (g i : ℕ) → 0 < c.head → (i < c.first) ⊎ (cell_end c ≤ i) → IsUntouched c g i
outside_untouched c g i h (inl lt) =
    let b = copy_inside c (g + 1) in
    record { counter = λ e. absurd (omega arith); current = λ k l e. absurd (omega (arith, b.low)) }
outside_untouched c g i h (inr le) =
    let b = copy_inside c (g + 1) in
    record { counter = λ e. absurd (omega arith); current = λ k l e. absurd (omega (arith, b.high)) }

-- a store elsewhere leaves the words
pub stands_kept : (words : List ℕ) (at i v : ℕ) (these : List ℕ) → ((k : ℕ) → k < length these → at + k ≢ i) → Stands words at these → Stands (set words i v) at these
stands_kept words at i v these off h k lt = get_or-set_other words i (at + k) v 0 (off k lt) ∙ h k lt

-- a store that leaves the counter and the current copy leaves the cell
pub cell_kept : (words : List ℕ) (c : CellShape) (list : List (List ℕ)) (i v : ℕ) → IsUntouched c (length list) i → IsCell words c list → IsCell (set words i v) c list
cell_kept words c list i v off h = record {
  inside = omega (arith, h.inside, length-set words i v);
  head = h.head;
  some = h.some;
  counter = get_or-set_other words i c.first v 0 off.counter ∙ h.counter;
  size = h.size;
  current = stands_kept words (current_at c (length list)) i v (latest list) (λ k lt. off.current k (omega (arith, h.size))) h.current;
}

-- one more word
pub stands_more : (words : List ℕ) (at k v : ℕ) (value : List ℕ) → k < length value → at + k < length words → v ≡ get_or value k 0 → Stands words at (take k value) → Stands (set words (at + k) v) at (take (k + 1) value)
stands_more words at k v value lt room e h j l = here (cases_eq j k)
  where
    short : length (take (k + 1) value) ≡ k + 1
    short = length-take-le (k + 1) value (omega arith)

    less : length (take k value) ≡ k
    less = length-take-le k value (omega arith)

    here : (j ≡ k) ⊎ (j ≡ k → ⊥) → get_or (set words (at + k) v) (at + j) 0 ≡ get_or (take (k + 1) value) j 0
    here (inl q) =
        let a : get_or (set words (at + k) v) (at + k) 0 ≡ v = get_or-set_same words (at + k) v 0 room in
        let b : get_or (take (k + 1) value) k 0 ≡ get_or value k 0 = get_or-take (k + 1) value k 0 (omega arith) in
        rw q (a ∙ e ∙ sym b)
    here (inr ne) =
        let jk : j < k = omega (arith, short) in
        let a : get_or (set words (at + k) v) (at + j) 0 ≡ get_or words (at + j) 0 = get_or-set_other words (at + k) (at + j) v 0 (λ q. ne (omega arith)) in
        let b : get_or (take (k + 1) value) j 0 ≡ get_or value j 0 = get_or-take (k + 1) value j 0 (omega arith) in
        let d : get_or (take k value) j 0 ≡ get_or value j 0 = get_or-take k value j 0 jk in
        a ∙ h j (omega (arith, less)) ∙ d ∙ sym b

pub stands_none : (words : List ℕ) (at : ℕ) (value : List ℕ) → Stands words at (take 0 value)
stands_none words at value k lt = absurd (omega arith)

pub latest_push : (list : List (List ℕ)) (v : List ℕ) → latest (list ++ v ∷ []) ≡ v
latest_push list v =
    let n : length (list ++ v ∷ []) ≡ length list + 1 = length_push list v in
    get_or_push list v [] (length (list ++ v ∷ []) - 1) (omega arith)

-- the counter of a cell whose spare copy holds the value is raised
pub cell_published : (words : List ℕ) (c : CellShape) (list : List (List ℕ)) (value : List ℕ) → length value ≡ c.words → Stands words (spare_at c (length list)) value → IsCell words c list
    → IsCell (set words c.first (length list + 1)) c (list ++ value ∷ [])
cell_published words c list value size h cell =
    let n : length (list ++ value ∷ []) ≡ length list + 1 = length_push list value in
    let b = copy_inside c (length list) in
    let l : latest (list ++ value ∷ []) ≡ value = latest_push list value in
    let at : current_at c (length list + 1) ≡ spare_at c (length list) = ap (λ (k : ℕ). c.first + c.head + k * c.words) (twice (length list)) in
    let st : Stands (set words c.first (length list + 1)) (spare_at c (length list)) value = stands_kept words (spare_at c (length list)) c.first (length list + 1) value (λ k lt e. absurd (omega (arith, b.low, cell.head))) h in
    record {
      inside = omega (arith, cell.inside, length-set words c.first (length list + 1));
      head = cell.head;
      some = omega arith;
      counter = get_or-set_same words c.first (length list + 1) 0 (omega (arith, cell.inside, cell.head)) ∙ sym n;
      size = ap length l ∙ size;
      current = subst (λ (x : List ℕ). Stands (set words c.first (length list + 1)) (current_at c (length (list ++ value ∷ []))) x) (sym l)
          (subst (λ (g : ℕ). Stands (set words c.first (length list + 1)) (current_at c g) value) (sym n) (subst (λ (a : ℕ). Stands (set words c.first (length list + 1)) a value) (sym at) st));
    }
