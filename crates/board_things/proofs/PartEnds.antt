-- Where the parts end among all pairs.
use Rattle.std.proofs.Common.{◌≡◌, ℕ, zero, suc, ◌+◌, ◌-◌, ◌<◌, ◌≤◌, Bool, true, false, cond, List, [], ◌∷◌, ◌++◌, length, take, drop, refl, sym, ap, ◌∙◌, subst, arith}
use Rattle.std.specs.Prelude.{nat_le, slice_get, slice_index_or, Option, Some, None}
use Rattle.std.specs.List.{prefix_len}
use Rattle.std.specs.List.Sorted.{IsPartitionedBy}
use Rattle.std.proofs.lemmas.Bool.{le-leb, leb-false, leb-true}
use Rattle.std.proofs.lemmas.List.{length-append, length-take, length-take-le, take-append-drop}
use Rattle.board_things.specs.Nodes.{AreCounted, KeepsAhead, ends_from, is_by, joined, part_at}
use Rattle.board_things.proofs.Joined.{Parts, ahead, get_in, get_past}

-- ---- the ends of parts

pub ends_append : (count : ℕ) (ps qs : Parts) → ends_from count (ps ++ qs) ≡ ends_from count ps ++ ends_from (count + length (joined ps)) qs
ends_append count [] qs = ap (λ (n : ℕ). ends_from n qs) (let e : count ≡ count + 0 = omega arith in e)
ends_append count (p ∷ ps) qs =
    let n = length-append p (joined ps) in
    ap (λ (es : List ℕ). (count + length p) ∷ es) (ends_append (count + length p) ps qs
    ∙ ap (λ (k : ℕ). ends_from (count + length p) ps ++ ends_from k qs) (let e : count + length p + length (joined ps) ≡ count + length (p ++ joined ps) = omega (arith, n) in e))

pub length_ends : (count : ℕ) (ps : Parts) → length (ends_from count ps) ≡ length ps
length_ends count [] = refl
length_ends count (p ∷ ps) = ap (λ (n : ℕ). suc n) (length_ends (count + length p) ps)

pub take_ends : (k count : ℕ) (ps : Parts) → take k (ends_from count ps) ≡ ends_from count (take k ps)
take_ends zero count ps = refl
take_ends (suc k) count [] = refl
take_ends (suc k) count (p ∷ ps) = ap (λ (es : List ℕ). (count + length p) ∷ es) (take_ends k (count + length p) ps)

-- those of the first parts and those of the rest
pub ends_split : (k : ℕ) (ps : Parts) → ends_from 0 (take k ps) ++ ends_from (ahead k ps) (drop k ps) ≡ ends_from 0 ps
ends_split k ps =
    ap (λ (n : ℕ). ends_from 0 (take k ps) ++ ends_from n (drop k ps)) (let e : ahead k ps ≡ 0 + ahead k ps = omega arith in e)
    ∙ sym (ends_append 0 (take k ps) (drop k ps)) ∙ ap (λ (qs : Parts). ends_from 0 qs) (take-append-drop k ps)

-- ---- the last end is the number of the pairs

abbrev last_or : ℕ → List ℕ → ℕ
last_or d [] = d
last_or d (x ∷ xs) = last_or x xs

abbrev number_or : ℕ → Option ℕ → ℕ
number_or d None = d
number_or d (Some n) = n

last_given : (d : ℕ) (xs : List ℕ) → number_or d (slice_get xs (length xs - 1)) ≡ last_or d xs
last_given d [] = refl
last_given d (x ∷ []) = ap (λ (k : ℕ). number_or d (slice_get (x ∷ []) k)) (let e : length (x ∷ []) - 1 ≡ 0 = omega arith in e)
last_given d (x ∷ (y ∷ ys)) =
    ap (λ (k : ℕ). number_or d (slice_get (x ∷ (y ∷ ys)) k)) (let e : length (x ∷ (y ∷ ys)) - 1 ≡ suc (length (y ∷ ys) - 1) = omega arith in e)
    ∙ last_given d (y ∷ ys)

last_end : (count : ℕ) (ps : Parts) → last_or count (ends_from count ps) ≡ count + length (joined ps)
last_end count [] = (let e : count ≡ count + 0 = omega arith in e)
last_end count (p ∷ ps) = let n = length-append p (joined ps) in let ih = last_end (count + length p) ps in omega (arith, n, ih)

pub count_given : (es : List ℕ) (o : Option ℕ) → o ≡ slice_get es (length es - 1) → (ps : Parts) → es ≡ ends_from 0 ps → number_or 0 o ≡ length (joined ps)
count_given es o e ps are =
    ap (λ (x : Option ℕ). number_or 0 x) e ∙ last_given 0 es ∙ ap (λ (xs : List ℕ). last_or 0 xs) are ∙ last_end 0 ps
    ∙ (let z : 0 + length (joined ps) ≡ length (joined ps) = omega arith in z)

-- ---- the part of a place

module _ (place : ℕ) where
  low : (count : ℕ) (ps : Parts) (j d : ℕ) → j < length (ends_from count ps) → count ≤ slice_index_or (ends_from count ps) j d
  low count [] j d lt = absurd (omega (arith, lt))
  low count (p ∷ ps) zero d lt = omega arith
  low count (p ∷ ps) (suc j) d lt = let ih = low (count + length p) ps j d (omega (arith, lt)) in omega (arith, ih)

  pub parted_ends : (count : ℕ) (ps : Parts) → IsPartitionedBy (is_by place) (ends_from count ps)
  parted_ends count [] i j d le lt h = absurd (omega (arith, lt))
  parted_ends count (p ∷ ps) zero zero d le lt h = h
  parted_ends count (p ∷ ps) zero (suc j) d le lt h =
      let end = slice_index_or (ends_from (count + length p) ps) j d in
      let here = low (count + length p) ps j d (omega (arith, lt)) in
      let there = leb-true end place h in
      le-leb (count + length p) place (omega (arith, here, there))
  parted_ends count (p ∷ ps) (suc i) zero d le lt h = absurd (omega (arith, le))
  parted_ends count (p ∷ ps) (suc i) (suc j) d le lt h = parted_ends (count + length p) ps i j d (omega (arith, le)) (omega (arith, lt)) h

  -- the pairs ahead of the part are ahead of the place, and the pair stands in the part
  abbrev IsIn : ℕ → Parts → ℕ → Type 0
  IsIn count ps k = (count + ahead k ps ≤ place) × (slice_get (joined ps) (place - count) ≡ slice_get (part_at k ps) (place - (count + ahead k ps)))

  part_of_end : (count : ℕ) (ps : Parts) → count ≤ place → IsIn count ps (prefix_len (is_by place) (ends_from count ps))
  part_of_end count [] le = (omega (arith, le), refl)
  part_of_end count (p ∷ ps) le = by (nat_le (count + length p) place) refl (part_of_end (count + length p) ps)
    where
      by : (b : Bool) → nat_le (count + length p) place ≡ b
          → (count + length p ≤ place → IsIn (count + length p) ps (prefix_len (is_by place) (ends_from (count + length p) ps)))
          → IsIn count (p ∷ ps) (prefix_len (is_by place) (ends_from count (p ∷ ps)))
      by true e ih =
          let k = prefix_len (is_by place) (ends_from (count + length p) ps) in
          let n : suc k ≡ prefix_len (is_by place) (ends_from count (p ∷ ps)) = (let s : suc k ≡ 1 + k = omega arith in s) ∙ sym (ap (λ (b : Bool). cond b (1 + k) 0) e) in
          let fits = leb-true (count + length p) place e in
          let rest = ih fits in
          let all = length-append p (joined (take k ps)) in
          subst (IsIn count (p ∷ ps)) n (
            omega (arith, rest.0, all),
            get_past p (joined ps) (place - count) (omega (arith, fits))
                ∙ ap (λ (i : ℕ). slice_get (joined ps) i) (let s : place - count - length p ≡ place - (count + length p) = omega arith in s)
                ∙ rest.1
                ∙ ap (λ (i : ℕ). slice_get (part_at k ps) i) (let s : place - (count + length p + ahead k ps) ≡ place - (count + length (p ++ joined (take k ps))) = omega (arith, all) in s),
          )
      by false e ih =
          let n : 0 ≡ prefix_len (is_by place) (ends_from count (p ∷ ps)) = sym (ap (λ (b : Bool). cond b (1 + prefix_len (is_by place) (ends_from (count + length p) ps)) 0) e) in
          let past = leb-false (count + length p) place e in
          subst (IsIn count (p ∷ ps)) n (
            omega (arith, le),
            get_in p (joined ps) (place - count) (omega (arith, past, le))
                ∙ ap (λ (i : ℕ). slice_get p i) (let s : place - count ≡ place - (count + 0) = omega arith in s),
          )

  module _ (ps : Parts) (es : List ℕ) (k : ℕ) (are : es ≡ ends_from 0 ps) (is : k ≡ prefix_len (is_by place) es) where
    found : IsIn 0 ps k
    found = subst (IsIn 0 ps) (sym (is ∙ ap (λ (xs : List ℕ). prefix_len (is_by place) xs) are)) (part_of_end 0 ps (omega arith))

    pub is_ahead : ahead k ps ≤ place
    is_ahead = omega (arith, found.0)

    pub is_there : slice_get (joined ps) place ≡ slice_get (part_at k ps) (place - ahead k ps)
    is_there =
        ap (λ (i : ℕ). slice_get (joined ps) i) (let s : place ≡ place - 0 = omega arith in s) ∙ found.1
        ∙ ap (λ (i : ℕ). slice_get (part_at k ps) i) (let s : place - (0 + ahead k ps) ≡ place - ahead k ps = omega arith in s)

-- what the first of the ends tell
pub ends_ahead : (ps : Parts) (es : List ℕ) (k : ℕ) → es ≡ ends_from 0 ps → take k es ≡ ends_from 0 (take k ps)
ends_ahead ps es k are = ap (λ (xs : List ℕ). take k xs) are ∙ take_ends k 0 ps

-- no fewer ends are there than the first of them tell of parts
pub fits_ends : (k : ℕ) (ps : Parts) (es : List ℕ) → k ≤ length ps → take k es ≡ ends_from 0 (take k ps) → k ≤ length es
fits_ends k ps es inside are =
    let n : length (take k es) ≡ k = ap (λ (xs : List ℕ). length xs) are ∙ length_ends 0 (take k ps) ∙ length-take-le k ps inside in
    let short = length-take k es in
    omega (arith, n, short)

pub take_resized : (k n : ℕ) (xs ys : List ℕ) → k ≤ n → k ≤ length xs → take k (take n xs ++ ys) ≡ take k xs
take_resized zero n xs ys le inside = refl
take_resized (suc k) zero xs ys le inside = absurd (omega (arith, le))
take_resized (suc k) (suc n) [] ys le inside = absurd (omega (arith, inside))
take_resized (suc k) (suc n) (x ∷ xs) ys le inside = ap (λ (zs : List ℕ). x ∷ zs) (take_resized k n xs ys (omega (arith, le)) (omega (arith, inside)))

-- ---- parts of which some change

pub keeps_trans : {i j : ℕ} {ps qs rs : Parts} → KeepsAhead i 0 ps qs → KeepsAhead j 0 qs rs → j ≤ i → KeepsAhead j 0 ps rs
keeps_trans one two le = record {
  ahead = λ k small. two.ahead k small ∙ one.ahead k (omega (arith, small, le));
  most = omega (arith, one.most, two.most);
}

-- the pairs of the first parts and those of the rest
pub ahead_and_rest : (ps : Parts) (k : ℕ) → ahead k ps + length (joined (drop k ps)) ≡ length (joined ps)
ahead_and_rest ps zero = omega arith
ahead_and_rest [] (suc k) = refl
ahead_and_rest (p ∷ ps) (suc k) =
    let one = length-append p (joined (take k ps)) in
    let all = length-append p (joined ps) in
    let ih = ahead_and_rest ps k in
    omega (arith, one, all, ih)

-- the parts that were ahead have their ends
module _ {i more : ℕ} {ps qs : Parts} (keeps : KeepsAhead i more ps qs) (es : List ℕ) (counted : AreCounted es ps) (k : ℕ) (le : k ≤ i) where
  pub ends_kept : take k es ≡ ends_from 0 (take k qs)
  ends_kept = ends_ahead ps es k counted.ends_are ∙ ap (λ (rs : Parts). ends_from 0 rs) (sym (keeps.ahead k le))

  pub long_enough : k ≤ length ps → k ≤ length qs
  long_enough inside =
      let same : length (take k qs) ≡ k = ap (λ (rs : Parts). length rs) (keeps.ahead k le) ∙ length-take-le k ps inside in
      let short = length-take k qs in
      omega (arith, same, short)

  pub has_room : (capacity : ℕ) → length es + more ≤ capacity → length qs ≤ capacity
  has_room capacity fits =
      let n : length es ≡ length ps = ap (λ (xs : List ℕ). length xs) counted.ends_are ∙ length_ends 0 ps in
      omega (arith, keeps.most, n, fits)
