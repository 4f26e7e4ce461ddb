-- Counts of steps, entry by entry.
use Rattle.std.proofs.Common.{◌≡◌, ℕ, ◌+◌, ◌-◌, ◌*◌, ◌<◌, ◌≤◌, Bool, true, false, List, [], ◌∷◌, length, arith, refl, ap, Option, Some, None}
use Rattle.std.specs.Prelude.{nat_le}
use Rattle.std.specs.List.{sum, sum_by}
use Rattle.std.proofs.lemmas.Bool.{leb-true, leb-false}
use Rattle.std.proofs.lemmas.List.Sums.{sum_by-cons}
use Rattle.std.proofs.Math.Nat.{mul-le-mul_right}
use Rattle.script_moments.specs.Moments.{Moment}
use Rattle.script_moments.specs.Snapshots.{AreUnlike}
use Rattle.script_moments.specs.Gets.{Get, Round, generations, steps_of, steps_of_get, steps_of_open, NamedEntry}
use Rattle.script_moments.specs.LawsOfSnapshots.{steps_alone}

-- ---- lists of numbers, one beside the other

abbrev pub Below : List ℕ → List ℕ → Type 0
Below [] [] = Unit {0}
Below [] (y ∷ ys) = ⊥
Below (x ∷ xs) [] = ⊥
Below (x ∷ xs) (y ∷ ys) = (x ≤ y) × Below xs ys

pub below_same : (xs : List ℕ) → Below xs xs
below_same [] = tt
below_same (x ∷ xs) = (omega arith, below_same xs)

pub below_more : (xs ys zs : List ℕ) → Below xs ys → Below ys zs → Below xs zs
below_more [] [] [] h k = tt
below_more [] [] (z ∷ zs) h k = k
below_more [] (y ∷ ys) zs h k = absurd h
below_more (x ∷ xs) [] zs h k = absurd h
below_more (x ∷ xs) (y ∷ ys) [] h k = absurd k
below_more (x ∷ xs) (y ∷ ys) (z ∷ zs) h k = (omega (arith, h.0, k.0), below_more xs ys zs h.1 k.1)

sum_cons : (x : ℕ) (xs : List ℕ) → sum (x ∷ xs) ≡ x + sum xs
sum_cons x xs = sum_by-cons (λ (y : ℕ). y) x xs

pub below_sum : (xs ys : List ℕ) → Below xs ys → sum xs ≤ sum ys
below_sum [] [] h = omega arith
below_sum [] (y ∷ ys) h = absurd h
below_sum (x ∷ xs) [] h = absurd h
below_sum (x ∷ xs) (y ∷ ys) h =
    let k = below_sum xs ys h.1 in
    omega (arith, sum_cons x xs, sum_cons y ys, h.0, k)

both_heads : (x y : ℕ) (xs ys : List ℕ) → x ≡ y → xs ≡ ys → x ∷ xs ≡ y ∷ ys
both_heads x y xs ys e f = cc

pub below_equal : (xs ys : List ℕ) → Below xs ys → sum ys ≤ sum xs → xs ≡ ys
below_equal [] [] h le = refl
below_equal [] (y ∷ ys) h le = absurd h
below_equal (x ∷ xs) [] h le = absurd h
below_equal (x ∷ xs) (y ∷ ys) h le =
    let k = below_sum xs ys h.1 in
    both_heads x y xs ys (omega (arith, sum_cons x xs, sum_cons y ys, h.0, k, le)) (below_equal xs ys h.1 (omega (arith, sum_cons x xs, sum_cons y ys, h.0, k, le)))

-- what rose somewhere has a greater sum
pub below_differ : (xs ys : List ℕ) → Below xs ys → (xs ≡ ys → ⊥) → sum xs + 1 ≤ sum ys
below_differ xs ys h ne = at (nat_le (sum ys) (sum xs)) (leb-true (sum ys) (sum xs)) (leb-false (sum ys) (sum xs))
  where
    at : (b : Bool) → (b ≡ true → sum ys ≤ sum xs) → (b ≡ false → sum xs < sum ys) → sum xs + 1 ≤ sum ys
    at true t f = absurd (ne (below_equal xs ys h (t refl)))
    at false t f = omega (arith, f refl)

-- ---- the steps of further tries

unfoldable pub gain : List NamedEntry → List ℕ → List ℕ → ℕ
gain [] xs ys = 0
gain (n ∷ ns) [] ys = 0
gain (n ∷ ns) (x ∷ xs) [] = 0
gain (n ∷ ns) (x ∷ xs) (y ∷ ys) = (y - x) * (n.words + 1) + gain ns xs ys

gain_one : (w x y z : ℕ) → x ≤ y → y ≤ z → (y - x) * (w + 1) + (z - y) * (w + 1) ≡ (z - x) * (w + 1)
gain_one w x y z h k =
    let e : (y - x) + (z - y) ≡ z - x = omega arith in
    let f : ((y - x) + (z - y)) * (w + 1) ≡ (z - x) * (w + 1) = ap (λ (m : ℕ). m * (w + 1)) e in
    omega (arith, f)

pub gain_more : (ns : List NamedEntry) (xs ys zs : List ℕ) → Below xs ys → Below ys zs → gain ns xs ys + gain ns ys zs ≡ gain ns xs zs
unfolding gain
gain_more [] xs ys zs h k = refl
gain_more (n ∷ ns) [] [] [] h k = refl
gain_more (n ∷ ns) [] [] (z ∷ zs) h k = absurd k
gain_more (n ∷ ns) [] (y ∷ ys) zs h k = absurd h
gain_more (n ∷ ns) (x ∷ xs) [] zs h k = absurd h
gain_more (n ∷ ns) (x ∷ xs) (y ∷ ys) [] h k = absurd k
gain_more (n ∷ ns) (x ∷ xs) (y ∷ ys) (z ∷ zs) h k =
    let one = gain_one n.words x y z h.0 k.0 in
    let rest = gain_more ns xs ys zs h.1 k.1 in
    omega (arith, one, rest)

-- ---- gets and rounds, counted

-- a get that gave a generation at or above a, in this many steps
pub record IsCounted (n : NamedEntry) (a : ℕ) (x : Get) : Type 0 where
  pub above : a ≤ x.generation
  pub few : steps_of_get x ≤ n.words + 2 + (x.generation - a) * (n.words + 1)
  pub many : n.words + 2 ≤ steps_of_get x

abbrev pub AreCounted : List NamedEntry → List ℕ → Round → Type 0
AreCounted [] [] [] = Unit {0}
AreCounted [] [] (z ∷ zs) = ⊥
AreCounted [] (x ∷ xs) zs = ⊥
AreCounted (n ∷ ns) [] zs = ⊥
AreCounted (n ∷ ns) (x ∷ xs) [] = ⊥
AreCounted (n ∷ ns) (x ∷ xs) (z ∷ zs) = IsCounted n x z × AreCounted ns xs zs

pub counted_below : (ns : List NamedEntry) (xs : List ℕ) (zs : Round) → AreCounted ns xs zs → Below xs (generations zs)
counted_below [] [] [] h = tt
counted_below [] [] (z ∷ zs) h = absurd h
counted_below [] (x ∷ xs) zs h = absurd h
counted_below (n ∷ ns) [] zs h = absurd h
counted_below (n ∷ ns) (x ∷ xs) [] h = absurd h
counted_below (n ∷ ns) (x ∷ xs) (z ∷ zs) h = (h.0.above, counted_below ns xs zs h.1)

alone_cons : (n : NamedEntry) (ns : List NamedEntry) → steps_alone (n ∷ ns) ≡ (n.words + 2) + steps_alone ns
alone_cons n ns = sum_by-cons (λ (m : NamedEntry). m.words + 2) n ns

round_cons : (z : Get) (zs : Round) → steps_of (z ∷ zs) ≡ steps_of_get z + steps_of zs
round_cons z zs = sum_by-cons steps_of_get z zs

pub counted_few : (ns : List NamedEntry) (xs : List ℕ) (zs : Round) → AreCounted ns xs zs → steps_of zs ≤ steps_alone ns + gain ns xs (generations zs)
unfolding gain
counted_few [] [] [] h = omega arith
counted_few [] [] (z ∷ zs) h = absurd h
counted_few [] (x ∷ xs) zs h = absurd h
counted_few (n ∷ ns) [] zs h = absurd h
counted_few (n ∷ ns) (x ∷ xs) [] h = absurd h
counted_few (n ∷ ns) (x ∷ xs) (z ∷ zs) h =
    let rest = counted_few ns xs zs h.1 in
    omega (arith, alone_cons n ns, round_cons z zs, h.0.few, rest)

pub counted_many : (ns : List NamedEntry) (xs : List ℕ) (zs : Round) → AreCounted ns xs zs → steps_alone ns ≤ steps_of zs
counted_many [] [] [] h = omega arith
counted_many [] [] (z ∷ zs) h = absurd h
counted_many [] (x ∷ xs) zs h = absurd h
counted_many (n ∷ ns) [] zs h = absurd h
counted_many (n ∷ ns) (x ∷ xs) [] h = absurd h
counted_many (n ∷ ns) (x ∷ xs) (z ∷ zs) h =
    let rest = counted_many ns xs zs h.1 in
    omega (arith, alone_cons n ns, round_cons z zs, h.0.many, rest)

-- rounds, each beside the one before it
abbrev pub RoundsCounted : List NamedEntry → List ℕ → List Round → Type 0
RoundsCounted ns xs [] = Unit {0}
RoundsCounted ns xs (r ∷ rs) = AreCounted ns xs r × RoundsCounted ns (generations r) rs

-- the generations of the last round
abbrev pub last_of : List ℕ → List Round → List ℕ
last_of xs [] = xs
last_of xs (r ∷ rs) = last_of (generations r) rs

pub rounds_below : (ns : List NamedEntry) (xs : List ℕ) (rs : List Round) → RoundsCounted ns xs rs → Below xs (last_of xs rs)
rounds_below ns xs [] h = below_same xs
rounds_below ns xs (r ∷ rs) h = below_more xs (generations r) (last_of (generations r) rs) (counted_below ns xs r h.0) (rounds_below ns (generations r) rs h.1)

rounds_cons : (r : Round) (rs : List Round) → sum_by steps_of (r ∷ rs) ≡ steps_of r + sum_by steps_of rs
rounds_cons r rs = sum_by-cons steps_of r rs

pub rounds_few : (ns : List NamedEntry) (xs : List ℕ) (rs : List Round) → RoundsCounted ns xs rs → sum_by steps_of rs ≤ length rs * steps_alone ns + gain ns xs (last_of xs rs)
rounds_few ns xs [] h = omega arith
rounds_few ns xs (r ∷ rs) h =
    let one = counted_few ns xs r h.0 in
    let rest = rounds_few ns (generations r) rs h.1 in
    let sums = gain_more ns xs (generations r) (last_of (generations r) rs) (counted_below ns xs r h.0) (rounds_below ns (generations r) rs h.1) in
    omega (arith, rounds_cons r rs, one, rest, sums)

-- each of these rounds has other generations than the one before
abbrev UnlikeAfter : List ℕ → List Round → Type 0
UnlikeAfter xs [] = Unit {0}
UnlikeAfter xs (r ∷ rs) = (xs ≡ generations r → ⊥) × UnlikeAfter (generations r) rs

unlike_after : (r : Round) (rs : List Round) → AreUnlike (r ∷ rs) → UnlikeAfter (generations r) rs
unlike_after r [] h = tt
unlike_after r (q ∷ rs) h = (h.0, unlike_after q rs h.1)

unlike_rise : (ns : List NamedEntry) (xs : List ℕ) (rs : List Round) → RoundsCounted ns xs rs → UnlikeAfter xs rs → sum xs + length rs ≤ sum (last_of xs rs)
unlike_rise ns xs [] h u = omega arith
unlike_rise ns xs (r ∷ rs) h u =
    let one = below_differ xs (generations r) (counted_below ns xs r h.0) u.0 in
    let rest = unlike_rise ns (generations r) rs h.1 u.1 in
    omega (arith, one, rest)

-- so there are few of them
pub rounds_rise : (ns : List NamedEntry) (xs : List ℕ) (rs : List Round) → RoundsCounted ns xs rs → AreUnlike rs → sum xs + length rs ≤ sum (last_of xs rs) + 1
rounds_rise ns xs [] h u = omega arith
rounds_rise ns xs (r ∷ rs) h u =
    let one = below_sum xs (generations r) (counted_below ns xs r h.0) in
    let rest = unlike_rise ns (generations r) rs h.1 (unlike_after r rs u) in
    omega (arith, one, rest)

-- ---- a round that runs

-- the get that runs, in this many steps
abbrev pub PartCounted : List NamedEntry → List ℕ → List ℕ → Round → Option (Moment × List Moment) → Type 0
PartCounted ns xs ys [] None = Unit {0}
PartCounted [] xs ys [] (Some o) = ⊥
PartCounted (n ∷ ns) [] ys [] (Some o) = ⊥
PartCounted (n ∷ ns) (x ∷ xs) [] [] (Some o) = ⊥
PartCounted (n ∷ ns) (x ∷ xs) (y ∷ ys) [] (Some o) = length o.1 ≤ n.words + 2 + (y - x) * (n.words + 1)
PartCounted [] xs ys (z ∷ zs) o = ⊥
PartCounted (n ∷ ns) [] ys (z ∷ zs) o = ⊥
PartCounted (n ∷ ns) (x ∷ xs) [] (z ∷ zs) o = ⊥
PartCounted (n ∷ ns) (x ∷ xs) (y ∷ ys) (z ∷ zs) o = IsCounted n x z × (z.generation ≤ y) × PartCounted ns xs ys zs o

counted_up : (n : NamedEntry) (x y : ℕ) (z : Get) → IsCounted n x z → z.generation ≤ y → steps_of_get z ≤ n.words + 2 + (y - x) * (n.words + 1)
counted_up n x y z h le =
    let l : (z.generation - x) * (n.words + 1) ≤ (y - x) * (n.words + 1) = mul-le-mul_right (n.words + 1) (omega (arith, h.above)) in
    omega (arith, h.few, l)

pub part_few : (ns : List NamedEntry) (xs ys : List ℕ) (zs : Round) (o : Option (Moment × List Moment)) → PartCounted ns xs ys zs o → steps_of zs + steps_of_open o ≤ steps_alone ns + gain ns xs ys
unfolding gain
part_few ns xs ys [] None h = omega arith
part_few [] xs ys [] (Some o) h = absurd h
part_few (n ∷ ns) [] ys [] (Some o) h = absurd h
part_few (n ∷ ns) (x ∷ xs) [] [] (Some o) h = absurd h
part_few (n ∷ ns) (x ∷ xs) (y ∷ ys) [] (Some o) h = omega (arith, alone_cons n ns, h)
part_few [] xs ys (z ∷ zs) o h = absurd h
part_few (n ∷ ns) [] ys (z ∷ zs) o h = absurd h
part_few (n ∷ ns) (x ∷ xs) [] (z ∷ zs) o h = absurd h
part_few (n ∷ ns) (x ∷ xs) (y ∷ ys) (z ∷ zs) o h =
    let one = counted_up n x y z h.0 h.1 in
    let rest = part_few ns xs ys zs o h.2 in
    omega (arith, alone_cons n ns, round_cons z zs, one, rest)

-- ---- no fewer steps

pub rounds_many : (ns : List NamedEntry) (xs : List ℕ) (rs : List Round) → RoundsCounted ns xs rs → length rs * steps_alone ns ≤ sum_by steps_of rs
rounds_many ns xs [] h = omega arith
rounds_many ns xs (r ∷ rs) h =
    let one = counted_many ns xs r h.0 in
    let rest = rounds_many ns (generations r) rs h.1 in
    omega (arith, rounds_cons r rs, one, rest)

-- where there is a get for each entry
pub part_many : (ns : List NamedEntry) (xs ys : List ℕ) (zs : Round) (o : Option (Moment × List Moment)) → length ns ≡ length zs → PartCounted ns xs ys zs o → steps_alone ns ≤ steps_of zs
part_many [] xs ys [] o e h = omega arith
part_many [] xs ys (z ∷ zs) o e h = absurd (omega arith)
part_many (n ∷ ns) xs ys [] o e h = absurd (omega arith)
part_many (n ∷ ns) [] ys (z ∷ zs) o e h = absurd h
part_many (n ∷ ns) (x ∷ xs) [] (z ∷ zs) o e h = absurd h
part_many (n ∷ ns) (x ∷ xs) (y ∷ ys) (z ∷ zs) o e h =
    let rest = part_many ns xs ys zs o (omega arith) h.2 in
    omega (arith, alone_cons n ns, round_cons z zs, h.0.many, rest)
