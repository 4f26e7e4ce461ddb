-- The ids of a word and of many words.
use Rattle.std.specs.Prelude.{◌≡◌, ◌<◌, ◌≤◌, ℕ, zero, suc, ◌+◌, ◌-◌, ◌*◌, ◌/◌, ◌%◌, ◌^◌, Bool, true, false, ◌==◌, if◌then◌else◌, List, ◌∷◌, ◌++◌, refl}
use Rattle.std.proofs.Common.{ap, sym, ◌∙◌, subst, arith, inl, inr, eqb, w64}
use Rattle.std.proofs.lemmas.Bool.{false≢true}
use Rattle.std.proofs.lemmas.Bool.Decides.{Decides-eqb}
use Rattle.std.proofs.lemmas.Nat.Bits.{bit_at-lt, bit_at-trailing_zeros}
use Rattle.std.specs.Int.{bit_at, trailing_zeros}
use Rattle.std.specs.List.{FoldsTo, list_any}
use Rattle.board_event_model.specs.Ids.{Ids, IsWord, has, ids_of_bits, ids_where}
use Rattle.board_event_model.proofs.SetLemmas.{either, is_false, or_split, or_left, or_right}
use Rattle.board_event_model.proofs.QuietLemmas.{bit_one, word_empty}
use Rattle.board_event_core.specs.IdSets.{IsAscending, IsLeast, IsListOf}
use Rattle.board_event_model.specs.declared.call.EventProgress.{EventProgress}
use Rattle.board_event_model.specs.declared.call.EventProgress.TheVariants as progress
use Rattle.board_event_model.specs.EventCalls.{reported}
use Rattle.board_event.specs.Accesses.{IsInRange}
use Rattle.board_event.specs.LentForms.{CallsOn}
use Rattle.board_event.specs.Taking.{NoneBelow}

pub is_eqb : (a b : ℕ) → a ≡ b → eqb a b ≡ true
is_eqb a b h = (Decides-eqb a b).1 h

pub eqb_is : (a b : ℕ) → eqb a b ≡ true → a ≡ b
eqb_is a b h = (Decides-eqb a b).0 h

pub differ : (a b : ℕ) → eqb a b ≡ false → a ≡ b → ⊥
differ a b h e = false≢true (sym h ∙ is_eqb a b e)

-- ---- ids in a range

-- the ids of a range are those of its parts
pub ids_where-parts : (p : ℕ → Bool) (at m n total end : ℕ) → total ≡ m + n → end ≡ at + m → ids_where p at total ≡ ids_where p at m ++ ids_where p end n
ids_where-parts p at zero n total end size place =
    let all : total ≡ n = omega (arith, size) in
    let here : end ≡ at = omega (arith, place) in
    rw (all, here) refl
ids_where-parts p at (suc m) n zero end size place = absurd (omega (arith, size))
ids_where-parts p at (suc m) n (suc t) end size place = by (p at) (ids_where-parts p (at + 1) m n t end (omega (arith, size)) (omega (arith, place)))
  where
    by : (b : Bool) → ids_where p (at + 1) t ≡ ids_where p (at + 1) m ++ ids_where p end n →
        (if b then at ∷ ids_where p (at + 1) t else ids_where p (at + 1) t) ≡ (if b then at ∷ ids_where p (at + 1) m else ids_where p (at + 1) m) ++ ids_where p end n
    by true later = ap (λ (l : List ℕ). at ∷ l) later
    by false later = later

-- a number is in a list of ids in a range exactly where it passes and is in the range
abbrev pub is_in : List ℕ → ℕ → Bool
is_in xs i = list_any (λ z. z == i) xs

record InRange (p : ℕ → Bool) (at n i : ℕ) : Type 0 where
  passes : p i ≡ true
  low : at ≤ i
  high : i < at + n

in_range : (p : ℕ → Bool) (at n i : ℕ) → is_in (ids_where p at n) i ≡ true → InRange p at n i
in_range p at zero i h = absurd (false≢true h)
in_range p at (suc n) i h =
    elim (either (p at)) [
      | inl y ↦ (
          let g : is_in (at ∷ ids_where p (at + 1) n) i ≡ true = rw y at h in
          elim (or_split (eqb at i) (is_in (ids_where p (at + 1) n) i) g) [
            | inl same ↦ (let is = eqb_is at i same in record { passes = subst (λ (x : ℕ). p x ≡ true) is y; low = omega (arith, is); high = omega (arith, is) })
            | inr o ↦ further p at n i (in_range p (at + 1) n i o)
          ])
      | inr f ↦ (
          let g : is_in (ids_where p (at + 1) n) i ≡ true = rw f at h in
          further p at n i (in_range p (at + 1) n i g))
    ]
  where
    further : (p : ℕ → Bool) (at n i : ℕ) → InRange p (at + 1) n i → InRange p at (suc n) i
    further p at n i h = record { passes = h.passes; low = (let l = h.low in omega arith); high = (let u = h.high in omega arith) }

from_range : (p : ℕ → Bool) (at n i : ℕ) → p i ≡ true → at ≤ i → i < at + n → is_in (ids_where p at n) i ≡ true
from_range p at zero i h low high = absurd (omega arith)
from_range p at (suc n) i h low high =
    elim (either (eqb at i)) [
      | inl same ↦ (
          let is = eqb_is at i same in
          let y : p at ≡ true = subst (λ (x : ℕ). p x ≡ true) (sym is) h in
          rw y (or_left (eqb at i) (is_in (ids_where p (at + 1) n) i) same))
      | inr apart ↦ (
          let d = differ at i apart in
          let rest = from_range p (at + 1) n i h (omega arith) (omega arith) in
          elim (either (p at)) [
            | inl y ↦ rw y (or_right (eqb at i) (is_in (ids_where p (at + 1) n) i) rest)
            | inr f ↦ rw f rest
          ])
    ]

same_bool : (a b : Bool) → (a ≡ true → b ≡ true) → (b ≡ true → a ≡ true) → a ≡ b
same_bool true b f g = sym (f refl)
same_bool false true f g = g refl
same_bool false false f g = refl

-- they ascend
ids_ascend : (p : ℕ → Bool) (at n : ℕ) → IsAscending (ids_where p at n)
ids_ascend p at zero = tt
ids_ascend p at (suc n) =
    elim (either (p at)) [
      | inl y ↦ rw y ((λ i h. (let r = in_range p (at + 1) n i h in let l = r.low in omega arith)), ids_ascend p (at + 1) n)
      | inr f ↦ rw f (ids_ascend p (at + 1) n)
    ]

-- the ids of a set are those below a number that is above all
pub IsListOf-below : (ids : Ids) (n : ℕ) → ((i : ℕ) → has ids i ≡ true → i < n) → IsListOf (ids_where (has ids) 0 n) ids
IsListOf-below ids n low = record {
  ascending = ids_ascend (has ids) 0 n;
  members = λ i. same_bool _ _ (λ h. (in_range (has ids) 0 n i h).passes) (λ h. (let l = low i h in from_range (has ids) 0 n i h (omega arith) (omega arith)));
}

-- ---- one word

not_one : (b : ℕ) → b ≡ 0 → b ≡ 1 → ⊥
not_one b zero_is one_is = omega arith

flag_one : (b : Bool) (x : ℕ) → x ≡ 1 → x ≡ (if b then 1 else 0) → b ≡ true
flag_one true x one bit = refl
flag_one false x one bit = absurd (not_one x bit one)

above : (k at i : ℕ) → (i / 64 < k → ⊥) → (i / 64 ≡ k → i % 64 < at → ⊥) → at < 64 → 64 * k + at ≤ i
above k at i a b low = grind arith

-- the least bit of the first word that isn't empty is the least id
pub IsLeast-word : (ids : Ids) (k v : ℕ) → IsWord ids k v → (v ≡ 0 → ⊥) → NoneBelow ids k → IsLeast ids (64 * k + trailing_zeros w64 v)
IsLeast-word ids k v word some none = record { member = flag_one _ (bit_at v (trailing_zeros w64 v)) t.1 (word.bits (trailing_zeros w64 v) t.0); least = least }
  where
    t : (trailing_zeros w64 v < 64) × (bit_at v (trailing_zeros w64 v) ≡ 1) × ((j : ℕ) → j < trailing_zeros w64 v → bit_at v j ≡ 0)
    t = bit_at-trailing_zeros w64 v (omega arith) word.small

    least : (i : ℕ) → has ids i ≡ true → 64 * k + trailing_zeros w64 v ≤ i
    least i h =
        let before : (i / 64 < k → ⊥) = (λ l. false≢true (sym (none i (omega arith)) ∙ h)) in
        let lower : (i / 64 ≡ k → i % 64 < trailing_zeros w64 v → ⊥) = (λ same l. not_one (bit_at v (i % 64)) (t.2 (i % 64) l) (bit_one ids k v i word h same)) in
        above k (trailing_zeros w64 v) i before lower t.0

-- the least bit of a word that isn't empty is one of its 64
pub least_low : (v : ℕ) → v < 2 ^ 64 → (v ≡ 0 → ⊥) → trailing_zeros w64 v < 64
least_low v small some = (bit_at-trailing_zeros w64 v (omega arith) small).0

-- an empty word, after empty ones
pub NoneBelow-more : (ids : Ids) (k v : ℕ) → IsWord ids k v → v ≡ 0 → NoneBelow ids k → NoneBelow ids (k + 1)
NoneBelow-more ids k v word none before i low = is_false _ found
  where
    empty : IsWord ids k 0
    empty = subst (λ (x : ℕ). IsWord ids k x) none word

    found : has ids i ≡ true → ⊥
    found h = elim (either (eqb (i / 64) k)) [
      | inl same ↦ word_empty ids k i empty h (eqb_is (i / 64) k same)
      | inr apart ↦ (let d = differ (i / 64) k apart in false≢true (sym (before i (omega arith)) ∙ h))
    ]

-- ---- calls on the ids of a range

-- the first number doesn't pass
pub FoldsTo-left : {F : Type 0} (R : F → ℕ → F → Type 0) (p : ℕ → Bool) (f last : F) (at next n rest : ℕ) → next ≡ at + 1 → n ≡ rest + 1 → p at ≡ false → FoldsTo R f (ids_where p next rest) last → FoldsTo R f (ids_where p at n) last
FoldsTo-left R p f last at next zero rest step size test folds = absurd (omega (arith, size))
FoldsTo-left R p f last at next (suc m) rest step size test folds =
    let same : rest ≡ m = omega (arith, size) in
    rw test (rw (← step) (rw (← same) folds))

-- it passes, and is called on
pub FoldsTo-called : {F : Type 0} (R : F → ℕ → F → Type 0) (p : ℕ → Bool) (f g last : F) (at next n rest : ℕ) → next ≡ at + 1 → n ≡ rest + 1 → p at ≡ true → R f at g → FoldsTo R g (ids_where p next rest) last → FoldsTo R f (ids_where p at n) last
FoldsTo-called R p f g last at next zero rest step size test call folds = absurd (omega (arith, size))
FoldsTo-called R p f g last at next (suc m) rest step size test call folds =
    let same : rest ≡ m = omega (arith, size) in
    rw test (g, call, rw (← step) (rw (← same) folds))

-- a bit that is set is handed over, and another is left
pub CallsOn-bit : {F : Type 0} (step : F → ℕ → Unit {0} → F → Type 0) (f g last : F) (base bits bit count : ℕ) → bit < count → base + count ≤ 2 ^ 64 →
    (bit_at bits bit ≡ 1 → base + bit < 2 ^ 64 → step f (base + bit) tt g) → (bit_at bits bit ≡ 0 → g ≡ f) →
    CallsOn step g (ids_where (λ i. bit_at bits (i - base) == 1) (base + (bit + 1)) (count - (bit + 1))) last → CallsOn step f (ids_where (λ i. bit_at bits (i - base) == 1) (base + bit) (count - bit)) last
CallsOn-bit step f g last base bits bit count low fits called left folds =
    elim (either (eqb (bit_at bits bit) 1)) [
      | inl y ↦ FoldsTo-called (λ p x q. step p x tt q) (λ i. bit_at bits (i - base) == 1) f g last (base + bit) (base + (bit + 1)) (count - bit) (count - (bit + 1)) (omega arith) (omega arith)
          (test y) (called (eqb_is (bit_at bits bit) 1 y) (omega arith)) folds
      | inr n ↦ FoldsTo-left (λ p x q. step p x tt q) (λ i. bit_at bits (i - base) == 1) f last (base + bit) (base + (bit + 1)) (count - bit) (count - (bit + 1)) (omega arith) (omega arith)
          (test n) (subst (λ h. CallsOn step h (ids_where (λ i. bit_at bits (i - base) == 1) (base + (bit + 1)) (count - (bit + 1))) last) (left (other n)) folds)
    ]
  where
    here : base + bit - base ≡ bit
    here = omega arith

    test : {b : Bool} → eqb (bit_at bits bit) 1 ≡ b → eqb (bit_at bits (base + bit - base)) 1 ≡ b
    test h = ap (λ (k : ℕ). eqb (bit_at bits k) 1) here ∙ h

    other : eqb (bit_at bits bit) 1 ≡ false → bit_at bits bit ≡ 0
    other n = let small = bit_at-lt bits bit in let apart = differ (bit_at bits bit) 1 n in omega arith

-- what is called on the bits of a word is called on the ids that a step reports
pub CallsOn-word : {F : Type 0} (step : F → ℕ → Unit {0} → F → Type 0) (f g : F) (base bits count : ℕ) (last : Bool) (p : EventProgress) → p ≡ progress.Took base bits last → count ≡ 64 →
    (base + count ≤ 2 ^ 64 → CallsOn step f (ids_of_bits base bits count) g) → IsInRange p → CallsOn step f (reported p) g
CallsOn-word step f g base bits count last p is all calls range =
    let told : reported p ≡ ids_of_bits base bits count = ap reported is ∙ ap (λ (m : ℕ). ids_of_bits base bits m) (sym all) in
    let within : base + 64 ≤ 2 ^ 64 = subst IsInRange is range in
    subst (λ (ids : List ℕ). CallsOn step f ids g) (sym told) (calls (omega (arith, within, all)))
