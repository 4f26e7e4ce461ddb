-- The ids of one bit more.
use Rattle.std.proofs.Common.{◌≡◌, ℕ, zero, suc, ◌+◌, ◌<◌, Bool, true, List, [], ◌∷◌, ◌++◌, length, append_assoc, arith, refl, sym, ap, subst, ◌∙◌, inl, inr}
use Rattle.std.specs.Prelude.{if◌then◌else◌, ◌==◌, ◌-◌, Result, Ok, Err, OnErr}
use Rattle.std.specs.Int.{bit_at}
use Rattle.board_event_model.specs.Ids.{ids_where}
use Rattle.board_event_model.proofs.SetLemmas.{either}

ids_where-more : (p : ℕ → Bool) (at n : ℕ) → ids_where p at (suc n) ≡ ids_where p at n ++ (if p (at + n) then (at + n) ∷ [] else [])
ids_where-more p at zero = (let e : at + 0 ≡ at = omega arith in rw e refl)
ids_where-more p at (suc n) =
    let more = ids_where-more p (at + 1) n in
    let e : at + 1 + n ≡ at + suc n = omega arith in
    elim (either (p at)) [
      | inl f ↦ rw f (ap (λ (l : List ℕ). at ∷ l) (rw e at more))
      | inr f ↦ rw f (rw e at more)
    ]

-- the ids of the bits of a word, with one bit more
pub reported_more : (bits base i : ℕ) (old mid new : List ℕ) → mid ≡ old ++ ids_where (λ j. bit_at bits (j - base) == 1) base i → new ≡ mid ++ (if bit_at bits i == 1 then (base + i) ∷ [] else [])
    → new ≡ old ++ ids_where (λ j. bit_at bits (j - base) == 1) base (i + 1)
reported_more bits base i old mid new e f =
    let p : ℕ → Bool = λ j. bit_at bits (j - base) == 1 in
    let same : base + i - base ≡ i = omega arith in
    let next : i + 1 ≡ suc i = omega arith in
    f ∙ ap (λ (xs : List ℕ). xs ++ (if bit_at bits i == 1 then (base + i) ∷ [] else [])) e ∙ append_assoc old (ids_where p base i) (if bit_at bits i == 1 then (base + i) ∷ [] else [])
    ∙ ap (λ (j : ℕ). old ++ (ids_where p base i ++ (if bit_at bits j == 1 then (base + i) ∷ [] else []))) (sym same)
    ∙ ap (λ (xs : List ℕ). old ++ xs) (sym (ids_where-more p base i)) ∙ ap (λ (m : ℕ). old ++ ids_where p base m) (sym next)

-- there are some where one passes
some_where : (p : ℕ → Bool) (at i n : ℕ) → i < n → p (at + i) ≡ true → 0 < length (ids_where p at n)
some_where p at i zero below passes = absurd (omega (arith, below))
some_where p at zero (suc n) below passes = (let same : at + 0 ≡ at = omega arith in rw (subst (λ (j : ℕ). p j ≡ true) same passes) (omega arith))
some_where p at (suc i) (suc n) below passes =
    let same : at + suc i ≡ at + 1 + i = omega arith in
    elim (either (p at)) [
      | inl f ↦ rw f (omega arith)
      | inr f ↦ rw f (some_where p (at + 1) i n (omega (arith, below)) (subst (λ (j : ℕ). p j ≡ true) same passes))
    ]

-- the bits of a word have some where one of them has
pub some_ids : (bits base i count : ℕ) → i < count → 0 < length (if bit_at bits i == 1 then (base + i) ∷ [] else []) → 0 < length (ids_where (λ j. bit_at bits (j - base) == 1) base count)
some_ids bits base i count below some =
    let same : base + i - base ≡ i = omega arith in
    elim (either (bit_at bits i == 1)) [
      | inl f ↦ some_where (λ j. bit_at bits (j - base) == 1) base i count below (rw same f)
      | inr f ↦ absurd (let none = subst (λ (b : Bool). 0 < length (if b then (base + i) ∷ [] else [])) f some in omega (arith, none))
    ]

-- what holds anyway
pub anyway : {T E : Type 0} (r : Result T E) (X : Type 0) → X → OnErr r X
anyway (Ok a) X x = tt
anyway (Err e) X x = x
