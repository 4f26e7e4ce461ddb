-- The values of updates, one more.
use Rattle.std.proofs.Common.{◌≡◌, ◌∙◌, ℕ, suc, ◌+◌, ◌%◌, ◌==◌, if◌then◌else◌, List, [], ◌∷◌, ◌++◌, append_assoc, ap, arith, drop, length, subst, sym}
use Rattle.std.proofs.Math.Seq.{drop-append_seam}
use Rattle.std.specs.Prelude.{replicate}
use Rattle.board_bench.specs.Watchers.{in_turn, numbered}

pub numbered_more : (width n : ℕ) → numbered width (n + 1) ≡ numbered width n ++ replicate width (n + 1) ∷ []
numbered_more width n = let on : n + 1 ≡ suc n = omega arith in ap (numbered width) on

pub in_turn_more : (one two : List ℕ) (n : ℕ) → in_turn one two (n + 1) ≡ in_turn one two n ++ (if n % 2 == 0 then one else two) ∷ []
in_turn_more one two n = let on : n + 1 ≡ suc n = omega arith in ap (in_turn one two) on

-- it is the turn of the first one, and of the second
pub first_turn : (one two words : List ℕ) (n : ℕ) → n % 2 ≡ 0 → words ≡ one → words ≡ (if n % 2 == 0 then one else two)
first_turn one two words n even is = rw even is

pub second_turn : (one two words : List ℕ) (n : ℕ) → (n % 2 ≡ 0 → ⊥) → words ≡ two → words ≡ (if n % 2 == 0 then one else two)
second_turn one two words n odd is = let rest : n % 2 ≡ 1 = omega (arith, odd) in rw rest is

-- the value whose turn it is was published
pub in_turn_next : (one two words : List ℕ) (n : ℕ) (old mid new : List (List ℕ)) → mid ≡ old ++ in_turn one two n → new ≡ mid ++ words ∷ [] → words ≡ (if n % 2 == 0 then one else two) → new ≡ old ++ in_turn one two (n + 1)
in_turn_next one two words n old mid new before e turn =
    let last : in_turn one two n ++ words ∷ [] ≡ in_turn one two (n + 1) = ap (λ l. in_turn one two n ++ l ∷ []) turn ∙ sym (in_turn_more one two n) in
    e ∙ ap (λ l. l ++ words ∷ []) before ∙ append_assoc old (in_turn one two n) (words ∷ []) ∙ ap (λ l. old ++ l) last

-- behind one value stand these
pub behind_opening : (old new more : List (List ℕ)) → length old ≡ 1 → new ≡ old ++ more → drop 1 new ≡ more
behind_opening old new more one e = ap (drop 1) e ∙ subst (λ n. drop n (old ++ more) ≡ more) one (drop-append_seam old more)
