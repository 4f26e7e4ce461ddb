-- The first parts of a text, so many of them.
use Rattle.std.proofs.Common.{◌≡◌, ℕ, zero, suc, ◌+◌, ◌<◌, Bool, true, false, List, [], ◌∷◌, length, take, drop, min, arith, Option, Some, None, refl, sym, ap, ◌∙◌, eqb}
use Rattle.std.specs.Prelude.{if◌then◌else◌, codes, not}
use Rattle.std.specs.Borrow.{Bor}
use Rattle.std.specs.Option.{is_some}
use Rattle.std.specs.List.{slice_split}
use Rattle.std.specs.Str.{bytes_eq}
use Rattle.std.proofs.lemmas.List.{take_all}
use Rattle.std.proofs.lemmas.List.Splits.{length-slice_split}
use Rattle.std.proofs.lemmas.List.Sums.{count_by-le-length}
use Rattle.script_grammar.specs.TokenReading.{is_end}
use Rattle.script_parse.specs.Tokens.{parts_left}
use Rattle.script_parse.proofs.TokenLemmas.{has_part}
use Rattle.script_rules.specs.AnswerGroups.{before_reply, from_reply}

-- a text has at most one part more than bytes
pub all_parts : (c : ℕ) (text : List ℕ) → take (length text + 1) (slice_split (λ b. eqb b c) text) ≡ slice_split (λ b. eqb b c) text
all_parts c text = take_all (length text + 1) (slice_split (λ b. eqb b c) text) (omega (arith, length-slice_split (λ b. eqb b c) text, count_by-le-length (λ b. eqb b c) text))

nothing : {A : Type 0} (k : ℕ) → take {A = A} k [] ≡ []
nothing zero = refl
nothing (suc k) = refl

pub take_fewer : {A : Type 0} (m n : ℕ) (xs : List A) → take (min m n) xs ≡ take n (take m xs)
take_fewer {A = A} m n [] = nothing (min m n) ∙ sym (nothing n) ∙ ap (λ (l : List A). take n l) (sym (nothing m))
take_fewer zero n (x ∷ xs) = let e : min zero n ≡ zero = omega arith in rw e (sym (nothing n))
take_fewer (suc m) zero (x ∷ xs) = let e : min (suc m) zero ≡ zero = omega arith in rw e refl
take_fewer (suc m) (suc n) (x ∷ xs) = let e : min (suc m) (suc n) ≡ suc (min m n) = omega arith in rw e (ap (λ (l : List _). x ∷ l) (take_fewer m n xs))

-- ---- the end of the parts

end_of_more : (m : ℕ) (ts : List (List ℕ)) → is_end (take (suc m) ts) ≡ is_end ts
end_of_more m [] = refl
end_of_more m (t ∷ ts) = refl

end_of_some : (n : ℕ) (ts : List (List ℕ)) → 0 < n → is_end (take n ts) ≡ is_end ts
end_of_some zero ts lt = absurd (omega arith)
end_of_some (suc m) ts lt = end_of_more m ts

pub end_given : (c n : ℕ) (o : Option (Bor (List ℕ))) (r : Bool) → 0 < n → is_some o ≡ not r → r ≡ is_end (take n (parts_left c o))
end_given c n None true lt e = sym (end_of_some n [] lt)
end_given c n None false lt e = absurd cc
end_given c n (Some b) true lt e = absurd cc
end_given c n (Some b) false lt e = sym (end_of_some n (slice_split (λ x. eqb x c) b.now) lt ∙ has_part c b.now)

-- ---- the parts before a reply

pub first_before : (ts : List (List ℕ)) → take (length (before_reply ts)) ts ≡ before_reply ts
first_before [] = refl
first_before (t ∷ ts) = at (bytes_eq t (codes "=")) (first_before ts)
  where
    at : (b : Bool) → take (length (before_reply ts)) ts ≡ before_reply ts → take (length (if b then [] else t ∷ before_reply ts)) (t ∷ ts) ≡ (if b then [] else t ∷ before_reply ts)
    at true e = refl
    at false e = ap (λ (xs : List (List ℕ)). t ∷ xs) e

pub behind_before : (ts : List (List ℕ)) → drop (length (before_reply ts)) ts ≡ from_reply ts
behind_before [] = refl
behind_before (t ∷ ts) = at (bytes_eq t (codes "=")) (behind_before ts)
  where
    at : (b : Bool) → drop (length (before_reply ts)) ts ≡ from_reply ts → drop (length (if b then [] else t ∷ before_reply ts)) (t ∷ ts) ≡ (if b then t ∷ ts else from_reply ts)
    at true e = refl
    at false e = e

-- the parts that were taken are those before the reply
pub is_before : (ts access : List (List ℕ)) (n : ℕ) → n ≡ length (before_reply ts) → access ≡ take n ts → access ≡ before_reply ts
is_before ts access n is e = e ∙ ap (λ (k : ℕ). take k ts) is ∙ first_before ts

pub is_behind : (ts reply : List (List ℕ)) (n : ℕ) → n ≡ length (before_reply ts) → reply ≡ drop n ts → reply ≡ from_reply ts
is_behind ts reply n is e = e ∙ ap (λ (k : ℕ). drop k ts) is ∙ behind_before ts
