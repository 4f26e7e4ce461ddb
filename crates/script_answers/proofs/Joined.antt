-- Tokens that spaces part, and what it takes for a reader to take a text.
use Rattle.std.proofs.Common.{◌≡◌, ℕ, ◌<◌, Bool, true, List, [], ◌∷◌, ◌++◌, length, arith, refl, sym, ap, ◌∙◌, append_assoc, map}
use Rattle.std.specs.List.{flat_map, join_with_byte, AllByRecursion}
use Rattle.std.proofs.lemmas.List.{append-nil}
use Rattle.std.proofs.lemmas.List.Concat.{flat_map-cons}
use Rattle.script_grammar.proofs.SplitLemmas.{IsFree}

-- a space behind a token, where more follow
pub joined_cons : (t : List ℕ) (ts : List (List ℕ)) → 0 < length ts → join_with_byte 32 (t ∷ ts) ≡ t ++ 32 ∷ join_with_byte 32 ts
joined_cons t [] lt = absurd (omega arith)
joined_cons t (u ∷ us) lt = refl

-- and behind many
pub joined_append : (t : List ℕ) (ts us : List (List ℕ)) → 0 < length us → join_with_byte 32 (t ∷ ts) ++ 32 ∷ join_with_byte 32 us ≡ join_with_byte 32 ((t ∷ ts) ++ us)
joined_append t [] us lt = sym (joined_cons t us lt)
joined_append t (u ∷ ts) us lt = append_assoc t (32 ∷ join_with_byte 32 (u ∷ ts)) (32 ∷ join_with_byte 32 us) ∙ ap (λ (x : List ℕ). t ++ 32 ∷ x) (joined_append u ts us lt)

-- items behind a word, each behind a space
pub joined_each : {A : Type 0} (f : A → List ℕ) (word : List ℕ) (xs : List A) → word ++ flat_map (λ x. 32 ∷ f x) xs ≡ join_with_byte 32 (word ∷ map f xs)
joined_each f word [] = append-nil word
joined_each f word (x ∷ xs) = ap (λ (t : List ℕ). word ++ t) (flat_map-cons (λ x. 32 ∷ f x) x xs) ∙ ap (λ (t : List ℕ). word ++ 32 ∷ t) (joined_each f (f x) xs)

-- no token has a space
abbrev pub AreFree : List (List ℕ) → Type 0
AreFree ts = AllByRecursion (IsFree 32) ts

pub free_both : (xs ys : List (List ℕ)) → AreFree xs → AreFree ys → AreFree (xs ++ ys)
free_both [] ys h k = k
free_both (x ∷ xs) ys h k = (h.0, free_both xs ys h.1 k)

pub free_each : {A : Type 0} (Is : A → Type 0) (f : A → List ℕ) → ((x : A) → Is x → IsFree 32 (f x)) → (xs : List A) → AllByRecursion Is xs → AreFree (map f xs)
free_each Is f one [] h = tt
free_each Is f one (x ∷ xs) h = (one x h.0, free_each Is f one xs h.1)

-- the text is made of tokens that the reader takes
pub record IsTaken (reads : List (List ℕ) → Bool) (text : List ℕ) : Type 0 where
  pub parts : List (List ℕ)
  pub some : 0 < length parts
  pub joined : text ≡ join_with_byte 32 parts
  pub free : AreFree parts
  pub read : reads parts ≡ true
