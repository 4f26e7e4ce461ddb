-- Which way the tests of a reader went.
use Rattle.std.proofs.Common.{◌≡◌, ℕ, Bool, true, false, List, [], ◌∷◌, drop, refl, sym, subst, ◌⊎◌, inl, inr}
use Rattle.std.specs.Prelude.{◌||◌, if◌then◌else◌}
use Rattle.std.specs.List.{list_any, AllByRecursion}
use Rattle.std.specs.Str.{bytes_eq}
use Rattle.script_grammar.specs.LineReading.{begins_with}
use Rattle.script_grammar.proofs.ReaderLemmas.{word_is}
use Rattle.script_answers.specs.AnswerReading.{first_is}

pub either : (a b : Bool) → (a || b) ≡ true → (a ≡ true) ⊎ (b ≡ true)
either true b e = inl refl
either false b e = inr e

pub test_at : (b x y : Bool) → (if b then x else y) ≡ true → ((b ≡ true) × (x ≡ true)) ⊎ (y ≡ true)
test_at true x y e = inl (refl, e)
test_at false x y e = inr e

-- the word was this one, or the test went on
pub word_at : (t v : List ℕ) (x y : Bool) → (if bytes_eq t v then x else y) ≡ true → ((t ≡ v) × (x ≡ true)) ⊎ (y ≡ true)
word_at t v x y e = at (test_at (bytes_eq t v) x y e)
  where
    at : ((bytes_eq t v ≡ true) × (x ≡ true)) ⊎ (y ≡ true) → ((t ≡ v) × (x ≡ true)) ⊎ (y ≡ true)
    at (inl h) = inl (word_is t v h.0, h.1)
    at (inr h) = inr h

-- one of two words
pub either_word : (t v w : List ℕ) → (bytes_eq t v || bytes_eq t w) ≡ true → (t ≡ v) ⊎ (t ≡ w)
either_word t v w e = at (either (bytes_eq t v) (bytes_eq t w) e)
  where
    at : (bytes_eq t v ≡ true) ⊎ (bytes_eq t w ≡ true) → (t ≡ v) ⊎ (t ≡ w)
    at (inl h) = inl (word_is t v h)
    at (inr h) = inr (word_is t w h)

pub words_at : (t v w : List ℕ) (x y : Bool) → (if bytes_eq t v || bytes_eq t w then x else y) ≡ true → (((t ≡ v) ⊎ (t ≡ w)) × (x ≡ true)) ⊎ (y ≡ true)
words_at t v w x y e = at (test_at (bytes_eq t v || bytes_eq t w) x y e)
  where
    at : (((bytes_eq t v || bytes_eq t w) ≡ true) × (x ≡ true)) ⊎ (y ≡ true) → (((t ≡ v) ⊎ (t ≡ w)) × (x ≡ true)) ⊎ (y ≡ true)
    at (inl h) = inl (either_word t v w h.0, h.1)
    at (inr h) = inr h

-- the first token passed
pub record HasFirst (test : List ℕ → Bool) (ts : List (List ℕ)) : Type 0 where
  pub first : List ℕ
  pub passes : test first ≡ true
  pub all : ts ≡ first ∷ drop 1 ts

pub has_first : (test : List ℕ → Bool) (ts : List (List ℕ)) → first_is test ts ≡ true → HasFirst test ts
has_first test [] e = absurd cc
has_first test (t ∷ ts) e = record { first = t; passes = e; all = refl }

pub has_word : (word : List ℕ) (ts : List (List ℕ)) → begins_with word ts ≡ true → ts ≡ word ∷ drop 1 ts
has_word word [] e = absurd cc
has_word word (t ∷ ts) e = let h : t ≡ word = word_is t word e in cc

-- what holds of each of the words holds of one that is among them
pub among_at : (P : List ℕ → Type 0) (t : List ℕ) (words : List (List ℕ)) → AllByRecursion P words → list_any (bytes_eq t) words ≡ true → P t
among_at P t [] h e = absurd cc
among_at P t (v ∷ vs) h e = at (either (bytes_eq t v) (list_any (bytes_eq t) vs) e) (λ more. among_at P t vs h.1 more)
  where
    at : (bytes_eq t v ≡ true) ⊎ (list_any (bytes_eq t) vs ≡ true) → (list_any (bytes_eq t) vs ≡ true → P t) → P t
    at (inl is) go = subst P (sym (word_is t v is)) h.0
    at (inr more) go = go more
