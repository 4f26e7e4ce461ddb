-- What readers gave tells what they were given: one reader after another, a choice by a word, a table of words, the first token.
use Rattle.std.proofs.Common.{◌≡◌, ℕ, Bool, true, false, List, [], ◌∷◌, Option, Some, None, refl, sym, ap, subst, ◌∙◌, ◌⊎◌, inl, inr, cond}
use Rattle.std.specs.Prelude.{◌&&◌}
use Rattle.std.specs.Str.{bytes_eq}
use Rattle.std.specs.List.{AllByRecursion}
use Rattle.std.proofs.lemmas.Slice.Eq.{bytes_eq-Decides}
use Rattle.script_grammar.specs.TokenReading.{◌>>=◌, beside, guard, first_by, is_end}

-- ---- one after another

abbrev there : {A : Type 0} → A → Option A
there x = Some x

pub some_is : {A : Type 0} (x y : A) → there x ≡ there y → x ≡ y
some_is x y e = cc

-- what a reader gave, and what went on from it
pub bind_some : {A B : Type 0} (o : Option A) (f : A → Option B) (y : B) → (o >>= f) ≡ Some y → (x : A) × (o ≡ Some x) × (f x ≡ Some y)
bind_some (Some x) f y e = (x, refl, e)
bind_some None f y e = absurd cc

pub guard_some : {A : Type 0} (b : Bool) (o : Option A) (y : A) → guard b o ≡ Some y → (b ≡ true) × (o ≡ Some y)
guard_some true o y e = (refl, e)
guard_some false o y e = absurd cc

pub both : (a b : Bool) → (a && b) ≡ true → (a ≡ true) × (b ≡ true)
both true b e = (refl, e)
both false b e = absurd cc

-- which way a test went
pub chosen : {A : Type 0} (b : Bool) (x y z : A) → cond b x y ≡ z → ((b ≡ true) × (x ≡ z)) ⊎ ((b ≡ false) × (y ≡ z))
chosen true x y z e = inl (refl, e)
chosen false x y z e = inr (refl, e)

-- ---- words

pub word_is : (w : List ℕ) (v : List ℕ) → bytes_eq w v ≡ true → w ≡ v
word_is w v e = (bytes_eq-Decides w v).0 e

-- a choice by a word: what holds where it is the word, and what holds otherwise
pub by_word : {A : Type 0} (P : List ℕ → Type 0) (word v : List ℕ) (x y : Option A) (r : A) → cond (bytes_eq word v) x y ≡ Some r → (x ≡ Some r → P v) → (y ≡ Some r → P word) → P word
by_word P word v x y r e here otherwise =
    elim (chosen (bytes_eq word v) x y (Some r) e) [
      | inl h ↦ subst P (sym (word_is word v h.0)) (here h.1)
      | inr h ↦ otherwise h.1
    ]

-- no word is left
pub no_word : {A : Type 0} (P : Type 0) (r : A) → None ≡ there r → P
no_word P r e = absurd cc

-- what stands in a table of words was read from its word
pub beside_takes : {A : Type 0} (text : A → List ℕ) (table : List (List ℕ × A)) (t : List ℕ) (x : A) → beside t table ≡ Some x → AllByRecursion (λ entry. entry.0 ≡ text entry.1) table → t ≡ text x
beside_takes text [] t x e h = absurd cc
beside_takes text (entry ∷ table) t x e h =
    by_word (λ w. w ≡ text x) t entry.0 _ _ x e (λ i. h.0 ∙ ap text (some_is entry.1 x i)) (λ i. beside_takes text table t x i h.1)

-- ---- the first token

-- what `first_by` gave
pub record Took {A : Type 0} (read : List ℕ → Option A) (ts : List (List ℕ)) (x : A) (rest : List (List ℕ)) : Type 0 where
  pub token : List ℕ
  pub all : ts ≡ token ∷ rest
  pub is : read token ≡ Some x

pub first_takes : {A : Type 0} (read : List ℕ → Option A) (ts : List (List ℕ)) (p : A × List (List ℕ)) → first_by read ts ≡ Some p → Took read ts p.0 p.1
first_takes read [] p e = absurd cc
first_takes {A = A} read (t ∷ ts) p e =
    let a = bind_some (read t) (λ x. Some (x, ts)) p e in
    subst (λ (q : A × List (List ℕ)). Took read (t ∷ ts) q.0 q.1) (some_is (a.0, ts) p a.2) (record { token = t; all = refl; is = a.1 })

pub end_takes : (ts : List (List ℕ)) → is_end ts ≡ true → ts ≡ []
end_takes [] e = refl
end_takes (t ∷ ts) e = absurd cc

-- a token before those that are known
pub token_before : {ts rest us : List (List ℕ)} {a x : List ℕ} → ts ≡ a ∷ rest → a ≡ x → rest ≡ us → ts ≡ x ∷ us
token_before e ea er = cc

-- a word before tokens that are known
pub word_before : {ts us : List (List ℕ)} (word : List ℕ) → ts ≡ us → word ∷ ts ≡ word ∷ us
word_before word e = ap (λ (x : List (List ℕ)). word ∷ x) e
