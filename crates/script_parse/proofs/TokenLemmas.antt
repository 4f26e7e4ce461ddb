-- Texts that are cut at a separator, and prefixes that are taken off.
use Rattle.std.proofs.Common.{◌≡◌, ℕ, suc, ◌+◌, ◌<◌, ◌≤◌, Bool, true, false, List, [], ◌∷◌, ◌++◌, length, take, drop, get_or, arith, Option, Some, None, refl, sym, ap, ◌∙◌, eqb, All, add-one, drop-cons}
use Rattle.std.specs.Prelude.{MatchOption, not}
use Rattle.std.specs.Option.{option_map, is_some}
use Rattle.std.specs.List.{slice_split}
use Rattle.std.specs.Borrow.{Bor}
use Rattle.std.proofs.lemmas.List.{take-append-drop, get_or-take, get_or_default, length-take}
use Rattle.std.proofs.lemmas.List.Splits.{slice_split_at, slice_split_none, length-slice_split}
use Rattle.std.proofs.lemmas.Bool.{eqb-true}
use Rattle.script_grammar.specs.TokenReading.{guard, is_end, behind}
use Rattle.script_parse.specs.Tokens.{parts_left}

-- a front without the byte
pub front_lacks : (c : ℕ) (xs : List ℕ) (i : ℕ) → ((k : ℕ) → k < i → eqb (get_or xs k 0) c ≡ false) → i ≤ length xs → All (λ b. eqb b c ≡ false) (take i xs)
front_lacks c xs i h le k d lt =
    let below : k < i = omega (arith, length-take i xs) in
    let inside : k < length xs = omega arith in
    rw (get_or-take i xs k d below, get_or_default xs k d 0 inside) (h k below)

pub parts_at : (c : ℕ) (xs : List ℕ) (i : ℕ) → i < length xs → get_or xs i 0 ≡ c → xs ≡ take i xs ++ c ∷ drop (i + 1) xs
parts_at c xs i lt e =
    let d : drop i xs ≡ c ∷ drop (i + 1) xs = rw (add-one, drop-cons xs i 0) (ap (λ (x : ℕ). x ∷ drop (suc i) xs) e) in
    sym (take-append-drop i xs) ∙ ap (λ (t : List ℕ). take i xs ++ t) d

-- a text is cut at its first separator
pub cut_at : (c : ℕ) (xs : List ℕ) (i : ℕ) → eqb c c ≡ true → i < length xs → get_or xs i 0 ≡ c → All (λ b. eqb b c ≡ false) (take i xs) → slice_split (λ b. eqb b c) xs ≡ take i xs ∷ slice_split (λ b. eqb b c) (drop (i + 1) xs)
cut_at c xs i same lt e h =
    ap (slice_split (λ b. eqb b c)) (parts_at c xs i lt e) ∙ slice_split_at (λ b. eqb b c) (take i xs) c (drop (i + 1) xs) h same

pub cut_none : (c : ℕ) (xs : List ℕ) → All (λ b. eqb b c ≡ false) xs → slice_split (λ b. eqb b c) xs ≡ xs ∷ []
cut_none c xs h = slice_split_none (λ b. eqb b c) xs h

is_end_long : (ts : List (List ℕ)) → 0 < length ts → is_end ts ≡ false
is_end_long [] lt = absurd (omega arith)
is_end_long (t ∷ ts) lt = refl

-- a text has at least one part
pub has_part : (c : ℕ) (text : List ℕ) → is_end (slice_split (λ b. eqb b c) text) ≡ false
has_part c text = is_end_long (slice_split (λ b. eqb b c) text) (omega (arith, length-slice_split (λ b. eqb b c) text))

pub end_given : (c : ℕ) (o : Option (Bor (List ℕ))) (r : Bool) → is_some o ≡ not r → r ≡ is_end (parts_left c o)
end_given c None true e = refl
end_given c None false e = absurd cc
end_given c (Some b) true e = absurd cc
end_given c (Some b) false e = sym (has_part c b.now)

-- ---- prefixes

pub eqb-self : (a : ℕ) → eqb a a ≡ true
eqb-self a = grind arith

pub behind_prefix : (prefix rest : List ℕ) → behind prefix (prefix ++ rest) ≡ Some rest
behind_prefix [] rest = refl
behind_prefix (p ∷ prefix) rest = rw (eqb-self p, behind_prefix prefix rest) refl

none_on : (b p : ℕ) (prefix text : List ℕ) (v : Bool) → eqb b p ≡ v → ((rest : List ℕ) → b ∷ text ≡ (p ∷ prefix) ++ rest → ⊥) → (((rest : List ℕ) → text ≡ prefix ++ rest → ⊥) → behind prefix text ≡ None) → guard v (behind prefix text) ≡ None
none_on b p prefix text false e h go = refl
none_on b p prefix text true e h go = go (λ rest is. h rest (let s : b ≡ p = eqb-true b p e in rw (s, is) refl))

pub behind_none : (prefix text : List ℕ) → ((rest : List ℕ) → text ≡ prefix ++ rest → ⊥) → behind prefix text ≡ None
behind_none [] text h = absurd (h text refl)
behind_none (p ∷ prefix) [] h = refl
behind_none (p ∷ prefix) (b ∷ text) h = none_on b p prefix text (eqb b p) refl h (behind_none prefix text)

pub behind_given : (prefix text : List ℕ) (r : Option (Bor (List ℕ))) → MatchOption r ((rest : List ℕ) → text ≡ prefix ++ rest → ⊥) (λ x. text ≡ prefix ++ x.now) → option_map (λ x. x.now) r ≡ behind prefix text
behind_given prefix text None h = sym (behind_none prefix text h)
behind_given prefix text (Some x) h = rw h (sym (behind_prefix prefix x.now))
