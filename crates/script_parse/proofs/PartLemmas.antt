-- Optional parts are read one after another.
use Rattle.std.proofs.Common.{◌≡◌, ℕ, zero, suc, ◌+◌, ◌-◌, ◌<◌, ◌≤◌, arith, true, false, List, [], ◌∷◌, ◌++◌, length, drop, Option, Some, None, refl, sym, ap, ◌∙◌, append_assoc}
use Rattle.std.proofs.lemmas.List.{append-nil, length-append}
use Rattle.std.specs.Prelude.{codes}
use Rattle.board_model.specs.declared.attributes.Attribute.{Attribute}
use Rattle.board_model.specs.declared.attributes.Requirements.{Requirements}
use Rattle.script_grammar.specs.LineReading.{begins_with, read_needs, read_pair, read_parts}
use Rattle.script_grammar.specs.TokenReading.{◌>>=◌, first_by, read_attribute_key}
use Rattle.script_parse.specs.Tokens.{left_behind, with_rest}
use Rattle.std.specs.Option.{is_some}

-- the parts that were read, and then those that are still read
abbrev pub ahead : {A : Type 0} → List A → Option (List A × List (List ℕ)) → Option (List A × List (List ℕ))
ahead front o = o >>= λ xs. Some (front ++ xs.0, xs.1)

regroup : {A : Type 0} (front : List A) (x : A) (o : Option (List A × List (List ℕ))) → ahead front (o >>= λ xs. Some (x ∷ xs.0, xs.1)) ≡ ahead (front ++ x ∷ []) o
regroup front x None = refl
regroup {A = A} front x (Some xs) = ap (λ (y : List A). Some (y, xs.1)) (sym (append_assoc front (x ∷ []) xs.0))

-- what was read and what is left are all
pub record IsReadParts {A : Type 0} (word : List ℕ) (read : List (List ℕ) → Option (A × List (List ℕ))) (front : List A) (left all : List (List ℕ)) : Type 0 where
  pub few : length front ≤ 8
  pub so_far : ahead front (read_parts (8 - length front) word read left) ≡ read_parts 8 word read all

no_front : {A : Type 0} (o : Option (List A × List (List ℕ))) → ahead [] o ≡ o
no_front None = refl
no_front (Some xs) = refl

pub starts : {A : Type 0} (word : List ℕ) (read : List (List ℕ) → Option (A × List (List ℕ))) (all : List (List ℕ)) → IsReadParts word read [] all all
starts word read all = record { few = omega arith; so_far = no_front (read_parts 8 word read all) }

pub goes_on : {A : Type 0} (word : List ℕ) (read : List (List ℕ) → Option (A × List (List ℕ))) (front : List A) (x : A) (left behind rest all : List (List ℕ)) → length front < 8 → true ≡ begins_with word left → behind ≡ drop 1 left → Some (x, rest) ≡ read behind → IsReadParts word read front left all → IsReadParts word read (front ++ x ∷ []) rest all
unfolding read_parts
goes_on word read front x left behind rest all lt h d e r =
    let n = 8 - length (front ++ x ∷ []) in
    let one : 8 - length front ≡ suc n = omega (arith, length-append front (x ∷ [])) in
    let m : read_parts (suc n) word read left ≡ (read_parts n word read rest >>= λ xs. Some (x ∷ xs.0, xs.1)) = rw (← h, ← d, ← e) refl in
    record {
      few = omega (arith, length-append front (x ∷ []));
      so_far = sym (regroup front x (read_parts n word read rest)) ∙ sym (ap (ahead front) m) ∙ sym (ap (λ k. ahead front (read_parts k word read left)) one) ∙ r.so_far;
    }

pub stops : {A : Type 0} (word : List ℕ) (read : List (List ℕ) → Option (A × List (List ℕ))) (front : List A) (left behind all : List (List ℕ)) → length front < 8 → true ≡ begins_with word left → behind ≡ drop 1 left → None ≡ read behind → IsReadParts word read front left all → None ≡ read_parts 8 word read all
unfolding read_parts
stops word read front left behind all lt h d e r =
    let one : 8 - length front ≡ suc (7 - length front) = omega arith in
    let m : read_parts (suc (7 - length front)) word read left ≡ None = rw (← h, ← d, ← e) refl in
    sym (ap (ahead front) m) ∙ sym (ap (λ k. ahead front (read_parts k word read left)) one) ∙ r.so_far

ends : {A : Type 0} (word : List ℕ) (read : List (List ℕ) → Option (A × List (List ℕ))) (front : List A) (left all : List (List ℕ)) → read_parts (8 - length front) word read left ≡ Some ([], left) → IsReadParts word read front left all → Some (front, left) ≡ read_parts 8 word read all
ends {A = A} word read front left all e r = ap (λ (x : List A). Some (x, left)) (sym (append-nil front)) ∙ sym (ap (ahead front) e) ∙ r.so_far

-- no more than 8 are read
pub is_full : {A : Type 0} (word : List ℕ) (read : List (List ℕ) → Option (A × List (List ℕ))) (front : List A) (left all : List (List ℕ)) → 8 ≤ length front → IsReadParts word read front left all → Some (front, left) ≡ read_parts 8 word read all
unfolding read_parts
is_full word read front left all le r = ends word read front left all (let none : 8 - length front ≡ 0 = omega arith in rw none refl) r

-- another word comes
pub is_last : {A : Type 0} (word : List ℕ) (read : List (List ℕ) → Option (A × List (List ℕ))) (front : List A) (left all : List (List ℕ)) → false ≡ begins_with word left → IsReadParts word read front left all → Some (front, left) ≡ read_parts 8 word read all
unfolding read_parts
is_last word read front left all h r = ends word read front left all (none (8 - length front)) r
  where
    none : (most : ℕ) → read_parts most word read left ≡ Some ([], left)
    none zero = refl
    none (suc most) = rw (← h) refl

-- ---- parts that are passed over

-- behind the parts that are still read is what stands behind all
pub record IsSkipped {A : Type 0} (word : List ℕ) (read : List (List ℕ) → Option (A × List (List ℕ))) (count : ℕ) (left all : List (List ℕ)) : Type 0 where
  pub so_far : left_behind (read_parts (8 - count) word read left) ≡ left_behind (read_parts 8 word read all)

one_less : {A : Type 0} (x : A) (o : Option (List A × List (List ℕ))) → left_behind (o >>= λ xs. Some (x ∷ xs.0, xs.1)) ≡ left_behind o
one_less x None = refl
one_less x (Some xs) = refl

pub skips_one : {A : Type 0} (word : List ℕ) (read : List (List ℕ) → Option (A × List (List ℕ))) (count : ℕ) (x : A) (left behind rest all : List (List ℕ)) → count < 8 → true ≡ begins_with word left → behind ≡ drop 1 left → Some (x, rest) ≡ read behind
    → IsSkipped word read count left all → IsSkipped word read (count + 1) rest all
unfolding read_parts
skips_one word read count x left behind rest all lt h d e r =
    let n = 8 - (count + 1) in
    let one : 8 - count ≡ suc n = omega arith in
    let m : read_parts (suc n) word read left ≡ (read_parts n word read rest >>= λ xs. Some (x ∷ xs.0, xs.1)) = rw (← h, ← d, ← e) refl in
    record { so_far = sym (one_less x (read_parts n word read rest)) ∙ sym (ap left_behind m) ∙ sym (ap (λ k. left_behind (read_parts k word read left)) one) ∙ r.so_far }

-- one of them is no part
pub skips_none : {A : Type 0} (word : List ℕ) (read : List (List ℕ) → Option (A × List (List ℕ))) (count : ℕ) (left behind all : List (List ℕ)) → count < 8 → true ≡ begins_with word left → behind ≡ drop 1 left → None ≡ read behind
    → IsSkipped word read count left all → None ≡ left_behind (read_parts 8 word read all)
unfolding read_parts
skips_none word read count left behind all lt h d e r =
    let one : 8 - count ≡ suc (7 - count) = omega arith in
    let m : read_parts (suc (7 - count)) word read left ≡ None = rw (← h, ← d, ← e) refl in
    sym (ap left_behind m) ∙ sym (ap (λ k. left_behind (read_parts k word read left)) one) ∙ r.so_far

-- another word comes
pub skips_last : {A : Type 0} (word : List ℕ) (read : List (List ℕ) → Option (A × List (List ℕ))) (count : ℕ) (left all : List (List ℕ)) → false ≡ begins_with word left → IsSkipped word read count left all → Some left ≡ left_behind (read_parts 8 word read all)
unfolding read_parts
skips_last word read count left all h r = sym (ap left_behind (none (8 - count))) ∙ r.so_far
  where
    none : (most : ℕ) → read_parts most word read left ≡ Some ([], left)
    none zero = refl
    none (suc most) = rw (← h) refl

-- no more than 8 are passed over
pub skips_all : {A : Type 0} (word : List ℕ) (read : List (List ℕ) → Option (A × List (List ℕ))) (count : ℕ) (left all : List (List ℕ)) → 8 ≤ count → IsSkipped word read count left all → Some left ≡ left_behind (read_parts 8 word read all)
unfolding read_parts
skips_all word read count left all le r =
    let none : 8 - count ≡ 0 = omega arith in
    let last : read_parts (8 - count) word read left ≡ Some ([], left) = rw none refl in
    sym (ap left_behind last) ∙ r.so_far

-- what was taken, or nothing
pub none_taken : {A : Type 0} (o : Option A) (rest : List (List ℕ)) (r : Option (A × List (List ℕ))) → with_rest o rest ≡ r → is_some o ≡ false → None ≡ r
none_taken None rest r e h = e
none_taken (Some x) rest r e h = absurd cc

pub some_taken : {A : Type 0} (o : Option A) (rest : List (List ℕ)) (r : Option (A × List (List ℕ))) → with_rest o rest ≡ r → is_some o ≡ true → (x : A) × (Some (x, rest) ≡ r)
some_taken None rest r e h = absurd cc
some_taken (Some x) rest r e h = (x, e)

-- ---- what an opener needs

abbrev a_need : List Attribute → List (List ℕ) → Requirements
a_need pairs keys = record { pairs = pairs; keys = keys }

through : {A B : Type 0} (q : Option (A × List (List ℕ))) (f : A × List (List ℕ) → B) → left_behind (q >>= λ k. Some (f k, k.1)) ≡ left_behind q
through None f = refl
through (Some k) f = refl

-- behind the pairs stand the keys, and behind these what is left
pub needs_left : (ts rest : List (List ℕ)) (o : Option (List (List ℕ))) → Some rest ≡ left_behind (read_parts 8 (codes "need") read_pair ts) → o ≡ left_behind (read_parts 8 (codes "needkey") (first_by read_attribute_key) rest)
    → o ≡ left_behind (read_needs ts)
unfolding read_needs
needs_left ts rest o h g = by (read_parts 8 (codes "need") read_pair ts) h
  where
    keys : List (List ℕ) → Option (List (List ℕ) × List (List ℕ))
    keys r = read_parts 8 (codes "needkey") (first_by read_attribute_key) r

    by : (p : Option (List Attribute × List (List ℕ))) → Some rest ≡ left_behind p
        → o ≡ left_behind (p >>= λ pairs. read_parts 8 (codes "needkey") (first_by read_attribute_key) pairs.1 >>= λ keys. Some (a_need pairs.0 keys.0, keys.1))
    by None h = absurd cc
    by (Some x) h =
        let same : rest ≡ x.1 = cc in
        g ∙ ap (λ (r : List (List ℕ)). left_behind (keys r)) same ∙ sym (through (keys x.1) (λ k. a_need x.0 k.0))
