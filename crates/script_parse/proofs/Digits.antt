-- The value of digits.
use Rattle.std.proofs.Common.{◌≡◌, ℕ, suc, ◌+◌, ◌-◌, ◌*◌, ◌<◌, ◌≤◌, ◌^◌, Bool, true, false, List, [], ◌∷◌, length, drop, get_or, arith, Option, Some, None, refl, sym, ap, subst, ◌∙◌, drop-cons}
use Rattle.std.specs.Prelude.{nat_le, nat_lt, ◌&&◌}
use Rattle.std.specs.Char.{is_ascii_digit}
use Rattle.std.proofs.Math.Nat.{pow-le-pow_right}
use Rattle.std.proofs.lemmas.Bool.{le-ltb, leb-true, lt-ltb}
use Rattle.std.proofs.lemmas.List.{drop_all}
use Rattle.std.specs.Str.{all_ascii_digits}
use Rattle.script_grammar.specs.TokenReading.{read_on, read_digits, guard}
use Rattle.script_grammar.proofs.ReaderLemmas.{both}

-- digits that follow make it no less
pub read_on_up : (n : ℕ) (cs : List ℕ) → n ≤ read_on n cs
read_on_up n [] = omega arith
read_on_up n (c ∷ cs) = omega (arith, read_on_up (10 * n + (c - 48)) cs)

-- what was read so far, and what is left
pub record IsRead (n : ℕ) (left text : List ℕ) : Type 0 where
  pub digits : all_ascii_digits left ≡ all_ascii_digits text
  pub value : read_on n left ≡ read_on 0 text

pub too_large : (n : ℕ) (c : ℕ) (cs text : List ℕ) → IsRead n (c ∷ cs) text → 18446744073709551616 ≤ 10 * n + (c - 48) → 18446744073709551616 ≤ read_on 0 text
too_large n c cs text h le = omega (arith, h.value, read_on_up (10 * n + (c - 48)) cs)

none_of : {A : Type 0} (a b : Bool) (o : Option A) → b ≡ false → None ≡ guard (a && b) o
none_of true b o e = rw e refl
none_of false b o e = refl

pub ends_large : (n i : ℕ) (text : List ℕ) → i < length text → IsRead n (drop i text) text → 18446744073709551616 ≤ 10 * n + (get_or text i 0 - 48) → None ≡ read_digits text
ends_large n i text lt h le =
    let e : drop i text ≡ get_or text i 0 ∷ drop (suc i) text = drop-cons text i 0 lt in
    let h' : IsRead n (get_or text i 0 ∷ drop (suc i) text) text = rw e at h in
    let v : 18446744073709551616 ≤ read_on 0 text = too_large n (get_or text i 0) (drop (suc i) text) text h' le in
    none_of (all_ascii_digits text) (nat_lt (read_on 0 text) 18446744073709551616) (Some (read_on 0 text)) (le-ltb _ _ v)

-- ---- few digits

-- a byte whose value as a digit is this one
pub record IsDigit (c x : ℕ) : Type 0 where
  pub test : is_ascii_digit c ≡ true
  pub value : x ≡ c - 48
  pub low : x < 10

-- what was read so far, and what is left; how large it may be is told by the number of digits
pub record IsFewRead (n : ℕ) (left text : List ℕ) : Type 0 where
  pub read : IsRead n left text
  pub within : length left ≤ length text
  pub bound : n < 10 ^ (length text - length left)

pub no_digits : (text : List ℕ) → IsFewRead 0 text text
no_digits text =
    let places : length text - length text ≡ 0 = omega arith in
    record {
      read = record { digits = refl; value = refl };
      within = omega arith;
      bound = rw places (omega arith);
    }

-- one digit more
pub digit_read : (n c x : ℕ) (rest text : List ℕ) → IsFewRead n (c ∷ rest) text → IsDigit c x → IsFewRead (10 * n + x) rest text
digit_read n c x rest text h d =
    let places : length text - length rest ≡ suc (length text - suc (length rest)) = omega (arith, h.within) in
    record {
      read = record {
        digits = ap (λ (b : Bool). b && all_ascii_digits rest) (sym d.test) ∙ h.read.digits;
        value = ap (λ (v : ℕ). read_on (10 * n + v) rest) d.value ∙ h.read.value;
      };
      within = omega (arith, h.within);
      bound = rw places (omega (arith, h.bound, d.low));
    }

-- fewer than 19 digits leave room for one more
pub has_room : (n k : ℕ) → n < 10 ^ k → k ≤ 18 → 10 * n + 9 < 18446744073709551616
has_room n k low few =
    let most : 10 ^ k ≤ 10 ^ 18 = pow-le-pow_right (omega arith) few in
    let power : 10 ^ 18 ≡ 1000000000000000000 = refl in
    omega (arith, low, most, power)

pub few_room : (n c : ℕ) (rest text : List ℕ) → IsFewRead n (c ∷ rest) text → length text ≤ 19 → 10 * n + 9 < 18446744073709551616
few_room n c rest text h few = has_room n (length text - suc (length rest)) h.bound (omega (arith, h.within, few))

-- what is read at the end
pub few_end : (n : ℕ) (text : List ℕ) → IsFewRead n [] text → length text ≤ 19 → Some n ≡ read_digits text
few_end n text h few =
    let most : 10 ^ (length text - length {A = ℕ} []) ≤ 10 ^ 19 = pow-le-pow_right (omega arith) {i = length text - length {A = ℕ} []} {j = 19} (omega (arith, few)) in
    let power : 10 ^ 19 ≡ 10000000000000000000 = refl in
    let low : nat_lt (read_on 0 text) 18446744073709551616 ≡ true = rw (sym h.read.value) (lt-ltb n 18446744073709551616 (omega (arith, h.bound, most, power))) in
    rw (sym h.read.digits) (rw low (ap Some h.read.value))

digit_if : (c x : ℕ) (b : Bool) → is_ascii_digit c ≡ b → Some x ≡ guard b (Some (c - 48)) → IsDigit c x
digit_if c x true test e =
    let value : x ≡ c - 48 = cc in
    let most : c ≤ 57 = leb-true c 57 (both (nat_le 48 c) (nat_le c 57) test).1 in
    record { test = test; value = value; low = omega (arith, value, most) }
digit_if c x false test e = absurd cc

pub digit_is : (c x : ℕ) → Some x ≡ guard (is_ascii_digit c) (Some (c - 48)) → IsDigit c x
digit_is c x e = digit_if c x (is_ascii_digit c) refl e

one_left : (left : List ℕ) → 1 ≤ length left → left ≡ get_or left 0 0 ∷ drop 1 left
one_left left most = drop-cons left 0 0 (omega (arith, most))

two_left : (left : List ℕ) → 2 ≤ length left → left ≡ get_or left 0 0 ∷ get_or left 1 0 ∷ drop 2 left
two_left left most = drop-cons left 0 0 (omega (arith, most)) ∙ ap (λ (x : List ℕ). get_or left 0 0 ∷ x) (drop-cons left 1 0 (omega (arith, most)))

-- the first digit of what is left
pub first_read : (n x : ℕ) (left text : List ℕ) → IsFewRead n left text → 1 ≤ length left → IsDigit (get_or left 0 0) x → IsFewRead (10 * n + x) (drop 1 left) text
first_read n x left text h most d = digit_read n (get_or left 0 0) x (drop 1 left) text (subst (λ (l : List ℕ). IsFewRead n l text) (one_left left most) h) d

-- the first two
pub two_read : (n x y : ℕ) (left text : List ℕ) → IsFewRead n left text → 2 ≤ length left → IsDigit (get_or left 0 0) x → IsDigit (get_or left 1 0) y → IsFewRead (10 * (10 * n + x) + y) (drop 2 left) text
two_read n x y left text h most d e =
    let first = digit_read n (get_or left 0 0) x (get_or left 1 0 ∷ drop 2 left) text (subst (λ (l : List ℕ). IsFewRead n l text) (two_left left most) h) d in
    digit_read (10 * n + x) (get_or left 1 0) y (drop 2 left) text first e

-- room for the first digit, and for the one behind it
pub room : (n : ℕ) (left text : List ℕ) → IsFewRead n left text → 1 ≤ length left → length text ≤ 19 → 10 * n + 9 < 18446744073709551616
room n left text h most few = few_room n (get_or left 0 0) (drop 1 left) text (subst (λ (l : List ℕ). IsFewRead n l text) (one_left left most) h) few

pub second_room : (n x : ℕ) (left text : List ℕ) → IsFewRead n left text → 2 ≤ length left → IsDigit (get_or left 0 0) x → length text ≤ 19 → 10 * (10 * n + x) + 9 < 18446744073709551616
second_room n x left text h most d few =
    let first = digit_read n (get_or left 0 0) x (get_or left 1 0 ∷ drop 2 left) text (subst (λ (l : List ℕ). IsFewRead n l text) (two_left left most) h) d in
    few_room (10 * n + x) (get_or left 1 0) (drop 2 left) text first few

-- one digit is left
pub last_read : (n x : ℕ) (left text : List ℕ) → IsFewRead n left text → 1 ≤ length left → length left < 2 → IsDigit (get_or left 0 0) x → length text ≤ 19 → Some (10 * n + x) ≡ read_digits text
last_read n x left text h most least d few =
    let none : drop 1 left ≡ [] = drop_all 1 left (omega (arith, least)) in
    few_end (10 * n + x) text (subst (λ (l : List ℕ). IsFewRead (10 * n + x) l text) none (first_read n x left text h most d)) few
