-- The ids of a word of a set are the bits of a number.
use Rattle.std.proofs.Common.{◌≡◌, ℕ, zero, suc, ◌+◌, ◌-◌, ◌*◌, ◌<◌, ◌^◌, Bool, true, false, refl, ap, ◌∙◌, inl, inr, arith, eqb, subst, sym}
use Rattle.std.specs.Prelude.{if◌then◌else◌}
use Rattle.std.specs.Int.{bit_at}
use Rattle.std.proofs.lemmas.Bool.Decides.{Decides-eqb}
use Rattle.std.proofs.lemmas.Nat.Bits.{bit_at_cat_high, bit_at_cat_low}
use Rattle.board_event_model.specs.Ids.{Ids, IsWord, has}
use Rattle.board_event_model.proofs.SetLemmas.{either}

-- one bit
abbrev bit : Bool → ℕ
bit b = if b then 1 else 0

bit_below : (b : Bool) → bit b < 2
bit_below true = omega arith
bit_below false = omega arith

bit_first : (b : Bool) → bit_at (bit b) 0 ≡ bit b
bit_first true = refl
bit_first false = refl

-- the number of n bits whose bit i is set where the test passes
number_of : (ℕ → Bool) → ℕ → ℕ
number_of p zero = 0
number_of p (suc n) = bit (p n) * 2 ^ n + number_of p n

next_below : (b m low : ℕ) → b < 2 → low < m → b * m + low < 2 * m
next_below b m low hb hl = grind arith

number_below : (p : ℕ → Bool) (n : ℕ) → number_of p n < 2 ^ n
unfolding number_of
number_below p zero = omega arith
number_below p (suc n) = let e : 2 ^ suc n ≡ 2 * 2 ^ n = omega arith in subst (λ (m : ℕ). bit (p n) * 2 ^ n + number_of p n < m) (sym e) (next_below (bit (p n)) (2 ^ n) (number_of p n) (bit_below (p n)) (number_below p n))

number_bit : (p : ℕ → Bool) (n i : ℕ) → i < n → bit_at (number_of p n) i ≡ bit (p i)
unfolding number_of
number_bit p zero i low = absurd (omega arith)
number_bit p (suc n) i low =
    elim (either (eqb i n)) [
      | inl same ↦ (
          let e : i ≡ n = (Decides-eqb i n).0 same in
          let zeroth : n - n ≡ 0 = omega arith in
          let top : bit_at (bit (p n) * 2 ^ n + number_of p n) n ≡ bit (p n) = bit_at_cat_high (bit (p n)) n (number_of p n) n (number_below p n) (omega arith) ∙ ap (bit_at (bit (p n))) zeroth ∙ bit_first (p n) in
          subst (λ (j : ℕ). bit_at (bit (p n) * 2 ^ n + number_of p n) j ≡ bit (p j)) (sym e) top)
      | inr apart ↦ (
          let d : (i ≡ n → ⊥) = (λ e. let t : eqb i n ≡ true = (Decides-eqb i n).1 e in cc) in
          let l : i < n = omega arith in
          bit_at_cat_low (bit (p n)) n (number_of p n) i l ∙ number_bit p n i l)
    ]

-- a word of a set is a number
pub word_exists : (ids : Ids) (k : ℕ) → (v : ℕ) × IsWord ids k v
word_exists ids k = (
  number_of (λ i. has ids (64 * k + i)) 64,
  record { small = number_below (λ i. has ids (64 * k + i)) 64; bits = number_bit (λ i. has ids (64 * k + i)) 64 },
)
