-- A key gives back the words that it was made of.
use Rattle.std.proofs.Common.{◌≡◌, ℕ, zero, suc, ◌+◌, ◌*◌, ◌/◌, ◌%◌, ◌^◌, ◌<◌, ◌≤◌, List, [], ◌∷◌, length, take, drop, refl, sym, ◌∙◌, ⊎_elim, arith}
use Rattle.std.specs.Prelude.{All, slice_index}
use Rattle.std.proofs.Math.Nat.{div-div-eq-div-mul}
use Rattle.std.proofs.lemmas.Nat.{pow-add}
use Rattle.std.proofs.lemmas.Bool.{cases_lt}
use Rattle.std.proofs.lemmas.List.{get_or-take, get_or-drop, get_or_past, length-take}
use Rattle.std.proofs.lemmas.List.Elements.{All-head, All-tail}
use Rattle.board_layout.specs.Bytes.{BeginsWithBytes, byte_at, byte_of, little}
use Rattle.board_layout.specs.Keys.{words_in}
use Rattle.board_layout.specs.Words.{AreWordsOf}

power_next : (n : ℕ) → 2 ^ (8 * suc n) ≡ 256 * 2 ^ (8 * n)
power_next n = let e : 8 * suc n ≡ 8 + 8 * n = omega arith in rw e (pow-add 2 8 (8 * n))

byte_next : (w i : ℕ) → byte_of w (suc i) ≡ byte_of (w / 256) i
byte_next w i = rw (power_next i, ← div-div-eq-div-mul w 256 (2 ^ (8 * i))) refl

-- a number is read from its bytes
little_of : (n w : ℕ) (bytes : List ℕ) → w < 2 ^ (8 * n) → ((i : ℕ) → i < n → slice_index bytes i ≡ byte_of w i) → little (take n bytes) ≡ w
little_of zero w bytes small h = omega (arith, small)
little_of (suc n) w [] small h =
    let first : 0 ≡ w / 1 % 256 = h 0 (omega arith) in
    let less : w < 256 * 2 ^ (8 * n) = rw (power_next n) at small in
    let rest : little (take n []) ≡ w / 256 = little_of n (w / 256) [] (omega (arith, less)) (λ i lt. h (suc i) (omega (arith, lt)) ∙ byte_next w i) in
    let none : little (take n []) ≡ 0 = nothing n in
    omega (arith, first, rest, none)
  where
    nothing : (n : ℕ) → little (take n []) ≡ 0
    nothing zero = refl
    nothing (suc n) = refl
little_of (suc n) w (b ∷ bytes) small h =
    let first : b ≡ w / 1 % 256 = h 0 (omega arith) in
    let less : w < 256 * 2 ^ (8 * n) = rw (power_next n) at small in
    let rest : little (take n bytes) ≡ w / 256 = little_of n (w / 256) bytes (omega (arith, less)) (λ i lt. h (suc i) (omega (arith, lt)) ∙ byte_next w i) in
    omega (arith, first, rest)

-- words are read from their bytes
words_of : (words bytes : List ℕ) → All (λ word. word < 2 ^ 64) words → ((i : ℕ) → slice_index bytes i ≡ byte_at words i) → words_in (length words) bytes ≡ words
words_of [] bytes small h = refl
words_of (w ∷ words) bytes small h =
    let first : little (take 8 bytes) ≡ w = little_of 8 w bytes (All-head (λ word. word < 2 ^ 64) w words small)
    (λ i lt. let a : i / 8 ≡ 0 = omega (arith, lt) in let b : i % 8 ≡ i = omega (arith, lt) in h i ∙ rw (a, b) refl) in
    let rest : words_in (length words) (drop 8 bytes) ≡ words = words_of words (drop 8 bytes) (All-tail (λ word. word < 2 ^ 64) w words small)
    (λ i. let a : (8 + i) / 8 ≡ suc (i / 8) = omega arith in let b : (8 + i) % 8 ≡ i % 8 = omega arith in get_or-drop 8 bytes i 0 ∙ h (8 + i) ∙ rw (a, b) refl) in
    rw (first, rest) refl

-- a key gives back the words that it was made of
pub words_in-key : (size count : ℕ) (words bytes : List ℕ) → AreWordsOf size count words → BeginsWithBytes bytes words size → words_in count (take size bytes) ≡ words
words_in-key size count words bytes are begins = rw (sym are.every) (words_of words (take size bytes) are.small
    (λ i. ⊎_elim
    (λ (lt : i < size). get_or-take size bytes i 0 lt ∙ begins.front i lt)
    (λ (ge : size ≤ i). get_or_past (take size bytes) i 0 (omega (arith, length-take size bytes, ge)) ∙ sym (are.behind i ge))
    (cases_lt i size)))
