-- How the values of small types lie in words.
use Rattle.std.proofs.Common.{◌≡◌, ℕ, zero, suc, ◌*◌, ◌/◌, ◌%◌, ◌^◌, ◌<◌, ◌≤◌, List, [], ◌∷◌, length, refl, arith, ⊎_elim, Bool, cond, true, false}
use Rattle.std.specs.Prelude.{All, slice_index}
use Rattle.std.proofs.Math.Nat.{div-eq_of_lt, mod-eq_of_lt, zero-div}
use Rattle.std.proofs.Math.Pow.{pow_mono}
use Rattle.std.proofs.lemmas.List.{get_or_past}
use Rattle.std.proofs.lemmas.Bool.{cases_lt}
use Rattle.std.specs.Prelude.{ℤ, FitsSigned}
use Rattle.std.specs.Int.{cast_signed, cast_unsigned, from_le_bytes, to_le_bytes, w32, w64}
use Rattle.std.proofs.lemmas.Nat.{le_bytes_8}
use Rattle.std.proofs.Math.Facts.{Fits-lt-pow, Fits-of_z, to_z-of_z}
use Rattle.board_layout.specs.Bytes.{byte_at}
use Rattle.board_layout.specs.Words.{AreWordsOf, IsEightBytes}

-- past the words there are only zeros
byte_past : (words : List ℕ) (i : ℕ) → 8 * length words ≤ i → byte_at words i ≡ 0
byte_past words i h =
    let past : length words ≤ i / 8 = omega (arith, h) in
    let none : slice_index words (i / 8) ≡ 0 = get_or_past words (i / 8) 0 past in
    rw (none, zero-div (2 ^ (8 * (i % 8)))) refl

-- the bytes of a small number are at its front
byte_behind : (size x i : ℕ) → x < 2 ^ (8 * size) → size ≤ i → i < 8 → byte_at (x ∷ []) i ≡ 0
byte_behind size x i h le lt =
    let first : i / 8 ≡ 0 = omega (arith, lt) in
    let place : i % 8 ≡ i = omega (arith, lt) in
    let more : 8 * size ≤ 8 * i = omega (arith, le) in
    let grows : 2 ^ (8 * size) ≤ 2 ^ (8 * i) = pow_mono more in
    let small : x / 2 ^ (8 * i) ≡ 0 = div-eq_of_lt (omega (arith, h, grows)) in
    rw (first, place, small) refl

-- a number of up to eight bytes is one word
pub one_word : (size x : ℕ) → size ≤ 8 → x < 2 ^ (8 * size) → AreWordsOf size 1 (x ∷ [])
one_word size x fits h =
    let most : 8 * size ≤ 64 = omega (arith, fits) in
    let top : 2 ^ (8 * size) ≤ 2 ^ 64 = pow_mono most in
    record {
      every = refl;
      small = one_small x (omega (arith, h, top));
      behind = λ i le. ⊎_elim (λ (lt : i < 8). byte_behind size x i h le lt) (λ (ge : 8 ≤ i). byte_past (x ∷ []) i (omega (arith, ge))) (cases_lt i 8);
    }
  where
    one_small : (x : ℕ) → x < 2 ^ 64 → All (λ word. word < 2 ^ 64) (x ∷ [])
    one_small x small zero d lt = small
    one_small x small (suc k) d lt = absurd (omega (arith, lt))

-- a truth value is one word
pub bool_word : (x : Bool) → Unit {0} → AreWordsOf 1 1 (cond x 1 0 ∷ [])
bool_word true _ = one_word 1 1 (omega arith) (omega arith)
bool_word false _ = one_word 1 0 (omega arith) (omega arith)

-- a number keeps its value
pub word_again : (size x : ℕ) → x < 2 ^ (8 * size) → x % 2 ^ (8 * size) ≡ x
word_again size x h = mod-eq_of_lt h

-- a list of four is its four items, one after another
four_once : (xs : List ℕ) → length xs ≡ 4 →
    slice_index xs 0 ∷ slice_index xs 1 ∷ slice_index xs 2 ∷ slice_index xs 3 ∷ [] ≡ xs
four_once (a ∷ b ∷ c ∷ d ∷ []) h = refl
four_once [] h = absurd (omega arith)
four_once (a ∷ []) h = absurd (omega arith)
four_once (a ∷ b ∷ []) h = absurd (omega arith)
four_once (a ∷ b ∷ c ∷ []) h = absurd (omega arith)
four_once (a ∷ b ∷ c ∷ d ∷ e ∷ xs) h = absurd (omega arith)

-- four numbers are four words
pub four_words : (xs : List ℕ) → (length xs ≡ 4) × All (λ x. x < 2 ^ 64) xs →
    AreWordsOf 32 4 (slice_index xs 0 ∷ slice_index xs 1 ∷ slice_index xs 2 ∷ slice_index xs 3 ∷ [])
four_words xs h = rw (four_once xs h.0) (record {
  every = h.0;
  small = h.1;
  behind = λ i le. byte_past xs i (omega (arith, le, h.0));
})

-- four numbers are their words
pub four_again : (xs : List ℕ) → (length xs ≡ 4) × All (λ x. x < 2 ^ 64) xs →
    slice_index xs 0 ∷ slice_index xs 1 ∷ slice_index xs 2 ∷ slice_index xs 3 ∷ [] ≡ xs
four_again xs h = four_once xs h.0

-- a signed number is one word, by its bits
pub i32_word : (x : ℤ) → FitsSigned w32 x → AreWordsOf 4 1 (cast_unsigned w32 x ∷ [])
i32_word x h = one_word 4 (cast_unsigned w32 x) (omega arith) (Fits-lt-pow (Fits-of_z h))

-- so is a signed number of eight bytes
pub i64_word : (x : ℤ) → FitsSigned w64 x → AreWordsOf 8 1 (cast_unsigned w64 x ∷ [])
i64_word x h = one_word 8 (cast_unsigned w64 x) (omega arith) (Fits-lt-pow (Fits-of_z h))

-- its bits give it back
pub i32_again : (x : ℤ) → FitsSigned w32 x → cast_signed w32 (cast_unsigned w32 x % 2 ^ 32) ≡ x
i32_again x h = let fits : cast_unsigned w32 x < 2 ^ 32 = Fits-lt-pow (Fits-of_z h) in rw (mod-eq_of_lt fits) (to_z-of_z h)

-- the bits of one of eight bytes give it back too
pub i64_again : (x : ℤ) → FitsSigned w64 x → cast_signed w64 (cast_unsigned w64 x) ≡ x
i64_again x h = to_z-of_z h

-- eight bytes are one word, the low byte first
pub eight_bytes_word : (bytes : List ℕ) → IsEightBytes bytes → AreWordsOf 8 1 (from_le_bytes w64 bytes ∷ [])
eight_bytes_word bytes h = one_word 8 (from_le_bytes w64 bytes) (omega arith)
    (omega (arith, h.each 0, h.each 1, h.each 2, h.each 3, h.each 4, h.each 5, h.each 6, h.each 7))

-- that word gives them back
pub eight_bytes_again : (bytes : List ℕ) → IsEightBytes bytes → to_le_bytes w64 (from_le_bytes w64 bytes) ≡ bytes
eight_bytes_again bytes h = le_bytes_8 bytes (from_le_bytes w64 bytes) h.every h.each refl
