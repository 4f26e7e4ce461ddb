-- Lemmas for `ZeroCopySend` of a user's own types, whose fields are whole words.
use Rattle.std.proofs.Common.{◌≡◌, ℕ, zero, suc, ◌*◌, ◌/◌, ◌%◌, ◌^◌, ◌<◌, ◌≤◌, List, [], ◌∷◌, length, refl, arith}
use Rattle.std.specs.Prelude.{All, slice_index}
use Rattle.std.proofs.Math.Nat.{zero-div}
use Rattle.std.proofs.lemmas.List.{get_or_past}
use Rattle.board_layout.specs.Words.{AreWordsOf}

-- words of 64 bits are the words of a value of as many bytes
pub whole_words : (words : List ℕ) (size count : ℕ) → size ≡ 8 * length words → count ≡ length words → All (λ word. word < 2 ^ 64) words → AreWordsOf size count words
whole_words words size count sized counted small = record {
  every = omega (arith, counted);
  small = small;
  behind = λ i le.
      let past : length words ≤ i / 8 = omega (arith, sized, le) in
      let none : slice_index words (i / 8) ≡ 0 = get_or_past words (i / 8) 0 past in
      rw (none, zero-div (2 ^ (8 * (i % 8)))) refl;
}

-- no words are words of 64 bits
pub none_small : All (λ word. word < 2 ^ 64) []
none_small i d lt = absurd (omega (arith, lt))

-- so are one word and such words
pub one_more : (x : ℕ) (xs : List ℕ) → x < 2 ^ 64 → All (λ word. word < 2 ^ 64) xs → All (λ word. word < 2 ^ 64) (x ∷ xs)
one_more x xs small rest zero d lt = small
one_more x xs small rest (suc i) d lt = rest i d (omega (arith, lt))

-- two words
pub two_words : (x y : ℕ) → (x < 2 ^ 64) × (y < 2 ^ 64) → AreWordsOf 16 2 (x ∷ y ∷ [])
two_words x y h = whole_words (x ∷ y ∷ []) 16 2 refl refl (one_more x (y ∷ []) h.0 (one_more y [] h.1 none_small))
