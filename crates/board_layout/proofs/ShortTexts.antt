-- Short texts, compared as words.
use Rattle.std.proofs.Common.{◌≡◌, ℕ, ◌-◌, ◌<◌, ◌≤◌, List, ◌++◌, length, get_or, take, drop, replicate, Bool, true, false, IsTrue, ◌↔◌, nat_eq, refl, ap, sym, ◌∙◌, w64, arith, rules, length-append, length-drop}
use Rattle.std.proofs.lemmas.List.{drop-append-le, drop-replicate, length-replicate, replicate-append-replicate, take-append-le}
use Rattle.std.specs.Cmp.Lexicographic.{pointwise, same_text, other_text}
use Rattle.std.specs.Int.{from_le_bytes, to_le_bytes}
use Rattle.std.proofs.lemmas.Nat.{le_bytes_8}
use Rattle.board_layout.specs.Bytes.{padded}
use Rattle.board_layout.specs.Text.{IsPadded, padded-take}

-- eight bytes that are read as the same word are the same
pub same_word : (left right : List ℕ) (m n : ℕ) → length left ≡ 8 → length right ≡ 8
    → ((i : ℕ) → get_or left i 0 < 256) → ((i : ℕ) → get_or right i 0 < 256)
    → m ≡ from_le_bytes w64 left → n ≡ from_le_bytes w64 right → m ≡ n → left ≡ right
same_word left right m n long_left long_right small_left small_right is_left is_right same =
    sym (le_bytes_8 left m long_left small_left is_left)
    ∙ ap (to_le_bytes w64) same
    ∙ le_bytes_8 right n long_right small_right is_right

-- two answers of which each follows from the other are the same
agree : (b p : Bool) → (IsTrue b → IsTrue p) → (IsTrue p → IsTrue b) → b ≡ p
agree true true there back = refl
agree false false there back = refl
agree true false there back = absurd (search (there, rules))
agree false true there back = absurd (search (back, rules))

-- equal bytes are told as equal
is_told : (left right : List ℕ) (b : Bool) → b ≡ pointwise nat_eq left right → left ≡ right → IsTrue b
is_told left right true e h = search rules
is_told left right false e h = absurd (other_text left right e h)

-- bytes that are told as equal are
was_told : (left right : List ℕ) (b : Bool) → b ≡ pointwise nat_eq left right → IsTrue b → left ≡ right
was_told left right true e h = same_text left right e
was_told left right false e h = absurd (search (h, rules))

-- texts of one length are the same where their arrays are
pub equal_arrays : (n l r : ℕ) (left right : List ℕ) (b : Bool) → l ≡ r → IsPadded n l left → IsPadded n r right
    → (IsTrue b ↔ left ≡ right) → b ≡ pointwise nat_eq (take l left) (take r right)
equal_arrays n l r left right b long padded_left padded_right told =
    agree b _
    (λ h. is_told _ _ _ refl (ap (λ (m : ℕ). take m left) long ∙ ap (λ (bytes : List ℕ). take r bytes) (told.0 h)))
    (λ h. told.1 (sym (padded-take n l left padded_left) ∙ ap (λ (text : List ℕ). padded n text) (was_told _ _ _ refl h) ∙ padded-take n r right padded_right))

-- what eight bytes leave of an array of zeros, at whose front they are written
pub few_padded : (n len : ℕ) (bytes front : List ℕ) → 8 ≤ n → IsPadded 8 len bytes → front ≡ bytes
    → IsPadded n len (front ++ drop 8 (replicate n 0))
few_padded n len bytes front room h same =
    let long : length (drop 8 (replicate {A = ℕ} n 0)) ≡ n - 8 = omega (arith, length-drop {A = ℕ} 8 (replicate n 0), length-replicate {A = ℕ} n 0) in
    rw same (
      omega (arith, h.0, room),
      length-append {A = ℕ} bytes (drop 8 (replicate n 0)) ∙ omega (arith, long, h.1, room),
      drop-append-le len bytes _ (omega (arith, h.0, h.1))
          ∙ ap (λ (front : List ℕ). front ++ drop 8 (replicate n 0)) h.2
          ∙ ap (λ (back : List ℕ). replicate (8 - len) 0 ++ back) (drop-replicate 8 n 0)
          ∙ replicate-append-replicate (8 - len) (n - 8) 0
          ∙ ap (λ (k : ℕ). replicate k 0) (omega (arith, h.0, room)),
    )

-- and their text is the text there
pub few_taken : (n len : ℕ) (bytes front : List ℕ) → IsPadded 8 len bytes → front ≡ bytes
    → take len (front ++ drop 8 (replicate n 0)) ≡ take len bytes
few_taken n len bytes front h same = rw same (take-append-le len bytes _ (omega (arith, h.0, h.1)))
