-- Keys that are equal where their bytes are, and nowhere else.
use Rattle.std.proofs.Common.{◌≡◌, ℕ, zero, suc, ◌+◌, ◌*◌, ◌%◌, ◌^◌, ◌<◌, ◌≤◌, true, List, [], ◌∷◌, length, take, drop, refl, sym, ap, ◌∙◌, ⊎_elim, arith, nat_eq}
use Rattle.std.specs.Prelude.{slice_index}
use Rattle.std.specs.Cmp.Lexicographic.{pointwise, same_text}
use Rattle.std.specs.Int.{cast_signed, w32, w64}
use Rattle.std.specs.Ordering.{int_eq}
use Rattle.std.proofs.Math.Nat.{mod-eq_of_lt}
use Rattle.std.proofs.lemmas.Bool.{cases_lt}
use Rattle.std.proofs.lemmas.Bool.Decides.{Decides-int_eq}
use Rattle.std.proofs.lemmas.Int.{of_z-to_z}
use Rattle.std.proofs.lemmas.List.{get_or-take, get_or-drop, get_or_past, length-take, length-drop, take-append-drop}
use Rattle.board_layout.specs.Bytes.{little}
use Rattle.board_layout.specs.Keys.{IsEqualByBytes, IsKeyBytes, words_in}
use Rattle.board_layout.proofs.Bytes.{next_byte}

abbrev AreBytes : List ℕ → Type 0
AreBytes bytes = (i : ℕ) → slice_index bytes i < 256

-- a number of bytes is below the power that they can count to
little_below : (bytes : List ℕ) → AreBytes bytes → little bytes < 2 ^ (8 * length bytes)
little_below [] h = omega arith
little_below (b ∷ bytes) h = next_byte b (little bytes) (length bytes) (suc (length bytes)) (h 0) (little_below bytes (λ i. h (suc i))) (omega arith)

-- as many bytes have the same number only where they are the same
little_same : (a b : List ℕ) → length a ≡ length b → AreBytes a → AreBytes b → little a ≡ little b → a ≡ b
little_same [] [] l h k e = refl
little_same [] (y ∷ b) l h k e = absurd (omega (arith, l))
little_same (x ∷ a) [] l h k e = absurd (omega (arith, l))
little_same (x ∷ a) (y ∷ b) l h k e =
    let p : x < 256 = h 0 in
    let q : y < 256 = k 0 in
    let first : x ≡ y = omega (arith, e, p, q) in
    let behind : little a ≡ little b = omega (arith, e, p, q) in
    let rest : a ≡ b = little_same a b (omega (arith, l)) (λ i. h (suc i)) (λ i. k (suc i)) behind in
    rw (first, rest) refl

bytes_front : (n : ℕ) (bytes : List ℕ) → AreBytes bytes → AreBytes (take n bytes)
bytes_front n bytes h i = ⊎_elim
    (λ (lt : i < n). let e : slice_index (take n bytes) i ≡ slice_index bytes i = get_or-take n bytes i 0 lt in omega (arith, e, h i))
    (λ (ge : n ≤ i). let e : slice_index (take n bytes) i ≡ 0 = get_or_past (take n bytes) i 0 (omega (arith, length-take n bytes, ge)) in omega (arith, e))
    (cases_lt i n)

bytes_behind : (n : ℕ) (bytes : List ℕ) → AreBytes bytes → AreBytes (drop n bytes)
bytes_behind n bytes h i = let e : slice_index (drop n bytes) i ≡ slice_index bytes (n + i) = get_or-drop n bytes i 0 in omega (arith, e, h (n + i))

head_of : (x y : ℕ) (xs ys : List ℕ) → ◌≡◌ {A = List ℕ} (x ∷ xs) (y ∷ ys) → x ≡ y
head_of x y xs ys e = ap (λ (l : List ℕ). slice_index l 0) e

rest_of : (x y : ℕ) (xs ys : List ℕ) → ◌≡◌ {A = List ℕ} (x ∷ xs) (y ∷ ys) → xs ≡ ys
rest_of x y xs ys e = ap (λ (l : List ℕ). drop 1 l) e

-- as many bytes make the same words only where they are the same
words_same : (count : ℕ) (a b : List ℕ) → length a ≡ length b → length a ≤ 8 * count → AreBytes a → AreBytes b → words_in count a ≡ words_in count b → a ≡ b
words_same zero [] [] l le h k e = refl
words_same zero [] (y ∷ b) l le h k e = absurd (omega (arith, l))
words_same zero (x ∷ a) b l le h k e = absurd (omega (arith, le))
words_same (suc count) a b l le h k e =
    let front : take 8 a ≡ take 8 b = little_same (take 8 a) (take 8 b) (omega (arith, l, length-take 8 a, length-take 8 b)) (bytes_front 8 a h) (bytes_front 8 b k) (head_of _ _ _ _ e) in
    let behind : drop 8 a ≡ drop 8 b = words_same count (drop 8 a) (drop 8 b) (omega (arith, l, length-drop 8 a, length-drop 8 b)) (omega (arith, le, length-drop 8 a)) (bytes_behind 8 a h) (bytes_behind 8 b k) (rest_of _ _ _ _ e) in
    sym (take-append-drop 8 a) ∙ rw (front, behind) (take-append-drop 8 b)

-- keys that make the same words have the same bytes
pub keys_same : (size count : ℕ) (a b : List ℕ) → size ≤ 8 * count → IsKeyBytes a → IsKeyBytes b → words_in count (take size a) ≡ words_in count (take size b) → take size a ≡ take size b
keys_same size count a b fits h k e = words_same count (take size a) (take size b)
    (omega (arith, length-take size a, length-take size b, h.every, k.every))
    (omega (arith, length-take size a, fits))
    (bytes_front size a h.each) (bytes_front size b k.each) e

-- the one word of a key
abbrev pub word : ℕ → List ℕ → ℕ
word size a = little (take 8 (take size a))

pub word_same : (size : ℕ) (a b : List ℕ) → size ≤ 8 → IsKeyBytes a → IsKeyBytes b → word size a ≡ word size b → take size a ≡ take size b
word_same size a b fits h k e = keys_same size 1 a b (omega (arith, fits)) h k (ap (λ (w : ℕ). w ∷ []) e)

word_below : (size : ℕ) (a : List ℕ) → size ≤ 8 → IsKeyBytes a → word size a < 2 ^ (8 * size)
word_below size a fits h =
    let l : length (take 8 (take size a)) ≡ size = omega (arith, length-take 8 (take size a), length-take size a, h.every, fits) in
    let below : word size a < 2 ^ (8 * length (take 8 (take size a))) = little_below (take 8 (take size a)) (bytes_front 8 (take size a) (bytes_front size a h.each)) in
    rw l at below

pub same_number : (x y : ℕ) → nat_eq x y ≡ true → x ≡ y
same_number x y e = grind (arith, e)

-- numbers of fewer bytes than a word
less_by_bytes : (size : ℕ) → size ≤ 8 → IsEqualByBytes nat_eq (λ words. slice_index words 0 % 2 ^ (8 * size)) size 1
less_by_bytes size fits a b h k e = word_same size a b fits h k
    (sym (mod-eq_of_lt (word_below size a fits h)) ∙ same_number _ _ e ∙ mod-eq_of_lt (word_below size b fits k))

pub u8_by_bytes : IsEqualByBytes nat_eq (λ words. slice_index words 0 % 2 ^ 8) 1 1
u8_by_bytes = less_by_bytes 1 (omega arith)

pub u16_by_bytes : IsEqualByBytes nat_eq (λ words. slice_index words 0 % 2 ^ 16) 2 1
u16_by_bytes = less_by_bytes 2 (omega arith)

pub u32_by_bytes : IsEqualByBytes nat_eq (λ words. slice_index words 0 % 2 ^ 32) 4 1
u32_by_bytes = less_by_bytes 4 (omega arith)

pub u64_by_bytes : IsEqualByBytes nat_eq (λ words. slice_index words 0) 8 1
u64_by_bytes a b h k e = word_same 8 a b (omega arith) h k (same_number _ _ e)

pub i32_by_bytes : IsEqualByBytes int_eq (λ words. cast_signed w32 (slice_index words 0 % 2 ^ 32)) 4 1
i32_by_bytes a b h k e =
    let small : word 4 a < 2 ^ 32 = word_below 4 a (omega arith) h in
    let low : word 4 b < 2 ^ 32 = word_below 4 b (omega arith) k in
    let same : cast_signed w32 (word 4 a % 2 ^ 32) ≡ cast_signed w32 (word 4 b % 2 ^ 32) = (Decides-int_eq _ _).0 e in
    let bits : cast_signed w32 (word 4 a) ≡ cast_signed w32 (word 4 b) = rw (mod-eq_of_lt small, mod-eq_of_lt low) at same in
    word_same 4 a b (omega arith) h k (sym (of_z-to_z w32 (word 4 a) small) ∙ rw bits (of_z-to_z w32 (word 4 b) low))

pub i64_by_bytes : IsEqualByBytes int_eq (λ words. cast_signed w64 (slice_index words 0)) 8 1
i64_by_bytes a b h k e =
    let small : word 8 a < 2 ^ 64 = word_below 8 a (omega arith) h in
    let low : word 8 b < 2 ^ 64 = word_below 8 b (omega arith) k in
    let bits : cast_signed w64 (word 8 a) ≡ cast_signed w64 (word 8 b) = (Decides-int_eq _ _).0 e in
    word_same 8 a b (omega arith) h k (sym (of_z-to_z w64 (word 8 a) small) ∙ rw bits (of_z-to_z w64 (word 8 b) low))

pub four_by_bytes : IsEqualByBytes (pointwise nat_eq) (λ words. slice_index words 0 ∷ slice_index words 1 ∷ slice_index words 2 ∷ slice_index words 3 ∷ []) 32 4
four_by_bytes a b h k e = keys_same 32 4 a b (omega arith) h k (same_text _ _ (sym e))
