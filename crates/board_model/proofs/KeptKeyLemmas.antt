-- Keys as an entry keeps them, and as they were added.
use Rattle.std.proofs.Common.{◌≡◌, ℕ, zero, suc, ◌+◌, ◌-◌, ◌*◌, ◌/◌, ◌^◌, ◌<◌, ◌≤◌, Bool, true, false, cond, List, [], ◌∷◌, ◌++◌, length, take, replicate, arith, refl, ap, ◌∙◌}
use Rattle.std.specs.Prelude.{◌==◌, ◌&&◌, nat_le, not}
use Rattle.std.specs.List.{list_all}
use Rattle.std.proofs.lemmas.Bool.{and_parts, leb-true, ne_eqb}
use Rattle.board_layout.specs.Bytes.{byte_of, little}
use Rattle.board_model.specs.declared.value.Key.{Key}
use Rattle.board_model.specs.declared.value.Key.TheVariants as key
use Rattle.board_model.specs.LineGrammar.{IsKey, is_visible, is_visible_byte}
use Rattle.board_model.specs.TypeTable.{key_bytes, key_of, type_of_key, up_to_zero, word_bytes}

-- ---- number keys

-- a number is its low byte and the rest
bytes_sum : (n : ℕ) → n < 2 ^ 64 → little (word_bytes n) ≡ n
bytes_sum n h =
    let a : n / 2 ^ (8 * 0) ≡ byte_of n 0 + 256 * (n / 2 ^ (8 * 1)) = omega arith in
    let b : n / 2 ^ (8 * 1) ≡ byte_of n 1 + 256 * (n / 2 ^ (8 * 2)) = omega arith in
    let c : n / 2 ^ (8 * 2) ≡ byte_of n 2 + 256 * (n / 2 ^ (8 * 3)) = omega arith in
    let d : n / 2 ^ (8 * 3) ≡ byte_of n 3 + 256 * (n / 2 ^ (8 * 4)) = omega arith in
    let e : n / 2 ^ (8 * 4) ≡ byte_of n 4 + 256 * (n / 2 ^ (8 * 5)) = omega arith in
    let f : n / 2 ^ (8 * 5) ≡ byte_of n 5 + 256 * (n / 2 ^ (8 * 6)) = omega arith in
    let g : n / 2 ^ (8 * 6) ≡ byte_of n 6 + 256 * (n / 2 ^ (8 * 7)) = omega arith in
    let i : n / 2 ^ (8 * 7) ≡ byte_of n 7 + 256 * 0 = omega (arith, h) in
    let z : n / 2 ^ (8 * 0) ≡ n = omega arith in
    omega (arith, a, b, c, d, e, f, g, i, z)

number_front : (n : ℕ) → take 8 (key_bytes (key.U64 n)) ≡ word_bytes n
number_front n = refl

-- ---- text keys

zeros_end : (m : ℕ) → up_to_zero (replicate m 0) ≡ []
zeros_end zero = refl
zeros_end (suc m) = refl

text_front : (text : List ℕ) (m : ℕ) → list_all is_visible_byte text ≡ true → up_to_zero (text ++ replicate m 0) ≡ text
text_front [] m h = zeros_end m
text_front (b ∷ text) m h =
    let p = and_parts (is_visible_byte b) (list_all is_visible_byte text) h in
    let q = and_parts (nat_le 33 b) (nat_le b 126) p.0 in
    let l : 33 ≤ b = leb-true 33 b q.0 in
    let z : (b == 0) ≡ false = ne_eqb b 0 (λ e. absurd (omega arith)) in
    ap (λ (y : Bool). cond y [] (b ∷ up_to_zero (text ++ replicate m 0))) z ∙ ap (λ (t : List ℕ). b ∷ t) (text_front text m p.1)

pub visible_bytes : (most : ℕ) (text : List ℕ) → is_visible most text ≡ true → list_all is_visible_byte text ≡ true
visible_bytes most text h = (and_parts (not (length text == 0) && nat_le (length text) most) (list_all is_visible_byte text) h).1

-- a key is told as it was added
pub told_as_added : (k : Key) → IsKey k → key_of (type_of_key k) (key_bytes k) ≡ k
told_as_added (key.U64 n) h = ap (λ (m : ℕ). key.U64 m) (ap little (number_front n) ∙ bytes_sum n h)
told_as_added (key.F8 text) h = ap (λ (t : List ℕ). key.F8 t) (text_front text (64 - length text) (visible_bytes 8 text h))
