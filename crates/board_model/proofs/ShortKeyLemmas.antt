-- Keys as an entry keeps them have eight bytes, and zeros behind them.
use Rattle.std.proofs.Common.{◌≡◌, ℕ, zero, suc, ◌+◌, ◌-◌, ◌<◌, ◌≤◌, List, [], ◌∷◌, ◌++◌, length, get_or, take, replicate, append_assoc, refl, sym, ap, subst, ◌∙◌, arith}
use Rattle.std.specs.List.{AllByRecursion}
use Rattle.std.proofs.Math.Seq.{take-append_seam}
use Rattle.std.proofs.lemmas.List.{length-append, length-replicate, replicate-append-replicate}
use Rattle.board_layout.specs.Bytes.{byte_of, padded}
use Rattle.board_model.specs.declared.value.Key.TheVariants as key
use Rattle.board_model.specs.ShortKeys.{IsShortKey}
use Rattle.board_model.specs.TypeTable.{key_bytes}

byte_small : (n i : ℕ) → byte_of n i < 256
byte_small n i = omega arith

pub number_is_short : (n : ℕ) → IsShortKey (key_bytes (key.U64 n))
number_is_short n = record {
  size = refl;
  small = (byte_small n 0, (byte_small n 1, (byte_small n 2, (byte_small n 3, (byte_small n 4, (byte_small n 5, (byte_small n 6, (byte_small n 7, tt))))))));
  rest = refl;
}

-- a text of up to eight bytes is kept in eight, with zeros behind
pub text_kept : (text : List ℕ) → length text ≤ 8 → padded 64 text ≡ padded 8 text ++ replicate 56 0
text_kept text h =
    let e : 64 - length text ≡ (8 - length text) + 56 = omega arith in
    ap (λ (m : ℕ). text ++ replicate m 0) e ∙ ap (λ (zs : List ℕ). text ++ zs) (sym (replicate-append-replicate (8 - length text) 56 0)) ∙ sym (append_assoc text (replicate (8 - length text) 0) (replicate 56 0))

zeros_small : (m : ℕ) → AllByRecursion (λ b. b < 256) (replicate m 0)
zeros_small zero = tt
zeros_small (suc m) = (omega arith, zeros_small m)

all_small : (text : List ℕ) → ((i : ℕ) → i < length text → get_or text i 0 < 256) → (m : ℕ) → AllByRecursion (λ b. b < 256) (text ++ replicate m 0)
all_small [] h m = zeros_small m
all_small (b ∷ text) h m = (h zero (omega arith), all_small text (λ i lt. h (suc i) (omega (arith, lt))) m)

-- eight bytes stand before what is behind them
front_of : (front behind : List ℕ) → length front ≡ 8 → take 8 (front ++ behind) ≡ front
front_of front behind e = ap (λ (n : ℕ). take n (front ++ behind)) (sym e) ∙ take-append_seam front behind

pub text_is_short : (text bytes : List ℕ) → length text ≤ 8 → ((i : ℕ) → i < length text → get_or text i 0 < 256) → bytes ≡ padded 64 text → IsShortKey bytes
text_is_short text bytes most h e =
    let size : length (padded 8 text) ≡ 8 = omega (arith, length-append text (replicate (8 - length text) 0), length-replicate {A = ℕ} (8 - length text) 0) in
    let kept : bytes ≡ padded 8 text ++ replicate 56 0 = e ∙ text_kept text most in
    let front : take 8 bytes ≡ padded 8 text = ap (λ (xs : List ℕ). take 8 xs) kept ∙ front_of (padded 8 text) (replicate 56 0) size in
    record {
      size = ap length front ∙ size;
      small = subst (λ (xs : List ℕ). AllByRecursion (λ b. b < 256) xs) (sym front) (all_small text h (8 - length text));
      rest = kept ∙ ap (λ (xs : List ℕ). xs ++ replicate 56 0) (sym front);
    }
