-- Lemmas on the front and the back of a list.
use Rattle.std.proofs.Common.{◌≡◌, ℕ, ◌-◌, List, ◌++◌, length, take, drop, arith, ap, length-append}
use Rattle.std.proofs.lemmas.List.{append_cancel_left, append_cancel_right}
use Rattle.std.proofs.Math.Seq.{take-append_seam, drop-append_seam}
use Rattle.std.specs.Prelude.{false, true, nat_eq}
use Rattle.std.specs.Cmp.Lexicographic.{pointwise, nat_list_eq_equiv}

-- a list that begins with a front has it as its first elements
pub take-front : (value front rest : List ℕ) → value ≡ front ++ rest → take (length front) value ≡ front
take-front value front rest e = rw e (take-append_seam front rest)

-- a list that ends with a back has it as its last elements
pub drop-back : (value rest back : List ℕ) → value ≡ rest ++ back → drop (length value - length back) value ≡ back
drop-back value rest back e =
    let n : length value - length back ≡ length rest = omega (arith, ap length e, length-append rest back) in
    rw (n, e) (drop-append_seam rest back)

-- texts that `==` tells apart are not equal
pub apart : (xs ys : List ℕ) → pointwise nat_eq xs ys ≡ false → xs ≡ ys → ⊥
apart xs ys f e =
    let t : pointwise nat_eq ys ys ≡ true = nat_list_eq_equiv.refl ys in
    let g : pointwise nat_eq ys ys ≡ false = rw e at f in
    cc

-- what is behind a front, where the front is the value of another text
pub behind_front : {value front part rest tail : List ℕ} → part ≡ front → value ≡ part ++ rest → value ≡ front ++ tail → rest ≡ tail
behind_front {value} {front} {part} {rest} {tail} p found e =
    let h : front ++ rest ≡ front ++ tail = cc in append_cancel_left front rest tail h

-- the same, where the value is that of another text too
pub behind_front_of : {value whole front part rest tail : List ℕ} → whole ≡ value → part ≡ front → whole ≡ part ++ rest →
    value ≡ front ++ tail → rest ≡ tail
behind_front_of {value} {whole} {front} {part} {rest} {tail} w p found e =
    let h : front ++ rest ≡ front ++ tail = cc in append_cancel_left front rest tail h

-- what is before a back
pub before_back : {value back part rest front : List ℕ} → part ≡ back → value ≡ rest ++ part → value ≡ front ++ back → rest ≡ front
before_back {value} {back} {part} {rest} {front} p found e =
    let h : rest ++ back ≡ front ++ back = cc in append_cancel_right rest front back h
