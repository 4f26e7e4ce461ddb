-- Bytes that are read and written in pieces.
use Rattle.std.proofs.Common.{◌≡◌, ℕ, ◌+◌, ◌-◌, ◌≤◌, List, ◌++◌, length, take, drop, arith, sym, ap, subst, ◌∙◌, append_assoc, Option, Some, None}
use Rattle.std.proofs.Math.Seq.{take-add}
use Rattle.std.proofs.lemmas.List.{take_rest, take-append-drop, drop-drop, length-take, length-drop, take-append-le, take_all}
use Rattle.std.specs.Io.KnownBytes.{Appends, Consumes, Keeps, prepend_known}

pub more_written : (a b c : Option (List ℕ)) (bytes : List ℕ) (at n : ℕ) → Appends a b (take at bytes) → Appends b c (take n (take (length bytes - at) (drop at bytes))) → Appends a c (take (at + n) bytes)
more_written None b c bytes at n p q = tt
more_written (Some a) None c bytes at n p q = absurd p
more_written (Some a) (Some b) None bytes at n p q = absurd q
more_written (Some a) (Some b) (Some c) bytes at n p q = q ∙ rw (p, take_rest, take-add at n bytes) (append_assoc a (take at bytes) (take n (drop at bytes)))

pub read_front : (bs m rest : List ℕ) (at n : ℕ) → m ≡ take n (drop at bs) → at + n ≤ length bs → drop at bs ≡ take n (m ++ rest) ++ drop (at + n) bs
read_front bs m rest at n e le =
    let len : length m ≡ n = omega (arith, ap length e, length-take n (drop at bs), length-drop at bs) in
    let t : take n (m ++ rest) ≡ m = take_exact m rest n len in
    let d : drop n (drop at bs) ≡ drop (at + n) bs = drop-drop n at bs in
    rw (t, e, ← d) (sym (take-append-drop n (drop at bs)))
  where
    take_exact : (m rest : List ℕ) (n : ℕ) → length m ≡ n → take n (m ++ rest) ≡ m
    take_exact m rest n len = take-append-le n m rest (omega (arith, len)) ∙ take_all n m (omega (arith, len))

-- bytes that were read are in hand
pub moved : (a b : Option (List ℕ)) (hand more : List ℕ) → Consumes a b more → Keeps (prepend_known hand a) (prepend_known (hand ++ more) b)
moved None b hand more h = tt
moved (Some xs) None hand more h = absurd h
moved (Some xs) (Some ys) hand more h = rw h (append_assoc hand more ys)

-- ---- what a sink takes within a room

pub none_gone : (P : ℕ → Type 0) (n : ℕ) → P n → P (n - 0)
none_gone P n h = let e : n - 0 ≡ n = omega arith in rw e h

pub more_gone : (P : ℕ → Type 0) (n a b : ℕ) → P (n - a - b) → P (n - (a + b))
more_gone P n a b h = let e : n - a - b ≡ n - (a + b) = omega arith in subst P e h

pub all_gone : (P : ℕ → Type 0) (n a b : ℕ) → a ≡ b → P (n - a) → P (n - b)
all_gone P n a b e h = subst (λ (x : ℕ). P (n - x)) e h

-- what is left of the bytes fits into what is left of the room
pub rest_fits : (bytes : List ℕ) (at n : ℕ) → length bytes ≤ n → length (take (length bytes - at) (drop at bytes)) ≤ n - at
rest_fits bytes at n le = omega (arith, length-take (length bytes - at) (drop at bytes), length-drop at bytes, le)
