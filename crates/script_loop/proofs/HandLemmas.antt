-- The bytes that a line reader has in hand: a part of its buffer.
use Rattle.std.proofs.Common.{◌≡◌, ℕ, ◌+◌, ◌-◌, ◌≤◌, false, List, ◌++◌, length, take, drop, arith, Option, Some, None, refl, sym, ap, subst, ◌∙◌, eqb, IfNone}
use Rattle.std.specs.Io.KnownBytes.{Consumes, Keeps, prepend_known}
use Rattle.std.proofs.Math.Seq.{take-add}
use Rattle.std.proofs.lemmas.List.{take-append-le, take-append-drop, drop-drop, drop-take, length-take, take_all}
use Rattle.std.proofs.lemmas.List.Elements.{All-append}
use Rattle.board_model.specs.Lines.{IsOneLine}
use Rattle.script_loop.specs.Reader.{between}
use Rattle.script_loop.proofs.Pieces.{moved}

-- ---- a part without its first bytes

drop_between_in : (bs : List ℕ) (s m n : ℕ) → drop n (take (n + m) (drop s bs)) ≡ take m (drop (s + n) bs)
drop_between_in bs s m n = drop-take n m (drop s bs) ∙ ap (take m) (drop-drop n s bs)

drop_fits : (n m l k : ℕ) (bs : List ℕ) (s : ℕ) → l ≡ n + m → k ≡ m → drop n (take l (drop s bs)) ≡ take k (drop (s + n) bs)
drop_fits n m l k bs s e1 e2 = rw (e1, e2) (drop_between_in bs s m n)

pub drop_between : (bs : List ℕ) (s e n at : ℕ) → s + n ≤ e → at ≡ s + n → between bs at e ≡ drop n (between bs s e)
drop_between bs s e n at le is = rw is (sym (drop_fits n (e - (s + n)) (e - s) (e - (s + n)) bs s (omega (arith, le)) refl))

-- ---- a newline is looked for

pub all_lack : (bs : List ℕ) (s e n at : ℕ) (o : Option ℕ) → s + n ≤ e → at ≡ s + n → o ≡ None → IfNone o (IsOneLine (between bs at e)) → IsOneLine (take n (between bs s e)) → IsOneLine (between bs s e)
all_lack bs s e n at (Some x) le is none h front = absurd cc
all_lack bs s e n at None le is none h front =
    let hand = between bs s e in
    let rest : IsOneLine (drop n hand) = subst IsOneLine (drop_between bs s e n at le is) h in
    subst IsOneLine (take-append-drop n hand) (All-append (λ b. eqb b 10 ≡ false) (take n hand) (drop n hand) front rest)

pub front_lacks : (bs : List ℕ) (s e n k at : ℕ) → s + n ≤ e → at ≡ s + n → IsOneLine (take k (between bs at e)) → IsOneLine (take n (between bs s e)) → IsOneLine (take (n + k) (between bs s e))
front_lacks bs s e n k at le is h front =
    let hand = between bs s e in
    let rest : IsOneLine (take k (drop n hand)) = subst (λ (x : List ℕ). IsOneLine (take k x)) (drop_between bs s e n at le is) h in
    subst IsOneLine (sym (take-add n k hand)) (All-append (λ b. eqb b 10 ≡ false) (take n hand) (take k (drop n hand)) front rest)

-- ---- bytes are read behind those in hand

at_front : (bs : List ℕ) (s e : ℕ) → s ≡ 0 → between bs s e ≡ take e bs
at_front bs s e front = let z : e - 0 ≡ e = omega arith in rw (front, z) refl

-- the bytes up to e are those that were there, and n more were read behind them
pub keeps_read : (a b : Option (List ℕ)) (hand bs cs new : List ℕ) (s e n : ℕ) → between bs s e ≡ hand → s ≡ 0 → new ≡ cs → take e cs ≡ take e bs → Consumes a b (take n (drop e cs)) → Keeps (prepend_known hand a) (prepend_known (between new s (e + n)) b)
keeps_read a b hand bs cs new s e n is front made same h =
    let hand_is : take e cs ≡ hand = same ∙ sym (at_front bs s e front) ∙ is in
    let grown : between new s (e + n) ≡ hand ++ take n (drop e cs) = ap (λ (x : List ℕ). between x s (e + n)) made ∙ at_front cs s (e + n) front ∙ take-add e n cs ∙ ap (λ (x : List ℕ). x ++ take n (drop e cs)) hand_is in
    subst (λ (x : List ℕ). Keeps (prepend_known hand a) (prepend_known x b)) (sym grown) (moved a b hand (take n (drop e cs)) h)

kept_behind : (a b : Option (List ℕ)) (hand : List ℕ) → Keeps a b → Keeps (prepend_known hand a) (prepend_known hand b)
kept_behind None b hand h = tt
kept_behind (Some xs) None hand h = absurd h
kept_behind (Some xs) (Some ys) hand h = ap (λ (x : List ℕ). hand ++ x) h

pub keeps_failed : (a b : Option (List ℕ)) (hand bs cs new : List ℕ) (s e : ℕ) → between bs s e ≡ hand → s ≡ 0 → new ≡ cs → take e cs ≡ take e bs → Keeps a b → Keeps (prepend_known hand a) (prepend_known (between new s e) b)
keeps_failed a b hand bs cs new s e is front made same h =
    let stays : between new s e ≡ hand = ap (λ (x : List ℕ). between x s e) made ∙ at_front cs s e front ∙ same ∙ sym (at_front bs s e front) ∙ is in
    subst (λ (x : List ℕ). Keeps (prepend_known hand a) (prepend_known x b)) (sym stays) (kept_behind a b hand h)

-- as many bytes as are in hand stand before its end
pub fits : (bs : List ℕ) (s e n : ℕ) → s ≤ e → n ≤ length (between bs s e) → s + n ≤ e
fits bs s e n ordered le = omega (arith, ordered, le, length-take (e - s) (drop s bs))

-- a buffer whose bytes were all written over
pub rewritten : (len : ℕ) (new old : List ℕ) → len ≡ length old → length new ≡ length old → take len (new ++ drop (length new) old) ≡ new
rewritten len new old sized same = take-append-le len new (drop (length new) old) (omega (arith, sized, same)) ∙ take_all len new (omega (arith, sized, same))
