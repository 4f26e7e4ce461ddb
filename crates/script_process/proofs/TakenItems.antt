-- What the iterator of a vector gives.
use Rattle.std.proofs.Common.{◌≡◌, List, [], ◌∷◌, ◌++◌, length, drop, ap, sym, ◌∙◌, refl, arith}
use Rattle.std.proofs.lemmas.List.{append-nil}
use Rattle.std.specs.Iterator.{DrainsIf, Yields}
use Rattle.std.specs.Vec.Iter.{into_iter_items, into_iter_len, into_iter_steps}
use Rattle.std.specs.declared.option.Option.{Option}
use Rattle.std.specs.declared.option.Option.TheVariants.{None, Some}
use Rattle.std.specs.declared.vec.IntoIter.{IntoIter}

-- what it has given is a front of its items
taken_front : {X A : Type 0} (s : IntoIter X A) (xs : List X) (t : IntoIter X A) → Yields into_iter_steps s xs t → into_iter_items s ≡ xs ++ into_iter_items t
taken_front s [] t y = ap into_iter_items y
taken_front s (x ∷ xs) t y = y.1.0 ∙ ap (λ ys. x ∷ ys) (taken_front y.0 xs t y.2)

no_item : {X : Type 0} (xs : List X) → length xs ≡ 0 → xs ≡ []
no_item [] e = refl
no_item (x ∷ xs) e = absurd (omega arith)

-- where it gives none, it has none
emptied : {X A : Type 0} (s : IntoIter X A) → into_iter_len s ≡ 0 → into_iter_items s ≡ []
emptied s e = no_item _ (sym s.rest.ok.0 ∙ e)

-- what it gives to its end are its items
pub all_taken : {X A W : Type 0} (s : IntoIter X A) (xs : List X) → W → DrainsIf into_iter_steps W s xs → xs ≡ into_iter_items s
all_taken s xs w d =
    let none = emptied d.0 (d.2 w).1.0 in
    sym (taken_front s xs d.0 d.1 ∙ ap (λ ys. xs ++ ys) none ∙ append-nil xs)

-- the first one is gone
pub first_gone : {X A : Type 0} (s t : IntoIter X A) (r : Option X) → into_iter_steps s r t → into_iter_items t ≡ drop 1 (into_iter_items s)
first_gone s t None h = emptied t h.1 ∙ sym (ap (drop 1) (emptied s h.0))
first_gone s t (Some x) h = sym (ap (drop 1) h.0)
