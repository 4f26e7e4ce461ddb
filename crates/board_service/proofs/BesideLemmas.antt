-- What stands beside what, as elements come and go.
use Rattle.std.proofs.Common.{◌≡◌, ℕ, zero, suc, ◌<◌, Bool, List, [], ◌∷◌, ◌++◌, length, get_or, Option, Some, None, refl, sym, ap, subst, ◌∙◌, arith}
use Rattle.std.specs.Prelude.{find, slice_get, slice_set}
use Rattle.std.specs.List.{position_from, remove}
use Rattle.board_model.specs.Tables.{without_first}
use Rattle.board_service.specs.Domain.{at, but_at, set_at}
use Rattle.board_service.specs.Suiting.{AllBeside, BothAre}
use Rattle.board_service.proofs.First.{first_at, none_at}

module _ {A C : Type 0} (R : A → C → Type 0) where
  -- one more of each
  pub beside_more : (bs : List A) (cs : List C) (b : A) (c : C) → length cs ≡ length bs → R b c → AllBeside R bs cs → AllBeside R (bs ++ b ∷ []) (cs ++ c ∷ [])
  beside_more [] [] b c e r h = (r, tt)
  beside_more [] (d ∷ cs) b c e r h = absurd (omega (arith, e))
  beside_more (a ∷ bs) [] b c e r h = absurd (omega (arith, e))
  beside_more (a ∷ bs) (d ∷ cs) b c e r h = (h.0, beside_more bs cs b c (omega (arith, e)) r h.1)

  -- the same of what was pushed
  pub beside_pushed : {bs old_bs new_bs : List A} {cs old_cs new_cs : List C} (b : A) (c : C) → length cs ≡ length bs → AllBeside R bs cs
      → new_bs ≡ old_bs ++ b ∷ [] → old_bs ≡ bs → new_cs ≡ old_cs ++ c ∷ [] → old_cs ≡ cs → R b c → AllBeside R new_bs new_cs
  beside_pushed {bs = bs} {cs = cs} b c e h bs_are bs_were cs_are cs_were r = rw (bs_are, bs_were, cs_are, cs_were) (beside_more bs cs b c e r h)

  -- one less of each
  beside_without : (bs : List A) (cs : List C) (i : ℕ) → AllBeside R bs cs → AllBeside R (remove bs i) (remove cs i)
  beside_without [] cs zero h = tt
  beside_without [] cs (suc i) h = tt
  beside_without (b ∷ bs) [] zero h = none_beside bs
    where
      none_beside : (xs : List A) → AllBeside R xs []
      none_beside [] = tt
      none_beside (x ∷ xs) = tt
  beside_without (b ∷ bs) [] (suc i) h = tt
  beside_without (b ∷ bs) (c ∷ cs) zero h = h.1
  beside_without (b ∷ bs) (c ∷ cs) (suc i) h = (h.0, beside_without bs cs i h.1)

  -- without what passes first, and what stands beside it
  pub beside_but : (p : A → Bool) (bs : List A) (cs : List C) → AllBeside R bs cs → AllBeside R (without_first p bs) (but_at cs (position_from p 0 bs))
  beside_but p bs cs h = by (position_from p 0 bs) refl
    where
      by : (o : Option ℕ) → position_from p 0 bs ≡ o → AllBeside R (without_first p bs) (but_at cs o)
      by None e = subst (λ (xs : List A). AllBeside R xs cs) (sym (none_at p bs e).1) h
      by (Some k) e = subst (λ (xs : List A). AllBeside R xs (remove cs k)) (sym (first_at p k bs e).rest) (beside_without bs cs k h)

  -- another one comes to a place
  put_beside : (bs : List A) (cs : List C) (i : ℕ) (old new : C) → slice_get cs i ≡ Some old → ((b : A) → R b old → R b new) → AllBeside R bs cs → AllBeside R bs (slice_set cs i new)
  put_beside [] cs i old new e k h = tt
  put_beside (b ∷ bs) [] i old new e k h = h
  put_beside (b ∷ bs) (c ∷ cs) zero old new e k h = (let same : c ≡ old = cc in k b (subst (λ (x : C). R b x) same h.0), h.1)
  put_beside (b ∷ bs) (c ∷ cs) (suc i) old new e k h = (h.0, put_beside bs cs i old new e k h.1)

  pub beside_put : (bs : List A) (cs : List C) (o : Option ℕ) (old new : C) → at cs o ≡ Some old → ((b : A) → R b old → R b new) → AllBeside R bs cs → AllBeside R bs (set_at cs o new)
  beside_put bs cs None old new e k h = h
  beside_put bs cs (Some i) old new e k h = put_beside bs cs i old new e k h

  -- anything may come, where all are related so
  pub beside_any : ((b : A) (c : C) → R b c) → (bs : List A) (cs : List C) → AllBeside R bs cs
  beside_any all [] cs = tt
  beside_any all (b ∷ bs) [] = tt
  beside_any all (b ∷ bs) (c ∷ cs) = (all b c, beside_any all bs cs)

  beside_at : (bs : List A) (cs : List C) (i : ℕ) → AllBeside R bs cs → BothAre R (slice_get bs i) (slice_get cs i)
  beside_at [] cs i h = tt
  beside_at (b ∷ bs) [] zero h = tt
  beside_at (b ∷ bs) [] (suc i) h = none (slice_get bs i)
    where
      none : (o : Option A) → BothAre R o None
      none None = tt
      none (Some x) = tt
  beside_at (b ∷ bs) (c ∷ cs) zero h = h.0
  beside_at (b ∷ bs) (c ∷ cs) (suc i) h = beside_at bs cs i h.1

  none_found : (o : Option A) → BothAre R o None
  none_found None = tt
  none_found (Some x) = tt

  -- what is found of each
  pub beside_found : (p : A → Bool) (bs : List A) (cs : List C) → AllBeside R bs cs → BothAre R (find p bs) (at cs (position_from p 0 bs))
  beside_found p bs cs h = by (position_from p 0 bs) refl
    where
      by : (o : Option ℕ) → position_from p 0 bs ≡ o → BothAre R (find p bs) (at cs o)
      by None e = none_found (find p bs)
      by (Some k) e =
          let f = first_at p k bs e in
          subst (λ (o : Option A). BothAre R o (slice_get cs k)) (there_is bs k f.inside f.found) (beside_at bs cs k h)
        where
          there_is : (xs : List A) (i : ℕ) → i < length xs → ((d : A) → find p bs ≡ Some (get_or xs i d)) → slice_get xs i ≡ find p bs
          there_is [] i lt same = absurd (omega (arith, lt))
          there_is (x ∷ xs) zero lt same = sym (same x)
          there_is (x ∷ xs) (suc i) lt same = there_is xs i (omega (arith, lt)) same

set_count : {C : Type 0} (cs : List C) (i : ℕ) (c : C) → length (slice_set cs i c) ≡ length cs
set_count [] i c = refl
set_count (x ∷ xs) zero c = refl
set_count (x ∷ xs) (suc i) c = ap suc (set_count xs i c)

-- as many with another one at a place
pub put_count : {C : Type 0} (cs : List C) (o : Option ℕ) (c : C) → length (set_at cs o c) ≡ length cs
put_count cs None c = refl
put_count cs (Some i) c = set_count cs i c

remove_count : {A C : Type 0} (bs : List A) (cs : List C) (i : ℕ) → length cs ≡ length bs → length (remove cs i) ≡ length (remove bs i)
remove_count [] [] zero e = refl
remove_count [] [] (suc i) e = refl
remove_count [] (c ∷ cs) i e = absurd (omega (arith, e))
remove_count (b ∷ bs) [] i e = absurd (omega (arith, e))
remove_count (b ∷ bs) (c ∷ cs) zero e = omega (arith, e)
remove_count (b ∷ bs) (c ∷ cs) (suc i) e = ap suc (remove_count bs cs i (omega (arith, e)))

-- as many, without one of each
pub but_count : {A C : Type 0} (p : A → Bool) (bs : List A) (cs : List C) → length cs ≡ length bs → length (but_at cs (position_from p 0 bs)) ≡ length (without_first p bs)
but_count {A = A} p bs cs h = by (position_from p 0 bs) refl
  where
    by : (o : Option ℕ) → position_from p 0 bs ≡ o → length (but_at cs o) ≡ length (without_first p bs)
    by None e = h ∙ sym (ap (λ (xs : List A). length xs) (none_at p bs e).1)
    by (Some k) e = remove_count bs cs k h ∙ sym (ap (λ (xs : List A). length xs) (first_at p k bs e).rest)
