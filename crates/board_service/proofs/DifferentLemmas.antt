-- How many different numbers there are in a list, as one more comes or one goes.
use Rattle.std.proofs.Common.{◌≡◌, ℕ, ◌+◌, ◌≤◌, Bool, true, false, cond, ◌||◌, ◌==◌, List, [], ◌∷◌, ◌++◌, refl, sym, ap, subst, ◌∙◌, Option, Some, None, inl, inr, arith}
use Rattle.std.specs.Prelude.{◌⊎◌}
use Rattle.std.specs.List.{list_any, cons_option}
use Rattle.std.proofs.lemmas.List.{append-nil}
use Rattle.board_model.specs.Tables.{without_first}
use Rattle.board_service.proofs.DrawnLemmas.{numbered_other}

-- the number is in the list
abbrev pub has : ℕ → List ℕ → Bool
has k ks = list_any (λ j. j == k) ks

-- how many different numbers there are, each counted at its last place
abbrev pub different : List ℕ → ℕ
different [] = 0
different (k ∷ ks) = cond (has k ks) (different ks) (different ks + 1)

apart : (a k : ℕ) → (a == k) ≡ false → (k == a) ≡ false
apart a k e = numbered_other a k (λ s. (let t : (a == k) ≡ true = grind (arith, s) in absurd cc))

same_number : (a k : ℕ) → k ≡ a → (k == a) ≡ true
same_number a k s = grind (arith, s)

any_inside : (p : ℕ → Bool) (fs : List ℕ) (k : ℕ) (bs : List ℕ) → list_any p (fs ++ k ∷ bs) ≡ (p k || list_any p (fs ++ bs))
any_inside p [] k bs = refl
any_inside p (a ∷ fs) k bs = at (p a) (p k) (any_inside p fs k bs)
  where
    at : (b c : Bool) → list_any p (fs ++ k ∷ bs) ≡ (c || list_any p (fs ++ bs)) → (b || list_any p (fs ++ k ∷ bs)) ≡ (c || (b || list_any p (fs ++ bs)))
    at true true ih = refl
    at true false ih = refl
    at false c ih = ih

exchanged : (b c : Bool) (n : ℕ) → cond b (cond c n (n + 1)) (cond c n (n + 1) + 1) ≡ cond c (cond b n (n + 1)) (cond b n (n + 1) + 1)
exchanged true true n = refl
exchanged true false n = refl
exchanged false true n = refl
exchanged false false n = refl

-- a number counts fs one more exactly where the others don't have it
different_inside : (fs : List ℕ) (k : ℕ) (bs : List ℕ) → different (fs ++ k ∷ bs) ≡ cond (has k (fs ++ bs)) (different (fs ++ bs)) (different (fs ++ bs) + 1)
different_inside [] k bs = refl
different_inside (a ∷ fs) k bs = at (a == k) refl (different_inside fs k bs)
  where
    at : (c : Bool) → (a == k) ≡ c → different (fs ++ k ∷ bs) ≡ cond (has k (fs ++ bs)) (different (fs ++ bs)) (different (fs ++ bs) + 1)
        → cond (has a (fs ++ k ∷ bs)) (different (fs ++ k ∷ bs)) (different (fs ++ k ∷ bs) + 1)
        ≡ cond (c || has k (fs ++ bs)) (cond (has a (fs ++ bs)) (different (fs ++ bs)) (different (fs ++ bs) + 1)) (cond (has a (fs ++ bs)) (different (fs ++ bs)) (different (fs ++ bs) + 1) + 1)
    at true e ih =
        let same : k ≡ a = grind (arith, e) in
        let there : has a (fs ++ k ∷ bs) ≡ true = any_inside (λ j. j == a) fs k bs ∙ ap (λ (b : Bool). b || has a (fs ++ bs)) (same_number a k same) in
        rw there (ih ∙ ap (λ (n : ℕ). cond (has n (fs ++ bs)) (different (fs ++ bs)) (different (fs ++ bs) + 1)) same)
    at false e ih =
        let other : has a (fs ++ k ∷ bs) ≡ has a (fs ++ bs) = any_inside (λ j. j == a) fs k bs ∙ ap (λ (b : Bool). b || has a (fs ++ bs)) (apart a k e) in
        rw (other, ih) (exchanged (has a (fs ++ bs)) (has k (fs ++ bs)) (different (fs ++ bs)))

at_most : (b : Bool) (n : ℕ) → cond b n (n + 1) ≤ n + 1
at_most true n = omega arith
at_most false n = omega arith

at_least : (b : Bool) (n : ℕ) → n ≤ cond b n (n + 1)
at_least true n = omega arith
at_least false n = omega arith

-- ---- one more

push_at : (ks : List ℕ) (o : Option ℕ) → different (ks ++ cons_option o []) ≤ different ks + 1
push_at ks None = subst (λ l. different l ≤ different ks + 1) (sym (append-nil ks)) (omega arith)
push_at ks (Some k) =
    let few : different (ks ++ k ∷ []) ≤ different (ks ++ []) + 1 = subst (λ n. n ≤ different (ks ++ []) + 1) (sym (different_inside ks k [])) (at_most (has k (ks ++ [])) (different (ks ++ []))) in
    subst (λ l. different (ks ++ k ∷ []) ≤ different l + 1) (append-nil ks) few

push_had : (ks : List ℕ) (k : ℕ) → has k ks ≡ true → different (ks ++ k ∷ []) ≡ different ks
push_had ks k h =
    let nil = append-nil ks in
    let there : has k (ks ++ []) ≡ true = ap (λ (l : List ℕ). has k l) nil ∙ h in
    different_inside ks k [] ∙ ap (λ (b : Bool). cond b (different (ks ++ [])) (different (ks ++ []) + 1)) there ∙ ap (λ (l : List ℕ). different l) nil

-- ---- one less

record IsLess (ks less : List ℕ) : Type 0 where
  front : List ℕ
  number : ℕ
  back : List ℕ
  whole : ks ≡ front ++ number ∷ back
  rest : less ≡ front ++ back

different_less : (ks less : List ℕ) → (less ≡ ks) ⊎ IsLess ks less → different less ≤ different ks
different_less ks less (inl e) = subst (λ l. different l ≤ different ks) (sym e) (omega arith)
different_less ks less (inr l) =
    let few : different (l.front ++ l.back) ≤ different (l.front ++ l.number ∷ l.back) =
    subst (λ n. different (l.front ++ l.back) ≤ n) (sym (different_inside l.front l.number l.back)) (at_least (has l.number (l.front ++ l.back)) (different (l.front ++ l.back))) in
    subst (λ ms. different less ≤ different ms) (sym l.whole) (subst (λ ms. different ms ≤ different (l.front ++ l.number ∷ l.back)) (sym l.rest) few)

onto : (o : Option ℕ) (ks less : List ℕ) → (less ≡ ks) ⊎ IsLess ks less → (cons_option o less ≡ cons_option o ks) ⊎ IsLess (cons_option o ks) (cons_option o less)
onto None ks less h = h
onto (Some k) ks less (inl e) = inl (ap (λ (l : List ℕ). k ∷ l) e)
onto (Some k) ks less (inr l) = inr (record { front = k ∷ l.front; number = l.number; back = l.back; whole = ap (λ (m : List ℕ). k ∷ m) l.whole; rest = ap (λ (m : List ℕ). k ∷ m) l.rest })

taken : (o : Option ℕ) (ks : List ℕ) → (ks ≡ cons_option o ks) ⊎ IsLess (cons_option o ks) ks
taken None ks = inl refl
taken (Some k) ks = inr (record { front = []; number = k; back = ks; whole = refl; rest = refl })

-- ---- the numbers of the elements of a list

-- those of the elements that have one
abbrev pub numbers : {A : Type 0} → (A → Option ℕ) → List A → List ℕ
numbers number [] = []
numbers number (x ∷ xs) = cons_option (number x) (numbers number xs)

module _ {A : Type 0} (number : A → Option ℕ) where
  numbers_push : (xs : List A) (y : A) → numbers number (xs ++ y ∷ []) ≡ numbers number xs ++ cons_option (number y) []
  numbers_push [] y = refl
  numbers_push (x ∷ xs) y = at (number x) (numbers_push xs y)
    where
      at : (o : Option ℕ) → numbers number (xs ++ y ∷ []) ≡ numbers number xs ++ cons_option (number y) [] → cons_option o (numbers number (xs ++ y ∷ [])) ≡ cons_option o (numbers number xs) ++ cons_option (number y) []
      at None ih = ih
      at (Some k) ih = ap (λ (ks : List ℕ). k ∷ ks) ih

  pub different_push : (xs : List A) (y : A) → different (numbers number (xs ++ y ∷ [])) ≤ different (numbers number xs) + 1
  different_push xs y = subst (λ l. different l ≤ different (numbers number xs) + 1) (sym (numbers_push xs y)) (push_at (numbers number xs) (number y))

  pub different_push_none : (xs : List A) (y : A) → number y ≡ None → different (numbers number (xs ++ y ∷ [])) ≡ different (numbers number xs)
  different_push_none xs y none =
      ap (λ (l : List ℕ). different l) (numbers_push xs y ∙ ap (λ (o : Option ℕ). numbers number xs ++ cons_option o []) none ∙ append-nil (numbers number xs))

  pub different_push_had : (xs : List A) (y : A) (k : ℕ) → number y ≡ Some k → has k (numbers number xs) ≡ true → different (numbers number (xs ++ y ∷ [])) ≡ different (numbers number xs)
  different_push_had xs y k some had =
      ap (λ (l : List ℕ). different l) (numbers_push xs y ∙ ap (λ (o : Option ℕ). numbers number xs ++ cons_option o []) some) ∙ push_had (numbers number xs) k had

  numbers_without : (q : A → Bool) (xs : List A) → (numbers number (without_first q xs) ≡ numbers number xs) ⊎ IsLess (numbers number xs) (numbers number (without_first q xs))
  numbers_without q [] = inl refl
  numbers_without q (x ∷ xs) = at (q x) (numbers_without q xs)
    where
      at : (b : Bool) → (numbers number (without_first q xs) ≡ numbers number xs) ⊎ IsLess (numbers number xs) (numbers number (without_first q xs))
          → (numbers number (cond b xs (x ∷ without_first q xs)) ≡ numbers number (x ∷ xs)) ⊎ IsLess (numbers number (x ∷ xs)) (numbers number (cond b xs (x ∷ without_first q xs)))
      at true ih = taken (number x) (numbers number xs)
      at false ih = onto (number x) (numbers number xs) (numbers number (without_first q xs)) ih

  pub different_without : (q : A → Bool) (xs : List A) → different (numbers number (without_first q xs)) ≤ different (numbers number xs)
  different_without q xs = different_less (numbers number xs) (numbers number (without_first q xs)) (numbers_without q xs)
