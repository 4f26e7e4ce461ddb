-- Lemmas on lists: finding, counting and taking out.
use Rattle.std.proofs.Common.{◌≡◌, ℕ, ◌+◌, ◌≤◌, Bool, true, false, cond, List, [], ◌∷◌, ◌++◌, map, arith, refl, sym, ap, subst, ◌∙◌, Option, Some, None, inl, inr}
use Rattle.std.specs.Prelude.{find, ◌⊎◌, ◌||◌}
use Rattle.std.specs.List.{list_any, count_by}
use Rattle.std.specs.Str.{bytes_eq}
use Rattle.std.proofs.lemmas.Bool.{both_ways, or_left, or_right}
use Rattle.std.proofs.lemmas.List.Folds.{list_any-append}
use Rattle.std.proofs.lemmas.List.Sums.{sum_by_push, sum_by-cons}
use Rattle.std.proofs.lemmas.Slice.Eq.{bytes_eq-Decides}
use Rattle.board_model.specs.Tables.{without_first}

-- ---- names

pub same_bytes : (a b : List ℕ) → bytes_eq a b ≡ true → a ≡ b
same_bytes a b e = (bytes_eq-Decides a b).0 e

pub other_bytes : (a b : List ℕ) → bytes_eq a b ≡ false → a ≡ b → ⊥
other_bytes a b e q =
    let t : bytes_eq a b ≡ true = (bytes_eq-Decides a b).1 q in
    absurd cc

-- ---- lists

pub find_kept : {X : Type 0} (p : X → Bool) (xs ys : List X) (x : X) → find p xs ≡ Some x → find p (xs ++ ys) ≡ Some x
find_kept p [] ys x e = absurd cc
find_kept {X = X} p (z ∷ xs) ys x e = at (p z) (find_kept p xs ys x) e
  where
    at : (b : Bool) → (find p xs ≡ Some x → find p (xs ++ ys) ≡ Some x) → cond b (Some z) (find p xs) ≡ Some x → cond b (Some z) (find p (xs ++ ys)) ≡ Some x
    at true ih q = q
    at false ih q = ih q

pub find_true : {X : Type 0} (p : X → Bool) (xs : List X) (x : X) → find p xs ≡ Some x → p x ≡ true
find_true p [] x e = absurd cc
find_true {X = X} p (z ∷ xs) x e = at (p z) refl (find_true p xs x) e
  where
    at : (b : Bool) → p z ≡ b → (find p xs ≡ Some x → p x ≡ true) → cond b (Some z) (find p xs) ≡ Some x → p x ≡ true
    at true t ih q =
        let s : z ≡ x = cc in
        subst (λ (y : X). p y ≡ true) s t
    at false t ih q = ih q

-- what is found passes every test that it meets
pub any_found : {X : Type 0} (p q : X → Bool) (xs : List X) (x : X) → find p xs ≡ Some x → q x ≡ true → list_any q xs ≡ true
any_found p q [] x e h = absurd cc
any_found {X = X} p q (z ∷ xs) x e h = at (p z) (λ k. any_found p q xs x k h) e
  where
    at : (b : Bool) → (find p xs ≡ Some x → list_any q xs ≡ true) → cond b (Some z) (find p xs) ≡ Some x → (q z || list_any q xs) ≡ true
    at true ih k =
        let s : z ≡ x = cc in
        or_left (q z) (list_any q xs) (subst (λ (y : X). q y ≡ true) (sym s) h)
    at false ih k = or_right (q z) (list_any q xs) (ih k)

pub any_kept : {X : Type 0} (p : X → Bool) (xs ys : List X) → list_any p xs ≡ true → list_any p (xs ++ ys) ≡ true
any_kept p xs ys h = list_any-append p xs ys ∙ or_left (list_any p xs) (list_any p ys) h

pub count_push : {X : Type 0} (p : X → Bool) (xs : List X) (x : X) → count_by p (xs ++ x ∷ []) ≡ count_by p xs + cond (p x) 1 0
count_push p xs x = sum_by_push (λ y. cond (p y) 1 0) xs x

pub count_cons : {X : Type 0} (p : X → Bool) (x : X) (xs : List X) → count_by p (x ∷ xs) ≡ cond (p x) 1 0 + count_by p xs
count_cons p x xs = sum_by-cons (λ y. cond (p y) 1 0) x xs

pub count_none : {X : Type 0} (p : X → Bool) (xs : List X) → list_any p xs ≡ false → count_by p xs ≡ 0
count_none p [] h = refl
count_none p (x ∷ xs) h = at (p x) refl (count_none p xs) h
  where
    at : (b : Bool) → p x ≡ b → (list_any p xs ≡ false → count_by p xs ≡ 0) → (b || list_any p xs) ≡ false → count_by p (x ∷ xs) ≡ 0
    at true e ih q = absurd cc
    at false e ih q =
        let d : ◌≡◌ {A = ℕ} (cond (p x) 1 0) 0 = ap (λ (z : Bool). cond z 1 0) e in
        omega (arith, count_cons p x xs, ih q, d)

pub any_counts : {X : Type 0} (p q : X → Bool) → ((x : X) → q x ≡ true → p x ≡ true) → (xs : List X) → list_any q xs ≡ true → 1 ≤ count_by p xs
any_counts p q sub [] h = absurd cc
any_counts p q sub (x ∷ xs) h = at (q x) refl (any_counts p q sub xs) h
  where
    at : (b : Bool) → q x ≡ b → (list_any q xs ≡ true → 1 ≤ count_by p xs) → (b || list_any q xs) ≡ true → 1 ≤ count_by p (x ∷ xs)
    at true e ih k =
        let c : count_by p (x ∷ xs) ≡ 1 + count_by p xs = count_cons p x xs ∙ ap (λ (z : Bool). cond z 1 0 + count_by p xs) (sub x e) in
        omega arith
    at false e ih k = omega (arith, count_cons p x xs, ih k)

-- ---- finding in a list that changed

-- what is found behind one more
pub find_push_cases : {X : Type 0} (p : X → Bool) (xs : List X) (x y : X) → find p (xs ++ x ∷ []) ≡ Some y → (find p xs ≡ Some y) ⊎ ((find p xs ≡ None) × (x ≡ y))
find_push_cases {X = X} p [] x y e = at (p x) e
  where
    at : (b : Bool) → cond b (Some x) None ≡ Some y → (find p [] ≡ Some y) ⊎ ((find p [] ≡ None) × (x ≡ y))
    at true q = inr (refl, cc)
    at false q = absurd cc
find_push_cases {X = X} p (z ∷ xs) x y e = at (p z) (find_push_cases p xs x y) e
  where
    at : (b : Bool) → (find p (xs ++ x ∷ []) ≡ Some y → (find p xs ≡ Some y) ⊎ ((find p xs ≡ None) × (x ≡ y))) → cond b (Some z) (find p (xs ++ x ∷ [])) ≡ Some y → (cond b (Some z) (find p xs) ≡ Some y) ⊎ ((cond b (Some z) (find p xs) ≡ None) × (x ≡ y))
    at true ih q = inl q
    at false ih q = ih q

-- what isn't removed is still found
pub find_without : {X : Type 0} (p q : X → Bool) (xs : List X) (y : X) → find p xs ≡ Some y → q y ≡ false → find p (without_first q xs) ≡ Some y
find_without p q [] y e h = absurd cc
find_without {X = X} p q (z ∷ xs) y e h = at (p z) refl (q z) refl (find_without p q xs y) e
  where
    at : (b : Bool) → p z ≡ b → (c : Bool) → q z ≡ c → (find p xs ≡ Some y → q y ≡ false → find p (without_first q xs) ≡ Some y) → cond b (Some z) (find p xs) ≡ Some y → find p (cond c xs (z ∷ without_first q xs)) ≡ Some y
    at true g true f ih k =
        let s : z ≡ y = cc in
        let t : q y ≡ true = subst (λ (x : X). q x ≡ true) s f in
        absurd (both_ways (q y) h t)
    at false g true f ih k = k
    at true g false f ih k = ap (λ (b : Bool). cond b (Some z) (find p (without_first q xs))) g ∙ k
    at false g false f ih k = ap (λ (b : Bool). cond b (Some z) (find p (without_first q xs))) g ∙ ih k h

pub count_without : {X : Type 0} (p q : X → Bool) (xs : List X) (y : X) → find q xs ≡ Some y → count_by p (without_first q xs) + cond (p y) 1 0 ≡ count_by p xs
count_without p q [] y e = absurd cc
count_without {X = X} p q (z ∷ xs) y e = at (q z) (count_without p q xs y) e
  where
    at : (c : Bool) → (find q xs ≡ Some y → count_by p (without_first q xs) + cond (p y) 1 0 ≡ count_by p xs) → cond c (Some z) (find q xs) ≡ Some y → count_by p (cond c xs (z ∷ without_first q xs)) + cond (p y) 1 0 ≡ count_by p (z ∷ xs)
    at true ih k =
        let s : z ≡ y = cc in
        let d : ◌≡◌ {A = ℕ} (cond (p y) 1 0) (cond (p z) 1 0) = ap (λ (x : X). cond (p x) 1 0) (sym s) in
        omega (arith, count_cons p z xs, d)
    at false ih k = omega (arith, count_cons p z xs, count_cons p z (without_first q xs), ih k)

-- what is found without a thing was found before, where the thing doesn't pass
pub find_back : {X : Type 0} (p q : X → Bool) (xs : List X) (y t : X) → find q xs ≡ Some t → p t ≡ false → find p (without_first q xs) ≡ Some y → find p xs ≡ Some y
find_back p q [] y t e h k = absurd cc
find_back {X = X} p q (z ∷ xs) y t e h k = at (q z) (p z) refl (find_back p q xs y t) e k
  where
    at : (c b : Bool) → p z ≡ b → (find q xs ≡ Some t → p t ≡ false → find p (without_first q xs) ≡ Some y → find p xs ≡ Some y) → cond c (Some z) (find q xs) ≡ Some t → find p (cond c xs (z ∷ without_first q xs)) ≡ Some y → cond b (Some z) (find p xs) ≡ Some y
    at true true f ih e k =
        let s : z ≡ t = cc in
        let u : p t ≡ true = subst (λ (x : X). p x ≡ true) s f in
        absurd (both_ways (p t) h u)
    at true false f ih e k = k
    at false true f ih e k = sym (ap (λ (b : Bool). cond b (Some z) (find p (without_first q xs))) f) ∙ k
    at false false f ih e k = ih e h (sym (ap (λ (b : Bool). cond b (Some z) (find p (without_first q xs))) f) ∙ k)

-- at most one passes: the one that is found under another test is found
pub find_only : {X : Type 0} (p q : X → Bool) (xs : List X) (y : X) → count_by p xs ≤ 1 → find q xs ≡ Some y → p y ≡ true → find p xs ≡ Some y
find_only p q [] y c e h = absurd cc
find_only {X = X} p q (z ∷ xs) y c e h = at (p z) refl (q z) e (find_only p q xs y (omega (arith, count_cons p z xs)))
  where
    at : (b : Bool) → p z ≡ b → (d : Bool) → cond d (Some z) (find q xs) ≡ Some y → (find q xs ≡ Some y → p y ≡ true → find p xs ≡ Some y) → cond b (Some z) (find p xs) ≡ Some y
    at true f true k ih = k
    at true f false k ih =
        let a : list_any p xs ≡ true = any_found q p xs y k h in
        let n : 1 ≤ count_by p xs = any_counts p p (λ x g. g) xs a in
        let d : ◌≡◌ {A = ℕ} (cond (p z) 1 0) 1 = ap (λ (b : Bool). cond b 1 0) f in
        absurd (omega (arith, count_cons p z xs))
    at false f true k ih =
        let s : z ≡ y = cc in
        let t : p z ≡ true = subst (λ (x : X). p x ≡ true) (sym s) h in
        absurd (both_ways (p z) f t)
    at false f false k ih = ih k h

-- none is found where none is counted
pub find_none : {X : Type 0} (p : X → Bool) (xs : List X) (y : X) → count_by p xs ≡ 0 → find p xs ≡ Some y → ⊥
find_none p xs y c e =
    let a : list_any p xs ≡ true = any_found p p xs y e (find_true p xs y e) in
    let n : 1 ≤ count_by p xs = any_counts p p (λ x h. h) xs a in
    absurd (omega arith)

-- ---- renamed lists

-- what is found where each item became another, and the test with it
pub find_map : {X Y : Type 0} (f : X → Y) (p : Y → Bool) (xs : List X) (x : X) → find (λ z. p (f z)) xs ≡ Some x → find p (map f xs) ≡ Some (f x)
find_map f p [] x e = absurd cc
find_map {X = X} f p (z ∷ xs) x e = at (p (f z)) (find_map f p xs x) e
  where
    at : (b : Bool) → (find (λ z. p (f z)) xs ≡ Some x → find p (map f xs) ≡ Some (f x)) → cond b (Some z) (find (λ z. p (f z)) xs) ≡ Some x → cond b (Some (f z)) (find p (map f xs)) ≡ Some (f x)
    at true ih q =
        let s : z ≡ x = cc in
        ap (λ (y : X). Some (f y)) s
    at false ih q = ih q

-- and back
pub record IsImage {X Y : Type 0} (f : X → Y) (p : Y → Bool) (xs : List X) (y : Y) : Type 0 where
  pub item : X
  pub found : find (λ z. p (f z)) xs ≡ Some item
  pub same : f item ≡ y

pub find_image : {X Y : Type 0} (f : X → Y) (p : Y → Bool) (xs : List X) (y : Y) → find p (map f xs) ≡ Some y → IsImage f p xs y
find_image f p [] y e = absurd cc
find_image {X = X} f p (z ∷ xs) y e = at (p (f z)) refl (find_image f p xs y) e
  where
    at : (b : Bool) → p (f z) ≡ b → (find p (map f xs) ≡ Some y → IsImage f p xs y) → cond b (Some (f z)) (find p (map f xs)) ≡ Some y → IsImage f p (z ∷ xs) y
    at true t ih q = record { item = z; found = ap (λ (b : Bool). cond b (Some z) (find (λ z. p (f z)) xs)) t; same = cc }
    at false t ih q =
        let h : IsImage f p xs y = ih q in
        record { item = h.item; found = ap (λ (b : Bool). cond b (Some z) (find (λ z. p (f z)) xs)) t ∙ h.found; same = h.same }

-- tests that agree on each item find the same
pub find_agree : {X : Type 0} (p q : X → Bool) → ((x : X) → p x ≡ q x) → (xs : List X) → find p xs ≡ find q xs
find_agree p q h [] = refl
find_agree {X = X} p q h (z ∷ xs) = ap (λ (b : Bool). cond b (Some z) (find p xs)) (h z) ∙ ap (λ (o : Option X). cond (q z) (Some z) o) (find_agree p q h xs)

pub count_map : {X Y : Type 0} (f : X → Y) (p : Y → Bool) (xs : List X) → count_by p (map f xs) ≡ count_by (λ z. p (f z)) xs
count_map f p [] = refl
count_map f p (z ∷ xs) = count_cons p (f z) (map f xs) ∙ ap (λ (n : ℕ). cond (p (f z)) 1 0 + n) (count_map f p xs) ∙ sym (count_cons (λ y. p (f y)) z xs)

pub count_agree : {X : Type 0} (p q : X → Bool) → ((x : X) → p x ≡ q x) → (xs : List X) → count_by p xs ≡ count_by q xs
count_agree p q h [] = refl
count_agree p q h (z ∷ xs) = count_cons p z xs ∙ (ap (λ (n : ℕ). cond (p z) 1 0 + n) (count_agree p q h xs) ∙ (ap (λ (b : Bool). cond b 1 0 + count_by q xs) (h z) ∙ sym (count_cons q z xs)))

pub any_map : {X Y : Type 0} (f : X → Y) (p : Y → Bool) (xs : List X) → list_any p (map f xs) ≡ list_any (λ z. p (f z)) xs
any_map f p [] = refl
any_map f p (z ∷ xs) = ap (λ (b : Bool). p (f z) || b) (any_map f p xs)

-- ---- found or not

-- where one passes, one is found
pub record IsFound {X : Type 0} (p : X → Bool) (xs : List X) : Type 0 where
  pub item : X
  pub found : find p xs ≡ Some item
  pub passes : p item ≡ true

pub find_any : {X : Type 0} (p : X → Bool) (xs : List X) → list_any p xs ≡ true → IsFound p xs
find_any p [] h = absurd cc
find_any {X = X} p (z ∷ xs) h = at (p z) refl (find_any p xs) h
  where
    at : (b : Bool) → p z ≡ b → (list_any p xs ≡ true → IsFound p xs) → (b || list_any p xs) ≡ true → IsFound p (z ∷ xs)
    at true t ih q = record { item = z; found = ap (λ (b : Bool). cond b (Some z) (find p xs)) t; passes = t }
    at false t ih q =
        let i : IsFound p xs = ih q in
        record { item = i.item; found = ap (λ (b : Bool). cond b (Some z) (find p xs)) t ∙ i.found; passes = i.passes }

-- none is found exactly where none passes
pub find_missing : {X : Type 0} (p : X → Bool) (xs : List X) → list_any p xs ≡ false → find p xs ≡ None
find_missing p [] h = refl
find_missing {X = X} p (z ∷ xs) h = at (p z) refl (find_missing p xs) h
  where
    at : (b : Bool) → p z ≡ b → (list_any p xs ≡ false → find p xs ≡ None) → (b || list_any p xs) ≡ false → cond b (Some z) (find p xs) ≡ None
    at true t ih q = absurd cc
    at false t ih q = ih q

pub any_missing : {X : Type 0} (p : X → Bool) (xs : List X) → find p xs ≡ None → list_any p xs ≡ false
any_missing p [] h = refl
any_missing {X = X} p (z ∷ xs) h = at (p z) (any_missing p xs) h
  where
    at : (b : Bool) → (find p xs ≡ None → list_any p xs ≡ false) → cond b (Some z) (find p xs) ≡ None → (b || list_any p xs) ≡ false
    at true ih q = absurd cc
    at false ih q = ih q

-- what passes in a list without one item passed in the whole
pub any_without : {X : Type 0} (p q : X → Bool) (xs : List X) → list_any p (without_first q xs) ≡ true → list_any p xs ≡ true
any_without p q [] h = absurd cc
any_without {X = X} p q (z ∷ xs) h = at (q z) (any_without p q xs) h
  where
    rest : (b : Bool) → (list_any p (without_first q xs) ≡ true → list_any p xs ≡ true) → (b || list_any p (without_first q xs)) ≡ true → (b || list_any p xs) ≡ true
    rest true ih k = refl
    rest false ih k = ih k

    at : (c : Bool) → (list_any p (without_first q xs) ≡ true → list_any p xs ≡ true) → list_any p (cond c xs (z ∷ without_first q xs)) ≡ true → (p z || list_any p xs) ≡ true
    at true ih k = or_right (p z) (list_any p xs) k
    at false ih k = rest (p z) ih k
