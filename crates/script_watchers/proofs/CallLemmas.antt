-- The handles that ids call for, row by row, are those of the definition.
use Rattle.std.proofs.Common.{◌≡◌, ℕ, Bool, true, false, List, [], ◌∷◌, ◌++◌, refl, sym, ap, ◌∙◌, append_assoc}
use Rattle.std.specs.Prelude.{◌&&◌, ◌||◌, filter, if◌then◌else◌, not}
use Rattle.std.specs.List.{list_any}
use Rattle.std.specs.Str.{bytes_eq}
use Rattle.std.proofs.lemmas.Bool.{false≢true}
use Rattle.std.proofs.lemmas.List.{append-nil}
use Rattle.board_model.proofs.ThingLemmas.{same_to_itself}
use Rattle.board_model.proofs.ListLemmas.{same_bytes}
use Rattle.script_moments.specs.Watchers.{AskedId, called, calls, each_once}
use Rattle.script_watchers.specs.Calls.{collected, is_told, rows_of}

-- the name is among these
abbrev pub has : List (List ℕ) → List ℕ → Bool
has cs h = list_any (λ n. bytes_eq n h) cs

-- each of these names is added, where it isn't there yet
abbrev added : List (List ℕ) → List (List ℕ) → List (List ℕ)
added cs [] = cs
added cs (h ∷ hs) = added (if has cs h then cs else cs ++ h ∷ []) hs

-- ---- names that are the same

pub eq_sym : (a b : List ℕ) → bytes_eq a b ≡ bytes_eq b a
eq_sym a b = at (bytes_eq a b) (bytes_eq b a) refl refl
  where
    at : (x y : Bool) → bytes_eq a b ≡ x → bytes_eq b a ≡ y → x ≡ y
    at true true e f = refl
    at false false e f = refl
    at true false e f = absurd (false≢true (sym f ∙ ap (λ (c : List ℕ). bytes_eq b c) (same_bytes a b e) ∙ same_to_itself b))
    at false true e f = absurd (false≢true (sym e ∙ ap (λ (c : List ℕ). bytes_eq a c) (same_bytes b a f) ∙ same_to_itself a))

-- ---- filters

filters : (p q r : List ℕ → Bool) → ((g : List ℕ) → r g ≡ (q g && p g)) → (xs : List (List ℕ)) → filter p (filter q xs) ≡ filter r xs
filters p q r h [] = refl
filters p q r h (x ∷ xs) = at (q x) (p x) refl refl (filters p q r h xs) ∙ ap (λ (b : Bool). if b then x ∷ filter r xs else filter r xs) (sym (h x))
  where
    inner : (c : Bool) → p x ≡ c → filter p (filter q xs) ≡ filter r xs → filter p (x ∷ filter q xs) ≡ (if c then x ∷ filter r xs else filter r xs)
    inner c f rest = ap (λ (b : Bool). if b then x ∷ filter p (filter q xs) else filter p (filter q xs)) f ∙ ap (λ (ys : List (List ℕ)). if c then x ∷ ys else ys) rest

    at : (b c : Bool) → q x ≡ b → p x ≡ c → filter p (filter q xs) ≡ filter r xs → filter p (filter q (x ∷ xs)) ≡ (if (q x && p x) then x ∷ filter r xs else filter r xs)
    at true c e f rest =
        ap (λ (b : Bool). filter p (if b then x ∷ filter q xs else filter q xs)) e ∙ inner c f rest ∙ ap (λ (b : Bool). if b then x ∷ filter r xs else filter r xs) (sym (ap (λ (b : Bool). b && p x) e ∙ f))
    at false c e f rest =
        ap (λ (b : Bool). filter p (if b then x ∷ filter q xs else filter q xs)) e ∙ rest ∙ ap (λ (b : Bool). if b then x ∷ filter r xs else filter r xs) (sym (ap (λ (b : Bool). b && p x) e))

-- ---- adding

any_more : (cs : List (List ℕ)) (h g : List ℕ) → has (cs ++ h ∷ []) g ≡ (has cs g || bytes_eq h g)
any_more [] h g = at (bytes_eq h g)
  where
    at : (b : Bool) → (b || false) ≡ (false || b)
    at true = refl
    at false = refl
any_more (c ∷ cs) h g = ap (λ (b : Bool). bytes_eq c g || b) (any_more cs h g) ∙ at (bytes_eq c g) (has cs g) (bytes_eq h g)
  where
    at : (a b c : Bool) → (a || (b || c)) ≡ ((a || b) || c)
    at true b c = refl
    at false b c = refl

-- the names that are not there yet, each once
abbrev new_to : List (List ℕ) → List ℕ → Bool
new_to cs g = not (has cs g)

head_there : (cs : List (List ℕ)) (h : List ℕ) (es : List (List ℕ)) → has cs h ≡ true → filter (new_to cs) (h ∷ es) ≡ filter (new_to cs) es
head_there cs h es e = ap (λ (b : Bool). if not b then h ∷ filter (new_to cs) es else filter (new_to cs) es) e

head_new : (cs : List (List ℕ)) (h : List ℕ) (es : List (List ℕ)) → has cs h ≡ false → filter (new_to cs) (h ∷ es) ≡ h ∷ filter (new_to cs) es
head_new cs h es e = ap (λ (b : Bool). if not b then h ∷ filter (new_to cs) es else filter (new_to cs) es) e

-- what is there is no other name
there_apart : (cs : List (List ℕ)) (h : List ℕ) → has cs h ≡ true → (g : List ℕ) → new_to cs g ≡ (not (bytes_eq g h) && new_to cs g)
there_apart cs h e g = at (bytes_eq g h) refl
  where
    at : (b : Bool) → bytes_eq g h ≡ b → new_to cs g ≡ (not b && new_to cs g)
    at false f = refl
    at true f = ap not (ap (has cs) (same_bytes g h f) ∙ e)

both_new : (cs : List (List ℕ)) (h g : List ℕ) → new_to (cs ++ h ∷ []) g ≡ (not (bytes_eq g h) && new_to cs g)
both_new cs h g = ap not (any_more cs h g ∙ ap (λ (b : Bool). has cs g || b) (eq_sym h g)) ∙ at (has cs g) (bytes_eq g h)
  where
    at : (a b : Bool) → not (a || b) ≡ (not b && not a)
    at true true = refl
    at true false = refl
    at false true = refl
    at false false = refl

-- adding them one by one adds those that are new, each once
added_is : (hs cs : List (List ℕ)) → added cs hs ≡ cs ++ filter (new_to cs) (each_once hs)
added_is [] cs = sym (append-nil cs)
added_is (h ∷ hs) cs = at (has cs h) refl (added_is hs cs) (added_is hs (cs ++ h ∷ []))
  where
    at : (b : Bool) → has cs h ≡ b → added cs hs ≡ cs ++ filter (new_to cs) (each_once hs) → added (cs ++ h ∷ []) hs ≡ (cs ++ h ∷ []) ++ filter (new_to (cs ++ h ∷ [])) (each_once hs)
        → added (if b then cs else cs ++ h ∷ []) hs ≡ cs ++ filter (new_to cs) (h ∷ filter (λ g. not (bytes_eq g h)) (each_once hs))
    at true e there new =
        there ∙ ap (λ (ys : List (List ℕ)). cs ++ ys) (sym (filters (new_to cs) (λ g. not (bytes_eq g h)) (new_to cs) (there_apart cs h e) (each_once hs)) ∙ sym (head_there cs h (filter (λ g. not (bytes_eq g h)) (each_once hs)) e))
    at false e there new =
        new ∙ append_assoc cs (h ∷ []) (filter (new_to (cs ++ h ∷ [])) (each_once hs))
        ∙ ap (λ (ys : List (List ℕ)). cs ++ h ∷ ys) (sym (filters (new_to cs) (λ g. not (bytes_eq g h)) (new_to (cs ++ h ∷ [])) (both_new cs h) (each_once hs)))
        ∙ ap (λ (ys : List (List ℕ)). cs ++ ys) (sym (head_new cs h (filter (λ g. not (bytes_eq g h)) (each_once hs)) e))

-- to none they are all of them, each once
all_new : (hs : List (List ℕ)) → filter (new_to []) hs ≡ hs
all_new [] = refl
all_new (h ∷ hs) = ap (λ (ys : List (List ℕ)). h ∷ ys) (all_new hs)

-- ---- row by row

collected_is : (ids : List ℕ) (hs : List (List ℕ)) (xs : List AskedId) (cs : List (List ℕ)) → collected ids cs (rows_of hs xs) ≡ added cs (called hs xs ids)
collected_is ids [] xs cs = refl
collected_is ids (h ∷ hs) [] cs = refl
collected_is ids (h ∷ hs) (x ∷ xs) cs = at (is_told ids x.id) (has cs h) refl (collected_is ids hs xs cs) (collected_is ids hs xs (cs ++ h ∷ []))
  where
    at : (b c : Bool) → has cs h ≡ c → collected ids cs (rows_of hs xs) ≡ added cs (called hs xs ids) → collected ids (cs ++ h ∷ []) (rows_of hs xs) ≡ added (cs ++ h ∷ []) (called hs xs ids)
        → collected ids (if (b && not c) then cs ++ h ∷ [] else cs) (rows_of hs xs) ≡ added cs (if b then h ∷ called hs xs ids else called hs xs ids)
    at false c e same more = same
    at true true e same more = same ∙ ap (λ (z : Bool). added (if z then cs else cs ++ h ∷ []) (called hs xs ids)) (sym e)
    at true false e same more = more ∙ ap (λ (z : Bool). added (if z then cs else cs ++ h ∷ []) (called hs xs ids)) (sym e)

pub collected_calls : (ids : List ℕ) (hs : List (List ℕ)) (xs : List AskedId) → collected ids [] (rows_of hs xs) ≡ calls hs xs ids
collected_calls ids hs xs = collected_is ids hs xs [] ∙ added_is (called hs xs ids) [] ∙ all_new (each_once (called hs xs ids))
