-- Things that come, go and take other names, and what is found under a name then.
use Rattle.std.proofs.Common.{◌≡◌, ℕ, ◌≤◌, Bool, true, false, cond, List, [], ◌∷◌, ◌++◌, map, refl, sym, ap, subst, ◌∙◌, Option, Some, None}
use Rattle.std.specs.Prelude.{find, ◌&&◌, ◌==◌, is_some}
use Rattle.std.specs.List.{AllByRecursion, count_by}
use Rattle.std.specs.Str.{bytes_eq}
use Rattle.std.proofs.lemmas.Bool.{and_from, and_left, and_parts, and_right, eqb-true, false_from_ne_true}
use Rattle.std.proofs.lemmas.Option.{same_Some}
use Rattle.std.proofs.lemmas.Slice.Eq.{bytes_eq-Decides}
use Rattle.board_model.specs.declared.tables.Kind.{Kind}
use Rattle.board_model.specs.declared.tables.Kind.TheVariants as kind
use Rattle.board_model.specs.Tables.{board_at, entry_at, entry_of, is_write_handle, without_first, writes_entry}
use Rattle.board_model.specs.Things.{Held, is_held_as, named_anew, thing_of}
use Rattle.board_model.specs.Sound.{BoardTables, HasBoard, HasEntry, HasEntryAt}
use Rattle.board_model.proofs.ListLemmas.{count_agree, count_map, find_only, find_true, same_bytes}

-- ---- lists

pub same_to_itself : (a : List ℕ) → bytes_eq a a ≡ true
same_to_itself a = (bytes_eq-Decides a a).1 refl

pub different_bytes : (a b : List ℕ) → (a ≡ b → ⊥) → bytes_eq a b ≡ false
different_bytes a b ne = false_from_ne_true (bytes_eq a b) (λ q. ne (same_bytes a b q))

pub all_found : {X : Type 0} (P : X → Type 0) (p : X → Bool) (xs : List X) (x : X) → AllByRecursion P xs → find p xs ≡ Some x → P x
all_found P p [] x h e = absurd cc
all_found {X = X} P p (z ∷ xs) x h e = at (p z) (all_found P p xs x h.1) e
  where
    at : (b : Bool) → (find p xs ≡ Some x → P x) → cond b (Some z) (find p xs) ≡ Some x → P x
    at true ih q = subst P (same_Some z x q) h.0
    at false ih q = ih q

pub all_push : {X : Type 0} (P : X → Type 0) (xs : List X) (x : X) → AllByRecursion P xs → P x → AllByRecursion P (xs ++ x ∷ [])
all_push P [] x h k = (k, tt)
all_push P (z ∷ xs) x h k = (h.0, all_push P xs x h.1 k)

pub all_weaker : {X : Type 0} (P Q : X → Type 0) → ((x : X) → P x → Q x) → (xs : List X) → AllByRecursion P xs → AllByRecursion Q xs
all_weaker P Q w [] h = tt
all_weaker P Q w (z ∷ xs) h = (w z h.0, all_weaker P Q w xs h.1)

pub all_map : {X : Type 0} (P : X → Type 0) (f : X → X) → ((x : X) → P x → P (f x)) → (xs : List X) → AllByRecursion P xs → AllByRecursion P (map f xs)
all_map P f w [] h = tt
all_map P f w (z ∷ xs) h = (w z h.0, all_map P f w xs h.1)

pub all_without : {X : Type 0} (P : X → Type 0) (q : X → Bool) (xs : List X) → AllByRecursion P xs → AllByRecursion P (without_first q xs)
all_without P q [] h = tt
all_without P q (z ∷ xs) h = at (q z) (all_without P q xs h.1)
  where
    at : (b : Bool) → AllByRecursion P (without_first q xs) → AllByRecursion P (cond b xs (z ∷ without_first q xs))
    at true ih = h.1
    at false ih = (h.0, ih)

pub find_push_other : {X : Type 0} (p : X → Bool) (xs : List X) (y : X) → p y ≡ false → find p (xs ++ y ∷ []) ≡ find p xs
find_push_other p [] y h = ap (λ (b : Bool). cond b (Some y) None) h
find_push_other {X = X} p (z ∷ xs) y h = ap (λ (o : Option X). cond (p z) (Some z) o) (find_push_other p xs y h)

pub find_push_here : {X : Type 0} (p : X → Bool) (xs : List X) (y : X) → find p xs ≡ None → p y ≡ true → find p (xs ++ y ∷ []) ≡ Some y
find_push_here p [] y e h = ap (λ (b : Bool). cond b (Some y) None) h
find_push_here {X = X} p (z ∷ xs) y e h = at (p z) (find_push_here p xs y) e
  where
    at : (b : Bool) → (find p xs ≡ None → p y ≡ true → find p (xs ++ y ∷ []) ≡ Some y) → cond b (Some z) (find p xs) ≡ None → cond b (Some z) (find p (xs ++ y ∷ [])) ≡ Some y
    at true ih q = absurd cc
    at false ih q = ih q h

-- what is taken out is no other
pub find_without_other : {X : Type 0} (p q : X → Bool) → ((x : X) → q x ≡ true → p x ≡ false) → (xs : List X) → find p (without_first q xs) ≡ find p xs
find_without_other p q off [] = refl
find_without_other {X = X} p q off (z ∷ xs) = at (q z) refl (find_without_other p q off xs)
  where
    at : (c : Bool) → q z ≡ c → find p (without_first q xs) ≡ find p xs → find p (cond c xs (z ∷ without_first q xs)) ≡ cond (p z) (Some z) (find p xs)
    at true t ih = sym (ap (λ (b : Bool). cond b (Some z) (find p xs)) (off z t))
    at false t ih = ap (λ (o : Option X). cond (p z) (Some z) o) ih

-- ---- holders and names

pub record IsHeldAs (party name : List ℕ) (x : Held) : Type 0 where
  pub holder : x.holder ≡ party
  pub named : x.name ≡ name

pub held_as : (party name : List ℕ) (x : Held) → is_held_as party name x ≡ true → IsHeldAs party name x
held_as party name x h =
    let a = and_parts (bytes_eq x.holder party) (bytes_eq x.name name) h in
    record { holder = same_bytes x.holder party a.0; named = same_bytes x.name name a.1 }

pub found_as : (things : List Held) (party name : List ℕ) (x : Held) → thing_of things party name ≡ Some x → IsHeldAs party name x
found_as things party name x e = held_as party name x (find_true (is_held_as party name) things x e)

pub held_by_other : (q party name : List ℕ) (x : Held) → x.holder ≡ party → (q ≡ party → ⊥) → is_held_as q name x ≡ false
held_by_other q party name x h ne = and_left (bytes_eq x.holder q) (bytes_eq x.name name) (different_bytes x.holder q (λ e. ne (sym e ∙ h)))

pub held_as_other : (party name other : List ℕ) (x : Held) → x.name ≡ other → (name ≡ other → ⊥) → is_held_as party name x ≡ false
held_as_other party name other x h ne = and_right (bytes_eq x.holder party) (bytes_eq x.name name) (different_bytes x.name name (λ e. ne (sym e ∙ h)))

-- ---- another name

abbrev renamed : List ℕ → Held → Held
renamed new x = record x { name = new }

pub anew_board : (party old new : List ℕ) (x : Held) → (named_anew party old new x).board ≡ x.board
anew_board party old new x = at (is_held_as party old x)
  where
    at : (b : Bool) → (cond b (renamed new x) x).board ≡ x.board
    at true = refl
    at false = refl

pub anew_writes : (party old new : List ℕ) (n i : ℕ) (x : Held) → is_write_handle n i (named_anew party old new x) ≡ is_write_handle n i x
anew_writes party old new n i x = at (is_held_as party old x)
  where
    at : (b : Bool) → is_write_handle n i (cond b (renamed new x) x) ≡ is_write_handle n i x
    at true = refl
    at false = refl

-- another party's things keep their names
anew_for_other : (party old new q name : List ℕ) → (q ≡ party → ⊥) → (x : Held) → is_held_as q name (named_anew party old new x) ≡ is_held_as q name x
anew_for_other party old new q name ne x = at (is_held_as party old x) refl
  where
    at : (b : Bool) → is_held_as party old x ≡ b → is_held_as q name (cond b (renamed new x) x) ≡ is_held_as q name x
    at true t =
        let h = (held_as party old x t).holder in
        held_by_other q party name (renamed new x) h ne ∙ sym (held_by_other q party name x h ne)
    at false t = refl

-- and so do those under other names
anew_elsewhere : (party old new name : List ℕ) → (name ≡ old → ⊥) → (name ≡ new → ⊥) → (x : Held) → is_held_as party name (named_anew party old new x) ≡ is_held_as party name x
anew_elsewhere party old new name off_old off_new x = at (is_held_as party old x) refl
  where
    at : (b : Bool) → is_held_as party old x ≡ b → is_held_as party name (cond b (renamed new x) x) ≡ is_held_as party name x
    at true t =
        let h = (held_as party old x t).named in
        held_as_other party name new (renamed new x) refl off_new ∙ sym (held_as_other party name old x h off_old)
    at false t = refl

-- where a test doesn't see the new names, it finds the same
unseen : (p : Held → Bool) (party old new : List ℕ) → ((x : Held) → p (named_anew party old new x) ≡ p x) → ((x : Held) → p x ≡ true → is_held_as party old x ≡ false) → (xs : List Held) → find p (map (named_anew party old new) xs) ≡ find p xs
unseen p party old new same off [] = refl
unseen p party old new same off (z ∷ xs) = at (p z) refl (unseen p party old new same off xs)
  where
    at : (b : Bool) → p z ≡ b → find p (map (named_anew party old new) xs) ≡ find p xs → cond (p (named_anew party old new z)) (Some (named_anew party old new z)) (find p (map (named_anew party old new) xs)) ≡ cond b (Some z) (find p xs)
    at true t ih =
        let a = ap (λ (b : Bool). cond b (Some (named_anew party old new z)) (find p (map (named_anew party old new) xs))) (same z ∙ t) in
        a ∙ ap (λ (b : Bool). Some (cond b (renamed new z) z)) (off z t)
    at false t ih = ap (λ (b : Bool). cond b (Some (named_anew party old new z)) (find p (map (named_anew party old new) xs))) (same z ∙ t) ∙ ih

pub anew_found_other : (things : List Held) (party old new q name : List ℕ) → (q ≡ party → ⊥) → thing_of (map (named_anew party old new) things) q name ≡ thing_of things q name
anew_found_other things party old new q name ne =
    unseen (is_held_as q name) party old new (anew_for_other party old new q name ne)
    (λ x h. held_by_other party q old x (held_as q name x h).holder (λ e. ne (sym e))) things

pub anew_found_elsewhere : (things : List Held) (party old new name : List ℕ) → (name ≡ old → ⊥) → (name ≡ new → ⊥) → thing_of (map (named_anew party old new) things) party name ≡ thing_of things party name
anew_found_elsewhere things party old new name off_old off_new =
    unseen (is_held_as party name) party old new (anew_elsewhere party old new name off_old off_new)
    (λ x h. held_as_other party old name x (held_as party name x h).named (λ e. off_old (sym e))) things

-- a thing is found under its new name
pub anew_found : (things : List Held) (party old new : List ℕ) (x : Held) → thing_of things party new ≡ None → thing_of things party old ≡ Some x → thing_of (map (named_anew party old new) things) party new ≡ Some (record x { name = new })
anew_found [] party old new x n e = absurd cc
anew_found (z ∷ xs) party old new x n e = at (is_held_as party old z) refl (is_held_as party new z) refl n e (anew_found xs party old new x)
  where
    at : (b : Bool) → is_held_as party old z ≡ b → (c : Bool) → is_held_as party new z ≡ c → cond c (Some z) (find (is_held_as party new) xs) ≡ None → cond b (Some z) (find (is_held_as party old) xs) ≡ Some x
        → (thing_of xs party new ≡ None → thing_of xs party old ≡ Some x → thing_of (map (named_anew party old new) xs) party new ≡ Some (renamed new x))
        → find (is_held_as party new) (cond b (renamed new z) z ∷ map (named_anew party old new) xs) ≡ Some (renamed new x)
    at true t c u' m k ih =
        let h = (held_as party old z t).holder in
        let u : is_held_as party new (renamed new z) ≡ true = and_from (bytes_eq z.holder party) (bytes_eq new new) ((bytes_eq-Decides z.holder party).1 h) (same_to_itself new) in
        ap (λ (b : Bool). cond b (Some (renamed new z)) (find (is_held_as party new) (map (named_anew party old new) xs))) u ∙ ap (λ (y : Held). Some (renamed new y)) (same_Some z x k)
    at false t true u' m k ih = absurd cc
    at false t false u' m k ih = ap (λ (b : Bool). cond b (Some z) (find (is_held_as party new) (map (named_anew party old new) xs))) u' ∙ ih m k

pub anew_count : (things : List Held) (party old new : List ℕ) (n i : ℕ) → count_by (is_write_handle n i) (map (named_anew party old new) things) ≡ count_by (is_write_handle n i) things
anew_count things party old new n i =
    count_map (named_anew party old new) (is_write_handle n i) things
    ∙ count_agree (λ (x : Held). is_write_handle n i (named_anew party old new x)) (is_write_handle n i) (anew_writes party old new n i) things

pub anew_boards : (t : BoardTables) (things : List Held) (party old new : List ℕ) → AllByRecursion (HasBoard t) things → AllByRecursion (HasBoard t) (map (named_anew party old new) things)
anew_boards t things party old new h = all_map (HasBoard t) (named_anew party old new) (λ x k. ap (λ (n : ℕ). is_some (board_at t n)) (anew_board party old new x) ∙ k) things h

-- ---- write handles

pub record IsOfEntry (n i : ℕ) (x : Held) : Type 0 where
  pub board : x.board ≡ n
  pub entry : entry_of x.kind ≡ i

entry_written : (k : Kind) (i : ℕ) → writes_entry i k ≡ true → entry_of k ≡ i
entry_written kind.Factory i h = absurd cc
entry_written (kind.Reader p) i h = absurd cc
entry_written (kind.Writer p) i h = absurd cc
entry_written (kind.ReadHandle e) i h = absurd cc
entry_written (kind.WriteHandle e p) i h = eqb-true e i h

pub of_entry : (n i : ℕ) (x : Held) → is_write_handle n i x ≡ true → IsOfEntry n i x
of_entry n i x h =
    let a = and_parts (x.board == n) (writes_entry i x.kind) h in
    record { board = eqb-true x.board n a.0; entry = entry_written x.kind i a.1 }

-- an entry's write handle is one thing
pub one_handle : (things : List Held) (n i : ℕ) (p q : Held → Bool) (x y : Held) → count_by (is_write_handle n i) things ≤ 1 → find p things ≡ Some x → is_write_handle n i x ≡ true → find q things ≡ Some y → is_write_handle n i y ≡ true → x ≡ y
one_handle things n i p q x y few e h f k = same_Some x y (sym (find_only (is_write_handle n i) p things x few e h) ∙ find_only (is_write_handle n i) q things y few f k)

-- ---- entries of handles

pub has_entry_kept : (t new : BoardTables) (b : ℕ) → ((i : ℕ) → entry_at new b i ≡ entry_at t b i) → (k : Kind) → HasEntryAt t b k → HasEntryAt new b k
has_entry_kept t new b same kind.Factory h = tt
has_entry_kept t new b same (kind.Reader p) h = tt
has_entry_kept t new b same (kind.Writer p) h = tt
has_entry_kept t new b same (kind.ReadHandle i) h = ap is_some (same i) ∙ h
has_entry_kept t new b same (kind.WriteHandle i p) h = ap is_some (same i) ∙ h

pub entries_kept : (t new : BoardTables) → ((n i : ℕ) → entry_at new n i ≡ entry_at t n i) → (things : List Held) → AllByRecursion (HasEntry t) things → AllByRecursion (HasEntry new) things
entries_kept t new same things h = all_weaker (HasEntry t) (HasEntry new) (λ x k. has_entry_kept t new x.board (same x.board) x.kind k) things h

pub anew_entries : (t : BoardTables) (things : List Held) (party old new : List ℕ) → AllByRecursion (HasEntry t) things → AllByRecursion (HasEntry t) (map (named_anew party old new) things)
anew_entries t things party old new h = all_map (HasEntry t) (named_anew party old new) (λ x k. at x (is_held_as party old x) k) things h
  where
    at : (x : Held) (b : Bool) → HasEntry t x → HasEntry t (cond b (renamed new x) x)
    at x true k = k
    at x false k = k

-- the entry of a write handle stands
pub written_entry : (t : BoardTables) (x : Held) (n i : ℕ) → is_write_handle n i x ≡ true → HasEntry t x → is_some (entry_at t n i) ≡ true
written_entry t x n i w h =
    let o = of_entry n i x w in
    subst (λ (m : ℕ). is_some (entry_at t m i) ≡ true) o.board (subst (λ (j : ℕ). is_some (entry_at t x.board j) ≡ true) o.entry (at x.kind (and_parts (x.board == n) (writes_entry i x.kind) w).1 h))
  where
    at : (k : Kind) → writes_entry i k ≡ true → HasEntryAt t x.board k → is_some (entry_at t x.board (entry_of k)) ≡ true
    at kind.Factory q e = absurd cc
    at (kind.Reader p) q e = absurd cc
    at (kind.Writer p) q e = absurd cc
    at (kind.ReadHandle j) q e = absurd cc
    at (kind.WriteHandle j p) q e = e

pub and_none : (b : Bool) → (b && false) ≡ false
and_none true = refl
and_none false = refl
