-- Entries are read one after another.
use Rattle.std.proofs.Common.{◌≡◌, ℕ, Bool, true, false, List, [], ◌∷◌, ◌++◌, Option, Some, None, refl, sym, ap, subst, ◌∙◌, append_assoc}
use Rattle.std.specs.Prelude.{◌&&◌}
use Rattle.std.specs.List.{list_all}
use Rattle.std.specs.Option.{option_map}
use Rattle.std.proofs.lemmas.List.{append-nil}
use Rattle.board_model.specs.declared.value.AddedEntry.{AddedEntry}
use Rattle.board_model.specs.declared.value.KeyType.{KeyType}
use Rattle.board_model.specs.LawfulSession.{has_key_type}
use Rattle.board_model.specs.TypeTable.{same_key_type, type_of_key}
use Rattle.script_grammar.specs.LineReading.{read_entry, read_entries}
use Rattle.script_grammar.specs.TokenReading.{◌>>=◌}

-- the entries that were read, and then those that are still read
abbrev pub with_front : List AddedEntry → Option (List AddedEntry) → Option (List AddedEntry)
with_front front o = o >>= λ es. Some (front ++ es)

regroup : (front : List AddedEntry) (e : AddedEntry) (o : Option (List AddedEntry)) → with_front front (o >>= λ es. Some (e ∷ es)) ≡ with_front (front ++ e ∷ []) o
regroup front e None = refl
regroup front e (Some es) = ap (λ (x : List AddedEntry). Some x) (sym (append_assoc front (e ∷ []) es))

-- what was read and what is left are all
pub record IsRead (front : List AddedEntry) (left all : List (List ℕ)) : Type 0 where
  pub so_far : with_front front (read_entries left) ≡ read_entries all

no_front : (o : Option (List AddedEntry)) → with_front [] o ≡ o
no_front None = refl
no_front (Some es) = refl

pub starts : (all : List (List ℕ)) → IsRead [] all all
starts all = record { so_far = no_front (read_entries all) }

pub goes_on : (front : List AddedEntry) (e : AddedEntry) (w k v : List ℕ) (left left1 left2 left3 all : List (List ℕ)) → left ≡ w ∷ left1 → left1 ≡ k ∷ left2 → left2 ≡ v ∷ left3 → Some e ≡ read_entry w k v → IsRead front left all → IsRead (front ++ e ∷ []) left3 all
unfolding read_entries
goes_on front e w k v left left1 left2 left3 all e0 e1 e2 h r =
    let s : with_front front (read_entries (w ∷ k ∷ v ∷ left3)) ≡ read_entries all = rw (e0, e1, e2) at r.so_far in
    let m : read_entries (w ∷ k ∷ v ∷ left3) ≡ (read_entries left3 >>= λ es. Some (e ∷ es)) = rw (← h) refl in
    record { so_far = sym (regroup front e (read_entries left3)) ∙ sym (ap (with_front front) m) ∙ s }

pub stops_one : (front : List AddedEntry) (w : List ℕ) (left left1 all : List (List ℕ)) → left ≡ w ∷ left1 → left1 ≡ [] → IsRead front left all → None ≡ read_entries all
unfolding read_entries
stops_one front w left left1 all e0 e1 r = let s = rw (e0, e1) at r.so_far in s

pub stops_two : (front : List AddedEntry) (w k : List ℕ) (left left1 left2 all : List (List ℕ)) → left ≡ w ∷ left1 → left1 ≡ k ∷ left2 → left2 ≡ [] → IsRead front left all → None ≡ read_entries all
unfolding read_entries
stops_two front w k left left1 left2 all e0 e1 e2 r = let s = rw (e0, e1, e2) at r.so_far in s

pub stops : (front : List AddedEntry) (w k v : List ℕ) (left left1 left2 left3 all : List (List ℕ)) → left ≡ w ∷ left1 → left1 ≡ k ∷ left2 → left2 ≡ v ∷ left3 → None ≡ read_entry w k v → IsRead front left all → None ≡ read_entries all
unfolding read_entries
stops front w k v left left1 left2 left3 all e0 e1 e2 h r =
    let s : with_front front (read_entries (w ∷ k ∷ v ∷ left3)) ≡ read_entries all = rw (e0, e1, e2) at r.so_far in
    let m : read_entries (w ∷ k ∷ v ∷ left3) ≡ None = rw (← h) refl in
    sym (ap (with_front front) m) ∙ s

pub is_done : (front : List AddedEntry) (left all : List (List ℕ)) → left ≡ [] → IsRead front left all → Some front ≡ read_entries all
unfolding read_entries
is_done front left all e r =
    let s : with_front front (read_entries []) ≡ read_entries all = rw e at r.so_far in
    ap (λ (x : List AddedEntry). Some x) (sym (append-nil front)) ∙ s

-- ---- entries of which only the keys are looked at

-- whether the keys of entries are of this type, where these are entries
abbrev typed : KeyType → Option (List AddedEntry) → Option Bool
typed k o = option_map (λ es. list_all (has_key_type k) es) o

-- the same, where some were looked at
abbrev typed_behind : Bool → Option Bool → Option Bool
typed_behind so_far o = option_map (λ b. so_far && b) o

-- what was looked at and what is left are all
pub record AreTyped (k : KeyType) (so_far : Bool) (left all : List (List ℕ)) : Type 0 where
  pub is : typed_behind so_far (typed k (read_entries left)) ≡ typed k (read_entries all)

none_before : (o : Option Bool) → typed_behind true o ≡ o
none_before None = refl
none_before (Some b) = refl

pub types_start : (k : KeyType) (all : List (List ℕ)) → AreTyped k true all all
types_start k all = record { is = none_before (typed k (read_entries all)) }

one_more : (k : KeyType) (so_far : Bool) (e : AddedEntry) (o : Option (List AddedEntry)) → typed_behind (so_far && has_key_type k e) (typed k o) ≡ typed_behind so_far (typed k (o >>= λ es. Some (e ∷ es)))
one_more k so_far e None = refl
one_more k so_far e (Some es) = ap (λ (b : Bool). Some b) (and-assoc so_far (has_key_type k e) (list_all (has_key_type k) es))
  where
    and-assoc : (a b c : Bool) → ((a && b) && c) ≡ (a && (b && c))
    and-assoc true b c = refl
    and-assoc false b c = refl

pub types_go_on : (k : KeyType) (so_far : Bool) (e : AddedEntry) (w key v : List ℕ) (left left1 left2 left3 all : List (List ℕ)) → left ≡ w ∷ left1 → left1 ≡ key ∷ left2 → left2 ≡ v ∷ left3 → Some e ≡ read_entry w key v → AreTyped k so_far left all → AreTyped k (so_far && has_key_type k e) left3 all
unfolding read_entries
types_go_on k so_far e w key v left left1 left2 left3 all e0 e1 e2 h r =
    let s : typed_behind so_far (typed k (read_entries (w ∷ key ∷ v ∷ left3))) ≡ typed k (read_entries all) = rw (e0, e1, e2) at r.is in
    let m : read_entries (w ∷ key ∷ v ∷ left3) ≡ (read_entries left3 >>= λ es. Some (e ∷ es)) = rw (← h) refl in
    record { is = one_more k so_far e (read_entries left3) ∙ sym (ap (λ (o : Option (List AddedEntry)). typed_behind so_far (typed k o)) m) ∙ s }

pub types_one : (k : KeyType) (so_far : Bool) (w : List ℕ) (left left1 all : List (List ℕ)) → left ≡ w ∷ left1 → left1 ≡ [] → AreTyped k so_far left all → None ≡ typed k (read_entries all)
unfolding read_entries
types_one k so_far w left left1 all e0 e1 r = let s = rw (e0, e1) at r.is in s

pub types_two : (k : KeyType) (so_far : Bool) (w key : List ℕ) (left left1 left2 all : List (List ℕ)) → left ≡ w ∷ left1 → left1 ≡ key ∷ left2 → left2 ≡ [] → AreTyped k so_far left all → None ≡ typed k (read_entries all)
unfolding read_entries
types_two k so_far w key left left1 left2 all e0 e1 e2 r = let s = rw (e0, e1, e2) at r.is in s

pub types_stop : (k : KeyType) (so_far : Bool) (w key v : List ℕ) (left left1 left2 left3 all : List (List ℕ)) → left ≡ w ∷ left1 → left1 ≡ key ∷ left2 → left2 ≡ v ∷ left3 → None ≡ read_entry w key v → AreTyped k so_far left all → None ≡ typed k (read_entries all)
unfolding read_entries
types_stop k so_far w key v left left1 left2 left3 all e0 e1 e2 h r =
    let s : typed_behind so_far (typed k (read_entries (w ∷ key ∷ v ∷ left3))) ≡ typed k (read_entries all) = rw (e0, e1, e2) at r.is in
    let m : read_entries (w ∷ key ∷ v ∷ left3) ≡ None = rw (← h) refl in
    sym (ap (λ (o : Option (List AddedEntry)). typed_behind so_far (typed k o)) m) ∙ s

pub types_end : (k : KeyType) (so_far : Bool) (left all : List (List ℕ)) → left ≡ [] → AreTyped k so_far left all → Some so_far ≡ typed k (read_entries all)
unfolding read_entries
types_end k so_far left all e r =
    let s : typed_behind so_far (Some true) ≡ typed k (read_entries all) = rw e at r.is in
    ap (λ (b : Bool). Some b) (sym (and-true so_far)) ∙ s
  where
    and-true : (b : Bool) → (b && true) ≡ b
    and-true true = refl
    and-true false = refl

-- what is known after the key of an entry was looked at
pub types_and : (k t : KeyType) (so_far looked : Bool) (e : AddedEntry) (left all : List (List ℕ)) → so_far ≡ true → t ≡ type_of_key e.key → looked ≡ same_key_type t k → AreTyped k (so_far && has_key_type k e) left all → AreTyped k looked left all
types_and k t so_far looked e left all held type is h =
    let same : (so_far && has_key_type k e) ≡ looked = rw held (sym (is ∙ ap (λ (x : KeyType). same_key_type x k) type)) in
    subst (λ (b : Bool). AreTyped k b left all) same h

-- and where it need not be
pub types_not : (k : KeyType) (so_far : Bool) (e : AddedEntry) (left all : List (List ℕ)) → so_far ≡ false → AreTyped k (so_far && has_key_type k e) left all → AreTyped k so_far left all
types_not k so_far e left all failed h =
    let same : (so_far && has_key_type k e) ≡ so_far = rw failed refl in
    subst (λ (b : Bool). AreTyped k b left all) same h
