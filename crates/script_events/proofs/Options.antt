-- Cases of truth values and options, and texts either way round.
use Rattle.std.proofs.Common.{◌≡◌, ℕ, Bool, true, false, cond, List, refl, sym, ◌∙◌, Option, Some, None, ◌⊎◌, inl, inr}
use Rattle.std.specs.Prelude.{is_some, option_map, Result, Ok, Err, OnErr}
use Rattle.std.specs.Str.{bytes_eq}
use Rattle.board_model.proofs.ListLemmas.{same_bytes}
use Rattle.board_model.proofs.ThingLemmas.{same_to_itself}

pub either : (b : Bool) → (b ≡ true) ⊎ (b ≡ false)
either true = inl refl
either false = inr refl

-- texts compare either way round
pub turned : (a b : List ℕ) → bytes_eq a b ≡ bytes_eq b a
turned a b = elim (either (bytes_eq a b)) [
  | inl f ↦ (let e : bytes_eq b a ≡ true = rw (same_bytes a b f) (same_to_itself b) in f ∙ sym e)
  | inr f ↦ elim (either (bytes_eq b a)) [
    | inl g ↦ absurd (let e : bytes_eq a b ≡ true = rw (same_bytes b a g) (same_to_itself a) in cc)
    | inr g ↦ f ∙ sym g
  ]
]

pub is_some-map : {X Y : Type 0} (f : X → Y) (o : Option X) → is_some (option_map f o) ≡ is_some o
is_some-map f None = refl
is_some-map f (Some x) = refl

-- what was put twice at one place stands there as it was put last
pub replaced : {X : Type 0} (b : Bool) (first second old mid : X) → mid ≡ cond b first old → cond b second mid ≡ cond b second old
replaced true first second old mid e = refl
replaced false first second old mid e = e

-- and so of what is known of an error
pub on_err : {T E : Type 0} (r : Result T E) (P Q : Type 0) → (P → Q) → OnErr r P → OnErr r Q
on_err (Ok a) P Q f h = h
on_err (Err e) P Q f h = f h

-- of two things that are known
pub on_errs : {T E : Type 0} (r : Result T E) (P Q R : Type 0) → (P → Q → R) → OnErr r P → OnErr r Q → OnErr r R
on_errs (Ok a) P Q R f h k = h
on_errs (Err e) P Q R f h k = f h k

-- what holds anyway
pub anyway : {T E : Type 0} (r : Result T E) (X : Type 0) → X → OnErr r X
anyway (Ok a) X x = tt
anyway (Err e) X x = x
