-- What is kept of parties, and what they do.
use Rattle.std.proofs.Common.{◌≡◌, ℕ, Bool, true, false, List, refl, sym, ap, subst, ◌∙◌, Option, Some, None}
use Rattle.std.specs.Borrow.{Bor}
use Rattle.std.specs.Prelude.{if◌then◌else◌, is_some, option_copied}
use Rattle.std.specs.Str.{bytes_eq}
use Rattle.script_exchanges.specs.DrivenParties.{if_kept, kept_with, let_go}
use Rattle.script_feed.specs.KeptOf.{KeepsIfAny}

-- taken out, and kept again
pub put_back : {C : Type 0} (f g h : List ℕ → Option C) (party : List ℕ) (c : C) → ((p : List ℕ) → g p ≡ kept_with f party None p) → ((p : List ℕ) → h p ≡ kept_with g party (Some c) p) → (p : List ℕ) → h p ≡ kept_with f party (Some c) p
put_back f g h party c taken kept p = kept p ∙ at (bytes_eq p party) refl
  where
    at : (b : Bool) → bytes_eq p party ≡ b → (if b then Some c else g p) ≡ (if b then Some c else f p)
    at true e = refl
    at false e = taken p ∙ ap (λ (b : Bool). if b then None else f p) e

module _ {C A : Type 0} (Keeps : C → A → Type 0) where
  pub none_keeps : (o : Option C) → o ≡ None → KeepsIfAny Keeps o None
  none_keeps None e = tt
  none_keeps (Some c) e = absurd cc

  pub keeps_none : (x : Option A) → x ≡ None → KeepsIfAny Keeps None x
  keeps_none None e = tt
  keeps_none (Some x) e = absurd cc

  -- a party does something exactly where something is kept of it
  pub not_kept : (o : Option C) (x : Option A) → KeepsIfAny Keeps o x → o ≡ None → x ≡ None
  not_kept None None k e = refl
  not_kept None (Some x) k e = absurd k
  not_kept (Some c) x k e = absurd cc

  pub record IsKeptAs (c : C) (o : Option A) : Type 0 where
    pub doing : A
    pub is : o ≡ Some doing
    pub keeps : Keeps c doing

  pub kept_as : (o : Option C) (x : Option A) (c : C) → KeepsIfAny Keeps o x → o ≡ Some c → IsKeptAs c x
  kept_as None x c k e = absurd cc
  kept_as (Some d) None c k e = absurd k
  kept_as (Some d) (Some x) c k e = record { doing = x; is = refl; keeps = let same : d ≡ c = cc in subst (λ (b : C). Keeps b x) same k }

  -- a line is held back exactly where its party does something
  kept_some : (o : Option C) (x : Option A) → KeepsIfAny Keeps o x → is_some o ≡ is_some x
  kept_some None None k = refl
  kept_some None (Some x) k = absurd k
  kept_some (Some c) None k = absurd k
  kept_some (Some c) (Some x) k = refl

  pub kept_alike : (of : List ℕ → Option C) (xs : List ℕ → Option A) → ((p : List ℕ) → KeepsIfAny Keeps (of p) (xs p)) → (o : Option (List ℕ)) → if_kept of o ≡ if_kept xs o
  kept_alike of xs k None = refl
  kept_alike of xs k (Some party) = ap (λ (b : Bool). if b then Some party else None) (kept_some (of party) (xs party) (k party))

  -- of one party and of others
  pub keeps_with : (of : List ℕ → Option C) (xs : List ℕ → Option A) (party : List ℕ) (o : Option C) (x : Option A) (now : List ℕ → Option C) → ((p : List ℕ) → KeepsIfAny Keeps (of p) (xs p)) → KeepsIfAny Keeps o x → ((p : List ℕ) → now p ≡ kept_with of party o p) → (p : List ℕ) → KeepsIfAny Keeps (now p) (kept_with xs party x p)
  keeps_with of xs party o x now k here e p = subst (λ (s : Option C). KeepsIfAny Keeps s (kept_with xs party x p)) (sym (e p)) (at (bytes_eq p party))
    where
      at : (b : Bool) → KeepsIfAny Keeps (if b then o else of p) (if b then x else xs p)
      at true = here
      at false = k p

  pub let_go_keeps : (of : List ℕ → Option C) (xs : List ℕ → Option A) (o : Option (List ℕ)) (refused : Bool) → ((p : List ℕ) → KeepsIfAny Keeps (of p) (xs p)) → (p : List ℕ) → KeepsIfAny Keeps (let_go of o refused p) (let_go xs o refused p)
  let_go_keeps of xs None refused k p = k p
  let_go_keeps of xs (Some party) true k p = k p
  let_go_keeps of xs (Some party) false k p = keeps_with of xs party None None (kept_with of party None) k tt (λ q. refl) p

-- ---- what is looked up

-- something is kept
pub record IsSomeKept {T : Type 0} (kept : Option T) : Type 0 where
  pub found : T
  pub is : kept ≡ Some found

-- what is borrowed is there where what it is copied to is
pub found_kept : {T : Type 0} (kept : Option T) (borrowed : Option (Bor T)) → option_copied borrowed ≡ kept → is_some borrowed ≡ true → IsSomeKept kept
found_kept None None e some = absurd cc
found_kept (Some c) borrowed e some = record { found = c; is = refl }
found_kept None (Some b) e some = absurd cc

pub none_found : {T : Type 0} (kept : Option T) (borrowed : Option (Bor T)) → option_copied borrowed ≡ kept → is_some borrowed ≡ false → kept ≡ None
none_found kept None e none = sym e
none_found kept (Some b) e none = absurd cc
