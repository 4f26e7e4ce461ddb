-- The first of the things that pass a test, and the things after a change of the index.
use Rattle.std.proofs.Common.{◌≡◌, ℕ, ◌<◌, ◌≤◌, Bool, true, false, cond, ◌&&◌, List, [], ◌∷◌, arith, refl, sym, ap, ◌∙◌, subst, Option, Some, None, inl, inr}
use Rattle.std.specs.Prelude.{◌||◌, is_some, nat_eq, nat_lt, option_map}
use Rattle.std.specs.List.{list_any}
use Rattle.std.specs.HashMap.{HashMap, get, keys}
use Rattle.std.proofs.lemmas.Bool.Decides.{Decides-eqb, nat_tests}
use Rattle.std.proofs.lemmas.Map.Made.{is_some-lookup}
use Rattle.board_model.specs.Tables.{holds_at}
use Rattle.board_model.specs.Things.{Held, named_anew}
use Rattle.script_parties.specs.Numbered.{IsFirst, IsLeast, earlier, earliest, is_before}
use Rattle.script_seats.specs.declared.seats.Seats.{Seats}
use Rattle.script_seats.specs.declared.seats.Seats.TheVariants as index
use Rattle.script_seats.specs.declared.seats.Sought.{Sought}
use Rattle.script_seats.specs.declared.seats.Sought.TheVariants as sought
use Rattle.script_seats.specs.Seats.{Finds, IsIndex, IsNowhere, IsOnlyAt, SeatOf, Takes, called, is_at, put}
use Rattle.script_seats.proofs.SeatLemmas.{either}

not_true : (b : Bool) → (b ≡ true → ⊥) → b ≡ false
not_true true h = absurd (h refl)
not_true false h = refl

module _ {X : Type 0} (p : X → Bool) (things : ℕ → Option X) where
  abbrev IsUpTo : Option ℕ → ℕ → Type 0
  IsUpTo None n = ⊥
  IsUpTo (Some first) n = first ≤ n

  abbrev Passes : Option ℕ → Type 0
  Passes None = Unit {0}
  Passes (Some first) = holds_at (things first) p ≡ true

  -- ---- one number more

  still_passes : (a b : Bool) (n : ℕ) (first : Option ℕ) → (a ≡ true → Passes (Some n)) → Passes first → Passes (cond (a && b) (Some n) first)
  still_passes true true n first now h = now refl
  still_passes true false n first now h = h
  still_passes false b n first now h = h

  still_up_to : (a b : Bool) (n m : ℕ) (first : ℕ) → (b ≡ true → n < first) → first ≤ m → IsUpTo (cond (a && b) (Some n) (Some first)) m
  still_up_to true true n m first less h = (let lt : n < first = less refl in omega (arith, lt, h))
  still_up_to true false n m first less h = h
  still_up_to false b n m first less h = h

  less_by : (n m : ℕ) → nat_lt n m ≡ true → n < m
  less_by n m e = grind (arith, nat_tests, e)

  least_by : (n m : ℕ) → nat_lt n m ≡ false → m ≤ n
  least_by n m e = grind (arith, nat_tests, e)

  earlier_up_to : (first : Option ℕ) (n m : ℕ) → IsUpTo first m → IsUpTo (earlier p things first n) m
  earlier_up_to None n m h = absurd h
  earlier_up_to (Some first) n m h = still_up_to (holds_at (things n) p) (nat_lt n first) n m first (less_by n first) h

  reached : (a b : Bool) (n first : ℕ) → a ≡ true → (b ≡ false → first ≤ n) → IsUpTo (cond (a && b) (Some n) (Some first)) n
  reached true true n first e least = omega arith
  reached true false n first e least = least refl
  reached false b n first e least = absurd (let f : false ≡ true = e in cc)

  reached_first : (a : Bool) (n : ℕ) → a ≡ true → IsUpTo (cond (a && true) (Some n) None) n
  reached_first true n e = omega arith
  reached_first false n e = absurd (let f : false ≡ true = e in cc)

  earlier_reaches : (first : Option ℕ) (n : ℕ) → holds_at (things n) p ≡ true → IsUpTo (earlier p things first n) n
  earlier_reaches None n e = reached_first (holds_at (things n) p) n e
  earlier_reaches (Some first) n e = reached (holds_at (things n) p) (nat_lt n first) n first e (least_by n first)

  -- ---- all numbers

  passes : (first : Option ℕ) (ns : List ℕ) → Passes first → Passes (earliest p things first ns)
  passes first [] h = h
  passes first (n ∷ ns) h = passes (earlier p things first n) ns (still_passes (holds_at (things n) p) (is_before n first) n first (λ e. e) h)

  up_to : (first : Option ℕ) (ns : List ℕ) (m : ℕ) → IsUpTo first m → IsUpTo (earliest p things first ns) m
  up_to first [] m h = h
  up_to first (n ∷ ns) m h = up_to (earlier p things first n) ns m (earlier_up_to first n m h)

  reaches : (first : Option ℕ) (ns : List ℕ) (n : ℕ) → holds_at (things n) p ≡ true → list_any (nat_eq n) ns ≡ true → IsUpTo (earliest p things first ns) n
  reaches first [] n e h = absurd (let f : false ≡ true = h in cc)
  reaches first (k ∷ ks) n e h = at (nat_eq n k) refl (reaches (earlier p things first k) ks n e) h
    where
      at : (b : Bool) → nat_eq n k ≡ b → (list_any (nat_eq n) ks ≡ true → IsUpTo (earliest p things (earlier p things first k) ks) n)
          → (b || list_any (nat_eq n) ks) ≡ true → IsUpTo (earliest p things (earlier p things first k) ks) n
      at true q later r = up_to (earlier p things first k) ks n (subst (λ j. IsUpTo (earlier p things first j) n) ((Decides-eqb n k).0 q) (earlier_reaches first n e))
      at false q later r = later r

  pub first_of_all : (ns : List ℕ) → ((n : ℕ) → holds_at (things n) p ≡ true → list_any (nat_eq n) ns ≡ true) → IsFirst p things (earliest p things None ns)
  first_of_all ns all = of (earliest p things None ns) (passes None ns tt) (λ n e. reaches None ns n e (all n e))
    where
      of : (o : Option ℕ) → Passes o → ((n : ℕ) → holds_at (things n) p ≡ true → IsUpTo o n) → IsFirst p things o
      of None h r = λ n. not_true (holds_at (things n) p) (r n)
      of (Some first) h r = record { passes = h; below = λ n less. not_true (holds_at (things n) p) (λ e. let up : first ≤ n = r n e in omega (arith, up, less)) }

  -- ---- by an index

  apart : (n m : ℕ) → m < n → nat_eq n m ≡ false
  apart n m less = grind (arith, nat_tests, less)

  pub only_first : (n : ℕ) → IsOnlyAt p things n → IsLeast p things n
  only_first n h = record { passes = h.passes; below = λ m less. h.others m (apart n m less) }

  -- the only one is the first one
  one : (n m : ℕ) → IsOnlyAt p things n → IsLeast p things m → n ≡ m
  one n m h f =
      elim (either (nat_eq n m)) [
        | inl e ↦ (Decides-eqb n m).0 e
        | inr e ↦ absurd (let both : true ≡ false = sym f.passes ∙ h.others m e in cc)
      ]

-- a thing stands under the number of one that passes
pub there : {X : Type 0} (p : X → Bool) (o : Option X) → holds_at o p ≡ true → (x : X) × (o ≡ Some x) × (p x ≡ true)
there p None e = absurd (let f : false ≡ true = e in cc)
there p (Some x) e = (x, refl, e)

pub some_there : {X : Type 0} (p : X → Bool) (o : Option X) → holds_at o p ≡ true → is_some o ≡ true
some_there p None e = e
some_there p (Some x) e = refl

-- the numbers of a map are all
pub all_keys : {X S : Type 0} (p : X → Bool) (m : HashMap ℕ X S) (n : ℕ) → holds_at (get nat_eq m n) p ≡ true → list_any (nat_eq n) (keys m) ≡ true
all_keys p m n e = sym (is_some-lookup (nat_eq n) m.entries) ∙ some_there p (get nat_eq m n) e

-- ---- things that go, and things by other names

-- what an index finds is what the first one takes out of it
pub finds : (p : Held → Bool) (things : ℕ → Option Held) (new : Seats) (s : Sought) → Takes p things new s → Finds p things s
finds p things new sought.Nothing h = h.0
finds p things new (sought.Only n) h = h.0
finds p things new sought.Unknown h = tt

unknown : (new : Seats) (things : ℕ → Option Held) → new ≡ index.Unknown → IsIndex new things
unknown new things e = subst (λ (s : Seats). IsIndex s things) (sym e) tt

pub index_less : (p : Held → Bool) (things : ℕ → Option Held) (new : Seats) (s : Sought) (n : ℕ) → Takes p things new s → IsLeast p things n → IsIndex new (put n None things)
index_less p things new sought.Nothing n h f = absurd (let both : true ≡ false = sym f.passes ∙ h.0 n in cc)
index_less p things new (sought.Only m) n h f = subst (λ k. IsIndex new (put k None things)) (one p things m n h.0 f) h.1
index_less p things new sought.Unknown n h f = unknown new (put n None things) h

pub index_same : (p : Held → Bool) (things : ℕ → Option Held) (new : Seats) (s : Sought) → Takes p things new s → IsNowhere p things → IsIndex new things
index_same p things new sought.Nothing h none = h.1
index_same p things new (sought.Only m) h none = absurd (let both : true ≡ false = sym h.0.passes ∙ none m in cc)
index_same p things new sought.Unknown h none = unknown new things h

module _ (party old new : List ℕ) where
  abbrev from : SeatOf
  from = record { party = party; name = old }

  kept : (o : Option Held) → holds_at o (is_at from) ≡ false → option_map (named_anew party old new) o ≡ o
  kept None e = refl
  kept (Some t) e = (let f : is_at from t ≡ false = e in rw f refl)

  pub none_anew : (things : ℕ → Option Held) → IsNowhere (is_at from) things → (n : ℕ) → things n ≡ option_map (named_anew party old new) (things n)
  none_anew things none n = sym (kept (things n) (none n))

  pub one_anew : (things : ℕ → Option Held) (k : ℕ) (t : Held) → IsOnlyAt (is_at from) things k → things k ≡ Some t → (n : ℕ)
      → put k (Some (called new t)) things n ≡ option_map (named_anew party old new) (things n)
  one_anew things k t only at n = of (nat_eq k n) refl
    where
      its : is_at from t ≡ true
      its = ap (λ (o : Option Held). holds_at o (is_at from)) (sym at) ∙ only.passes

      here : option_map (named_anew party old new) (things k) ≡ Some (called new t)
      here = ap (λ (o : Option Held). option_map (named_anew party old new) o) at ∙ rw its refl

      of : (b : Bool) → nat_eq k n ≡ b → cond b (Some (called new t)) (things n) ≡ option_map (named_anew party old new) (things n)
      of true e = sym here ∙ ap (λ m. option_map (named_anew party old new) (things m)) ((Decides-eqb k n).0 e)
      of false e = sym (kept (things n) (only.others n e))
