-- What stands beside the boards, in a list of the same numbers.
use Rattle.std.proofs.Common.{◌≡◌, ◌≢◌, ℕ, zero, suc, ◌+◌, ◌≤◌, ◌<◌, Bool, true, false, cond, ◌==◌, List, ◌∷◌, [], Option, Some, None, refl, sym, ap, subst, ◌∙◌, arith}
use Rattle.std.specs.Prelude.{find, is_some, remove, slice_get, slice_set, IsSome}
use Rattle.std.specs.List.{position_from}
use Rattle.board_index.specs.Boards.{at, but_at, set_at}
use Rattle.board_numbered.specs.Standing.{standing, standing_from}
use Rattle.board_numbered.proofs.Standing.{Picks, is_other, is_same, passes, passes_not, same_from}

abbrev the_none : (X : Type 0) → Option X
the_none X = None

-- what isn't found has no place
pub nowhere : {X : Type 0} (p : X → Bool) (i : ℕ) (xs : List X) → find p xs ≡ None → position_from p i xs ≡ None
nowhere p i [] h = refl
nowhere {X = X} p i (x ∷ xs) h = by (p x) (nowhere p (i + 1) xs) h
  where
    by : (b : Bool) → (find p xs ≡ None → position_from p (i + 1) xs ≡ None) → cond b (Some x) (find p xs) ≡ None → cond b (Some i) (position_from p (i + 1) xs) ≡ None
    by true rest e = absurd cc
    by false rest e = rest e

-- what stands under k is in the list at this place
record IsPlace {C : Type 0} (k : ℕ) (under : ℕ → Option C) (first n place : ℕ) : Type 0 where
  pub there : slice_get (standing_from under first n) place ≡ under k
  pub gone : (new : ℕ → Option C) → new k ≡ None → ((m : ℕ) → m ≢ k → new m ≡ under m) → remove (standing_from under first n) place ≡ standing_from new first n
  pub put : (new : ℕ → Option C) (c : C) → new k ≡ Some c → ((m : ℕ) → m ≢ k → new m ≡ under m) → slice_set (standing_from under first n) place c ≡ standing_from new first n

-- two lists, whose elements stand under the same numbers
module _ {X C : Type 0} (p : X → Bool) (k : ℕ) (under : ℕ → Option X) (cells : ℕ → Option C) (beside : (n : ℕ) → is_some (cells n) ≡ is_some (under n)) (picks : Picks p k under) where
  -- the place of what stands under k, which is the same in both
  abbrev Placed : ℕ → ℕ → Type 0
  Placed first n = (place : ℕ) × ((i : ℕ) → position_from p i (standing_from under first n) ≡ Some (place + i)) × IsPlace k cells first n place

  here : (first n : ℕ) (x : X) (c : C) → under first ≡ Some x → cells first ≡ Some c → first ≡ k → Placed first (suc n)
  here first n x c e f s = (
    0,
    (λ i. rw (e, passes p k under picks first x e s) (ap Some (let q : ◌≡◌ {A = ℕ} i (0 + i) = omega arith in q))),
    record {
      there = rw f (sym f ∙ ap cells s);
      gone = λ new none others. rw (f, subst (λ (m : ℕ). new m ≡ None) (sym s) none) (sym (same_from cells new (suc first) n (λ m low below. others m (λ q. absurd (omega (arith, s, low, q))))));
      put = λ new d there others. rw (f, subst (λ (m : ℕ). new m ≡ Some d) (sym s) there) (ap (λ (l : List C). d ∷ l) (sym (same_from cells new (suc first) n (λ m low below. others m (λ q. absurd (omega (arith, s, low, q)))))));
    },
  )

  further : (first n : ℕ) (x : X) (c : C) → under first ≡ Some x → cells first ≡ Some c → first ≢ k → Placed (suc first) n → Placed first (suc n)
  further first n x c e f d rest = (
    suc rest.0,
    (λ i. rw (e, passes_not p k under picks first x e d) (rest.1 (i + 1) ∙ ap Some (let q : ◌≡◌ {A = ℕ} (rest.0 + (i + 1)) (suc rest.0 + i) = omega arith in q))),
    record {
      there = rw f rest.2.there;
      gone = λ new none others. rw (f, others first d ∙ f) (ap (λ (l : List C). c ∷ l) (rest.2.gone new none others));
      put = λ new y there others. rw (f, others first d ∙ f) (ap (λ (l : List C). c ∷ l) (rest.2.put new y there others));
    },
  )

  past : (first n : ℕ) → under first ≡ None → cells first ≡ None → first ≢ k → Placed (suc first) n → Placed first (suc n)
  past first n e f d rest = (
    rest.0,
    (λ i. rw e (rest.1 i)),
    record {
      there = rw f rest.2.there;
      gone = λ new none others. rw (f, others first d ∙ f) (rest.2.gone new none others);
      put = λ new y there others. rw (f, others first d ∙ f) (rest.2.put new y there others);
    },
  )

  placed_from : (first n : ℕ) → first ≤ k → k < first + n → IsSome (under k) → Placed first n
  placed_from first zero low below some = absurd (omega (arith, low, below))
  placed_from first (suc n) low below some =
      by (under first) refl (cells first) refl (first == k) refl (λ other. placed_from (suc first) n (omega (arith, low, other)) (omega (arith, below)) some)
    where
      by : (o : Option X) → under first ≡ o → (c : Option C) → cells first ≡ c → (b : Bool) → (first == k) ≡ b → (first ≢ k → Placed (suc first) n) → Placed first (suc n)
      by None e None f true h rest = absurd (let none : IsSome (the_none X) = subst IsSome (sym (ap under (is_same first k h)) ∙ e) some in cc)
      by None e None f false h rest = past first n e f (is_other first k h) (rest (is_other first k h))
      by (Some x) e (Some c) f true h rest = here first n x c e f (is_same first k h)
      by (Some x) e (Some c) f false h rest = further first n x c e f (is_other first k h) (rest (is_other first k h))
      by None e (Some c) f b h rest = absurd (let no : true ≡ false = sym (ap is_some f) ∙ beside first ∙ ap is_some e in cc)
      by (Some x) e None f b h rest = absurd (let no : false ≡ true = sym (ap is_some f) ∙ beside first ∙ ap is_some e in cc)

  module _ (last : ℕ) (above : 0 < k) (drawn : k ≤ last) (some : IsSome (under k)) where
    placed : Placed 1 last
    placed = placed_from 1 last (omega (arith, above)) (omega (arith, drawn)) some

    position : position_from p 0 (standing under last) ≡ Some placed.0
    position = placed.1 0 ∙ ap Some (let q : ◌≡◌ {A = ℕ} (placed.0 + 0) placed.0 = omega arith in q)

    -- what stands beside it
    pub beside_at : at (standing cells last) (position_from p 0 (standing under last)) ≡ cells k
    beside_at = ap (λ (o : Option ℕ). at (standing cells last) o) position ∙ placed.2.there

    -- without what stands beside it
    pub beside_gone : (new : ℕ → Option C) → new k ≡ None → ((m : ℕ) → m ≢ k → new m ≡ cells m) → but_at (standing cells last) (position_from p 0 (standing under last)) ≡ standing new last
    beside_gone new none others = ap (λ (o : Option ℕ). but_at (standing cells last) o) position ∙ placed.2.gone new none others

    -- with another one beside it
    pub beside_put : (new : ℕ → Option C) (c : C) → new k ≡ Some c → ((m : ℕ) → m ≢ k → new m ≡ cells m) → set_at (standing cells last) (position_from p 0 (standing under last)) c ≡ standing new last
    beside_put new c there others = ap (λ (o : Option ℕ). set_at (standing cells last) o c) position ∙ placed.2.put new c there others
