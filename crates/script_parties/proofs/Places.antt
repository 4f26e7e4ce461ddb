-- A thing under its party and name, and under its number.
use Rattle.std.proofs.Common.{◌≡◌, ◌==◌, ℕ, ◌<◌, Bool, true, false, cond, List, [], ◌∷◌, length, map, arith, refl, sym, ap, ◌∙◌, subst, Option, Some, None, ◌⊎◌, inl, inr}
use Rattle.std.specs.Prelude.{find, option_map, IsSome}
use Rattle.std.specs.List.{AllByRecursion}
use Rattle.std.proofs.lemmas.Bool.Decides.{Decides-eqb}
use Rattle.board_model.specs.declared.tables.Thing.{Thing}
use Rattle.board_model.specs.Tables.{holds_at}
use Rattle.board_model.specs.Things.{Held, is_held_as, named_anew, thing_of}
use Rattle.script_parties.specs.Named.{AreRising, IsCalled, IsNamed, IsOfNode, held_or_none, named_things, party_at, things_of}
use Rattle.script_parties.specs.Numbered.{IsFirst, IsLeast, thing_at}
use Rattle.script_parties.specs.Parties.{Parties, IsStandingThing}
use Rattle.script_seats.specs.Seats.{IsNowhere}
use Rattle.board_service.specs.Domain.{Domain, held, is_thing, thing_or_none}

-- which of the two it was
pub chosen : {A : Type 0} (b : Bool) (x y z : A) → cond b x y ≡ z → ((b ≡ true) × (x ≡ z)) ⊎ ((b ≡ false) × (y ≡ z))
chosen true x y z e = inl (refl, e)
chosen false x y z e = inr (refl, e)

-- ---- a thing of the core by its number

-- what is found has what all have, and the number
pub found : (P : Thing ℕ ℕ → Type 0) (n : ℕ) (t : Thing ℕ ℕ) (ts : List (Thing ℕ ℕ)) → AllByRecursion P ts → find (is_thing n) ts ≡ Some t → P t × (t.name ≡ n)
found P n t [] h e = absurd cc
found P n t (u ∷ us) h e =
    elim (chosen (u.name == n) (Some u) (find (is_thing n) us) (Some t) e) [
      | inl c ↦ (let s : Some u ≡ Some t = c.1 in let same : u ≡ t = cc in subst (λ (x : Thing ℕ ℕ). P x × (x.name ≡ n)) same (h.0, (Decides-eqb u.name n).0 c.0))
      | inr c ↦ found P n t us h.1 c.1
    ]

-- the core has the thing under its number, with a node that is its party
pub record IsThing {C : Type 0} (nodes : List (List ℕ)) (d : Domain C) (x : Held) (number : ℕ) : Type 0 where
  pub stands : IsSome (find (is_thing number) d.tables.things)
  pub holder : party_at nodes (held d number).holder ≡ x.holder
  pub board : (held d number).board ≡ x.board
  pub kind : (held d number).kind ≡ x.kind
  pub node : IsOfNode (length nodes) (held d number)

-- as one that is found among the core's
of_found : {C : Type 0} (nodes : List (List ℕ)) (at : ℕ → Option Held) (d : Domain C) (x : Held) (n : ℕ) (t : Thing ℕ ℕ) → IsNamed nodes at d → at n ≡ Some x → find (is_thing n) d.tables.things ≡ Some t → IsThing nodes d x n
of_found nodes at d x n t h e f =
    let called = found (IsCalled (party_at nodes) at) n t d.tables.things h.called f in
    let node = found (IsOfNode (length nodes)) n t d.tables.things h.holders f in
    let c = called.0 in
    let same : Some c.named ≡ Some x = sym c.there ∙ ap (λ m. at m) called.1 ∙ e in
    let named : c.named ≡ x = cc in
    let is : t ≡ held d n = sym (ap (λ (o : Option (Thing ℕ ℕ)). thing_or_none o) f) in
    record {
      stands = subst IsSome (sym f) refl;
      holder = subst (λ (u : Thing ℕ ℕ). party_at nodes u.holder ≡ x.holder) is (c.holder ∙ ap (λ (y : Held). y.holder) named);
      board = subst (λ (u : Thing ℕ ℕ). u.board ≡ x.board) is (c.board ∙ ap (λ (y : Held). y.board) named);
      kind = subst (λ (u : Thing ℕ ℕ). u.kind ≡ x.kind) is (c.kind ∙ ap (λ (y : Held). y.kind) named);
      node = subst (λ (u : Thing ℕ ℕ). IsOfNode (length nodes) u) is node.0;
    }

pub thing_at_number : {C : Type 0} (nodes : List (List ℕ)) (at : ℕ → Option Held) (d : Domain C) (x : Held) (n : ℕ) → IsNamed nodes at d → at n ≡ Some x → IsThing nodes d x n
thing_at_number nodes at d x n h e = of (find (is_thing n) d.tables.things) refl
  where
    of : (o : Option (Thing ℕ ℕ)) → find (is_thing n) d.tables.things ≡ o → IsThing nodes d x n
    of None f = absurd (let none : Some x ≡ None = sym e ∙ h.alone n f in cc)
    of (Some t) f = of_found nodes at d x n t h e f

-- ---- the first thing that passes a test

module _ (p : Held → Bool) (f : ℕ → List ℕ) (at : ℕ → Option Held) where
  -- the test of a thing by its name
  pub named_passes : (t : Thing ℕ ℕ) → IsCalled f at t → holds_at (at t.name) p ≡ p (held_or_none (at t.name))
  named_passes t c = ap (λ (o : Option Held). holds_at o p) c.there ∙ sym (ap (λ (o : Option Held). p (held_or_none o)) c.there)

  none_first : (ts : List (Thing ℕ ℕ)) → AllByRecursion (IsCalled f at) ts → IsNowhere p at → find p (named_things at ts) ≡ None
  none_first [] h none = refl
  none_first (t ∷ ts) h none =
      let fails : p (held_or_none (at t.name)) ≡ false = sym (named_passes t h.0) ∙ none t.name in
      rw fails (none_first ts h.1 none)

  -- all behind have greater numbers
  pub above : (n low last : ℕ) (ts : List (Thing ℕ ℕ)) (t : Thing ℕ ℕ) → AreRising low last ts → find (is_thing n) ts ≡ Some t → low < n
  above n low last [] t h e = absurd cc
  above n low last (u ∷ us) t h e =
      let less : low < u.name = h.0 in
      elim (chosen (u.name == n) (Some u) (find (is_thing n) us) (Some t) e) [
        | inl c ↦ (let same : u.name ≡ n = (Decides-eqb u.name n).0 c.0 in omega (arith, less, same))
        | inr c ↦ (let more : u.name < n = above n u.name last us t h.1 c.1 in omega (arith, less, more))
      ]

  some_first : (n low last : ℕ) (ts : List (Thing ℕ ℕ)) (t : Thing ℕ ℕ) → AllByRecursion (IsCalled f at) ts → AreRising low last ts → IsLeast p at n → find (is_thing n) ts ≡ Some t
      → find p (named_things at ts) ≡ at n
  some_first n low last [] t h rising least e = absurd cc
  some_first n low last (u ∷ us) t h rising least e =
      elim (chosen (u.name == n) (Some u) (find (is_thing n) us) (Some t) e) [
        | inl c ↦
            let same : u.name ≡ n = (Decides-eqb u.name n).0 c.0 in
            let holds : p (held_or_none (at u.name)) ≡ true = sym (named_passes u h.0) ∙ ap (λ m. holds_at (at m) p) same ∙ least.passes in
            let there : Some (held_or_none (at u.name)) ≡ at u.name = ap (λ (o : Option Held). Some (held_or_none o)) h.0.there ∙ sym h.0.there in
            rw holds (there ∙ ap (λ m. at m) same)
        | inr c ↦
            let less : u.name < n = above n u.name last us t rising.1 c.1 in
            let fails : p (held_or_none (at u.name)) ≡ false = sym (named_passes u h.0) ∙ least.below u.name less in
            rw fails (some_first n u.name last us t h.1 rising.1 least c.1)
      ]

-- what passes stands among the core's
pub stands_at : {C : Type 0} (p : Held → Bool) (nodes : List (List ℕ)) (at : ℕ → Option Held) (d : Domain C) (n : ℕ) → IsNamed nodes at d → holds_at (at n) p ≡ true → (t : Thing ℕ ℕ) × (find (is_thing n) d.tables.things ≡ Some t)
stands_at p nodes at d n h e = of (find (is_thing n) d.tables.things) refl
  where
    of : (o : Option (Thing ℕ ℕ)) → find (is_thing n) d.tables.things ≡ o → (t : Thing ℕ ℕ) × (find (is_thing n) d.tables.things ≡ Some t)
    of None f = absurd (let none : false ≡ true = sym (ap (λ (o : Option Held). holds_at o p) (h.alone n f)) ∙ e in cc)
    of (Some t) f = (t, f)

-- the first thing that passes is the one under the first number
pub first_thing : {C : Type 0} (p : Held → Bool) (nodes : List (List ℕ)) (at : ℕ → Option Held) (d : Domain C) (o : Option ℕ) → IsNamed nodes at d → IsFirst p at o → find p (things_of at d) ≡ thing_at at o
first_thing p nodes at d None h none = none_first p (party_at nodes) at d.tables.things h.called none
first_thing p nodes at d (Some n) h least =
    let s = stands_at p nodes at d n h least.passes in
    some_first p (party_at nodes) at n 0 d.last_thing d.tables.things s.0 h.called h.rising least s.1

-- a thing that passes has a number
somewhere : (p : Held → Bool) (f : ℕ → List ℕ) (at : ℕ → Option Held) (x : Held) (ts : List (Thing ℕ ℕ)) → AllByRecursion (IsCalled f at) ts → find p (named_things at ts) ≡ Some x → (n : ℕ) × (holds_at (at n) p ≡ true)
somewhere p f at x [] h e = absurd cc
somewhere p f at x (t ∷ ts) h e =
    elim (chosen (p (held_or_none (at t.name))) (Some (held_or_none (at t.name))) (find p (named_things at ts)) (Some x) e) [
      | inl c ↦ (t.name, named_passes p f at t h.0 ∙ c.0)
      | inr c ↦ somewhere p f at x ts h.1 c.1
    ]

-- ---- the thing that a call is given

-- what stands for the parties stands among the things
pub stands_in : (before now : Parties) (x : Held) → before ≡ now → IsStandingThing now x → thing_of before.tables.things x.holder x.name ≡ Some x
stands_in before now x e h = subst (λ p. IsStandingThing p x) (sym e) h

-- where the things were given room
pub has_number : {C : Type 0} (nodes : List (List ℕ)) (at given : ℕ → Option Held) (d : Domain C) (x : Held) → IsNamed nodes at d → given ≡ at → thing_of (things_of at d) x.holder x.name ≡ Some x
    → (n : ℕ) × (holds_at (given n) (is_held_as x.holder x.name) ≡ true)
has_number nodes at given d x h e stands =
    subst (λ (a : ℕ → Option Held). (n : ℕ) × (holds_at (a n) (is_held_as x.holder x.name) ≡ true)) (sym e)
    (somewhere (is_held_as x.holder x.name) (party_at nodes) at x d.tables.things h.called stands)

pub thing_of_call : {C : Type 0} (nodes : List (List ℕ)) (at given : ℕ → Option Held) (d : Domain C) (x : Held) (n : ℕ) → IsNamed nodes at d → given ≡ at → thing_of (things_of at d) x.holder x.name ≡ Some x
    → IsLeast (is_held_as x.holder x.name) given n → IsThing nodes d x n
thing_of_call nodes at given d x n h e stands least =
    let least' = subst (λ (a : ℕ → Option Held). IsLeast (is_held_as x.holder x.name) a n) e least in
    thing_at_number nodes at d x n h (sym (first_thing (is_held_as x.holder x.name) nodes at d (Some n) h least') ∙ stands)

-- nothing was changed but the room that things and nodes have
pub named_still : {C : Type 0} (nodes given_nodes : List (List ℕ)) (at given : ℕ → Option Held) (d after : Domain C) → IsNamed nodes at d → given_nodes ≡ nodes → given ≡ at → after ≡ d
    → IsNamed given_nodes given after
named_still nodes given_nodes at given d after h e f k =
    subst (λ (ns : List (List ℕ)). IsNamed ns given after) (sym e)
    (subst (λ (a : ℕ → Option Held). IsNamed nodes a after) (sym f) (subst (λ x. IsNamed nodes at x) (sym k) h))

-- ---- other names

module _ (party old new : List ℕ) (f : ℕ → List ℕ) (at : ℕ → Option Held) where
  abbrev anew : ℕ → Option Held
  anew n = option_map (named_anew party old new) (at n)

  same_but_name : (b : Bool) (x : Held) → (x.holder ≡ (cond b (record x { name = new }) x).holder) × (x.board ≡ (cond b (record x { name = new }) x).board) × (x.kind ≡ (cond b (record x { name = new }) x).kind)
  same_but_name true x = (refl, refl, refl)
  same_but_name false x = (refl, refl, refl)

  called_anew : (t : Thing ℕ ℕ) → IsCalled f at t → IsCalled f anew t
  called_anew t c =
      let same = same_but_name (is_held_as party old c.named) c.named in
      record {
        named = named_anew party old new c.named;
        there = ap (λ (o : Option Held). option_map (named_anew party old new) o) c.there;
        holder = c.holder ∙ same.0;
        board = c.board ∙ same.1;
        kind = c.kind ∙ same.2;
      }

  all_called_anew : (ts : List (Thing ℕ ℕ)) → AllByRecursion (IsCalled f at) ts → AllByRecursion (IsCalled f anew) ts
  all_called_anew [] h = tt
  all_called_anew (t ∷ ts) h = (called_anew t h.0, all_called_anew ts h.1)

  names_anew : (ts : List (Thing ℕ ℕ)) → AllByRecursion (IsCalled f at) ts → named_things anew ts ≡ map (named_anew party old new) (named_things at ts)
  names_anew [] h = refl
  names_anew (t ∷ ts) h =
      let there = h.0.there in
      let one : held_or_none (anew t.name) ≡ named_anew party old new (held_or_none (at t.name)) =
      ap (λ (o : Option Held). held_or_none (option_map (named_anew party old new) o)) there ∙ sym (ap (λ (o : Option Held). named_anew party old new (held_or_none o)) there) in
      ap (λ (y : Held). y ∷ named_things anew ts) one ∙ ap (λ (ys : List Held). named_anew party old new (held_or_none (at t.name)) ∷ ys) (names_anew ts h.1)

pub named_anew_still : {C : Type 0} (party old new : List ℕ) (nodes : List (List ℕ)) (at : ℕ → Option Held) (d : Domain C) → IsNamed nodes at d → IsNamed nodes (λ n. option_map (named_anew party old new) (at n)) d
named_anew_still party old new nodes at d h = record {
  called = all_called_anew party old new (party_at nodes) at d.tables.things h.called;
  alone = λ n e. ap (λ (o : Option Held). option_map (named_anew party old new) o) (h.alone n e);
  rising = h.rising;
  holders = h.holders;
  parties = h.parties;
  keys = h.keys;
}

pub things_anew : {C : Type 0} (party old new : List ℕ) (nodes : List (List ℕ)) (at : ℕ → Option Held) (d : Domain C) → IsNamed nodes at d
    → things_of (λ n. option_map (named_anew party old new) (at n)) d ≡ map (named_anew party old new) (things_of at d)
things_anew party old new nodes at d h = names_anew party old new (party_at nodes) at d.tables.things h.called
