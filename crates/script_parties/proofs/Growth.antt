-- One thing more.
use Rattle.std.proofs.Common.{◌≡◌, ◌==◌, ℕ, ◌+◌, ◌-◌, ◌<◌, ◌≤◌, zero, suc, false, List, [], ◌∷◌, ◌++◌, length, length-append, map, arith, refl, sym, ap, ◌∙◌, subst, Option, Some, None, inl, inr}
use Rattle.std.specs.Prelude.{find, nat_eq, slice_index_or}
use Rattle.std.specs.List.{AllByRecursion, position_from}
use Rattle.std.specs.Str.{bytes_eq}
use Rattle.std.proofs.lemmas.Bool.Decides.{nat_tests}
use Rattle.std.proofs.lemmas.List.{map-append}
use Rattle.std.proofs.lemmas.Slice.Eq.{bytes_eq-Decides}
use Rattle.board_model.specs.declared.tables.Thing.{Thing}
use Rattle.board_model.specs.Tables.{rename}
use Rattle.board_model.specs.Things.{Held}
use Rattle.script_parties.proofs.Rising.{pushed}
use Rattle.script_parties.specs.Named.{AreParties, AreRising, HasShortKeys, IsCalled, IsNamed, IsOfNode, held_or_none, named_things, nameless, node_number, node_or_next, node_place, nodes_or_more, nodes_with, own, party_at, things_of}
use Rattle.script_parties.proofs.Counts.{AreSame, turned}
use Rattle.script_parties.proofs.Places.{chosen}
use Rattle.script_seats.specs.Seats.{put}
use Rattle.script_seats.proofs.SeatLemmas.{put_here, put_other}
use Rattle.board_service.specs.Domain.{Domain, is_thing}

-- ---- lists

-- what all have and one more has, all have then
pub all_more : {X : Type 0} (P : X → Type 0) (x : X) (xs : List X) → AllByRecursion P xs → P x → AllByRecursion P (xs ++ x ∷ [])
all_more P x [] h k = (k, tt)
all_more P x (y ∷ ys) h k = (h.0, all_more P x ys h.1 k)

pub all_from : {X : Type 0} (P Q : X → Type 0) → ((x : X) → P x → Q x) → (xs : List X) → AllByRecursion P xs → AllByRecursion Q xs
all_from P Q f [] h = tt
all_from P Q f (x ∷ xs) h = (f x h.0, all_from P Q f xs h.1)

-- ---- things by their names

same_thing : (f : ℕ → List ℕ) (t : Thing ℕ ℕ) (x : Held) → f t.holder ≡ x.holder → t.board ≡ x.board → t.kind ≡ x.kind → rename f nameless t ≡ rename own nameless x
same_thing f t x h b k = cc

pub all_same : (f : ℕ → List ℕ) (at : ℕ → Option Held) (ts : List (Thing ℕ ℕ)) → AllByRecursion (IsCalled f at) ts → AreSame f ts (named_things at ts)
all_same f at [] h = refl
all_same f at (t ∷ ts) h =
    let one : rename f nameless t ≡ rename own nameless (held_or_none (at t.name)) =
    same_thing f t h.0.named h.0.holder h.0.board h.0.kind ∙ ap (λ (o : Option Held). rename own nameless (held_or_none o)) (sym h.0.there) in
    ap (λ (y : Held). y ∷ map (rename f nameless) ts) one ∙ ap (λ (ys : List Held). rename own nameless (held_or_none (at t.name)) ∷ ys) (all_same f at ts h.1)

-- but for their names the things are the core's
pub same_things : {C : Type 0} (nodes : List (List ℕ)) (at : ℕ → Option Held) (d : Domain C) → IsNamed nodes at d → AreSame (party_at nodes) d.tables.things (things_of at d)
same_things nodes at d h = all_same (party_at nodes) at d.tables.things h.called

-- ---- a thing more

-- no number is above the last
pub up_to_last : (low last : ℕ) (ts : List (Thing ℕ ℕ)) → AreRising low last ts → AllByRecursion (λ (t : Thing ℕ ℕ). t.name ≤ last) ts × (low ≤ last)
up_to_last low last [] h = (tt, h)
up_to_last low last (t ∷ ts) h =
    let rest = up_to_last t.name last ts h.1 in
    let less : low < t.name = h.0 in
    ((rest.1, rest.0), omega (arith, less, rest.1))

-- the core has one thing more, and so have the parties, under this number
pub record IsMore {C : Type 0} (nodes : List (List ℕ)) (d after : Domain C) (n : ℕ) (x : Held) : Type 0 where
  pub thing : Thing ℕ ℕ
  pub things : after.tables.things ≡ d.tables.things ++ thing ∷ []
  pub last : after.last_thing ≡ d.last_thing + 1
  pub number : thing.name ≡ n
  pub next : n ≡ d.last_thing + 1
  pub holder : party_at nodes thing.holder ≡ x.holder
  pub board : thing.board ≡ x.board
  pub kind : thing.kind ≡ x.kind
  pub node : IsOfNode (length nodes) thing
  pub keys : AllByRecursion HasShortKeys after.tables.boards

-- nothing stands under a number above all
none_above : (n last : ℕ) (ts : List (Thing ℕ ℕ)) → last < n → AllByRecursion (λ (t : Thing ℕ ℕ). t.name ≤ last) ts → find (is_thing n) ts ≡ None
none_above n last [] less h = refl
none_above n last (t ∷ ts) less h =
    let low : t.name ≤ last = h.0 in
    let no : (t.name == n) ≡ false = grind (arith, nat_tests, low, less) in
    rw no (none_above n last ts less h.1)

-- the next number is free, where the things were given room
pub next_free : {C : Type 0} (nodes : List (List ℕ)) (at given : ℕ → Option Held) (d : Domain C) (n : ℕ) → IsNamed nodes at d → given ≡ at → n ≡ d.last_thing + 1 → given n ≡ None
next_free nodes at given d n h e next =
    ap (λ (a : ℕ → Option Held). a n) e ∙ h.alone n (none_above n d.last_thing d.tables.things (omega (arith, next)) (up_to_last 0 d.last_thing d.tables.things h.rising).0)

module _ (f : ℕ → List ℕ) (at : ℕ → Option Held) (n : ℕ) (x : Held) where
  called_still : (last : ℕ) (t : Thing ℕ ℕ) → last < n → t.name ≤ last → IsCalled f at t → IsCalled f (put n (Some x) at) t
  called_still last t less low h =
      let other : nat_eq n t.name ≡ false = grind (arith, nat_tests, less, low) in
      record { named = h.named; there = put_other at n (Some x) t.name other ∙ h.there; holder = h.holder; board = h.board; kind = h.kind }

  all_called_still : (last : ℕ) (ts : List (Thing ℕ ℕ)) → last < n → AllByRecursion (λ (t : Thing ℕ ℕ). t.name ≤ last) ts → AllByRecursion (IsCalled f at) ts → AllByRecursion (IsCalled f (put n (Some x) at)) ts
  all_called_still last [] less low h = tt
  all_called_still last (t ∷ ts) less low h = (called_still last t less low.0 h.0, all_called_still last ts less low.1 h.1)

  same_names : (last : ℕ) (ts : List (Thing ℕ ℕ)) → last < n → AllByRecursion (λ (t : Thing ℕ ℕ). t.name ≤ last) ts → named_things (put n (Some x) at) ts ≡ named_things at ts
  same_names last [] less low = refl
  same_names last (t ∷ ts) less low =
      let below : t.name ≤ last = low.0 in
      let other : nat_eq n t.name ≡ false = grind (arith, nat_tests, less, below) in
      ap (λ (o : Option Held). held_or_none o ∷ named_things (put n (Some x) at) ts) (put_other at n (Some x) t.name other)
      ∙ ap (λ (ys : List Held). held_or_none (at t.name) ∷ ys) (same_names last ts less low.1)

  last_name : (t : Thing ℕ ℕ) → t.name ≡ n → held_or_none (put n (Some x) at t.name) ≡ x
  last_name t e = ap (λ m. held_or_none (put n (Some x) at m)) e ∙ ap (λ (o : Option Held). held_or_none o) (put_here at n (Some x))

  last_called : (t : Thing ℕ ℕ) → t.name ≡ n → f t.holder ≡ x.holder → t.board ≡ x.board → t.kind ≡ x.kind → IsCalled f (put n (Some x) at) t
  last_called t e holder board kind = record { named = x; there = ap (λ m. put n (Some x) at m) e ∙ put_here at n (Some x); holder = holder; board = board; kind = kind }

-- nothing is found behind what isn't found among more
none_before_last : (n : ℕ) (t : Thing ℕ ℕ) (ts : List (Thing ℕ ℕ)) → find (is_thing n) (ts ++ t ∷ []) ≡ None → (find (is_thing n) ts ≡ None) × ((t.name == n) ≡ false)
none_before_last n t [] e =
    elim (chosen (t.name == n) (Some t) None None e) [
      | inl h ↦ absurd (let s : Some t ≡ None = h.1 in cc)
      | inr h ↦ (refl, h.0)
    ]
none_before_last n t (u ∷ us) e =
    elim (chosen (u.name == n) (Some u) (find (is_thing n) (us ++ t ∷ [])) None e) [
      | inl h ↦ absurd (let s : Some u ≡ None = h.1 in cc)
      | inr h ↦ let more = none_before_last n t us h.1 in (rw h.0 more.0, more.1)
    ]

pub named_more : {C : Type 0} (nodes : List (List ℕ)) (at : ℕ → Option Held) (d after : Domain C) (n : ℕ) (x : Held) → IsNamed nodes at d → IsMore nodes d after n x → IsNamed nodes (put n (Some x) at) after
named_more {C} nodes at d after n x h m =
    let t = m.thing in
    let above : d.last_thing < n = omega (arith, m.next) in
    let low = (up_to_last 0 d.last_thing d.tables.things h.rising).0 in
    let number : t.name ≡ n = m.number in
    let Called : List (Thing ℕ ℕ) → Type 0 = λ ts. AllByRecursion (IsCalled (party_at nodes) (put n (Some x) at)) ts in
    let Alone : List (Thing ℕ ℕ) → Type 0 = λ ts. (k : ℕ) → find (is_thing k) ts ≡ None → put n (Some x) at k ≡ None in
    let alone : Alone (d.tables.things ++ t ∷ []) = λ k e.
    let both = none_before_last k t d.tables.things e in
    let apart : (t.name == k) ≡ false = both.1 in
    let other : nat_eq n k ≡ false = grind (arith, nat_tests, apart, number) in
    put_other at n (Some x) k other ∙ h.alone k both.0 in
    record {
      called = subst Called (sym m.things) (all_more (IsCalled (party_at nodes) (put n (Some x) at)) t d.tables.things
          (all_called_still (party_at nodes) at n x d.last_thing d.tables.things above low h.called) (last_called (party_at nodes) at n x t number m.holder m.board m.kind));
      alone = subst Alone (sym m.things) alone;
      rising = subst (λ last. AreRising 0 last after.tables.things) (sym m.last) (subst (λ ts. AreRising 0 (d.last_thing + 1) ts) (sym m.things) (pushed 0 d.last_thing d.tables.things t h.rising (number ∙ m.next)));
      holders = subst (λ ts. AllByRecursion (IsOfNode (length nodes)) ts) (sym m.things) (all_more (IsOfNode (length nodes)) t d.tables.things h.holders m.node);
      parties = h.parties;
      keys = m.keys;
    }

-- it stands behind the others
pub things_more : {C : Type 0} (nodes : List (List ℕ)) (at : ℕ → Option Held) (d after : Domain C) (n : ℕ) (x : Held) → IsNamed nodes at d → IsMore nodes d after n x → things_of (put n (Some x) at) after ≡ things_of at d ++ x ∷ []
things_more nodes at d after n x h m =
    let above : d.last_thing < n = omega (arith, m.next) in
    ap (λ ts. named_things (put n (Some x) at) ts) m.things
    ∙ map-append (λ (t : Thing ℕ ℕ). held_or_none (put n (Some x) at t.name)) d.tables.things (m.thing ∷ [])
    ∙ ap (λ (xs : List Held). xs ++ held_or_none (put n (Some x) at m.thing.name) ∷ []) (same_names (party_at nodes) at n x d.last_thing d.tables.things above (up_to_last 0 d.last_thing d.tables.things h.rising).0)
    ∙ ap (λ (y : Held). things_of at d ++ y ∷ []) (last_name (party_at nodes) at n x m.thing m.number)

-- ---- a node

-- the parties before, and the last
index_before : (k : ℕ) (q : List ℕ) (ps : List (List ℕ)) → k < length ps → slice_index_or (ps ++ q ∷ []) k [] ≡ slice_index_or ps k []
index_before k q [] b = absurd (omega (arith, b))
index_before zero q (p ∷ ps) b = refl
index_before (suc k) q (p ∷ ps) b = index_before k q ps (omega (arith, b))

index_last : (q : List ℕ) (ps : List (List ℕ)) → slice_index_or (ps ++ q ∷ []) (length ps) [] ≡ q
index_last q [] = refl
index_last q (p ∷ ps) = index_last q ps

less_one : (n : ℕ) → n + 1 - 1 ≡ n
less_one n = omega arith

called_before : (q : List ℕ) (ps : List (List ℕ)) (at : ℕ → Option Held) (ts : List (Thing ℕ ℕ)) → AllByRecursion (IsOfNode (length ps)) ts
    → AllByRecursion (IsCalled (party_at ps) at) ts → AllByRecursion (IsCalled (party_at (ps ++ q ∷ [])) at) ts
called_before q ps at [] node h = tt
called_before q ps at (t ∷ ts) node h =
    let some : 0 < t.holder = node.0.some in
    let most : t.holder ≤ length ps = node.0.most in
    let e : party_at (ps ++ q ∷ []) t.holder ≡ party_at ps t.holder = index_before (t.holder - 1) q ps (omega (arith, some, most)) in
    (record { named = h.0.named; there = h.0.there; holder = e ∙ h.0.holder; board = h.0.board; kind = h.0.kind }, called_before q ps at ts node.1 h.1)

parties_more : (q : List ℕ) (ps : List (List ℕ)) → AllByRecursion (λ p. bytes_eq q p ≡ false) ps → AreParties ps → AreParties (ps ++ q ∷ [])
parties_more q [] h a = (tt, tt)
parties_more q (p ∷ ps) h a = (all_more (λ r. bytes_eq p r ≡ false) q ps a.0 (turned p q ∙ h.0), parties_more q ps h.1 a.1)

none_before : (q : List ℕ) (i : ℕ) (ps : List (List ℕ)) → position_from (bytes_eq q) i ps ≡ None → AllByRecursion (λ p. bytes_eq q p ≡ false) ps
none_before q i [] e = tt
none_before q i (p ∷ ps) e =
    elim (chosen (bytes_eq q p) (Some i) (position_from (bytes_eq q) (i + 1) ps) None e) [
      | inl h ↦ absurd (let s : Some i ≡ None = h.1 in cc)
      | inr h ↦ (h.0, none_before q (i + 1) ps h.1)
    ]

named_or_more : {C : Type 0} (party : List ℕ) (nodes : List (List ℕ)) (at : ℕ → Option Held) (d : Domain C) (o : Option ℕ) → node_place party nodes ≡ o
    → IsNamed nodes at d → IsNamed (nodes_or_more party nodes o) at d
named_or_more party nodes at d (Some k) e h = h
named_or_more {C} party nodes at d None e h =
    let more : length nodes ≤ length (nodes ++ party ∷ []) = omega (arith, length-append nodes (party ∷ [])) in
    record {
      called = called_before party nodes at d.tables.things h.holders h.called;
      alone = h.alone;
      rising = h.rising;
      holders = all_from (IsOfNode (length nodes)) (IsOfNode (length (nodes ++ party ∷ []))) (λ t i. record { some = i.some; most = (let m : t.holder ≤ length nodes = i.most in omega (arith, m, more)) }) d.tables.things h.holders;
      parties = parties_more party nodes (none_before party 0 nodes e) h.parties;
      keys = h.keys;
    }

-- a party that becomes a node changes nothing else
pub named_with : {C : Type 0} (party : List ℕ) (nodes : List (List ℕ)) (at : ℕ → Option Held) (d : Domain C) → IsNamed nodes at d → IsNamed (nodes_with party nodes) at d
named_with party nodes at d h = named_or_more party nodes at d (node_place party nodes) refl h

-- the number is that of a node, which is the party
pub record IsNode (party : List ℕ) (nodes : List (List ℕ)) (number : ℕ) : Type 0 where
  pub some : 0 < number
  pub most : number ≤ length nodes
  pub is : party_at nodes number ≡ party

-- the party stands where it was found
place_found : (q : List ℕ) (i k : ℕ) (ps : List (List ℕ)) → position_from (bytes_eq q) i ps ≡ Some k → (j : ℕ) × (k ≡ j + i) × (j < length ps) × (slice_index_or ps j [] ≡ q)
place_found q i k [] e = absurd cc
place_found q i k (p ∷ ps) e =
    elim (chosen (bytes_eq q p) (Some i) (position_from (bytes_eq q) (i + 1) ps) (Some k) e) [
      | inl h ↦ (0, (let s : Some i ≡ Some k = h.1 in let r : i ≡ k = cc in omega arith), omega arith, sym ((bytes_eq-Decides q p).0 h.0))
      | inr h ↦
          let more = place_found q (i + 1) k ps h.1 in
          (suc more.0, omega (arith, more.1), omega (arith, more.2), more.3)
    ]

node_or_more : (party : List ℕ) (nodes : List (List ℕ)) (o : Option ℕ) → node_place party nodes ≡ o → IsNode party (nodes_or_more party nodes o) (node_or_next (length nodes + 1) o)
node_or_more party nodes (Some k) e =
    let f = place_found party 0 k nodes e in
    let q : k ≡ f.0 = omega (arith, f.1) in
    record { some = omega arith; most = omega (arith, q, f.2); is = rw (less_one k, q) f.3 }
node_or_more party nodes None e = record { some = omega arith; most = omega (arith, length-append nodes (party ∷ [])); is = rw (less_one (length nodes)) (index_last party nodes) }

pub node_of : (party : List ℕ) (nodes : List (List ℕ)) → IsNode party (nodes_with party nodes) (node_number party nodes)
node_of party nodes = node_or_more party nodes (node_place party nodes) refl
