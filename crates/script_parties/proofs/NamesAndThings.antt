-- Things told by their names and by the core, and the names as they change.
use Rattle.std.proofs.Common.{◌≡◌, ◌&&◌, ℕ, Bool, true, false, cond, List, refl, sym, ap, ◌∙◌, subst, Option, Some, None}
use Rattle.std.specs.Prelude.{find, is_some, nat_eq, option_map, IsSome, OnErr, Result, Ok, Err}
use Rattle.std.specs.Str.{bytes_eq}
use Rattle.std.proofs.lemmas.Slice.Eq.{bytes_eq-Decides}
use Rattle.board_model.specs.declared.tables.Kind.{Kind}
use Rattle.board_model.specs.declared.tables.Thing.{Thing}
use Rattle.board_model.specs.Tables.{holds_at}
use Rattle.board_model.specs.Things.{Held, is_held_as, named_anew, thing_of}
use Rattle.board_service.specs.Domain.{Domain, is_thing}
use Rattle.script_parties.specs.declared.named.NamedThings.{NamedThings}
use Rattle.script_parties.specs.Named.{IsCalled, IsNamed, party_at, things_of}
use Rattle.script_parties.specs.Numbered.{AreNames, IsFirst, IsLeast, IsNames, both, is_seat, seat_anew, seat_at, things_by}
use Rattle.script_parties.proofs.Firsts.{some_there, there}
use Rattle.script_parties.proofs.Places.{first_thing, found, stands_at}
use Rattle.script_seats.specs.Seats.{IsIndex, IsNowhere, SeatOf, is_at, put, seat_of}

abbrev a_thing : Held → Option Held
a_thing x = Some x

abbrev no_thing : Option Held
no_thing = None

-- ---- a name and a thing under it

same_test : (s : SeatOf) (o : Option Held) → holds_at (option_map seat_of o) (is_seat s) ≡ holds_at o (is_at s)
same_test s None = refl
same_test s (Some t) = refl

-- the test of a name is that of its thing
pub test_of : (s : SeatOf) (names : ℕ → Option SeatOf) (things : ℕ → Option Held) → AreNames names things → (n : ℕ) → holds_at (names n) (is_seat s) ≡ holds_at (things n) (is_at s)
test_of s names things h n = ap (λ (o : Option SeatOf). holds_at o (is_seat s)) (h n) ∙ same_test s (things n)

-- the first name is that of the first thing
pub first_of : (s : SeatOf) (names : ℕ → Option SeatOf) (things : ℕ → Option Held) → AreNames names things → (o : Option ℕ) → IsFirst (is_seat s) names o → IsFirst (is_at s) things o
first_of s names things h None none = λ n. sym (test_of s names things h n) ∙ none n
first_of s names things h (Some k) least = record {
  passes = sym (test_of s names things h k) ∙ least.passes;
  below = λ n less. sym (test_of s names things h n) ∙ least.below n less;
}

named_seat : (party old new : List ℕ) (o : Option Held) → option_map (seat_anew (record { party = party; name = old }) new) (option_map seat_of o) ≡ option_map seat_of (option_map (named_anew party old new) o)
named_seat party old new None = refl
named_seat party old new (Some t) = by (is_at (record { party = party; name = old }) t)
  where
    by : (b : Bool) → Some (cond b (record { party = t.holder; name = new }) (seat_of t)) ≡ Some (seat_of (cond b (record t { name = new }) t))
    by true = refl
    by false = refl

-- things by other names
pub names_anew : (party old new : List ℕ) (names : ℕ → Option SeatOf) (things : ℕ → Option Held) → AreNames names things
    → AreNames (λ n. option_map (seat_anew (record { party = party; name = old }) new) (names n)) (λ n. option_map (named_anew party old new) (things n))
names_anew party old new names things h n = ap (λ (o : Option SeatOf). option_map (seat_anew (record { party = party; name = old }) new) o) (h n) ∙ named_seat party old new (things n)

-- a name more is that of a thing more
pub put_names : (n : ℕ) (x : Option Held) (names : ℕ → Option SeatOf) (things : ℕ → Option Held) → AreNames names things → (m : ℕ) → put n (option_map seat_of x) names m ≡ option_map seat_of (put n x things m)
put_names n x names things h m = by (nat_eq n m)
  where
    by : (b : Bool) → cond b (option_map seat_of x) (names m) ≡ option_map seat_of (cond b x (things m))
    by true = refl
    by false = h m

-- ---- what names and the core tell together

either_none : (o : Option SeatOf) → both o None ≡ None
either_none None = refl
either_none (Some s) = refl

module _ {C : Type 0} (nodes : List (List ℕ)) (names : ℕ → Option SeatOf) (things : ℕ → Option Held) (d : Domain C) (are : AreNames names things) (h : IsNamed nodes things d) where
  told_at : (n : ℕ) (o : Option (Thing ℕ ℕ)) → find (is_thing n) d.tables.things ≡ o → things_by names d n ≡ things n
  told_at n None e = ap (λ (o : Option (Thing ℕ ℕ)). both (names n) o) e ∙ either_none (names n) ∙ sym (h.alone n e)
  told_at n (Some t) e =
      let called = found (IsCalled (party_at nodes) things) n t d.tables.things h.called e in
      let c = called.0 in
      let there : things n ≡ Some c.named = ap (λ (m : ℕ). things m) (sym called.1) ∙ c.there in
      ap (λ (o : Option (Thing ℕ ℕ)). both (names n) o) e
      ∙ ap (λ (o : Option SeatOf). both o (Some t)) (are n ∙ ap (λ (o : Option Held). option_map seat_of o) there)
      ∙ whole c.named t c.board c.kind ∙ sym there
    where
      whole : (x : Held) (u : Thing ℕ ℕ) → u.board ≡ x.board → u.kind ≡ x.kind → both (Some (seat_of x)) (Some u) ≡ Some x
      whole x u b k =
          ap (λ (m : ℕ). a_thing (record { holder = x.holder; name = x.name; board = m; kind = u.kind })) b
          ∙ ap (λ (l : Kind). a_thing (record { holder = x.holder; name = x.name; board = x.board; kind = l })) k

  -- it is the things that these are the names of
  pub told : things_by names d ≡ things
  told = λ i n. told_at n (find (is_thing n) d.tables.things) refl i

-- so what holds of these things holds of what is told
pub settled : {C : Type 0} (names : NamedThings) (nodes : List (List ℕ)) (things : ℕ → Option Held) (d : Domain C) → IsNames names things → IsNamed nodes things d
    → IsNames names (things_by (seat_at names) d) × IsNamed nodes (things_by (seat_at names) d) d
settled names nodes things d k h = subst (λ (a : ℕ → Option Held). IsNames names a × IsNamed nodes a d) (sym (told nodes (seat_at names) things d k.names h)) (k, h)

-- ---- only room was made

pub on_err : {T E P : Type 0} (r : Result T E) → P → OnErr r P
on_err (Ok t) p = tt
on_err (Err e) p = p

-- what is shown is the same
pub shown_still : {C : Type 0} {V : Type 0} (show : Domain C → List Held → V) (now : V) (names given : NamedThings) (d after : Domain C) → seat_at given ≡ seat_at names → after ≡ d
    → show d (things_of (things_by (seat_at names) d) d) ≡ now → show after (things_of (things_by (seat_at given) after) after) ≡ now
shown_still {C} show now names given d after same k view =
    ap (λ (f : ℕ → Option SeatOf). show after (things_of (things_by f after) after)) same ∙ ap (λ (x : Domain C). show x (things_of (things_by (seat_at names) x) x)) k ∙ view

pub given_names : (names given : NamedThings) (things : ℕ → Option Held) → IsNames names things → ((ts : ℕ → Option Held) → IsIndex names.seats ts → IsIndex given.seats ts) → seat_at given ≡ seat_at names → IsNames given things
given_names names given things k index same = record {
  index = index things k.index;
  names = λ n. ap (λ (f : ℕ → Option SeatOf). f n) same ∙ k.names n;
}

pub still : {C : Type 0} (names given : NamedThings) (nodes given_nodes : List (List ℕ)) (d after : Domain C)
    → IsNames names (things_by (seat_at names) d) × IsNamed nodes (things_by (seat_at names) d) d
    → ((ts : ℕ → Option Held) → IsIndex names.seats ts → IsIndex given.seats ts) → given_nodes ≡ nodes → seat_at given ≡ seat_at names → after ≡ d
    → IsNames given (things_by (seat_at given) after) × IsNamed given_nodes (things_by (seat_at given) after) after
still {C} names given nodes given_nodes d after h index e same k =
    let named : IsNamed given_nodes (things_by (seat_at names) d) after =
    subst (λ (ns : List (List ℕ)). IsNamed ns (things_by (seat_at names) d) after) (sym e) (subst (λ (x : Domain C). IsNamed nodes (things_by (seat_at names) d) x) (sym k) h.1) in
    settled given given_nodes (things_by (seat_at names) d) after (given_names names given (things_by (seat_at names) d) h.0 index same) named

-- ---- the thing under a party's name

-- the names that were compared
held_names : (a b : Bool) → (a && b) ≡ true → (a ≡ true) × (b ≡ true)
held_names true true e = (refl, refl)
held_names true false e = absurd (let f : false ≡ true = e in cc)
held_names false b e = absurd (let f : false ≡ true = e in cc)

module _ {C : Type 0} (party name : List ℕ) (nodes : List (List ℕ)) (at : ℕ → Option Held) (d : Domain C) (n : ℕ) (h : IsNamed nodes at d) (first : IsLeast (is_held_as party name) at n) where
  -- the core has a thing under the number
  pub stands_told : IsSome (find (is_thing n) d.tables.things)
  stands_told = let s = stands_at (is_held_as party name) nodes at d n h first.passes in subst IsSome (sym s.1) refl

  -- it is the first thing that the party holds under the name, without its node's and its own number
  pub thing_told : (t : Thing ℕ ℕ) → find (is_thing n) d.tables.things ≡ Some t → a_thing (record { holder = party; name = name; board = t.board; kind = t.kind }) ≡ thing_of (things_of at d) party name
  thing_told t e =
      let x = there (is_held_as party name) (at n) first.passes in
      let called = found (IsCalled (party_at nodes) at) n t d.tables.things h.called e in
      let c = called.0 in
      let same : a_thing c.named ≡ a_thing x.0 = sym c.there ∙ ap (λ (m : ℕ). at m) called.1 ∙ x.1 in
      let named : c.named ≡ x.0 = cc in
      let both = held_names (bytes_eq x.0.holder party) (bytes_eq x.0.name name) x.2 in
      whole x.0 ((bytes_eq-Decides x.0.holder party).0 both.0) ((bytes_eq-Decides x.0.name name).0 both.1) (c.board ∙ ap (λ (y : Held). y.board) named) (c.kind ∙ ap (λ (y : Held). y.kind) named)
      ∙ sym x.1 ∙ sym (first_thing (is_held_as party name) nodes at d (Some n) h first)
    where
      whole : (y : Held) → y.holder ≡ party → y.name ≡ name → t.board ≡ y.board → t.kind ≡ y.kind → a_thing (record { holder = party; name = name; board = t.board; kind = t.kind }) ≡ a_thing y
      whole y p q b k =
          ap (λ (o : List ℕ). a_thing (record { holder = o; name = name; board = t.board; kind = t.kind })) (sym p)
          ∙ ap (λ (o : List ℕ). a_thing (record { holder = y.holder; name = o; board = t.board; kind = t.kind })) (sym q)
          ∙ ap (λ (m : ℕ). a_thing (record { holder = y.holder; name = y.name; board = m; kind = t.kind })) b
          ∙ ap (λ (l : Kind). a_thing (record { holder = y.holder; name = y.name; board = y.board; kind = l })) k

-- and nothing is held under a name that stands nowhere
pub none_told : {C : Type 0} (party name : List ℕ) (nodes : List (List ℕ)) (at : ℕ → Option Held) (d : Domain C) → IsNamed nodes at d → IsNowhere (is_held_as party name) at → no_thing ≡ thing_of (things_of at d) party name
none_told party name nodes at d h none = sym (first_thing (is_held_as party name) nodes at d None h none)

-- something is held under a name exactly where a number was found
pub some_told : {C : Type 0} (party name : List ℕ) (nodes : List (List ℕ)) (at : ℕ → Option Held) (d : Domain C) (o : Option ℕ) → IsNamed nodes at d → IsFirst (is_held_as party name) at o → is_some o ≡ is_some (thing_of (things_of at d) party name)
some_told party name nodes at d None h none = ap (λ (x : Option Held). is_some x) (none_told party name nodes at d h none)
some_told party name nodes at d (Some n) h first =
    sym (some_there (is_held_as party name) (at n) first.passes) ∙ ap (λ (x : Option Held). is_some x) (sym (first_thing (is_held_as party name) nodes at d (Some n) h first))
