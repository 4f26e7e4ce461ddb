-- One thing less.
use Rattle.std.proofs.Common.{◌≡◌, ◌==◌, ℕ, ◌+◌, ◌<◌, ◌≤◌, zero, suc, Bool, true, false, if◌then◌else◌, List, [], ◌∷◌, length, map, arith, refl, sym, ap, ◌∙◌, subst, Option, Some, None, inl, inr}
use Rattle.std.specs.Prelude.{find, nat_eq, remove, slice_get}
use Rattle.std.specs.List.{AllByRecursion, list_any, position_from}
use Rattle.std.proofs.lemmas.Bool.Decides.{Decides-eqb, nat_tests}
use Rattle.board_model.specs.declared.tables.Board.{Board}
use Rattle.board_model.specs.declared.tables.Thing.{Thing}
use Rattle.board_model.specs.Replies.{released_thing}
use Rattle.board_model.specs.Tables.{Tables, holds_at, is_numbered, is_of_board, without_first}
use Rattle.board_model.specs.TableCalls.{boards_left}
use Rattle.board_model.specs.Things.{Held, is_held_as}
use Rattle.script_parties.proofs.Rising.{fewer}
use Rattle.script_parties.specs.Named.{AreRising, HasShortKeys, IsCalled, IsNamed, IsOfNode, held_or_none, named_things, party_at, things_of}
use Rattle.script_parties.specs.Numbered.{IsLeast}
use Rattle.script_parties.specs.Parties.{IsReleased, Parties, words_of_boards}
use Rattle.script_parties.proofs.Counts.{boards-same}
use Rattle.script_parties.proofs.Growth.{same_things}
use Rattle.script_parties.proofs.Places.{above, chosen, first_thing, named_passes, stands_at, thing_at_number}
use Rattle.script_parties.proofs.Ports.{shown}
use Rattle.script_seats.specs.Seats.{put}
use Rattle.script_seats.proofs.SeatLemmas.{either, put_here, put_other}
use Rattle.board_service.specs.Domain.{Domain, after_release, but_at, held, is_thing}

-- ---- lists

-- the first that passes stands at k
pub record IsFirst {X : Type 0} (p : X → Bool) (xs : List X) (k : ℕ) : Type 0 where
  pub it : X
  pub found : find p xs ≡ Some it
  pub there : slice_get xs k ≡ Some it
  pub rest : without_first p xs ≡ remove xs k

-- where the list begins at place i
first_from : {X : Type 0} (p : X → Bool) (i k : ℕ) (xs : List X) → position_from p i xs ≡ Some k → (j : ℕ) × (k ≡ j + i) × IsFirst p xs j
first_from p i k [] e = absurd cc
first_from {X = X} p i k (x ∷ xs) e =
    elim (chosen (p x) (Some i) (position_from p (i + 1) xs) (Some k) e) [
      | inl h ↦ (0, (let s : Some i ≡ Some k = h.1 in let q : i ≡ k = cc in omega arith), record { it = x; found = rw h.0 refl; there = refl; rest = rw h.0 refl })
      | inr h ↦
          let more = first_from p (i + 1) k xs h.1 in
          (suc more.0, omega (arith, more.1), record { it = more.2.it; found = rw h.0 more.2.found; there = more.2.there; rest = rw h.0 (ap (λ (r : List X). x ∷ r) more.2.rest) })
    ]

pub first_at : {X : Type 0} (p : X → Bool) (k : ℕ) (xs : List X) → position_from p 0 xs ≡ Some k → IsFirst p xs k
first_at p k xs e =
    let f = first_from p 0 k xs e in
    let q : k ≡ f.0 = omega (arith, f.1) in
    rw q f.2

none_from : {X : Type 0} (p : X → Bool) (i : ℕ) (xs : List X) → position_from p i xs ≡ None → (find p xs ≡ None) × (without_first p xs ≡ xs)
none_from p i [] e = (refl, refl)
none_from {X = X} p i (x ∷ xs) e =
    elim (chosen (p x) (Some i) (position_from p (i + 1) xs) None e) [
      | inl h ↦ absurd (let s : Some i ≡ None = h.1 in cc)
      | inr h ↦ let more = none_from p (i + 1) xs h.1 in (rw h.0 more.0, rw h.0 (ap (λ (r : List X). x ∷ r) more.1))
    ]

-- with the element at a place taken out
map_remove : {A B : Type 0} (f : A → B) (k : ℕ) (xs : List A) → map f (remove xs k) ≡ remove (map f xs) k
map_remove f zero [] = refl
map_remove f (suc k) [] = refl
map_remove f zero (x ∷ xs) = refl
map_remove {A} {B} f (suc k) (x ∷ xs) = ap (λ (ys : List B). f x ∷ ys) (map_remove f k xs)

-- what all have, those that are left have
all_without : {X : Type 0} (P : X → Type 0) (p : X → Bool) (xs : List X) → AllByRecursion P xs → AllByRecursion P (without_first p xs)
all_without P p [] h = tt
all_without {X} P p (x ∷ xs) h =
    elim (p x) as (λ b. AllByRecursion P (if b then xs else x ∷ without_first p xs)) [
      | true ↦ h.1
      | false ↦ (h.0, all_without P p xs h.1)
    ]

all_left : {X : Type 0} (P : X → Type 0) (p : X → Bool) (b : Bool) (xs : List X) → AllByRecursion P xs → AllByRecursion P (if b then xs else without_first p xs)
all_left P p true xs h = h
all_left P p false xs h = all_without P p xs h

-- ---- the things that are left

module _ (f : ℕ → List ℕ) (at : ℕ → Option Held) (n : ℕ) where
  called_apart : (t : Thing ℕ ℕ) → nat_eq n t.name ≡ false → IsCalled f at t → IsCalled f (put n None at) t
  called_apart t other h = record { named = h.named; there = put_other at n None t.name other ∙ h.there; holder = h.holder; board = h.board; kind = h.kind }

  called_above : (low last : ℕ) (ts : List (Thing ℕ ℕ)) → n ≤ low → AreRising low last ts → AllByRecursion (IsCalled f at) ts → AllByRecursion (IsCalled f (put n None at)) ts
  called_above low last [] le rising h = tt
  called_above low last (t ∷ ts) le rising h =
      let less : low < t.name = rising.0 in
      (called_apart t (grind (arith, nat_tests, le, less)) h.0, called_above t.name last ts (omega (arith, le, less)) rising.1 h.1)

  called_less : (low last : ℕ) (ts : List (Thing ℕ ℕ)) → AreRising low last ts → AllByRecursion (IsCalled f at) ts → AllByRecursion (IsCalled f (put n None at)) (without_first (is_thing n) ts)
  called_less low last [] rising h = tt
  called_less low last (t ∷ ts) rising h =
      elim (t.name == n) as (λ b. (t.name == n) ≡ b → AllByRecursion (IsCalled f (put n None at)) (if b then ts else t ∷ without_first (is_thing n) ts)) [
        | true ↦ λ e. (let same : n ≤ t.name = grind (arith, nat_tests, e) in called_above t.name last ts same rising.1 h.1)
        | false ↦ λ e. (called_apart t (grind (arith, nat_tests, e)) h.0, called_less t.name last ts rising.1 h.1)
      ] refl

  names_above : (low last : ℕ) (ts : List (Thing ℕ ℕ)) → n ≤ low → AreRising low last ts → named_things (put n None at) ts ≡ named_things at ts
  names_above low last [] le rising = refl
  names_above low last (t ∷ ts) le rising =
      let less : low < t.name = rising.0 in
      let other : nat_eq n t.name ≡ false = grind (arith, nat_tests, le, less) in
      ap (λ (o : Option Held). held_or_none o ∷ named_things (put n None at) ts) (put_other at n None t.name other)
      ∙ ap (λ (ys : List Held). held_or_none (at t.name) ∷ ys) (names_above t.name last ts (omega (arith, le, less)) rising.1)

  -- the first that passes is the one that goes
  names_less : (p : Held → Bool) (low last : ℕ) (ts : List (Thing ℕ ℕ)) (u : Thing ℕ ℕ) → AllByRecursion (IsCalled f at) ts → AreRising low last ts → IsLeast p at n → find (is_thing n) ts ≡ Some u
      → named_things (put n None at) (without_first (is_thing n) ts) ≡ without_first p (named_things at ts)
  names_less p low last [] u h rising least e = absurd cc
  names_less p low last (t ∷ ts) u h rising least e =
      elim (chosen (t.name == n) (Some t) (find (is_thing n) ts) (Some u) e) [
        | inl c ↦
            let same : t.name ≡ n = (Decides-eqb t.name n).0 c.0 in
            let holds : p (held_or_none (at t.name)) ≡ true = sym (named_passes p f at t h.0) ∙ ap (λ m. holds_at (at m) p) same ∙ least.passes in
            rw (c.0, holds) (names_above t.name last ts (omega (arith, same)) rising.1)
        | inr c ↦
            let less : t.name < n = above p f at n t.name last ts u rising.1 c.1 in
            let other : nat_eq n t.name ≡ false = grind (arith, nat_tests, less) in
            let fails : p (held_or_none (at t.name)) ≡ false = sym (named_passes p f at t h.0) ∙ least.below t.name less in
            rw (c.0, fails) (
            ap (λ (o : Option Held). held_or_none o ∷ named_things (put n None at) (without_first (is_thing n) ts)) (put_other at n None t.name other)
            ∙ ap (λ (ys : List Held). held_or_none (at t.name) ∷ ys) (names_less p t.name last ts u h.1 rising.1 least c.1))
      ]

-- what isn't found among the others wasn't found before
none_before : (n k : ℕ) (ts : List (Thing ℕ ℕ)) → nat_eq n k ≡ false → find (is_thing k) (without_first (is_thing n) ts) ≡ None → find (is_thing k) ts ≡ None
none_before n k [] other e = refl
none_before n k (t ∷ ts) other e =
    elim (t.name == n) as (λ b. (t.name == n) ≡ b → find (is_thing k) (if b then ts else t ∷ without_first (is_thing n) ts) ≡ None → find (is_thing k) (t ∷ ts) ≡ None) [
      | true ↦ λ same g. (let no : (t.name == k) ≡ false = grind (arith, nat_tests, same, other) in rw no g)
      | false ↦ λ apart g.
          elim (chosen (t.name == k) (Some t) (find (is_thing k) (without_first (is_thing n) ts)) None g) [
            | inl c ↦ absurd (let s : Some t ≡ None = c.1 in cc)
            | inr c ↦ rw c.0 (none_before n k ts other c.1)
          ]
    ] refl e

pub named_less : {C : Type 0} (nodes : List (List ℕ)) (at : ℕ → Option Held) (d after : Domain C) (n : ℕ) → IsNamed nodes at d → after ≡ after_release d n (held d n).board → IsNamed nodes (put n None at) after
named_less {C} nodes at d after n h e =
    let board = (held d n).board in
    let alone : (k : ℕ) → find (is_thing k) (without_first (is_thing n) d.tables.things) ≡ None → put n None at k ≡ None = λ k g.
    elim (either (nat_eq n k)) [
      | inl c ↦ (let same : n ≡ k = (Decides-eqb n k).0 c in subst (λ m. put n None at m ≡ None) same (put_here at n None))
      | inr c ↦ put_other at n None k c ∙ h.alone k (none_before n k d.tables.things c g)
    ] in
    subst (λ a. IsNamed nodes (put n None at) a) (sym e) (record {
      called = called_less (party_at nodes) at n 0 d.last_thing d.tables.things h.rising h.called;
      alone = alone;
      rising = fewer (is_thing n) 0 d.last_thing d.tables.things h.rising;
      holders = all_without (IsOfNode (length nodes)) (is_thing n) d.tables.things h.holders;
      parties = h.parties;
      keys = all_left HasShortKeys (is_numbered board) (list_any (is_of_board board) (without_first (is_thing n) d.tables.things)) d.tables.boards h.keys;
    })

-- ---- the words that are left

words_removed : {C : Type 0} (list : C → List ℕ) (f : ℕ → List ℕ) (board : ℕ) (o : Option ℕ) (cells : List C) (boards : List Board) → position_from (is_numbered board) 0 boards ≡ o
    → map list cells ≡ words_of_boards f boards → map list (but_at cells o) ≡ words_of_boards f (without_first (is_numbered board) boards)
words_removed list f board None cells boards p e = e ∙ ap (λ bs. words_of_boards f bs) (sym (none_from (is_numbered board) 0 boards p).1)
words_removed list f board (Some k) cells boards p e =
    map_remove list k cells
    ∙ ap (λ ws. remove ws k) e
    ∙ sym (map_remove (λ (b : Board). f b.number) k boards)
    ∙ ap (λ bs. words_of_boards f bs) (sym (first_at (is_numbered board) k boards p).rest)

words_left : {C : Type 0} (list : C → List ℕ) (f : ℕ → List ℕ) (board : ℕ) (b : Bool) (cells : List C) (boards : List Board) → map list cells ≡ words_of_boards f boards
    → map list (if b then cells else but_at cells (position_from (is_numbered board) 0 boards)) ≡ words_of_boards f (if b then boards else without_first (is_numbered board) boards)
words_left list f board true cells boards e = e
words_left list f board false cells boards e = words_removed list f board (position_from (is_numbered board) 0 boards) cells boards refl e

-- ---- what is left

abbrev less : Tables (List ℕ) (List ℕ) → List Board → List Held → Tables (List ℕ) (List ℕ)
less t bs xs = record t { boards = bs; things = xs }

pub released_one : {C : Type 0} (list : C → List ℕ) (nodes : List (List ℕ)) (at : ℕ → Option Held) (d after : Domain C) (party name : List ℕ) (n : ℕ) (x : Held) → IsNamed nodes at d
    → IsLeast (is_held_as party name) at n → at n ≡ Some x → after ≡ after_release d n (held d n).board → IsReleased (shown list d (things_of at d)) (shown list after (things_of (put n None at) after)) party name
released_one {C} list nodes at d after party name n x h least is e =
    let p = is_held_as party name in
    let of = held d n in
    let i = thing_at_number nodes at d x n h is in
    let s = stands_at p nodes at d n h least.passes in
    let end = after_release d n of.board in
    let ts = without_first (is_thing n) d.tables.things in
    let left = things_of (put n None at) end in
    let t = (shown list d (things_of at d)).tables in
    let kept = list_any (is_of_board of.board) ts in
    let less_is : left ≡ without_first p (things_of at d) = names_less (party_at nodes) at n p 0 d.last_thing d.tables.things s.0 h.called h.rising least s.1 in
    let found : find p (things_of at d) ≡ Some x = first_thing p nodes at d (Some n) h least ∙ is in
    let same : kept ≡ list_any (is_of_board of.board) left = sym (boards-same (party_at nodes) of.board ts left (same_things nodes (put n None at) end (named_less nodes at d end n h refl))) in
    subst (λ a. IsReleased (shown list d (things_of at d)) (shown list a (things_of (put n None at) a)) party name) (sym e) (record {
      tables =
          ap (λ b. less t (if b then d.tables.boards else without_first (is_numbered of.board) d.tables.boards) left) same
          ∙ ap (λ b. less t (boards_left d.tables.boards b left) left) i.board
          ∙ ap (λ (xs : List Held). less t (boards_left d.tables.boards x.board xs) xs) less_is
          ∙ ap (λ (o : Option Held). released_thing t party name o) (sym found);
      words = λ f w. words_left list f of.board kept d.cells d.tables.boards w;
      drawn = refl;
    })

-- where nothing is held so
pub released_none : (p : Parties) (party name : List ℕ) → find (is_held_as party name) p.tables.things ≡ None → IsReleased p p party name
released_none p party name e = record {
  tables = ap (λ (o : Option Held). released_thing p.tables party name o) (sym e);
  words = λ f w. w;
  drawn = refl;
}
