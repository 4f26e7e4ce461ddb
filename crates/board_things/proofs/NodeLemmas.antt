-- The node at a place, among the things and among the nodes that are kept of a board.
use Rattle.std.proofs.Common.{◌≡◌, ℕ, zero, suc, ◌+◌, ◌-◌, ◌^◌, ◌<◌, ◌≤◌, Bool, true, false, List, [], ◌∷◌, ◌++◌, length, Option, Some, None, arith, refl, sym, ap, ◌∙◌, subst}
use Rattle.std.specs.Prelude.{◌&&◌, ◌||◌, ◌==◌, find, not, nat_eq, nat_lt, slice_get, if◌then◌else◌}
use Rattle.std.specs.List.{AllByRecursion, list_any, prefix_len, remove}
use Rattle.std.proofs.lemmas.Bool.{eqb-true, eq-eqb, lt-ltb, ltb-true, false≢true, false_from_ne_true, and_from, or_left, or_right}
use Rattle.board_model.specs.declared.tables.Thing.{Thing}
use Rattle.board_model.specs.Tables.{is_held_by, is_node, is_of_board, without_first}
use Rattle.board_things.specs.Kept.{is_new_node}
use Rattle.board_things.specs.Nodes.{AreInOrder, AreNodes, comes_before, is_pair, node_from, nodes_below, nodes_in}
use Rattle.board_things.proofs.Counts.{any_push, any_taken}
use Rattle.board_things.proofs.Joined.{length_removed}
use Rattle.board_things.proofs.Pairs.{Ascends, among, are_among, are_out, ascend, in_it, out_in_order}

abbrev Things : Type 0
Things = List (Thing ℕ ℕ)

abbrev no_node : Option ℕ
no_node = None

and_true : (a : Bool) → (a && true) ≡ a
and_true true = refl
and_true false = refl

first_of : (a b : Bool) → (a && b) ≡ true → a ≡ true
first_of true b h = refl
first_of false b h = absurd (false≢true h)

second_of : (a b : Bool) → (a && b) ≡ true → b ≡ true
second_of true b h = h
second_of false b h = absurd (false≢true h)

or_cases : (X : Type 0) (a b : Bool) → (a ≡ true → X) → (b ≡ true → X) → (a || b) ≡ true → X
or_cases X true b f g h = f refl
or_cases X false b f g h = g h

-- ---- ascending numbers, and one of them taken out

abbrev without : ℕ → List ℕ → List ℕ
without n [] = []
without n (m ∷ ms) = if m == n then ms else m ∷ without n ms

-- how many of them are less
abbrev fewer : ℕ → List ℕ → ℕ
fewer h [] = 0
fewer h (n ∷ ns) = if nat_lt n h then fewer h ns + 1 else fewer h ns

not_among : (n m : ℕ) (ms : List ℕ) → m ≡ n → AllByRecursion (λ y. m < y) ms → among n ms ≡ false
not_among n m [] it h = refl
not_among n m (y ∷ ys) it h = by (y == n) refl (not_among n m ys it h.1)
  where
    by : (b : Bool) → (y == n) ≡ b → among n ys ≡ false → (b || among n ys) ≡ false
    by true e ih = absurd (omega (arith, eqb-true y n e, h.0, it))
    by false e ih = ih

all_without : (P : ℕ → Type 0) (n : ℕ) (ms : List ℕ) → AllByRecursion P ms → AllByRecursion P (without n ms)
all_without P n [] h = tt
all_without P n (m ∷ ms) h = by (m == n) (all_without P n ms h.1)
  where
    by : (b : Bool) → AllByRecursion P (without n ms) → AllByRecursion P (if b then ms else m ∷ without n ms)
    by true ih = h.1
    by false ih = (h.0, ih)

ascends_without : (n : ℕ) (ms : List ℕ) → Ascends ms → Ascends (without n ms)
ascends_without n [] h = tt
ascends_without n (m ∷ ms) h = by (m == n) (ascends_without n ms h.1)
  where
    by : (b : Bool) → Ascends (without n ms) → Ascends (if b then ms else m ∷ without n ms)
    by true ih = h.1
    by false ih = (all_without (λ y. m < y) n ms h.0, ih)

are_without : (h : ℕ) (ms : List ℕ) → Ascends ms → (n : ℕ) → among n (without h ms) ≡ (among n ms && not (nat_eq h n))
are_without h [] up n = refl
are_without h (m ∷ ms) up n = by (m == h) (m == n) refl refl (are_without h ms up.1 n)
  where
    by : (a b : Bool) → (m == h) ≡ a → (m == n) ≡ b → among n (without h ms) ≡ (among n ms && not (nat_eq h n))
        → among n (if a then ms else m ∷ without h ms) ≡ ((b || among n ms) && not (nat_eq h n))
    by true true e f ih =
        let same : nat_eq h n ≡ true = eq-eqb h n (sym (eqb-true m h e) ∙ eqb-true m n f) in
        not_among n m ms (eqb-true m n f) up.0 ∙ sym (ap not same)
    by true false e f ih =
        let other : nat_eq h n ≡ false = ap (λ (x : ℕ). nat_eq x n) (sym (eqb-true m h e)) ∙ f in
        sym (ap (λ (x : Bool). among n ms && not x) other ∙ and_true (among n ms))
    by false true e f ih =
        let it : m ≡ n = eqb-true m n f in
        let other : nat_eq h n ≡ false = false_from_ne_true (nat_eq h n) (λ k. false≢true (sym e ∙ eq-eqb m h (it ∙ sym (eqb-true h n k)))) in
        ap (λ (x : Bool). x || among n (without h ms)) f ∙ sym (ap not other)
    by false false e f ih = ap (λ (x : Bool). x || among n (without h ms)) f ∙ ih

abbrev one_more : Bool → ℕ → ℕ
one_more b n = if b then n + 1 else n

swapped : (a b : Bool) (n : ℕ) → one_more a (one_more b n) ≡ one_more b (one_more a n)
swapped true true n = refl
swapped true false n = refl
swapped false b n = refl

fewer_without : (h n : ℕ) (ms : List ℕ) → among n ms ≡ true → fewer h ms ≡ one_more (nat_lt n h) (fewer h (without n ms))
fewer_without h n [] is = absurd (false≢true is)
fewer_without h n (m ∷ ms) is = by (m == n) refl is (λ k. fewer_without h n ms k)
  where
    by : (b : Bool) → (m == n) ≡ b → (b || among n ms) ≡ true → (among n ms ≡ true → fewer h ms ≡ one_more (nat_lt n h) (fewer h (without n ms)))
        → one_more (nat_lt m h) (fewer h ms) ≡ one_more (nat_lt n h) (fewer h (if b then ms else m ∷ without n ms))
    by true e k ih = ap (λ (x : ℕ). one_more (nat_lt x h) (fewer h ms)) (eqb-true m n e)
    by false e k ih = ap (λ (x : ℕ). one_more (nat_lt m h) x) (ih k) ∙ swapped (nat_lt m h) (nat_lt n h) (fewer h (without n ms))

-- ---- one at a place

abbrev a_node : ℕ → Option ℕ
a_node n = Some n

all_get : (P : ℕ → Type 0) (ns : List ℕ) (i n : ℕ) → AllByRecursion P ns → slice_get ns i ≡ Some n → P n
all_get P [] i n h e = absurd cc
all_get P (m ∷ ms) zero n h e = let same : m ≡ n = cc in subst P same h.0
all_get P (m ∷ ms) (suc i) n h e = all_get P ms i n h.1 e

none_fewer : (n : ℕ) (ms : List ℕ) → AllByRecursion (λ y. n < y) ms → fewer n ms ≡ 0
none_fewer n [] h = refl
none_fewer n (m ∷ ms) h = ap (λ (b : Bool). one_more b (fewer n ms)) (false_from_ne_true (nat_lt m n) (λ k. omega (arith, ltb-true m n k, h.0))) ∙ none_fewer n ms h.1

fewer_get : (ns : List ℕ) (i n : ℕ) → Ascends ns → slice_get ns i ≡ Some n → fewer n ns ≡ i
fewer_get [] i n up e = absurd cc
fewer_get (m ∷ ms) zero n up e =
    let same : m ≡ n = cc in
    ap (λ (b : Bool). one_more b (fewer n ms)) (false_from_ne_true (nat_lt m n) (λ k. omega (arith, ltb-true m n k, same))) ∙ none_fewer n ms (subst (λ (x : ℕ). AllByRecursion (λ y. x < y) ms) same up.0)
fewer_get (m ∷ ms) (suc i) n up e =
    let less : m < n = all_get (λ y. m < y) ms i n up.0 e in
    let here : fewer n (m ∷ ms) ≡ fewer n ms + 1 = ap (λ (b : Bool). one_more b (fewer n ms)) (lt-ltb m n less) in
    omega (arith, here, fewer_get ms i n up.1 e)

get_among : (ns : List ℕ) (i n : ℕ) → slice_get ns i ≡ Some n → among n ns ≡ true
get_among [] i n e = absurd cc
get_among (m ∷ ms) zero n e = let same : m ≡ n = cc in or_left (m == n) (among n ms) (eq-eqb m n same)
get_among (m ∷ ms) (suc i) n e = or_right (m == n) (among n ms) (get_among ms i n e)

among_get : (ns : List ℕ) (n : ℕ) → among n ns ≡ true → (i : ℕ) × (slice_get ns i ≡ Some n)
among_get [] n h = absurd (false≢true h)
among_get (m ∷ ms) n h =
    or_cases ((i : ℕ) × (slice_get (m ∷ ms) i ≡ Some n)) (m == n) (among n ms) (λ e. (0, ap (λ (x : ℕ). a_node x) (eqb-true m n e)))
    (λ k. let r = among_get ms n k in (suc r.0, r.1)) h

module _ (board : ℕ) where
  abbrev below : ℕ → Things → ℕ
  below n ts = nodes_below nat_eq nat_lt board n ts

  abbrev has : ℕ → Things → Bool
  has n ts = is_node nat_eq board n ts

  -- a holder with things behind it is no other one
  had : (h n : ℕ) (ts : Things) → has h ts ≡ true → (nat_eq h n || has n ts) ≡ has n ts
  had h n ts k = by (nat_eq h n) refl
    where
      by : (b : Bool) → nat_eq h n ≡ b → (b || has n ts) ≡ has n ts
      by true e = sym (ap (λ (x : ℕ). has x ts) (sym (eqb-true h n e)) ∙ k)
      by false e = refl

  -- and one with none is none of the others
  had_not : (h n : ℕ) (ts : Things) → has h ts ≡ false → ((nat_eq h n || has n ts) && not (nat_eq h n)) ≡ has n ts
  had_not h n ts k = by (nat_eq h n) refl
    where
      by : (b : Bool) → nat_eq h n ≡ b → ((b || has n ts) && not b) ≡ has n ts
      by true e = sym (ap (λ (x : ℕ). has x ts) (sym (eqb-true h n e)) ∙ k)
      by false e = and_true (has n ts)

  abbrev AreHolders : List ℕ → Things → Type 0
  AreHolders ns ts = (n : ℕ) → among n ns ≡ has n ts

  -- as many holders are less as there are numbers that are
  as_many : (h : ℕ) (ts : Things) (ns : List ℕ) → Ascends ns → AreHolders ns ts → below h ts ≡ fewer h ns
  as_many h [] [] up are = refl
  as_many h [] (n ∷ ns) up are = absurd (false≢true (sym (are n) ∙ or_left (n == n) (among n ns) (eq-eqb n n refl)))
  as_many h (t ∷ ts) ns up are = by (is_of_board board t) (has t.holder ts) refl refl (λ ms. as_many h ts ms)
    where
      by : (o k : Bool) → is_of_board board t ≡ o → has t.holder ts ≡ k → ((ms : List ℕ) → Ascends ms → AreHolders ms ts → below h ts ≡ fewer h ms)
          → one_more (o && nat_lt t.holder h && not k) (below h ts) ≡ fewer h ns
      by false k e f ih = ih ns up (λ n. are n ∙ ap (λ (x : Bool). (x && nat_eq t.holder n) || has n ts) e)
      by true true e f ih =
          ap (λ (x : Bool). one_more x (below h ts)) (none_last (nat_lt t.holder h))
          ∙ ih ns up (λ n. are n ∙ ap (λ (x : Bool). (x && nat_eq t.holder n) || has n ts) e ∙ had t.holder n ts f)
        where
          none_last : (a : Bool) → (a && false) ≡ false
          none_last true = refl
          none_last false = refl
      by true false e f ih =
          let are_so : (n : ℕ) → among n ns ≡ (nat_eq t.holder n || has n ts) = λ n. are n ∙ ap (λ (x : Bool). (x && nat_eq t.holder n) || has n ts) e in
          let one : among t.holder ns ≡ true = are_so t.holder ∙ or_left (nat_eq t.holder t.holder) (has t.holder ts) (eq-eqb t.holder t.holder refl) in
          let rest = ih (without t.holder ns) (ascends_without t.holder ns up)
          (λ n. are_without t.holder ns up n ∙ ap (λ (x : Bool). x && not (nat_eq t.holder n)) (are_so n) ∙ had_not t.holder n ts f) in
          ap (λ (x : Bool). one_more x (below h ts)) (and_true (nat_lt t.holder h)) ∙ ap (λ (x : ℕ). one_more (nat_lt t.holder h) x) rest ∙ sym (fewer_without h t.holder ns one)

  -- ---- the node with so many below it

  abbrev from : ℕ → Things → Things → Option ℕ
  from i all ts = node_from nat_eq nat_lt board i all ts

  found : (i n : ℕ) (all ts : Things) → from i all ts ≡ Some n → (below n all ≡ i) × (has n ts ≡ true)
  found i n all [] h = absurd cc
  found i n all (t ∷ ts) h = by (is_of_board board t && (below t.holder all == i)) refl h (λ f. found i n all ts f)
    where
      by : (c : Bool) → (is_of_board board t && (below t.holder all == i)) ≡ c → (if c then Some t.holder else from i all ts) ≡ Some n
          → (from i all ts ≡ Some n → (below n all ≡ i) × (has n ts ≡ true)) → (below n all ≡ i) × (has n (t ∷ ts) ≡ true)
      by true e f ih =
          let it : t.holder ≡ n = cc in
          let of = first_of (is_of_board board t) (below t.holder all == i) e in
          let at = eqb-true (below t.holder all) i (second_of (is_of_board board t) (below t.holder all == i) e) in
          (ap (λ (x : ℕ). below x all) (sym it) ∙ at, or_left (is_of_board board t && nat_eq t.holder n) (has n ts) (and_from (is_of_board board t) (nat_eq t.holder n) of (eq-eqb t.holder n it)))
      by false e f ih =
          let r = ih f in
          (r.0, or_right (is_of_board board t && nat_eq t.holder n) (has n ts) r.1)

  finds : (i n : ℕ) (all ts : Things) → below n all ≡ i → has n ts ≡ true → (m : ℕ) × (from i all ts ≡ Some m)
  finds i n all [] at h = absurd (false≢true h)
  finds i n all (t ∷ ts) at h = by (is_of_board board t && (below t.holder all == i)) refl (λ r. finds i n all ts at r)
    where
      by : (c : Bool) → (is_of_board board t && (below t.holder all == i)) ≡ c → (has n ts ≡ true → (m : ℕ) × (from i all ts ≡ Some m))
          → (m : ℕ) × ((if c then Some t.holder else from i all ts) ≡ Some m)
      by true e ih = (t.holder, refl)
      by false e ih =
          ih (or_cases (has n ts ≡ true) (is_of_board board t && nat_eq t.holder n) (has n ts)
          (λ it. absurd (false≢true (sym e ∙ and_from (is_of_board board t) (below t.holder all == i)
          (first_of (is_of_board board t) (nat_eq t.holder n) it)
          (eq-eqb (below t.holder all) i (ap (λ (x : ℕ). below x all) (eqb-true t.holder n (second_of (is_of_board board t) (nat_eq t.holder n) it)) ∙ at)))))
          (λ more. more) h)

  module _ (all : Things) (ns : List ℕ) (up : Ascends ns) (are : AreHolders ns all) (i : ℕ) where
    stands : (m : ℕ) → from i all all ≡ Some m → slice_get ns i ≡ Some m
    stands m f =
        let r = found i m all all f in
        let k = among_get ns m (are m ∙ r.1) in
        let same : k.0 ≡ i = sym (fewer_get ns k.0 m up k.1) ∙ sym (as_many m all ns up are) ∙ r.0 in
        ap (λ (j : ℕ). slice_get ns j) (sym same) ∙ k.1

    -- the node at a place is the number that stands there
    at_place : from i all all ≡ slice_get ns i
    at_place = by (from i all all) refl (slice_get ns i) refl
      where
        by : (o : Option ℕ) → from i all all ≡ o → (q : Option ℕ) → slice_get ns i ≡ q → from i all all ≡ slice_get ns i
        by None f None e = f ∙ sym e
        by (Some m) f q e = f ∙ sym (stands m f)
        by None f (Some n) e =
            let at : below n all ≡ i = as_many n all ns up are ∙ fewer_get ns i n up e in
            let some = finds i n all all at (sym (are n) ∙ get_among ns i n e) in
            absurd (let no : no_node ≡ Some some.0 = sym f ∙ some.1 in cc)

-- the node at a place, as it is kept
pub node_kept : (board i : ℕ) (pairs : List (ℕ × ℕ)) (ts : Things) → AreNodes pairs ts → slice_get (nodes_in board pairs) i ≡ node_from nat_eq nat_lt board i ts ts
node_kept board i pairs ts h = sym (at_place board ts (nodes_in board pairs) (ascend board pairs h.order) (λ n. are_among board n pairs ∙ h.are board n) i)

-- ---- as things come and go

-- the node of a thing that comes, where it has no other of the board
came : (z pair w : Bool) → (z ≡ false → pair ≡ true → w ≡ true) → (z && pair || w) ≡ (w || pair)
came true true true f = refl
came true true false f = refl
came true false true f = refl
came true false false f = refl
came false true w f = let it : w ≡ true = f refl refl in it ∙ sym (or_right_true w)
  where
    or_right_true : (b : Bool) → (b || true) ≡ true
    or_right_true true = refl
    or_right_true false = refl
came false false true f = refl
came false false false f = refl

-- the node of a thing that goes
went : (z pair w : Bool) → (z ≡ false → pair ≡ true → w ≡ true) → (z ≡ true → pair ≡ true → w ≡ false) → ((w || pair) && not (z && pair)) ≡ w
went true true true f g = sym (g refl refl)
went true true false f g = refl
went true false true f g = refl
went true false false f g = refl
went false true true f g = refl
went false true false f g = sym (f refl refl)
went false false true f g = refl
went false false false f g = refl

pub is_not : (a : Bool) (b : Bool) → not a ≡ b → a ≡ not b
is_not true true e = absurd (false≢true e)
is_not true false e = refl
is_not false true e = refl
is_not false false e = absurd (false≢true (sym e))

-- a thing is of a pair exactly where the pair is its own
its : (b n : ℕ) (t : Thing ℕ ℕ) (ts : Things) → is_held_by nat_eq b n t ≡ true → is_node nat_eq b n ts ≡ is_node nat_eq t.board t.holder ts
its b n t ts h =
    let one = eqb-true t.board b (first_of (t.board == b) (t.holder == n) h) in
    let two = eqb-true t.holder n (second_of (t.board == b) (t.holder == n) h) in
    ap (λ (m : ℕ). is_node nat_eq m n ts) (sym one) ∙ ap (λ (m : ℕ). is_node nat_eq t.board m ts) (sym two)

-- no more pairs are kept than things stand
few_pairs : (ps : List (ℕ × ℕ)) (ts : Things) → AreInOrder ps → ((b n : ℕ) → list_any (is_pair b n) ps ≡ true → is_node nat_eq b n ts ≡ true) → length ps ≤ length ts
few_pairs [] [] up are = omega arith
few_pairs (p ∷ ps) [] up are = absurd (false≢true (are p.0 p.1 (or_left (is_pair p.0 p.1 p) (list_any (is_pair p.0 p.1) ps) (and_from (p.0 == p.0) (p.1 == p.1) (eq-eqb p.0 p.0 refl) (eq-eqb p.1 p.1 refl)))))
few_pairs ps (t ∷ ts) up are = by (list_any (is_pair t.board t.holder) ps) refl (λ qs. few_pairs qs ts)
  where
    by : (b : Bool) → list_any (is_pair t.board t.holder) ps ≡ b
        → ((qs : List (ℕ × ℕ)) → AreInOrder qs → ((b n : ℕ) → list_any (is_pair b n) qs ≡ true → is_node nat_eq b n ts ≡ true) → length qs ≤ length ts)
        → length ps ≤ length (t ∷ ts)
    by true e ih =
        let k = prefix_len (comes_before t.board t.holder) ps in
        let rest = ih (remove ps k) (out_in_order t.board t.holder ps up) (λ b n h.
        let both = sym (are_out t.board t.holder b n ps up e) ∙ h in
        let other = second_of (list_any (is_pair b n) ps) (not (is_pair b n (t.board, t.holder))) both in
        or_cases (is_node nat_eq b n ts ≡ true) (is_held_by nat_eq b n t) (is_node nat_eq b n ts)
        (λ z. absurd (false≢true (ap (λ (w : Bool). not w) (sym z) ∙ other))) (λ z. z)
        (are b n (first_of (list_any (is_pair b n) ps) (not (is_pair b n (t.board, t.holder))) both))) in
        let shorter = length_removed ps k (in_it t.board t.holder ps up e) in
        omega (arith, rest, shorter)
    by false e ih =
        let rest = ih ps up (λ b n h.
        or_cases (is_node nat_eq b n ts ≡ true) (is_held_by nat_eq b n t) (is_node nat_eq b n ts)
        (λ z. absurd (false≢true (sym e ∙ own b n z h))) (λ z. z) (are b n h)) in
        omega (arith, rest)
      where
        own : (b n : ℕ) → is_held_by nat_eq b n t ≡ true → list_any (is_pair b n) ps ≡ true → list_any (is_pair t.board t.holder) ps ≡ true
        own b n z h =
            ap (λ (m : ℕ). list_any (is_pair m t.holder) ps) (eqb-true t.board b (first_of (t.board == b) (t.holder == n) z))
            ∙ ap (λ (m : ℕ). list_any (is_pair b m) ps) (eqb-true t.holder n (second_of (t.board == b) (t.holder == n) z)) ∙ h

pub nodes_few : (ps : List (ℕ × ℕ)) (ts : Things) → AreNodes ps ts → length ts < 2 ^ 64 - 2 → length ps + 1 < 2 ^ 64
nodes_few ps ts kept few = let fewer = few_pairs ps ts kept.order (λ b n h. sym (kept.are b n) ∙ h) in omega (arith, fewer, few)

module _ (old new : List (ℕ × ℕ)) (ts : Things) (t : Thing ℕ ℕ) (z : Bool) (kept : AreNodes old ts) (order : AreInOrder new) where
  pub nodes_more : z ≡ is_new_node ts t → ((b n : ℕ) → list_any (is_pair b n) new ≡ (z && is_pair b n (t.board, t.holder) || list_any (is_pair b n) old)) → AreNodes new (ts ++ t ∷ [])
  nodes_more is are = record {
    order = order;
    are = λ b n.
        are b n ∙ ap (λ (w : Bool). z && is_held_by nat_eq b n t || w) (kept.are b n)
        ∙ came z (is_held_by nat_eq b n t) (is_node nat_eq b n ts) (λ e h. its b n t ts h ∙ is_not (is_node nat_eq t.board t.holder ts) false (sym is ∙ e))
        ∙ sym (any_push (is_held_by nat_eq b n) ts t);
  }

  module _ (q : Thing ℕ ℕ → Bool) (f : find q ts ≡ Some t) where
    -- the pair is kept
    pub nodes_has : list_any (is_pair t.board t.holder) old ≡ true
    nodes_has =
        kept.are t.board t.holder ∙ any_taken (is_held_by nat_eq t.board t.holder) q ts t f
        ∙ or_right (is_node nat_eq t.board t.holder (without_first q ts)) (is_held_by nat_eq t.board t.holder t) (and_from (t.board == t.board) (t.holder == t.holder) (eq-eqb t.board t.board refl) (eq-eqb t.holder t.holder refl))

    pub nodes_less : z ≡ is_new_node (without_first q ts) t → ((b n : ℕ) → list_any (is_pair b n) new ≡ (list_any (is_pair b n) old && not (z && is_pair b n (t.board, t.holder)))) → AreNodes new (without_first q ts)
    nodes_less is are = record {
      order = order;
      are = λ b n.
          let rest = without_first q ts in
          are b n ∙ ap (λ (w : Bool). w && not (z && is_held_by nat_eq b n t)) (kept.are b n ∙ any_taken (is_held_by nat_eq b n) q ts t f)
          ∙ went z (is_held_by nat_eq b n t) (is_node nat_eq b n rest) (λ e h. its b n t rest h ∙ is_not (is_node nat_eq t.board t.holder rest) false (sym is ∙ e))
          (λ e h. its b n t rest h ∙ is_not (is_node nat_eq t.board t.holder rest) true (sym is ∙ e));
    }
