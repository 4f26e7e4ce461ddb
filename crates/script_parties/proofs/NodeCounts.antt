-- The nodes of a board, told by how many are below them: each is told once.
use Rattle.std.proofs.Common.{◌≡◌, ℕ, ◌+◌, ◌<◌, ◌≤◌, Bool, true, false, List, [], ◌∷◌, arith, refl, sym, ap, ◌∙◌, Option, Some, inl, inr}
use Rattle.std.specs.Prelude.{◌&&◌, ◌||◌, ◌==◌, not, nat_eq, nat_lt, if◌then◌else◌}
use Rattle.std.specs.List.{AllByRecursion, list_any}
use Rattle.std.proofs.lemmas.Bool.{eqb-true, eq-eqb, lt-ltb, ltb-true, ltb-false, false≢true, false_from_ne_true, and_from, or_left, or_right}
use Rattle.board_model.specs.declared.tables.Thing.{Thing}
use Rattle.board_model.specs.Tables.{is_node, is_of_board, nodes_taken}
use Rattle.board_service.specs.Told.{node_from, nodes_below}
use Rattle.script_parties.specs.Named.{IsOfNode}
use Rattle.script_seats.proofs.SeatLemmas.{either}

abbrev pub Things : Type 0
Things = List (Thing ℕ ℕ)

-- ---- tests

pub first_of : (a b : Bool) → (a && b) ≡ true → a ≡ true
first_of true b h = refl
first_of false b h = absurd (false≢true h)

pub second_of : (a b : Bool) → (a && b) ≡ true → b ≡ true
second_of true b h = h
second_of false b h = absurd (false≢true h)

pub or_cases : (X : Type 0) (a b : Bool) → (a ≡ true → X) → (b ≡ true → X) → (a || b) ≡ true → X
or_cases X true b f g h = f refl
or_cases X false b f g h = g h

fails : (o a k : Bool) → a ≡ false → (o && a && not k) ≡ false
fails true a k e = rw e refl
fails false a k e = refl

holds : (o a k : Bool) → o ≡ true → a ≡ true → k ≡ false → (o && a && not k) ≡ true
holds o a k p q r = rw (p, q, r) refl

alone : (o k : Bool) → o ≡ true → k ≡ false → (o && not k) ≡ true
alone o k p q = rw (p, q) refl

still : (o a b k : Bool) → (a ≡ true → b ≡ true) → (o && a && not k) ≡ true → (o && b && not k) ≡ true
still false a b k f h = h
still true false b k f h = absurd (false≢true h)
still true true b k f h = rw (f refl) h

also : (o a k : Bool) → (o && a && not k) ≡ true → (o && not k) ≡ true
also false a k h = h
also true false k h = absurd (false≢true h)
also true true k h = h

-- ---- counts

abbrev a_node : ℕ → Option ℕ
a_node n = Some n

abbrev one_more : Bool → ℕ → ℕ
one_more b n = if b then n + 1 else n

more_le : (a b : Bool) (x y : ℕ) → (a ≡ true → b ≡ true) → x ≤ y → one_more a x ≤ one_more b y
more_le true true x y f h = omega (arith, h)
more_le true false x y f h = absurd (false≢true (f refl))
more_le false true x y f h = omega (arith, h)
more_le false false x y f h = h

more_lt : (a b : Bool) (x y : ℕ) → (a ≡ true → b ≡ true) → x < y → one_more a x < one_more b y
more_lt true true x y f h = omega (arith, h)
more_lt true false x y f h = absurd (false≢true (f refl))
more_lt false true x y f h = omega (arith, h)
more_lt false false x y f h = h

-- one is counted on the right alone
one_lt : (a b : Bool) (x y : ℕ) → a ≡ false → b ≡ true → x ≤ y → one_more a x < one_more b y
one_lt true b x y e f h = absurd (false≢true (sym e))
one_lt false true x y e f h = omega (arith, h)
one_lt false false x y e f h = absurd (false≢true f)

module _ (board : ℕ) where
  abbrev pub below : ℕ → Things → ℕ
  below n ts = nodes_below nat_eq nat_lt board n ts

  abbrev pub has : ℕ → Things → Bool
  has n ts = is_node nat_eq board n ts

  abbrev pub from : ℕ → Things → Things → Option ℕ
  from i all ts = node_from nat_eq nat_lt board i all ts

  abbrev pub taken : Things → ℕ
  taken ts = nodes_taken nat_eq board ts

  less_too : (m n h : ℕ) → m ≤ n → nat_lt h m ≡ true → nat_lt h n ≡ true
  less_too m n h le e = lt-ltb h n (let less : h < m = ltb-true h m e in omega (arith, less, le))

  below_le : (m n : ℕ) (ts : Things) → m ≤ n → below m ts ≤ below n ts
  below_le m n [] le = omega arith
  below_le m n (t ∷ ts) le =
      more_le (is_of_board board t && nat_lt t.holder m && not (has t.holder ts)) (is_of_board board t && nat_lt t.holder n && not (has t.holder ts)) (below m ts) (below n ts)
      (still (is_of_board board t) (nat_lt t.holder m) (nat_lt t.holder n) (has t.holder ts) (less_too m n t.holder le)) (below_le m n ts le)

  below_all : (m : ℕ) (ts : Things) → below m ts ≤ taken ts
  below_all m [] = omega arith
  below_all m (t ∷ ts) =
      more_le (is_of_board board t && nat_lt t.holder m && not (has t.holder ts)) (is_of_board board t && not (has t.holder ts)) (below m ts) (taken ts)
      (also (is_of_board board t) (nat_lt t.holder m) (has t.holder ts)) (below_all m ts)

  -- a holder isn't below itself
  not_below : (m h : ℕ) → h ≡ m → nat_lt h m ≡ false
  not_below m h e = false_from_ne_true (nat_lt h m) (λ k. let less : h < m = ltb-true h m k in omega (arith, less, e))

  -- a node is counted below a greater one
  below_lt : (m n : ℕ) (ts : Things) → m < n → has m ts ≡ true → below m ts < below n ts
  below_lt m n [] lt h = absurd (false≢true h)
  below_lt m n (t ∷ ts) lt h =
      let less = still (is_of_board board t) (nat_lt t.holder m) (nat_lt t.holder n) (has t.holder ts) (less_too m n t.holder (omega (arith, lt))) in
      elim (either (has m ts)) [
        | inl k ↦
            more_lt (is_of_board board t && nat_lt t.holder m && not (has t.holder ts)) (is_of_board board t && nat_lt t.holder n && not (has t.holder ts)) (below m ts) (below n ts)
            less (below_lt m n ts lt k)
        | inr k ↦ or_cases (below m (t ∷ ts) < below n (t ∷ ts)) (is_of_board board t && nat_eq t.holder m) (has m ts)
            (λ it.
            let is : t.holder ≡ m = eqb-true t.holder m (second_of (is_of_board board t) (nat_eq t.holder m) it) in
            one_lt (is_of_board board t && nat_lt t.holder m && not (has t.holder ts)) (is_of_board board t && nat_lt t.holder n && not (has t.holder ts)) (below m ts) (below n ts)
            (fails (is_of_board board t) (nat_lt t.holder m) (has t.holder ts) (not_below m t.holder is))
            (holds (is_of_board board t) (nat_lt t.holder n) (has t.holder ts) (first_of (is_of_board board t) (nat_eq t.holder m) it) (lt-ltb t.holder n (omega (arith, is, lt))) (ap (λ (x : ℕ). has x ts) is ∙ k))
            (below_le m n ts (omega (arith, lt))))
            (λ more. absurd (false≢true (sym k ∙ more))) h
      ]

  -- and among all
  below_taken : (m : ℕ) (ts : Things) → has m ts ≡ true → below m ts < taken ts
  below_taken m [] h = absurd (false≢true h)
  below_taken m (t ∷ ts) h =
      elim (either (has m ts)) [
        | inl k ↦
            more_lt (is_of_board board t && nat_lt t.holder m && not (has t.holder ts)) (is_of_board board t && not (has t.holder ts)) (below m ts) (taken ts)
            (also (is_of_board board t) (nat_lt t.holder m) (has t.holder ts)) (below_taken m ts k)
        | inr k ↦ or_cases (below m (t ∷ ts) < taken (t ∷ ts)) (is_of_board board t && nat_eq t.holder m) (has m ts)
            (λ it.
            let is : t.holder ≡ m = eqb-true t.holder m (second_of (is_of_board board t) (nat_eq t.holder m) it) in
            one_lt (is_of_board board t && nat_lt t.holder m && not (has t.holder ts)) (is_of_board board t && not (has t.holder ts)) (below m ts) (taken ts)
            (fails (is_of_board board t) (nat_lt t.holder m) (has t.holder ts) (not_below m t.holder is))
            (alone (is_of_board board t) (has t.holder ts) (first_of (is_of_board board t) (nat_eq t.holder m) it) (ap (λ (x : ℕ). has x ts) is ∙ k))
            (below_all m ts))
            (λ more. absurd (false≢true (sym k ∙ more))) h
      ]

  -- so no two have as many below them
  one_node : (m n : ℕ) (ts : Things) → has m ts ≡ true → has n ts ≡ true → below m ts ≡ below n ts → m ≡ n
  one_node m n ts h k e = by (nat_lt m n) (nat_lt n m) refl refl
    where
      by : (a b : Bool) → nat_lt m n ≡ a → nat_lt n m ≡ b → m ≡ n
      by true b p q = absurd (let less : below m ts < below n ts = below_lt m n ts (ltb-true m n p) h in omega (arith, less, e))
      by false true p q = absurd (let less : below n ts < below m ts = below_lt n m ts (ltb-true n m q) k in omega (arith, less, e))
      by false false p q = (let a : n ≤ m = ltb-false m n p in let b : m ≤ n = ltb-false n m q in omega (arith, a, b))

  -- ---- the node with so many below it

  pub told_node : (i n : ℕ) (all ts : Things) → from i all ts ≡ Some n → (below n all ≡ i) × (has n ts ≡ true)
  told_node i n all [] h = absurd cc
  told_node i n all (t ∷ ts) h = by (is_of_board board t && (below t.holder all == i)) refl h (λ f. told_node i n all ts f)
    where
      by : (c : Bool) → (is_of_board board t && (below t.holder all == i)) ≡ c → (if c then Some t.holder else from i all ts) ≡ Some n
          → (from i all ts ≡ Some n → (below n all ≡ i) × (has n ts ≡ true)) → (below n all ≡ i) × (has n (t ∷ ts) ≡ true)
      by true e f ih =
          let it : t.holder ≡ n = cc in
          let of = first_of (is_of_board board t) (below t.holder all == i) e in
          let at = eqb-true (below t.holder all) i (second_of (is_of_board board t) (below t.holder all == i) e) in
          (ap (λ (x : ℕ). below x all) (sym it) ∙ at, or_left (is_of_board board t && nat_eq t.holder n) (has n ts) (and_from (is_of_board board t) (nat_eq t.holder n) of (eq-eqb t.holder n it)))
      by false e f ih =
          let r = ih f in
          (r.0, or_right (is_of_board board t && nat_eq t.holder n) (has n ts) r.1)

  tells : (i n : ℕ) (all ts : Things) → below n all ≡ i → has n ts ≡ true → (m : ℕ) × (from i all ts ≡ Some m)
  tells i n all [] at h = absurd (false≢true h)
  tells i n all (t ∷ ts) at h = by (is_of_board board t && (below t.holder all == i)) refl (λ r. tells i n all ts at r)
    where
      by : (c : Bool) → (is_of_board board t && (below t.holder all == i)) ≡ c → (has n ts ≡ true → (m : ℕ) × (from i all ts ≡ Some m))
          → (m : ℕ) × ((if c then Some t.holder else from i all ts) ≡ Some m)
      by true e ih = (t.holder, refl)
      by false e ih =
          ih (or_cases (has n ts ≡ true) (is_of_board board t && nat_eq t.holder n) (has n ts)
          (λ it. absurd (false≢true (sym e ∙ and_from (is_of_board board t) (below t.holder all == i)
          (first_of (is_of_board board t) (nat_eq t.holder n) it)
          (eq-eqb (below t.holder all) i (ap (λ (x : ℕ). below x all) (eqb-true t.holder n (second_of (is_of_board board t) (nat_eq t.holder n) it)) ∙ at)))))
          (λ more. more) h)

  -- each node is told, and before as many as there are
  pub node_told : (n : ℕ) (ts : Things) → has n ts ≡ true → (i : ℕ) × (i < taken ts) × (from i ts ts ≡ Some n)
  node_told n ts h =
      let i = below n ts in
      let some = tells i n ts ts refl h in
      let is = told_node i some.0 ts ts some.1 in
      (i, below_taken n ts h, some.1 ∙ ap (λ (x : ℕ). a_node x) (one_node some.0 n ts is.1 h is.0))

  -- ---- who a node is

  pub node_within : (count m : ℕ) (ts : Things) → AllByRecursion (IsOfNode count) ts → has m ts ≡ true → (0 < m) × (m ≤ count)
  node_within count m [] all h = absurd (false≢true h)
  node_within count m (t ∷ ts) all h = or_cases ((0 < m) × (m ≤ count)) (is_of_board board t && nat_eq t.holder m) (has m ts)
      (λ it.
      let is : t.holder ≡ m = eqb-true t.holder m (second_of (is_of_board board t) (nat_eq t.holder m) it) in
      let some : 0 < t.holder = all.0.some in
      let most : t.holder ≤ count = all.0.most in
      (omega (arith, is, some), omega (arith, is, most)))
      (λ more. node_within count m ts all.1 more) h

  pub board_there : (m : ℕ) (ts : Things) → has m ts ≡ true → list_any (is_of_board board) ts ≡ true
  board_there m [] h = absurd (false≢true h)
  board_there m (t ∷ ts) h = or_cases (list_any (is_of_board board) (t ∷ ts) ≡ true) (is_of_board board t && nat_eq t.holder m) (has m ts)
      (λ it. or_left (is_of_board board t) (list_any (is_of_board board) ts) (first_of (is_of_board board t) (nat_eq t.holder m) it))
      (λ more. or_right (is_of_board board t) (list_any (is_of_board board) ts) (board_there m ts more)) h
