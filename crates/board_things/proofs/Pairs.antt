-- Pairs of a board and a node, in order, as one comes and one goes.
use Rattle.std.proofs.Common.{◌≡◌, ℕ, zero, suc, ◌+◌, ◌<◌, ◌≤◌, Bool, true, false, cond, List, [], ◌∷◌, length, drop, refl, sym, ap, ◌∙◌, subst, arith}
use Rattle.std.specs.Prelude.{◌&&◌, ◌||◌, ◌==◌, not, nat_eq, nat_lt, slice_get, slice_index_or, if◌then◌else◌, Option, None}
use Rattle.std.specs.Bool.{then_some}
use Rattle.std.specs.List.{AllByRecursion, insert, list_any, prefix_len, remove}
use Rattle.std.specs.List.Sorted.{IsPartitionPoint, IsPartitionedBy}
use Rattle.std.proofs.lemmas.Bool.{eqb-true, eqb-false, eq-eqb, lt-ltb, ltb-true, ltb-false, false≢true, false_from_ne_true, and_from, or_right, or_left}
use Rattle.board_things.specs.Nodes.{AreInOrder, comes_before, is_pair, node_of, nodes_in}

abbrev pub Pair : Type 0
Pair = ℕ × ℕ

-- ---- the order of pairs

-- one pair comes before another
abbrev pub before : Pair → Pair → Bool
before p q = comes_before q.0 q.1 p

-- both are one pair
abbrev same : Pair → Pair → Bool
same p q = is_pair q.0 q.1 p

or_cases : (X : Type 0) (a b : Bool) → (a ≡ true → X) → (b ≡ true → X) → (a || b) ≡ true → X
or_cases X true b f g h = f refl
or_cases X false b f g h = g h

and_parts : (X : Type 0) (a b : Bool) → (a ≡ true → b ≡ true → X) → (a && b) ≡ true → X
and_parts X true b f h = f refl h
and_parts X false b f h = absurd (false≢true h)

-- what comes before in its board, or in an earlier one
earlier : (p q : Pair) → p.0 < q.0 → before p q ≡ true
earlier p q lt = or_left (nat_lt p.0 q.0) (p.0 == q.0 && nat_lt p.1 q.1) (lt-ltb p.0 q.0 lt)

beside : (p q : Pair) → p.0 ≡ q.0 → p.1 < q.1 → before p q ≡ true
beside p q e lt = or_right (nat_lt p.0 q.0) (p.0 == q.0 && nat_lt p.1 q.1) (and_from (p.0 == q.0) (nat_lt p.1 q.1) (eq-eqb p.0 q.0 e) (lt-ltb p.1 q.1 lt))

-- one of both
cases : (X : Type 0) (p q : Pair) → before p q ≡ true → (p.0 < q.0 → X) → (p.0 ≡ q.0 → p.1 < q.1 → X) → X
cases X p q h f g =
    or_cases X (nat_lt p.0 q.0) (p.0 == q.0 && nat_lt p.1 q.1) (λ k. f (ltb-true p.0 q.0 k))
    (λ k. and_parts X (p.0 == q.0) (nat_lt p.1 q.1) (λ e lt. g (eqb-true p.0 q.0 e) (ltb-true p.1 q.1 lt)) k) h

pub before_next : (p q r : Pair) → before p q ≡ true → before q r ≡ true → before p r ≡ true
before_next p q r h k =
    cases (before p r ≡ true) p q h
    (λ a. cases (before p r ≡ true) q r k (λ b. earlier p r (omega (arith, a, b))) (λ b c. earlier p r (omega (arith, a, b))))
    (λ a d. cases (before p r ≡ true) q r k (λ b. earlier p r (omega (arith, a, b))) (λ b c. beside p r (a ∙ b) (omega (arith, d, c))))

-- a pair that comes before isn't the other one
pub not_same : (p q : Pair) → before p q ≡ true → same p q ≡ false
not_same p q h = false_from_ne_true (same p q) (λ k.
    and_parts ⊥ (p.0 == q.0) (p.1 == q.1) (λ e f. cases ⊥ p q h (λ a. omega (arith, a, eqb-true p.0 q.0 e)) (λ a b. omega (arith, b, eqb-true p.1 q.1 f))) k)

-- of two pairs that differ one comes before
pub turned : (p q : Pair) → before p q ≡ false → same p q ≡ false → before q p ≡ true
turned p q h d = by (nat_lt q.0 p.0) (nat_lt p.0 q.0) (nat_lt q.1 p.1) (nat_lt p.1 q.1) refl refl refl refl
  where
    by : (a b c e : Bool) → nat_lt q.0 p.0 ≡ a → nat_lt p.0 q.0 ≡ b → nat_lt q.1 p.1 ≡ c → nat_lt p.1 q.1 ≡ e → before q p ≡ true
    by true b c e f g i j = earlier q p (ltb-true q.0 p.0 f)
    by false true c e f g i j = absurd (false≢true (sym h ∙ earlier p q (ltb-true p.0 q.0 g)))
    by false false true e f g i j = beside q p (omega (arith, ltb-false q.0 p.0 f, ltb-false p.0 q.0 g)) (ltb-true q.1 p.1 i)
    by false false false true f g i j = absurd (false≢true (sym h ∙ beside p q (omega (arith, ltb-false q.0 p.0 f, ltb-false p.0 q.0 g)) (ltb-true p.1 q.1 j)))
    by false false false false f g i j =
        absurd (false≢true (sym d ∙ and_from (p.0 == q.0) (p.1 == q.1) (eq-eqb p.0 q.0 (omega (arith, ltb-false q.0 p.0 f, ltb-false p.0 q.0 g))) (eq-eqb p.1 q.1 (omega (arith, ltb-false q.1 p.1 i, ltb-false p.1 q.1 j)))))

-- ---- all of a list

abbrev pub AllAfter : Pair → List Pair → Type 0
AllAfter p qs = AllByRecursion (λ (q : Pair). before p q ≡ true) qs

all_at : (p : Pair) (qs : List Pair) (k : ℕ) (d : Pair) → AllAfter p qs → k < length qs → before p (slice_index_or qs k d) ≡ true
all_at p [] k d h lt = absurd (omega (arith, lt))
all_at p (q ∷ qs) zero d h lt = h.0
all_at p (q ∷ qs) (suc k) d h lt = all_at p qs k d h.1 (omega (arith, lt))

all_after : (p q : Pair) (qs : List Pair) → before p q ≡ true → AllAfter q qs → AllAfter p qs
all_after p q [] h k = tt
all_after p q (r ∷ rs) h k = (before_next p q r h k.0, all_after p q rs h k.1)

-- ---- a place between those that pass a test and those that don't

module _ {X : Type 0} (test : X → Bool) where
  pub placed : (xs : List X) (i : ℕ) → i ≤ length xs → IsPartitionPoint (λ x. test x ≡ true) (λ x. test x ≡ false) xs i → i ≡ prefix_len test xs
  placed [] i le h = omega (arith, le)
  placed (x ∷ xs) zero le h = sym (ap (λ (b : Bool). cond b (1 + prefix_len test xs) 0) (h.1 0 x (omega arith) (omega arith)))
  placed (x ∷ xs) (suc i) le h =
      let here : test x ≡ true = h.0 0 x (omega arith) (omega arith) in
      let rest = placed xs i (omega (arith, le)) (
        λ k d low high. h.0 (suc k) d (omega arith) (omega (arith, high)),
        λ k d low high. h.1 (suc k) d (omega (arith, low)) (omega (arith, high)),
      ) in
      let one : suc i ≡ 1 + prefix_len test xs = omega (arith, rest) in
      one ∙ sym (ap (λ (b : Bool). cond b (1 + prefix_len test xs) 0) here)

-- ---- where the pairs begin that don't come before one

module _ (board node : ℕ) where
  abbrev less : Pair → Bool
  less p = comes_before board node p

  abbrev it : Pair
  it = (board, node)

  pub parted : (ps : List Pair) → AreInOrder ps → IsPartitionedBy less ps
  parted [] up i j d le lt h = absurd (omega (arith, lt))
  parted (p ∷ ps) up zero zero d le lt h = h
  parted (p ∷ ps) up zero (suc j) d le lt h = before_next p (slice_index_or ps j d) it (all_at p ps j d up.0 (omega (arith, lt))) h
  parted (p ∷ ps) up (suc i) zero d le lt h = absurd (omega (arith, le))
  parted (p ∷ ps) up (suc i) (suc j) d le lt h = parted ps up.1 i j d (omega (arith, le)) (omega (arith, lt)) h

  -- ---- one more

  abbrev pub put : List Pair → List Pair
  put ps = insert ps (prefix_len less ps) it

  -- as it goes on behind a pair that comes before, or stops
  put_on : (p : Pair) (ps : List Pair) → less p ≡ true → put (p ∷ ps) ≡ p ∷ put ps
  put_on p ps h =
      let n : prefix_len less (p ∷ ps) ≡ suc (prefix_len less ps) = ap (λ (b : Bool). cond b (1 + prefix_len less ps) 0) h ∙ omega arith in
      ap (λ (k : ℕ). insert (p ∷ ps) k it) n

  put_here : (p : Pair) (ps : List Pair) → less p ≡ false → put (p ∷ ps) ≡ it ∷ p ∷ ps
  put_here p ps h =
      let n : prefix_len less (p ∷ ps) ≡ 0 = ap (λ (b : Bool). cond b (1 + prefix_len less ps) 0) h in
      ap (λ (k : ℕ). insert (p ∷ ps) k it) n

  all_put : (p : Pair) (ps : List Pair) → less p ≡ true → AllAfter p ps → AllAfter p (put ps)
  all_put p [] h k = (h, tt)
  all_put p (q ∷ qs) h k = by (less q) refl (all_put p qs h k.1)
    where
      by : (b : Bool) → less q ≡ b → AllAfter p (put qs) → AllAfter p (put (q ∷ qs))
      by true e ih = subst (λ (ps : List Pair). AllAfter p ps) (sym (put_on q qs e)) (k.0, ih)
      by false e ih = subst (λ (ps : List Pair). AllAfter p ps) (sym (put_here q qs e)) (h, (k.0, k.1))

  pub put_in_order : (ps : List Pair) → AreInOrder ps → list_any (is_pair board node) ps ≡ false → AreInOrder (put ps)
  put_in_order [] up none = (tt, tt)
  put_in_order (p ∷ ps) up none = by (is_pair board node p) none (less p) refl (put_in_order ps up.1)
    where
      by : (c : Bool) → (c || list_any (is_pair board node) ps) ≡ false → (b : Bool) → less p ≡ b → (list_any (is_pair board node) ps ≡ false → AreInOrder (put ps)) → AreInOrder (put (p ∷ ps))
      by true k b e ih = absurd (false≢true (sym k))
      by false k true e ih = subst AreInOrder (sym (put_on p ps e)) (all_put p ps e up.0, ih k)
      by false k false e ih =
          let other : is_pair board node p ≡ false = none_first (is_pair board node p) (list_any (is_pair board node) ps) none in
          let first : before it p ≡ true = turned p it e other in
          subst AreInOrder (sym (put_here p ps e)) ((first, all_after it p ps first up.0), up)
        where
          none_first : (a c : Bool) → (a || c) ≡ false → a ≡ false
          none_first true c h = absurd (false≢true (sym h))
          none_first false c h = refl

  swapped : (a b c : Bool) → (a || (b || c)) ≡ (b || (a || c))
  swapped true true c = refl
  swapped true false c = refl
  swapped false b c = refl

  pub are_put : (b n : ℕ) (ps : List Pair) → list_any (is_pair b n) (put ps) ≡ (is_pair b n it || list_any (is_pair b n) ps)
  are_put b n [] = refl
  are_put b n (p ∷ ps) = by (less p) refl (are_put b n ps)
    where
      by : (z : Bool) → less p ≡ z → list_any (is_pair b n) (put ps) ≡ (is_pair b n it || list_any (is_pair b n) ps)
          → list_any (is_pair b n) (put (p ∷ ps)) ≡ (is_pair b n it || (is_pair b n p || list_any (is_pair b n) ps))
      by true e ih = ap (λ (qs : List Pair). list_any (is_pair b n) qs) (put_on p ps e) ∙ ap (λ (z : Bool). is_pair b n p || z) ih ∙ swapped (is_pair b n p) (is_pair b n it) (list_any (is_pair b n) ps)
      by false e ih = ap (λ (qs : List Pair). list_any (is_pair b n) qs) (put_here p ps e)

  -- ---- one less

  abbrev pub out : List Pair → List Pair
  out ps = remove ps (prefix_len less ps)

  out_on : (p : Pair) (ps : List Pair) → less p ≡ true → out (p ∷ ps) ≡ p ∷ out ps
  out_on p ps h =
      let n : prefix_len less (p ∷ ps) ≡ suc (prefix_len less ps) = ap (λ (b : Bool). cond b (1 + prefix_len less ps) 0) h ∙ omega arith in
      ap (λ (k : ℕ). remove (p ∷ ps) k) n

  out_here : (p : Pair) (ps : List Pair) → less p ≡ false → out (p ∷ ps) ≡ ps
  out_here p ps h =
      let n : prefix_len less (p ∷ ps) ≡ 0 = ap (λ (b : Bool). cond b (1 + prefix_len less ps) 0) h in
      ap (λ (k : ℕ). remove (p ∷ ps) k) n

  all_out : (p : Pair) (ps : List Pair) → AllAfter p ps → AllAfter p (out ps)
  all_out p [] k = tt
  all_out p (q ∷ qs) k = by (less q) refl (all_out p qs k.1)
    where
      by : (b : Bool) → less q ≡ b → AllAfter p (out qs) → AllAfter p (out (q ∷ qs))
      by true e ih = subst (λ (ps : List Pair). AllAfter p ps) (sym (out_on q qs e)) (k.0, ih)
      by false e ih = subst (λ (ps : List Pair). AllAfter p ps) (sym (out_here q qs e)) k.1

  pub out_in_order : (ps : List Pair) → AreInOrder ps → AreInOrder (out ps)
  out_in_order [] up = tt
  out_in_order (p ∷ ps) up = by (less p) refl (out_in_order ps up.1)
    where
      by : (b : Bool) → less p ≡ b → AreInOrder (out ps) → AreInOrder (out (p ∷ ps))
      by true e ih = subst AreInOrder (sym (out_on p ps e)) (all_out p ps up.0, ih)
      by false e ih = subst AreInOrder (sym (out_here p ps e)) up.1

  -- it stands where the pairs end that come before it
  there : (p : Pair) (ps : List Pair) → less p ≡ false → AllAfter p ps → list_any (is_pair board node) (p ∷ ps) ≡ true → is_pair board node p ≡ true
  there p [] e k h = or_cases (is_pair board node p ≡ true) (is_pair board node p) false (λ z. z) (λ z. absurd (false≢true z)) h
  there p (q ∷ qs) e k h =
      or_cases (is_pair board node p ≡ true) (is_pair board node p) (list_any (is_pair board node) (q ∷ qs)) (λ z. z)
      (λ z. or_cases (is_pair board node p ≡ true) (is_pair board node q) (list_any (is_pair board node) qs)
      (λ s. absurd (false≢true (sym e ∙ comes q s k.0)))
      (λ s. there p qs e k.1 (or_right (is_pair board node p) (list_any (is_pair board node) qs) s)) z) h
    where
      comes : (q : Pair) → is_pair board node q ≡ true → before p q ≡ true → less p ≡ true
      comes q s b = and_parts (less p ≡ true) (q.0 == board) (q.1 == node) (λ f g. subst (λ (n : ℕ). comes_before board n p ≡ true) (eqb-true q.1 node g) (subst (λ (n : ℕ). comes_before n q.1 p ≡ true) (eqb-true q.0 board f) b)) s

  pub in_it : (ps : List Pair) → AreInOrder ps → list_any (is_pair board node) ps ≡ true → prefix_len less ps < length ps
  in_it [] up h = absurd (false≢true h)
  in_it (p ∷ ps) up h = by (less p) refl (in_it ps up.1)
    where
      by : (b : Bool) → less p ≡ b → (list_any (is_pair board node) ps ≡ true → prefix_len less ps < length ps) → prefix_len less (p ∷ ps) < length (p ∷ ps)
      by true e ih =
          let n : prefix_len less (p ∷ ps) ≡ 1 + prefix_len less ps = ap (λ (z : Bool). cond z (1 + prefix_len less ps) 0) e in
          let apart : is_pair board node p ≡ false = not_same p it e in
          let rest : list_any (is_pair board node) ps ≡ true = or_cases (list_any (is_pair board node) ps ≡ true) (is_pair board node p) (list_any (is_pair board node) ps) (λ z. absurd (false≢true (sym apart ∙ z))) (λ z. z) h in
          omega (arith, n, ih rest)
      by false e ih =
          let n : prefix_len less (p ∷ ps) ≡ 0 = ap (λ (z : Bool). cond z (1 + prefix_len less ps) 0) e in
          omega (arith, n)

  -- a pair that isn't among those behind this one
  none_behind : (b n : ℕ) (p : Pair) (ps : List Pair) → is_pair b n p ≡ true → AllAfter p ps → list_any (is_pair b n) ps ≡ false
  none_behind b n p [] s k = refl
  none_behind b n p (q ∷ qs) s k =
      let other : is_pair b n q ≡ false = false_from_ne_true (is_pair b n q) (λ z.
      and_parts ⊥ (p.0 == b) (p.1 == n) (λ e f. and_parts ⊥ (q.0 == b) (q.1 == n) (λ g i.
      cases ⊥ p q k.0 (λ a. omega (arith, a, eqb-true p.0 b e, eqb-true q.0 b g)) (λ a c. omega (arith, c, eqb-true p.1 n f, eqb-true q.1 n i))) z) s) in
      ap (λ (z : Bool). z || list_any (is_pair b n) qs) other ∙ none_behind b n p qs s k.1

  pub are_out : (b n : ℕ) (ps : List Pair) → AreInOrder ps → list_any (is_pair board node) ps ≡ true → list_any (is_pair b n) (out ps) ≡ (list_any (is_pair b n) ps && not (is_pair b n it))
  are_out b n [] up h = refl
  are_out b n (p ∷ ps) up h = by (less p) refl (are_out b n ps up.1)
    where
      kept : (a c z : Bool) → (a ≡ true → c ≡ false) → (a || (z && not c)) ≡ ((a || z) && not c)
      kept true true z f = absurd (false≢true (sym (f refl)))
      kept true false z f = refl
      kept false c z f = refl

      gone : (a c z : Bool) → a ≡ c → (a ≡ true → z ≡ false) → z ≡ ((a || z) && not c)
      gone true true z e f = f refl
      gone false false true e f = refl
      gone false false false e f = refl
      gone true false z e f = absurd (false≢true (sym e))
      gone false true z e f = absurd (false≢true e)

      by : (z : Bool) → less p ≡ z → (list_any (is_pair board node) ps ≡ true → list_any (is_pair b n) (out ps) ≡ (list_any (is_pair b n) ps && not (is_pair b n it)))
          → list_any (is_pair b n) (out (p ∷ ps)) ≡ ((is_pair b n p || list_any (is_pair b n) ps) && not (is_pair b n it))
      by true e ih =
          let apart : is_pair board node p ≡ false = not_same p it e in
          let rest : list_any (is_pair board node) ps ≡ true = or_cases (list_any (is_pair board node) ps ≡ true) (is_pair board node p) (list_any (is_pair board node) ps) (λ z. absurd (false≢true (sym apart ∙ z))) (λ z. z) h in
          let differ : is_pair b n p ≡ true → is_pair b n it ≡ false = λ s. false_from_ne_true (is_pair b n it) (λ z.
          and_parts ⊥ (p.0 == b) (p.1 == n) (λ f g. and_parts ⊥ (board == b) (node == n) (λ i j.
          cases ⊥ p it e (λ a. omega (arith, a, eqb-true p.0 b f, eqb-true board b i)) (λ a c. omega (arith, c, eqb-true p.1 n g, eqb-true node n j))) z) s) in
          ap (λ (qs : List Pair). list_any (is_pair b n) qs) (out_on p ps e) ∙ ap (λ (z : Bool). is_pair b n p || z) (ih rest) ∙ kept (is_pair b n p) (is_pair b n it) (list_any (is_pair b n) ps) differ
      by false e ih =
          let s = there p ps e up.0 h in
          let its : is_pair b n p ≡ is_pair b n it = and_parts (is_pair b n p ≡ is_pair b n it) (p.0 == board) (p.1 == node) (λ f g. ap (λ (m : ℕ). m == b && p.1 == n) (eqb-true p.0 board f) ∙ ap (λ (m : ℕ). board == b && m == n) (eqb-true p.1 node g)) s in
          ap (λ (qs : List Pair). list_any (is_pair b n) qs) (out_here p ps e) ∙ gone (is_pair b n p) (is_pair b n it) (list_any (is_pair b n) ps) its (λ z. none_behind b n p ps z up.0)

-- ---- the nodes beside a board

-- each number is less than all that follow it
abbrev pub Ascends : List ℕ → Type 0
Ascends [] = Unit {0}
Ascends (n ∷ ns) = AllByRecursion (λ (m : ℕ). n < m) ns × Ascends ns

abbrev pub among : ℕ → List ℕ → Bool
among n ns = list_any (λ m. m == n) ns

no_node : Option ℕ
no_node = None

module _ (board : ℕ) where
  abbrev nodes : List Pair → List ℕ
  nodes ps = nodes_in board ps

  nodes_of : (p : Pair) (ps : List Pair) → p.0 ≡ board → nodes (p ∷ ps) ≡ p.1 ∷ nodes ps
  nodes_of p ps e = ap (λ (b : Bool). if b then p.1 ∷ nodes ps else nodes ps) (eq-eqb p.0 board e)

  nodes_past : (p : Pair) (ps : List Pair) → (p.0 ≡ board → ⊥) → nodes (p ∷ ps) ≡ nodes ps
  nodes_past p ps other = ap (λ (b : Bool). if b then p.1 ∷ nodes ps else nodes ps) (false_from_ne_true (p.0 == board) (λ e. other (eqb-true p.0 board e)))

  -- the first pairs that don't come before any of the board are its own
  none_later : (ps : List Pair) (i : ℕ) → AllByRecursion (λ (p : Pair). board < p.0) ps → node_of board (slice_get ps i) ≡ None
  none_later [] i h = refl
  none_later (p ∷ ps) zero h = ap (λ (b : Bool). then_some b p.1) (false_from_ne_true (p.0 == board) (λ e. omega (arith, h.0, eqb-true p.0 board e)))
  none_later (p ∷ ps) (suc i) h = none_later ps i h.1

  no_nodes : (ps : List Pair) → AllByRecursion (λ (p : Pair). board < p.0) ps → nodes ps ≡ []
  no_nodes [] h = refl
  no_nodes (p ∷ ps) h = nodes_past p ps (λ e. omega (arith, h.0, e)) ∙ no_nodes ps h.1

  not_below : (p : Pair) (ps : List Pair) → board ≤ p.0 → AllAfter p ps → AllByRecursion (λ (q : Pair). board ≤ q.0) ps
  not_below p [] le h = tt
  not_below p (q ∷ qs) le h = (cases (board ≤ q.0) p q h.0 (λ lt. omega (arith, le, lt)) (λ e lt. omega (arith, le, e)), not_below p qs le h.1)

  above : (p : Pair) (ps : List Pair) → board < p.0 → AllAfter p ps → AllByRecursion (λ (q : Pair). board < q.0) ps
  above p [] lt h = tt
  above p (q ∷ qs) lt h = (cases (board < q.0) p q h.0 (λ k. omega (arith, lt, k)) (λ e k. omega (arith, lt, e)), above p qs lt h.1)

  from_here : (ps : List Pair) → AreInOrder ps → AllByRecursion (λ (p : Pair). board ≤ p.0) ps → (i : ℕ) → node_of board (slice_get ps i) ≡ slice_get (nodes ps) i
  from_here [] up h i = refl
  from_here (p ∷ ps) up h i = by (nat_eq p.0 board) refl i (from_here ps up.1 h.1)
    where
      by : (b : Bool) → nat_eq p.0 board ≡ b → (i : ℕ) → ((j : ℕ) → node_of board (slice_get ps j) ≡ slice_get (nodes ps) j) → node_of board (slice_get (p ∷ ps) i) ≡ slice_get (nodes (p ∷ ps)) i
      by true e zero ih = ap (λ (b : Bool). then_some b p.1) e ∙ sym (ap (λ (ns : List ℕ). slice_get ns 0) (nodes_of p ps (eqb-true p.0 board e)))
      by true e (suc i) ih = ih i ∙ sym (ap (λ (ns : List ℕ). slice_get ns (suc i)) (nodes_of p ps (eqb-true p.0 board e)))
      by false e i ih =
          let other : board < p.0 = omega (arith, h.0, eqb-false p.0 board e) in
          let all : AllByRecursion (λ (q : Pair). board < q.0) (p ∷ ps) = (other, above p ps other up.0) in
          none_later (p ∷ ps) i all ∙ sym (ap (λ (ns : List ℕ). slice_get ns i) (no_nodes (p ∷ ps) all))

  pub node_at : (ps : List Pair) → AreInOrder ps → (i : ℕ) → node_of board (slice_get (drop (prefix_len (comes_before board 0) ps) ps) i) ≡ slice_get (nodes ps) i
  node_at [] up i = refl
  node_at (p ∷ ps) up i = by (comes_before board 0 p) refl (node_at ps up.1 i)
    where
      by : (b : Bool) → comes_before board 0 p ≡ b → node_of board (slice_get (drop (prefix_len (comes_before board 0) ps) ps) i) ≡ slice_get (nodes ps) i
          → node_of board (slice_get (drop (prefix_len (comes_before board 0) (p ∷ ps)) (p ∷ ps)) i) ≡ slice_get (nodes (p ∷ ps)) i
      by true e ih =
          let n : prefix_len (comes_before board 0) (p ∷ ps) ≡ suc (prefix_len (comes_before board 0) ps) = ap (λ (b : Bool). cond b (1 + prefix_len (comes_before board 0) ps) 0) e ∙ omega arith in
          let less : p.0 < board = cases (p.0 < board) p (board, 0) e (λ lt. lt) (λ f lt. absurd (omega (arith, lt))) in
          ap (λ (k : ℕ). node_of board (slice_get (drop k (p ∷ ps)) i)) n ∙ ih ∙ sym (ap (λ (ns : List ℕ). slice_get ns i) (nodes_past p ps (λ f. omega (arith, less, f))))
      by false e ih =
          let n : prefix_len (comes_before board 0) (p ∷ ps) ≡ 0 = ap (λ (b : Bool). cond b (1 + prefix_len (comes_before board 0) ps) 0) e in
          let le : board ≤ p.0 = least p e in
          ap (λ (k : ℕ). node_of board (slice_get (drop k (p ∷ ps)) i)) n ∙ from_here (p ∷ ps) up (le, not_below p ps le up.0) i
        where
          least : (q : Pair) → comes_before board 0 q ≡ false → board ≤ q.0
          least q f = by_order (nat_lt q.0 board) refl
            where
              by_order : (b : Bool) → nat_lt q.0 board ≡ b → board ≤ q.0
              by_order true g = absurd (false≢true (sym f ∙ earlier q (board, 0) (ltb-true q.0 board g)))
              by_order false g = omega (arith, ltb-false q.0 board g)

  -- they ascend
  all_less : (p : Pair) (ps : List Pair) → p.0 ≡ board → AllAfter p ps → AllByRecursion (λ (m : ℕ). p.1 < m) (nodes ps)
  all_less p [] e h = tt
  all_less p (q ∷ qs) e h = by (nat_eq q.0 board) refl (all_less p qs e h.1)
    where
      by : (b : Bool) → nat_eq q.0 board ≡ b → AllByRecursion (λ (m : ℕ). p.1 < m) (nodes qs) → AllByRecursion (λ (m : ℕ). p.1 < m) (nodes (q ∷ qs))
      by true f ih =
          let here : q.0 ≡ board = eqb-true q.0 board f in
          subst (λ (ns : List ℕ). AllByRecursion (λ (m : ℕ). p.1 < m) ns) (sym (nodes_of q qs here))
          (cases (p.1 < q.1) p q h.0 (λ lt. absurd (omega (arith, lt, e, here))) (λ same lt. lt), ih)
      by false f ih = subst (λ (ns : List ℕ). AllByRecursion (λ (m : ℕ). p.1 < m) ns) (sym (nodes_past q qs (λ here. false≢true (sym f ∙ eq-eqb q.0 board here)))) ih

  pub ascend : (ps : List Pair) → AreInOrder ps → Ascends (nodes ps)
  ascend [] up = tt
  ascend (p ∷ ps) up = by (nat_eq p.0 board) refl (ascend ps up.1)
    where
      by : (b : Bool) → nat_eq p.0 board ≡ b → Ascends (nodes ps) → Ascends (nodes (p ∷ ps))
      by true e ih = let here : p.0 ≡ board = eqb-true p.0 board e in subst Ascends (sym (nodes_of p ps here)) (all_less p ps here up.0, ih)
      by false e ih = subst Ascends (sym (nodes_past p ps (λ here. false≢true (sym e ∙ eq-eqb p.0 board here)))) ih

  pub are_among : (n : ℕ) (ps : List Pair) → among n (nodes ps) ≡ list_any (is_pair board n) ps
  are_among n [] = refl
  are_among n (p ∷ ps) = by (nat_eq p.0 board) refl (are_among n ps)
    where
      by : (b : Bool) → nat_eq p.0 board ≡ b → among n (nodes ps) ≡ list_any (is_pair board n) ps → among n (if b then p.1 ∷ nodes ps else nodes ps) ≡ ((b && p.1 == n) || list_any (is_pair board n) ps)
      by true e ih = ap (λ (z : Bool). p.1 == n || z) ih
      by false e ih = ih
