-- The pairs of all parts, as one part changes.
use Rattle.std.proofs.Common.{◌≡◌, ℕ, zero, suc, ◌+◌, ◌-◌, ◌<◌, ◌≤◌, Bool, true, false, cond, List, [], ◌∷◌, ◌++◌, length, set, take, drop, refl, sym, ap, ◌∙◌, subst, arith}
use Rattle.std.specs.Prelude.{◌==◌, nat_lt, slice_get, slice_index_or, Option, Some, None}
use Rattle.std.specs.List.{AllByRecursion, insert, list_any, prefix_len, remove}
use Rattle.std.specs.List.Sorted.{IsPartitionedBy}
use Rattle.std.proofs.lemmas.Bool.{eq-eqb, false≢true, false_from_ne_true, eqb-true, ltb-false, ltb-true}
use Rattle.std.proofs.lemmas.List.{append_assoc, length-append, length-drop, length-take-le, take-append-drop, take_all}
use Rattle.std.proofs.lemmas.List.Edits.{insert-append_left, insert-append_right, insert_end, remove-append_left, remove-append_right}
use Rattle.std.proofs.lemmas.List.Folds.{prefix_len-append}
use Rattle.board_things.specs.Nodes.{AreInOrder, HasPair, comes_before, ends_before, is_pair, joined, node_of, nodes_in, part_at}
use Rattle.board_things.proofs.Pairs.{AllAfter, Pair, before_next, in_it, node_at}

abbrev pub Parts : Type 0
Parts = List (List Pair)

-- ---- the order of what is joined

all_left : (x : Pair) (p r : List Pair) → AllAfter x (p ++ r) → AllAfter x p
all_left x [] r h = tt
all_left x (q ∷ qs) r h = (h.0, all_left x qs r h.1)

pub order_left : (p r : List Pair) → AreInOrder (p ++ r) → AreInOrder p
order_left [] r up = tt
order_left (x ∷ xs) r up = (all_left x xs r up.0, order_left xs r up.1)

pub order_right : (p r : List Pair) → AreInOrder (p ++ r) → AreInOrder r
order_right [] r up = up
order_right (x ∷ xs) r up = order_right xs r up.1

-- each part is in order
pub order_at : (parts : Parts) (i : ℕ) → AreInOrder (joined parts) → AreInOrder (part_at i parts)
order_at [] i up = tt
order_at (p ∷ ps) zero up = order_left p (joined ps) up
order_at (p ∷ ps) (suc i) up = order_at ps i (order_right p (joined ps) up)

-- ---- where a pair belongs

module _ (board node : ℕ) where
  abbrev less : Pair → Bool
  less p = comes_before board node p

  abbrev ends : List Pair → Bool
  ends p = ends_before board node p

  abbrev it : Pair
  it = (board, node)

  abbrev pub less_or_none : Option Pair → Bool
  less_or_none None = true
  less_or_none (Some p) = less p

  -- the last pair of a part
  pub last_given : (ps : List Pair) → less_or_none (slice_get ps (length ps - 1)) ≡ ends ps
  last_given [] = refl
  last_given (p ∷ []) = ap (λ (k : ℕ). less_or_none (slice_get (p ∷ []) k)) (let e : length (p ∷ []) - 1 ≡ 0 = omega arith in e)
  last_given (p ∷ (q ∷ ps)) =
      ap (λ (k : ℕ). less_or_none (slice_get (p ∷ (q ∷ ps)) k)) (let e : length (p ∷ (q ∷ ps)) - 1 ≡ suc (length (q ∷ ps) - 1) = omega arith in e)
      ∙ last_given (q ∷ ps)

  -- where the last comes before, the first does
  first_less : (p : Pair) (ps : List Pair) → AreInOrder (p ∷ ps) → ends (p ∷ ps) ≡ true → less p ≡ true
  first_less p [] up e = e
  first_less p (q ∷ qs) up e = before_next p q it up.0.0 (first_less q qs up.1 e)

  all_less : (ps : List Pair) → AreInOrder ps → ends ps ≡ true → prefix_len less ps ≡ length ps
  all_less [] up e = refl
  all_less (p ∷ []) up e = ap (λ (b : Bool). cond b (1 + 0) 0) e
  all_less (p ∷ (q ∷ qs)) up e =
      ap (λ (b : Bool). cond b (1 + prefix_len less (q ∷ qs)) 0) (first_less p (q ∷ qs) up e)
      ∙ (let r = all_less (q ∷ qs) up.1 e in let s : 1 + prefix_len less (q ∷ qs) ≡ suc (length (q ∷ qs)) = omega (arith, r) in s)

  not_all : (ps : List Pair) → ends ps ≡ false → prefix_len less ps < length ps
  not_all [] e = absurd (false≢true (sym e))
  not_all (p ∷ []) e = let n : prefix_len less (p ∷ []) ≡ 0 = ap (λ (b : Bool). cond b (1 + 0) 0) e in omega (arith, n)
  not_all (p ∷ (q ∷ qs)) e = by (less p) refl (not_all (q ∷ qs) e)
    where
      by : (b : Bool) → less p ≡ b → prefix_len less (q ∷ qs) < length (q ∷ qs) → prefix_len less (p ∷ (q ∷ qs)) < length (p ∷ (q ∷ qs))
      by true f ih = let n : prefix_len less (p ∷ (q ∷ qs)) ≡ 1 + prefix_len less (q ∷ qs) = ap (λ (b : Bool). cond b (1 + prefix_len less (q ∷ qs)) 0) f in omega (arith, n, ih)
      by false f ih = let n : prefix_len less (p ∷ (q ∷ qs)) ≡ 0 = ap (λ (b : Bool). cond b (1 + prefix_len less (q ∷ qs)) 0) f in omega (arith, n)

  -- a part ends before where the part behind it begins before
  ends_ahead : (p : List Pair) (q : Pair) (r : List Pair) → AreInOrder (p ++ q ∷ r) → less q ≡ true → ends p ≡ true
  ends_ahead [] q r up e = refl
  ends_ahead (x ∷ []) q r up e = before_next x q it up.0.0 e
  ends_ahead (x ∷ (y ∷ ys)) q r up e = ends_ahead (y ∷ ys) q r up.1 e

  pub parted_parts : (ps : Parts) → AllByRecursion HasPair ps → AreInOrder (joined ps) → IsPartitionedBy ends ps
  parted_parts [] has up i j d le lt h = absurd (omega (arith, lt))
  parted_parts (p ∷ ps) has up zero zero d le lt h = h
  parted_parts (p ∷ []) has up zero (suc j) d le lt h = absurd (omega (arith, lt))
  parted_parts (p ∷ ([] ∷ ps)) has up zero (suc j) d le lt h = absurd (omega (arith, has.1.0))
  parted_parts (p ∷ ((q ∷ qs) ∷ ps)) has up zero (suc j) d le lt h =
      let rest : AreInOrder (joined ((q ∷ qs) ∷ ps)) = order_right p (joined ((q ∷ qs) ∷ ps)) up in
      let next : ends (q ∷ qs) ≡ true = parted_parts ((q ∷ qs) ∷ ps) has.1 rest zero j d (omega arith) (omega (arith, lt)) h in
      ends_ahead p q (qs ++ joined ps) up (first_less q qs (order_left (q ∷ qs) (joined ps) rest) next)
  parted_parts (p ∷ ps) has up (suc i) zero d le lt h = absurd (omega (arith, le))
  parted_parts (p ∷ ps) has up (suc i) (suc j) d le lt h = parted_parts ps has.1 (order_right p (joined ps) up) i j d (omega (arith, le)) (omega (arith, lt)) h

  -- the pairs that come before it are the parts that end before it, and those of the next part
  pub place_in : (ps : Parts) → AreInOrder (joined ps) → prefix_len less (joined ps) ≡ length (joined (take (prefix_len ends ps) ps)) + prefix_len less (part_at (prefix_len ends ps) ps)
  place_in [] up = refl
  place_in (p ∷ ps) up = by (ends p) refl (place_in ps (order_right p (joined ps) up))
    where
      by : (b : Bool) → ends p ≡ b → prefix_len less (joined ps) ≡ length (joined (take (prefix_len ends ps) ps)) + prefix_len less (part_at (prefix_len ends ps) ps)
          → prefix_len less (p ++ joined ps) ≡ length (joined (take (prefix_len ends (p ∷ ps)) (p ∷ ps))) + prefix_len less (part_at (prefix_len ends (p ∷ ps)) (p ∷ ps))
      by true e ih =
          let n : prefix_len ends (p ∷ ps) ≡ suc (prefix_len ends ps) = ap (λ (b : Bool). cond b (1 + prefix_len ends ps) 0) e ∙ omega arith in
          let all = all_less p (order_left p (joined ps) up) e in
          let here : prefix_len less (p ++ joined ps) ≡ length p + prefix_len less (joined ps) =
          prefix_len-append less p (joined ps) ∙ ap (λ (b : Bool). cond b (length p + prefix_len less (joined ps)) (prefix_len less p)) (eq-eqb (prefix_len less p) (length p) all) in
          let there : length (p ++ joined (take (prefix_len ends ps) ps)) ≡ length p + length (joined (take (prefix_len ends ps) ps)) = length-append p (joined (take (prefix_len ends ps) ps)) in
          let sum : prefix_len less (p ++ joined ps) ≡ length (joined (take (suc (prefix_len ends ps)) (p ∷ ps))) + prefix_len less (part_at (suc (prefix_len ends ps)) (p ∷ ps)) = omega (arith, here, there, ih) in
          sum ∙ sym (ap (λ (k : ℕ). length (joined (take k (p ∷ ps))) + prefix_len less (part_at k (p ∷ ps))) n)
      by false e ih =
          let n : prefix_len ends (p ∷ ps) ≡ 0 = ap (λ (b : Bool). cond b (1 + prefix_len ends ps) 0) e in
          let some = not_all p e in
          let here : prefix_len less (p ++ joined ps) ≡ prefix_len less p =
          prefix_len-append less p (joined ps) ∙ ap (λ (b : Bool). cond b (length p + prefix_len less (joined ps)) (prefix_len less p))
          (false_from_ne_true (prefix_len less p == length p) (λ f. omega (arith, eqb-true (prefix_len less p) (length p) f, some))) in
          let none : prefix_len less p ≡ 0 + prefix_len less p = omega arith in
          here ∙ none ∙ sym (ap (λ (k : ℕ). length (joined (take k (p ∷ ps))) + prefix_len less (part_at k (p ∷ ps))) n)

  -- not all pairs of that part come before it
  pub part_stops : (ps : Parts) → prefix_len ends ps < length ps → prefix_len less (part_at (prefix_len ends ps) ps) < length (part_at (prefix_len ends ps) ps)
  part_stops [] lt = absurd (omega (arith, lt))
  part_stops (p ∷ ps) lt = by (ends p) refl (part_stops ps)
    where
      by : (b : Bool) → ends p ≡ b → (prefix_len ends ps < length ps → prefix_len less (part_at (prefix_len ends ps) ps) < length (part_at (prefix_len ends ps) ps))
          → prefix_len less (part_at (prefix_len ends (p ∷ ps)) (p ∷ ps)) < length (part_at (prefix_len ends (p ∷ ps)) (p ∷ ps))
      by true e ih =
          let n : prefix_len ends (p ∷ ps) ≡ suc (prefix_len ends ps) = ap (λ (b : Bool). cond b (1 + prefix_len ends ps) 0) e ∙ omega arith in
          subst (λ (k : ℕ). prefix_len less (part_at k (p ∷ ps)) < length (part_at k (p ∷ ps))) (sym n) (ih (omega (arith, n, lt)))
      by false e ih =
          let n : prefix_len ends (p ∷ ps) ≡ 0 = ap (λ (b : Bool). cond b (1 + prefix_len ends ps) 0) e in
          subst (λ (k : ℕ). prefix_len less (part_at k (p ∷ ps)) < length (part_at k (p ∷ ps))) (sym n) (not_all p e)

-- ---- one part changed

abbrev pub ahead : ℕ → Parts → ℕ
ahead i ps = length (joined (take i ps))

-- a pair that comes into a part
pub joined_insert : (ps : Parts) (i k : ℕ) (x : Pair) → i < length ps → k ≤ length (part_at i ps) → joined (set ps i (insert (part_at i ps) k x)) ≡ insert (joined ps) (ahead i ps + k) x
joined_insert [] i k x lt le = absurd (omega (arith, lt))
joined_insert (p ∷ ps) zero k x lt le = sym (insert-append_left p (joined ps) k x le) ∙ ap (λ (n : ℕ). insert (p ++ joined ps) n x) (let e : k ≡ 0 + k = omega arith in e)
joined_insert (p ∷ ps) (suc i) k x lt le =
    let n = length-append p (joined (take i ps)) in
    let at : (length (p ++ joined (take i ps)) + k) - length p ≡ ahead i ps + k = omega (arith, n) in
    ap (λ (qs : List Pair). p ++ qs) (joined_insert ps i k x (omega (arith, lt)) le)
    ∙ sym (insert-append_right p (joined ps) (length p) (length (p ++ joined (take i ps)) + k) x refl (omega (arith, n))
    ∙ ap (λ (j : ℕ). p ++ insert (joined ps) j x) at)

-- one that goes
pub joined_remove : (ps : Parts) (i k : ℕ) → i < length ps → k < length (part_at i ps) → joined (set ps i (remove (part_at i ps) k)) ≡ remove (joined ps) (ahead i ps + k)
joined_remove [] i k lt le = absurd (omega (arith, lt))
joined_remove (p ∷ ps) zero k lt le = sym (remove-append_left p (joined ps) k le) ∙ ap (λ (n : ℕ). remove (p ++ joined ps) n) (let e : k ≡ 0 + k = omega arith in e)
joined_remove (p ∷ ps) (suc i) k lt le =
    let n = length-append p (joined (take i ps)) in
    let at : (length (p ++ joined (take i ps)) + k) - length p ≡ ahead i ps + k = omega (arith, n) in
    ap (λ (qs : List Pair). p ++ qs) (joined_remove ps i k (omega (arith, lt)) le)
    ∙ sym (remove-append_right p (joined ps) (length p) (length (p ++ joined (take i ps)) + k) refl (omega (arith, n))
    ∙ ap (λ (j : ℕ). p ++ remove (joined ps) j) at)

-- two parts in place of one that has the pairs of both
pub joined_split : (ps : Parts) (i : ℕ) (a b : List Pair) → i < length ps → joined (insert (set ps i a) (suc i) b) ≡ joined (set ps i (a ++ b))
joined_split [] i a b lt = absurd (omega (arith, lt))
joined_split (p ∷ ps) zero a b lt = sym (append_assoc a b (joined ps))
joined_split (p ∷ ps) (suc i) a b lt = ap (λ (qs : List Pair). p ++ qs) (joined_split ps i a b (omega (arith, lt)))

-- one part in place of two neighbours
pub joined_merge : (ps : Parts) (i : ℕ) → suc i < length ps → joined (set (remove ps (suc i)) i (part_at i ps ++ part_at (suc i) ps)) ≡ joined ps
joined_merge [] i lt = absurd (omega (arith, lt))
joined_merge (p ∷ []) i lt = absurd (omega (arith, lt))
joined_merge (p ∷ (q ∷ ps)) zero lt = append_assoc p q (joined ps)
joined_merge (p ∷ (q ∷ ps)) (suc i) lt = ap (λ (qs : List Pair). p ++ qs) (joined_merge (q ∷ ps) i (omega (arith, lt)))

-- a part with one pair that goes
alone : (p : List Pair) → length p ≡ 1 → remove p 0 ≡ []
alone [] e = refl
alone (x ∷ []) e = refl
alone (x ∷ (y ∷ ys)) e = absurd (omega (arith, e))

pub joined_without : (ps : Parts) (i : ℕ) → i < length ps → length (part_at i ps) ≡ 1 → joined (remove ps i) ≡ joined (set ps i (remove (part_at i ps) 0))
joined_without [] i lt e = absurd (omega (arith, lt))
joined_without (p ∷ ps) zero lt e = sym (ap (λ (qs : List Pair). qs ++ joined ps) (alone p e))
joined_without (p ∷ ps) (suc i) lt e = ap (λ (qs : List Pair). p ++ qs) (joined_without ps i (omega (arith, lt)) e)

-- one more part behind the others
pub joined_push : (ps : Parts) (x : Pair) → joined (ps ++ (x ∷ []) ∷ []) ≡ insert (joined ps) (length (joined ps)) x
joined_push ps x = more ps ∙ sym (insert_end (joined ps) x)
  where
    more : (qs : Parts) → joined (qs ++ (x ∷ []) ∷ []) ≡ joined qs ++ x ∷ []
    more [] = refl
    more (q ∷ qs) = ap (λ (r : List Pair). q ++ r) (more qs) ∙ sym (append_assoc q (joined qs) (x ∷ []))

-- the pairs ahead of the last part, and its own
pub ahead_of_last : (ps : Parts) (i : ℕ) → suc i ≡ length ps → ahead i ps + length (part_at i ps) ≡ length (joined ps)
ahead_of_last [] i e = absurd (omega (arith, e))
ahead_of_last (p ∷ []) zero e = let n = length-append p [] in omega (arith, n)
ahead_of_last (p ∷ (q ∷ ps)) zero e = absurd (omega (arith, e))
ahead_of_last (p ∷ ps) (suc i) e =
    let ih = ahead_of_last ps i (omega (arith, e)) in
    let n = length-append p (joined (take i ps)) in
    let m = length-append p (joined ps) in
    omega (arith, ih, n, m)

-- ---- each part has a pair

module _ (P : List Pair → Type 0) where
  pub all_set : (ps : Parts) (i : ℕ) (y : List Pair) → AllByRecursion P ps → P y → AllByRecursion P (set ps i y)
  all_set [] i y h k = tt
  all_set (p ∷ ps) zero y h k = (k, h.1)
  all_set (p ∷ ps) (suc i) y h k = (h.0, all_set ps i y h.1 k)

  pub all_insert : (ps : Parts) (i : ℕ) (y : List Pair) → AllByRecursion P ps → P y → AllByRecursion P (insert ps i y)
  all_insert ps zero y h k = (k, h)
  all_insert [] (suc i) y h k = (k, tt)
  all_insert (p ∷ ps) (suc i) y h k = (h.0, all_insert ps i y h.1 k)

  pub all_remove : (ps : Parts) (i : ℕ) → AllByRecursion P ps → AllByRecursion P (remove ps i)
  all_remove [] zero h = tt
  all_remove [] (suc i) h = tt
  all_remove (p ∷ ps) zero h = h.1
  all_remove (p ∷ ps) (suc i) h = (h.0, all_remove ps i h.1)

  pub all_push : (ps : Parts) (y : List Pair) → AllByRecursion P ps → P y → AllByRecursion P (ps ++ y ∷ [])
  all_push [] y h k = (k, tt)
  all_push (p ∷ ps) y h k = (h.0, all_push ps y h.1 k)

  pub all_at : (ps : Parts) (i : ℕ) → i < length ps → AllByRecursion P ps → P (part_at i ps)
  all_at [] i lt h = absurd (omega (arith, lt))
  all_at (p ∷ ps) zero lt h = h.0
  all_at (p ∷ ps) (suc i) lt h = all_at ps i (omega (arith, lt)) h.1

-- where all parts end before, nothing is left
pub joined_dropped : (ps : Parts) (n : ℕ) → n ≡ length (joined ps) → drop n (joined ps) ≡ []
joined_dropped ps n e = ap (λ (m : ℕ). drop m (joined ps)) e ∙ none (joined ps)
  where
    none : (xs : List Pair) → drop (length xs) xs ≡ []
    none [] = refl
    none (x ∷ xs) = none xs

-- what stands at a place behind some pairs
pub get_past : (xs ys : List Pair) (i : ℕ) → length xs ≤ i → slice_get (xs ++ ys) i ≡ slice_get ys (i - length xs)
get_past [] ys i le = ap (λ (k : ℕ). slice_get ys k) (let e : i ≡ i - 0 = omega arith in e)
get_past (x ∷ xs) ys zero le = absurd (omega (arith, le))
get_past (x ∷ xs) ys (suc i) le = get_past xs ys i (omega (arith, le)) ∙ ap (λ (k : ℕ). slice_get ys k) (let e : i - length xs ≡ suc i - suc (length xs) = omega arith in e)

pub get_in : (xs ys : List Pair) (i : ℕ) → i < length xs → slice_get (xs ++ ys) i ≡ slice_get xs i
get_in [] ys i lt = absurd (omega (arith, lt))
get_in (x ∷ xs) ys zero lt = refl
get_in (x ∷ xs) ys (suc i) lt = get_in xs ys i (omega (arith, lt))

-- ---- what is read of a part, whatever would be read past the end

pub read_at : (ps : Parts) (i : ℕ) (p : List Pair) → i < length ps → p ≡ slice_index_or ps i p → p ≡ part_at i ps
read_at [] i p lt e = absurd (omega (arith, lt))
read_at (q ∷ qs) zero p lt e = e
read_at (q ∷ qs) (suc i) p lt e = read_at qs i p (omega (arith, lt)) e

pub at_removed : (ps : Parts) (i : ℕ) → suc i < length ps → part_at i (remove ps (suc i)) ≡ part_at i ps
at_removed [] i lt = absurd (omega (arith, lt))
at_removed (p ∷ ps) zero lt = refl
at_removed (p ∷ ps) (suc i) lt = at_removed ps i (omega (arith, lt))

pub length_removed : {X : Type 0} (ps : List X) (i : ℕ) → i < length ps → suc (length (remove ps i)) ≡ length ps
length_removed [] i lt = absurd (omega (arith, lt))
length_removed (p ∷ ps) zero lt = refl
length_removed (p ∷ ps) (suc i) lt = ap (λ (n : ℕ). suc n) (length_removed ps i (omega (arith, lt)))

-- two neighbours made one, as it is done: the second taken out, and the first made longer
module _ (ps rs : Parts) (i : ℕ) (a b both : List Pair) (next : suc i < length ps) (out : rs ≡ remove ps (suc i)) (first : a ≡ slice_index_or rs i a) where
  first_is : a ≡ part_at i ps
  first_is =
      let shorter = length_removed ps (suc i) next in
      let inside : i < length rs = subst (λ (qs : Parts). i < length qs) (sym out) (omega (arith, shorter, next)) in
      read_at rs i a inside first ∙ ap (λ (qs : Parts). part_at i qs) out ∙ at_removed ps i next

  pub whole_merge : b ≡ slice_index_or ps (suc i) b → both ≡ a ++ b → joined (set rs i both) ≡ joined ps
  whole_merge second is =
      ap (λ (qs : Parts). joined (set qs i both)) out
      ∙ ap (λ (p : List Pair). joined (set (remove ps (suc i)) i p)) (is ∙ ap (λ (p : List Pair). p ++ b) first_is ∙ ap (λ (p : List Pair). part_at i ps ++ p) (read_at ps (suc i) b next second))
      ∙ joined_merge ps i next

  pub filled_merge : both ≡ a ++ b → AllByRecursion HasPair ps → AllByRecursion HasPair (set rs i both)
  filled_merge is has =
      let here : 0 < length a = subst (λ (p : List Pair). 0 < length p) (sym first_is) (all_at HasPair ps i (omega (arith, next)) has) in
      let more : length both ≡ length a + length b = ap (λ (p : List Pair). length p) is ∙ length-append a b in
      all_set HasPair rs i both (subst (λ (qs : Parts). AllByRecursion HasPair qs) (sym out) (all_remove HasPair ps (suc i) has)) (omega (arith, here, more))

-- the rest of a slice from a place on
pub rest_is : {X : Type 0} (xs : List X) (i : ℕ) → take (length xs - i) (drop i xs) ≡ drop i xs
rest_is xs i = take_all (length xs - i) (drop i xs) (omega (arith, length-drop i xs))

-- ---- a full part, made two

module _ (xs : List Pair) (k : ℕ) (x : Pair) (full : length xs ≡ 256) where
  pub length_first : length (take 128 xs) ≡ 128
  length_first = length-take-le 128 xs (omega (arith, full))

  pub length_rest : length (drop 128 xs) ≡ 128
  length_rest = omega (arith, length-drop 128 xs, full)

  pub insert_first : k ≤ 128 → insert (take 128 xs) k x ++ drop 128 xs ≡ insert xs k x
  insert_first le =
      sym (insert-append_left (take 128 xs) (drop 128 xs) k x (omega (arith, length_first, le)))
      ∙ ap (λ (ys : List Pair). insert ys k x) (take-append-drop 128 xs)

  pub insert_rest : 128 ≤ k → take 128 xs ++ insert (drop 128 xs) (k - 128) x ≡ insert xs k x
  insert_rest le =
      sym (insert-append_right (take 128 xs) (drop 128 xs) 128 k x length_first le)
      ∙ ap (λ (ys : List Pair). insert ys k x) (take-append-drop 128 xs)

pub past_parts : (ps : Parts) (i : ℕ) → length ps ≤ i → part_at i ps ≡ []
past_parts [] i le = refl
past_parts (p ∷ ps) zero le = absurd (omega (arith, le))
past_parts (p ∷ ps) (suc i) le = past_parts ps i (omega (arith, le))

-- ---- the place of a pair among all

module _ (board node : ℕ) (ps : Parts) (up : AreInOrder (joined ps)) (i : ℕ) where
  pub place_at : (k : ℕ) → i ≡ prefix_len (ends_before board node) ps → k ≡ prefix_len (comes_before board node) (part_at i ps) → ahead i ps + k ≡ prefix_len (comes_before board node) (joined ps)
  place_at k e f =
      ap (λ (n : ℕ). ahead i ps + n) f ∙ ap (λ (n : ℕ). ahead n ps + prefix_len (comes_before board node) (part_at n ps)) e ∙ sym (place_in board node ps up)

  pub no_part_left : i ≡ prefix_len (ends_before board node) ps → length ps ≤ i → length (joined ps) ≡ prefix_len (comes_before board node) (joined ps)
  no_part_left e le =
      let all : ahead i ps ≡ length (joined ps) = ap (λ (qs : Parts). length (joined qs)) (take_all i ps le) in
      let none : prefix_len (comes_before board node) (part_at i ps) ≡ 0 = ap (λ (p : List Pair). prefix_len (comes_before board node) p) (past_parts ps i le) in
      let place = place_at (prefix_len (comes_before board node) (part_at i ps)) e refl in
      omega (arith, all, none, place)

  -- one of these is in a part
  pub part_of_place : i ≡ prefix_len (ends_before board node) ps → list_any (is_pair board node) (joined ps) ≡ true → i < length ps
  part_of_place e one = by (nat_lt i (length ps)) refl
    where
      by : (b : Bool) → nat_lt i (length ps) ≡ b → i < length ps
      by true f = ltb-true i (length ps) f
      by false f = absurd (omega (arith, in_it board node (joined ps) up one, no_part_left e (ltb-false i (length ps) f)))

  pub stops_at : i ≡ prefix_len (ends_before board node) ps → i < length ps → (k : ℕ) → k ≡ prefix_len (comes_before board node) (part_at i ps) → k < length (part_at i ps)
  stops_at e lt k f =
      let inside : prefix_len (ends_before board node) ps < length ps = subst (λ (n : ℕ). n < length ps) e lt in
      let stops = part_stops board node ps inside in
      subst (λ (n : ℕ). n < length (part_at i ps)) (sym f) (subst (λ (n : ℕ). prefix_len (comes_before board node) (part_at n ps) < length (part_at n ps)) (sym e) stops)

-- ---- a pair by its place

pub not_less : (a b : ℕ) → (a < b → ⊥) → b ≤ a
not_less a b h = by (nat_lt a b) refl
  where
    by : (t : Bool) → nat_lt a b ≡ t → b ≤ a
    by true e = absurd (h (ltb-true a b e))
    by false e = ltb-false a b e

get_dropped : (xs : List Pair) (n k : ℕ) → slice_get (drop n xs) k ≡ slice_get xs (n + k)
get_dropped xs zero k = ap (λ (m : ℕ). slice_get xs m) (let e : k ≡ 0 + k = omega arith in e)
get_dropped [] (suc n) k = refl
get_dropped (x ∷ xs) (suc n) k = get_dropped xs n k ∙ ap (λ (m : ℕ). slice_get (x ∷ xs) m) (let e : suc (n + k) ≡ suc n + k = omega arith in e)

-- the node so many behind the first of a board
pub node_behind : (board : ℕ) (ps : List Pair) → AreInOrder ps → (i : ℕ) → node_of board (slice_get ps (prefix_len (comes_before board 0) ps + i)) ≡ slice_get (nodes_in board ps) i
node_behind board ps up i = ap (λ (o : Option Pair). node_of board o) (sym (get_dropped ps (prefix_len (comes_before board 0) ps) i)) ∙ node_at board ps up i
