-- What is kept of a board tells its nodes and its writer slots.
use Rattle.std.proofs.Common.{◌≡◌, ℕ, ◌+◌, Bool, true, false, cond, List, [], ◌∷◌, length, None, refl, sym, ap, ◌∙◌, arith}
use Rattle.std.specs.Prelude.{◌==◌, ◌&&◌, ◌||◌, not, count_by, is_some, nat_eq, nat_le}
use Rattle.std.specs.List.{AllByRecursion, IsDistinct, list_any}
use Rattle.std.specs.Str.{bytes_eq}
use Rattle.std.specs.Cmp.{nat_eq_equiv}
use Rattle.std.specs.Cmp.Lexicographic.{nat_list_cmp_total, slice_cmp}
use Rattle.std.specs.Ordering.{is_eq, nat_cmp}
use Rattle.std.specs.BTreeMap as tree
use Rattle.std.specs.BTreeMap.{BTreeMap}
use Rattle.std.specs.BTreeSet.{BTreeSet}
use Rattle.std.specs.HashMap.{HashMap, IsUnique, get, hash_map_len, keys}
use Rattle.std.specs.Map.{keys_of}
use Rattle.std.proofs.lemmas.Bool.Decides.{nat_tests, same_from_decides}
use Rattle.std.proofs.lemmas.Map.Lookups.{btree_set_from_contains, exact_bytes}
use Rattle.std.proofs.lemmas.Map.Made.{is_some-lookup, length-from_same_keys}
use Rattle.std.proofs.lemmas.Map.Text.{is_eq-slice_cmp}
use Rattle.std.proofs.lemmas.Slice.Eq.{bytes_eq-Decides}
use Rattle.board_model.specs.Tables.{is_held_by, is_node, is_of_board, is_of_port, nodes_taken, writer_slots}
use Rattle.board_model.specs.Things.{Held}
use Rattle.board_model.specs.Replies.{nodes_of}
use Rattle.board_model.specs.LawsOfListings.{AllDiffer}
use Rattle.board_model.proofs.ListingLaws.{nodes_ascend, ports_of}
use Rattle.script_things.specs.Taken.{counted}
use Rattle.script_things.proofs.TakenLemmas.{some_counted}

-- ---- nodes

turned : (x y : List ℕ) → bytes_eq x y ≡ bytes_eq y x
turned x y = same_from_decides _ (bytes_eq y x) (bytes_eq-Decides x y) (λ e. sym ((bytes_eq-Decides y x).0 e), λ e. (bytes_eq-Decides y x).1 (sym e))

among : (p : List ℕ) (xs : List (List ℕ)) → list_any (λ x. is_eq (slice_cmp nat_cmp p x)) xs ≡ list_any (λ x. bytes_eq x p) xs
among p [] = refl
among p (x ∷ xs) = λ i. (is_eq-slice_cmp p x ∙ turned p x) i || among p xs i

-- a party is a node where something is kept of it
pub node_is_kept : (board : ℕ) (ts : List Held) (nodes : BTreeMap (List ℕ) ℕ) → ((p : List ℕ) → tree.get (slice_cmp nat_cmp) nodes p ≡ counted (count_by (is_held_by bytes_eq board p) ts)) → (p : List ℕ)
    → is_some (tree.get (slice_cmp nat_cmp) nodes p) ≡ is_node bytes_eq board p ts
node_is_kept board ts nodes kept p = ap is_some (kept p) ∙ some_counted (is_held_by bytes_eq board p) ts

module _ (board : ℕ) (ts : List Held) (nodes : BTreeMap (List ℕ) ℕ) (ordered : tree.IsOrdered (slice_cmp nat_cmp) nodes)
    (kept : (p : List ℕ) → tree.get (slice_cmp nat_cmp) nodes p ≡ counted (count_by (is_held_by bytes_eq board p) ts)) where
  abbrev kept_set : BTreeSet (List ℕ)
  kept_set = record { keys = tree.keys nodes }

  abbrev told_set : BTreeSet (List ℕ)
  told_set = record { keys = nodes_of board ts }

  -- the parties of which something is kept are the nodes that are told
  pub nodes_told : tree.keys nodes ≡ nodes_of board ts
  nodes_told = btree_set_from_contains nat_list_cmp_total kept_set told_set ordered (nodes_ascend.ascend board ts)
      (λ p. sym (is_some-lookup (λ k. is_eq (slice_cmp nat_cmp p k)) nodes.entries) ∙ node_is_kept board ts nodes kept p ∙ sym (nodes_ascend.are board ts p) ∙ sym (among p (nodes_of board ts))) exact_bytes

  pub nodes_counted : tree.btree_map_len nodes ≡ nodes_taken bytes_eq board ts
  nodes_counted = sym (length_keys nodes.entries) ∙ ap (λ xs. length xs) nodes_told ∙ nodes_ascend.counted board ts
    where
      length_keys : (es : List (List ℕ × ℕ)) → length (keys_of es) ≡ length es
      length_keys [] = refl
      length_keys (e ∷ es) = (let h = length_keys es in omega (arith, h))

-- nothing is told where nothing is kept
pub no_nodes : (board : ℕ) (ts : List Held) → ((p : List ℕ) → is_node bytes_eq board p ts ≡ false) → [] ≡ nodes_of board ts
no_nodes board ts none = of (nodes_of board ts) (λ p. nodes_ascend.are board ts p ∙ none p)
  where
    of : (xs : List (List ℕ)) → ((p : List ℕ) → list_any (λ x. bytes_eq x p) xs ≡ false) → [] ≡ xs
    of [] h = refl
    of (x ∷ xs) h = absurd (let e : bytes_eq x x ≡ true = (bytes_eq-Decides x x).1 refl in let f : (bytes_eq x x || list_any (λ y. bytes_eq y x) xs) ≡ false = h x in let g : true ≡ false = ap (λ z. z || list_any (λ y. bytes_eq y x) xs) (sym e) ∙ f in cc)

-- a board with a thing has a node
pub thing_is_node : (board : ℕ) (ts : List Held) → nat_le 1 (nodes_taken bytes_eq board ts) ≡ list_any (is_of_board board) ts
thing_is_node board [] = refl
thing_is_node board (t ∷ ts) = at (is_of_board board t) (is_node bytes_eq board t.holder ts) (node_has board ts t.holder) (thing_is_node board ts)
  where
    node_has : (b : ℕ) (xs : List Held) (p : List ℕ) → is_node bytes_eq b p xs ≡ true → list_any (is_of_board b) xs ≡ true
    node_has b [] p h = absurd cc
    node_has b (x ∷ xs) p h = elim (is_of_board b x) as (λ z. ((z && bytes_eq x.holder p) || is_node bytes_eq b p xs) ≡ true → (z || list_any (is_of_board b) xs) ≡ true) [ true ↦ λ k. refl | false ↦ λ k. node_has b xs p k ] h

    at : (b n : Bool) → (n ≡ true → list_any (is_of_board board) ts ≡ true) → nat_le 1 (nodes_taken bytes_eq board ts) ≡ list_any (is_of_board board) ts
        → nat_le 1 (cond (b && not n) (nodes_taken bytes_eq board ts + 1) (nodes_taken bytes_eq board ts)) ≡ (b || list_any (is_of_board board) ts)
    at true true has ih = ih ∙ has refl
    at true false has ih = grind (arith, nat_tests)
    at false n has ih = ih

-- ---- writer slots

distinct : (xs : List ℕ) → AllDiffer xs → IsDistinct nat_eq xs
unfolding IsDistinct
distinct [] h = tt
distinct (x ∷ xs) h = (apart xs h.0, distinct xs h.1)
  where
    apart : (ys : List ℕ) → AllByRecursion (λ y. x ≡ y → ⊥) ys → AllByRecursion (λ y. nat_eq x y ≡ false) ys
    apart [] k = tt
    apart (y ∷ ys) k = (grind (arith, nat_tests, k.0), apart ys k.1)

ports_among : (p : ℕ) (xs : List ℕ) → list_any (nat_eq p) xs ≡ list_any (λ q. q == p) xs
ports_among p [] = refl
ports_among p (x ∷ xs) = (let e : nat_eq p x ≡ (x == p) = grind (arith, nat_tests) in λ i. e i || ports_among p xs i)

pub slots_counted : {S : Type 0} (board : ℕ) (ts : List Held) (ports : HashMap ℕ ℕ S) → IsUnique nat_eq ports → ((p : ℕ) → get nat_eq ports p ≡ counted (count_by (is_of_port board p) ts))
    → hash_map_len ports ≡ writer_slots board ts
slots_counted board ts ports unique kept =
    let k = ports_of board ts in
    let there : (p : ℕ) → list_any (nat_eq p) (keys ports) ≡ list_any (nat_eq p) k.ports =
    λ p. sym (is_some-lookup (nat_eq p) ports.entries) ∙ ap is_some (kept p) ∙ some_counted (is_of_port board p) ts ∙ sym (k.are p) ∙ sym (ports_among p k.ports) in
    sym (length_keys ports.entries) ∙ length-from_same_keys nat_eq_equiv (keys ports) k.ports unique (distinct k.ports k.differ) there ∙ k.count
  where
    length_keys : (es : List (ℕ × ℕ)) → length (keys_of es) ≡ length es
    length_keys [] = refl
    length_keys (e ∷ es) = (let h = length_keys es in omega (arith, h))

-- no slot is taken where nothing is kept
pub no_slots : (board : ℕ) (ts : List Held) → ((p : ℕ) → None ≡ counted (count_by (is_of_port board p) ts)) → 0 ≡ writer_slots board ts
no_slots board ts kept =
    let k = ports_of board ts in
    let none : (p : ℕ) → list_any (λ q. q == p) k.ports ≡ false = λ p. k.are p ∙ sym (some_counted (is_of_port board p) ts) ∙ ap is_some (sym (kept p)) in
    ap (λ (xs : List ℕ). length xs) (of k.ports none) ∙ k.count
  where
    of : (xs : List ℕ) → ((p : ℕ) → list_any (λ q. q == p) xs ≡ false) → [] ≡ xs
    of [] h = refl
    of (x ∷ xs) h = absurd (let e : (x == x) ≡ true = grind (arith, nat_tests) in let f : ((x == x) || list_any (λ q. q == x) xs) ≡ false = h x in let g : true ≡ false = ap (λ z. z || list_any (λ q. q == x) xs) (sym e) ∙ f in cc)

-- no party is a node where nothing is kept
pub none_is_node : (board : ℕ) (ts : List Held) → ((p : List ℕ) → None ≡ counted (count_by (is_held_by bytes_eq board p) ts)) → (p : List ℕ) → is_node bytes_eq board p ts ≡ false
none_is_node board ts kept p = sym (some_counted (is_held_by bytes_eq board p) ts) ∙ ap is_some (sym (kept p))

pub no_nodes_taken : (board : ℕ) (ts : List Held) → ((p : List ℕ) → None ≡ counted (count_by (is_held_by bytes_eq board p) ts)) → 0 ≡ nodes_taken bytes_eq board ts
no_nodes_taken board ts kept = ap (λ (xs : List (List ℕ)). length xs) (no_nodes board ts (none_is_node board ts kept)) ∙ nodes_ascend.counted board ts
