-- Nodes ascend, nodes and ports are counted once, and keys are told in the order of adding.
use Rattle.std.proofs.Common.{◌≡◌, ℕ, ◌+◌, Bool, true, false, List, [], ◌∷◌, length, map, arith, refl, sym, ap, ◌∙◌, subst, inl, inr, Option, Some, None}
use Rattle.std.specs.Prelude.{slice_index_or, ◌&&◌, ◌||◌, ◌==◌, not, nat_eq, if◌then◌else◌, Decides}
use Rattle.std.specs.List.{AllByRecursion, Any, Contains, list_any}
use Rattle.std.specs.List.Sorted.{IsStrictlySortedBy}
use Rattle.std.specs.Str.{bytes_eq}
use Rattle.std.specs.Cmp.Lexicographic.{slice_cmp}
use Rattle.std.specs.Ordering.{is_eq, is_lt, nat_cmp, ordering_reverse}
use Rattle.std.specs.declared.cmp.Ordering.{Ordering}
use Rattle.std.specs.declared.cmp.Ordering.TheVariants.{Less, Equal, Greater}
use Rattle.std.proofs.lemmas.Bool.{eqb-true, eq-eqb, false≢true}
use Rattle.std.proofs.lemmas.Bool.Decides.{Decides-eqb}
use Rattle.std.proofs.lemmas.Cmp.{nat_list_cmp_total}
use Rattle.std.proofs.lemmas.List.Folds.{Any-from_list_any, list_any-from_Any}
use Rattle.std.proofs.lemmas.Map.Text.{is_eq-slice_cmp}
use Rattle.std.proofs.lemmas.Slice.Eq.{bytes_eq-Decides}
use Rattle.board_layout.specs.Layout.{cell_bytes, places_from, start_of}
use Rattle.board_model.specs.declared.tables.Kind.{Kind}
use Rattle.board_model.specs.declared.tables.Kind.TheVariants as kind
use Rattle.board_model.specs.declared.tables.Thing.{Thing}
use Rattle.board_model.specs.declared.value.AddedEntry.{AddedEntry}
use Rattle.board_model.specs.declared.value.Key.{Key}
use Rattle.board_model.specs.declared.value.KeyType.{KeyType}
use Rattle.board_model.specs.TypeTable.{key_bytes, key_of}
use Rattle.board_model.specs.Tables.{entries_of, holds_at, is_node, is_of_board, is_of_port, nodes_taken, shape_of, shapes_of, writer_port, writer_slots}
use Rattle.board_model.specs.Things.{Held}
use Rattle.board_model.specs.Replies.{added_of, is_before, keys_of, nodes_of, placed_once}
use Rattle.board_model.specs.LawsOfListings.{AllDiffer, AreNodes, AreWriterPorts, IsKeyOf, IsOfWriter, KeysAreToldInOrder, NodesAreCountedOnce, NodesAscend, PortsAreCountedOnce}
use Rattle.board_model.proofs.FormLemmas.{detail_again}
use Rattle.board_model.proofs.KeptKeyLemmas.{told_as_added}
use Rattle.board_model.proofs.ListLemmas.{other_bytes, same_bytes}
use Rattle.board_model.proofs.ThingLemmas.{different_bytes}

-- ---- the order of texts

is_less : (r : Ordering) → is_lt r ≡ true → r ≡ Less
is_less Less h = refl
is_less Equal h = absurd (false≢true h)
is_less Greater h = absurd (false≢true h)

is_greater : (r : Ordering) → is_lt r ≡ false → is_eq r ≡ false → r ≡ Greater
is_greater Less h e = absurd (false≢true (sym h))
is_greater Equal h e = absurd (false≢true (sym e))
is_greater Greater h e = refl

before_next : (x y z : List ℕ) → is_before x y ≡ true → is_before y z ≡ true → is_before x z ≡ true
before_next x y z h k = ap is_lt (nat_list_cmp_total.trans x y z (is_less (slice_cmp nat_cmp x y) h) (is_less (slice_cmp nat_cmp y z) k))

before_turned : (x y : List ℕ) → bytes_eq x y ≡ false → is_before x y ≡ false → is_before y x ≡ true
before_turned x y differ h =
    let g : slice_cmp nat_cmp x y ≡ Greater = is_greater (slice_cmp nat_cmp x y) h (is_eq-slice_cmp x y ∙ differ) in
    ap is_lt (nat_list_cmp_total.antisymm y x ∙ ap ordering_reverse g)

itself : (a : List ℕ) → bytes_eq a a ≡ true
itself a = (bytes_eq-Decides a a).1 refl

before_differs : (x y : List ℕ) → is_before x y ≡ true → bytes_eq y x ≡ false
before_differs x y h =
    different_bytes y x (λ e.
    let less : slice_cmp nat_cmp x y ≡ Less = is_less (slice_cmp nat_cmp x y) h in
    let same : is_eq (slice_cmp nat_cmp x y) ≡ true = ap (λ (z : List ℕ). is_eq (slice_cmp nat_cmp x z)) e ∙ is_eq-slice_cmp x x ∙ itself x in
    false≢true (ap is_eq (sym less) ∙ same))

-- ---- a text among others

abbrev AllAfter : List ℕ → List (List ℕ) → Type 0
AllAfter x ys = AllByRecursion (λ y. is_before x y ≡ true) ys

-- each text comes before all that follow it
abbrev Ascend : List (List ℕ) → Type 0
Ascend [] = Unit {0}
Ascend (x ∷ xs) = AllAfter x xs × Ascend xs

all_less : (x : List ℕ) (ys : List (List ℕ)) → AllAfter x ys → AllByRecursion (λ y. slice_cmp nat_cmp x y ≡ Less) ys
all_less x [] h = tt
all_less x (y ∷ ys) h = (is_less (slice_cmp nat_cmp x y) h.0, all_less x ys h.1)

ascend_sorted : (xs : List (List ℕ)) → Ascend xs → IsStrictlySortedBy (slice_cmp nat_cmp) xs
unfolding IsStrictlySortedBy
ascend_sorted [] h = tt
ascend_sorted (x ∷ xs) h = (all_less x xs h.0, ascend_sorted xs h.1)

all_after : (x y : List ℕ) (zs : List (List ℕ)) → is_before x y ≡ true → AllAfter y zs → AllAfter x zs
all_after x y [] h k = tt
all_after x y (z ∷ zs) h k = (before_next x y z h k.0, all_after x y zs h k.1)

placed_after : (y x : List ℕ) (zs : List (List ℕ)) → is_before y x ≡ true → AllAfter y zs → AllAfter y (placed_once x zs)
placed_after y x [] h k = (h, tt)
placed_after y x (z ∷ zs) h k = at (bytes_eq x z) (is_before x z) (placed_after y x zs h k.1)
  where
    at : (a b : Bool) → AllAfter y (placed_once x zs) → AllAfter y (if a then z ∷ zs else if b then x ∷ z ∷ zs else z ∷ placed_once x zs)
    at true b ih = k
    at false true ih = (h, k)
    at false false ih = (k.0, ih)

placed_ascend : (x : List ℕ) (ys : List (List ℕ)) → Ascend ys → Ascend (placed_once x ys)
placed_ascend x [] h = (tt, tt)
placed_ascend x (y ∷ ys) h = at (bytes_eq x y) refl (is_before x y) refl (placed_ascend x ys h.1)
  where
    at : (a : Bool) → bytes_eq x y ≡ a → (b : Bool) → is_before x y ≡ b → Ascend (placed_once x ys) → Ascend (if a then y ∷ ys else if b then x ∷ y ∷ ys else y ∷ placed_once x ys)
    at true e b f ih = h
    at false e true f ih = ((f, all_after x y ys f h.0), h)
    at false e false f ih = (placed_after y x ys (before_turned x y e f) h.0, ih)

or_twice : (a b : Bool) → (a || b) ≡ (a || (a || b))
or_twice true b = refl
or_twice false b = refl

or_swap : (a b c : Bool) → (a || (b || c)) ≡ (b || (a || c))
or_swap true true c = refl
or_swap true false c = refl
or_swap false true c = refl
or_swap false false c = refl

abbrev is_among : List ℕ → List (List ℕ) → Bool
is_among party ys = list_any (λ y. bytes_eq y party) ys

placed_among : (x party : List ℕ) (ys : List (List ℕ)) → is_among party (placed_once x ys) ≡ (bytes_eq x party || is_among party ys)
placed_among x party [] = refl
placed_among x party (y ∷ ys) = at (bytes_eq x y) (same_bytes x y) (is_before x y) (placed_among x party ys)
  where
    at : (a : Bool) → (a ≡ true → x ≡ y) → (b : Bool) → is_among party (placed_once x ys) ≡ (bytes_eq x party || is_among party ys) → is_among party (if a then y ∷ ys else if b then x ∷ y ∷ ys else y ∷ placed_once x ys) ≡ (bytes_eq x party || (bytes_eq y party || is_among party ys))
    at true e b ih = or_twice (bytes_eq y party) (is_among party ys) ∙ ap (λ (z : List ℕ). bytes_eq z party || (bytes_eq y party || is_among party ys)) (sym (e refl))
    at false e true ih = refl
    at false e false ih = ap (λ (z : Bool). bytes_eq y party || z) ih ∙ or_swap (bytes_eq y party) (bytes_eq x party) (is_among party ys)

none_among : (x : List ℕ) (ys : List (List ℕ)) → AllAfter x ys → is_among x ys ≡ false
none_among x [] h = refl
none_among x (y ∷ ys) h = rw (before_differs x y h.0) (none_among x ys h.1)

same_turned : (x y : List ℕ) → bytes_eq x y ≡ true → bytes_eq y x ≡ true
same_turned x y e = let s : x ≡ y = same_bytes x y e in ap (λ (z : List ℕ). bytes_eq z x) (sym s) ∙ ap (bytes_eq x) s ∙ e

other_turned : (x y : List ℕ) → bytes_eq x y ≡ false → bytes_eq y x ≡ false
other_turned x y e = different_bytes y x (λ s. other_bytes x y e (sym s))

placed_length : (x : List ℕ) (ys : List (List ℕ)) → Ascend ys → length (placed_once x ys) ≡ (if is_among x ys then length ys else length ys + 1)
placed_length x [] h = refl
placed_length x (y ∷ ys) h = at (bytes_eq x y) refl (is_before x y) refl (placed_length x ys h.1)
  where
    one_more : (b : Bool) → (n m : ℕ) → n ≡ (if b then m else m + 1) → n + 1 ≡ (if b then m + 1 else (m + 1) + 1)
    one_more true n m e = ap (λ (z : ℕ). z + 1) e
    one_more false n m e = ap (λ (z : ℕ). z + 1) e

    at : (a : Bool) → bytes_eq x y ≡ a → (b : Bool) → is_before x y ≡ b → length (placed_once x ys) ≡ (if is_among x ys then length ys else length ys + 1)
        → length (if a then y ∷ ys else if b then x ∷ y ∷ ys else y ∷ placed_once x ys) ≡ (if (bytes_eq y x || is_among x ys) then length (y ∷ ys) else length (y ∷ ys) + 1)
    at true e b f ih = rw (same_turned x y e) refl
    at false e true f ih = rw (before_differs x y f, none_among x ys (all_after x y ys f h.0)) (omega arith)
    at false e false f ih = rw (other_turned x y e) (
        let a : length (y ∷ placed_once x ys) ≡ length (placed_once x ys) + 1 = omega arith in
        let b : length (y ∷ ys) ≡ length ys + 1 = omega arith in
        a ∙ one_more (is_among x ys) (length (placed_once x ys)) (length ys) ih ∙ ap (λ (n : ℕ). if is_among x ys then n else n + 1) (sym b))

-- ---- nodes

nodes_ascend_of : (board : ℕ) (things : List Held) → Ascend (nodes_of board things)
nodes_ascend_of board [] = tt
nodes_ascend_of board (t ∷ ts) = at (is_of_board board t) (nodes_ascend_of board ts)
  where
    at : (b : Bool) → Ascend (nodes_of board ts) → Ascend (if b then placed_once t.holder (nodes_of board ts) else nodes_of board ts)
    at true ih = placed_ascend t.holder (nodes_of board ts) ih
    at false ih = ih

nodes_are : (board : ℕ) (things : List Held) (party : List ℕ) → is_among party (nodes_of board things) ≡ is_node bytes_eq board party things
nodes_are board [] party = refl
nodes_are board (t ∷ ts) party = at (is_of_board board t) (nodes_are board ts party)
  where
    at : (b : Bool) → is_among party (nodes_of board ts) ≡ is_node bytes_eq board party ts → is_among party (if b then placed_once t.holder (nodes_of board ts) else nodes_of board ts) ≡ ((b && bytes_eq t.holder party) || is_node bytes_eq board party ts)
    at true ih = placed_among t.holder party (nodes_of board ts) ∙ ap (λ (z : Bool). bytes_eq t.holder party || z) ih
    at false ih = ih

nodes_counted : (board : ℕ) (things : List Held) → length (nodes_of board things) ≡ nodes_taken bytes_eq board things
nodes_counted board [] = refl
nodes_counted board (t ∷ ts) = at (is_of_board board t) (nodes_counted board ts)
  where
    of : (b : Bool) (n m : ℕ) → n ≡ m → (if b then n else n + 1) ≡ (if not b then m + 1 else m)
    of true n m e = e
    of false n m e = ap (λ (z : ℕ). z + 1) e

    at : (b : Bool) → length (nodes_of board ts) ≡ nodes_taken bytes_eq board ts
        → length (if b then placed_once t.holder (nodes_of board ts) else nodes_of board ts) ≡ (if b && not (is_node bytes_eq board t.holder ts) then nodes_taken bytes_eq board ts + 1 else nodes_taken bytes_eq board ts)
    at true ih =
        placed_length t.holder (nodes_of board ts) (nodes_ascend_of board ts)
        ∙ ap (λ (z : Bool). if z then length (nodes_of board ts) else length (nodes_of board ts) + 1) (nodes_are board ts t.holder)
        ∙ of (is_node bytes_eq board t.holder ts) (length (nodes_of board ts)) (nodes_taken bytes_eq board ts) ih
    at false ih = ih

pub nodes_ascend : NodesAscend
nodes_ascend = record { ascend = λ board things. ascend_sorted (nodes_of board things) (nodes_ascend_of board things); are = nodes_are; counted = nodes_counted }

-- ---- nodes, once each

abbrev is_one_of : {H : Type 0} → (H → H → Bool) → H → List H → Bool
is_one_of same h nodes = list_any (λ n. same n h) nodes

none_is : {H : Type 0} (same : H → H → Bool) → ((x y : H) → Decides (same x y) (x ≡ y)) → (h : H) (ns : List H) → is_one_of same h ns ≡ false → AllByRecursion (λ n. h ≡ n → ⊥) ns
none_is same exact h [] e = tt
none_is same exact h (n ∷ ns) e = at (same n h) (λ k. (exact n h).1 k) e (none_is same exact h ns)
  where
    at : (b : Bool) → (n ≡ h → b ≡ true) → (b || is_one_of same h ns) ≡ false → (is_one_of same h ns ≡ false → AllByRecursion (λ m. h ≡ m → ⊥) ns) → (h ≡ n → ⊥) × AllByRecursion (λ m. h ≡ m → ⊥) ns
    at true f k ih = absurd (false≢true (sym k))
    at false f k ih = ((λ s. false≢true (f (sym s))), ih k)

module _ {H N : Type 0} (same : H → H → Bool) (exact : (x y : H) → Decides (same x y) (x ≡ y)) (board : ℕ) where
  -- the nodes of a thing, of this board or not, and of those behind it
  record NodesWith (ts : List (Thing H N)) (b : Bool) (holder : H) : Type 0 where
    nodes : List H
    differ : AllDiffer nodes
    are : (h : H) → is_one_of same h nodes ≡ ((b && same holder h) || is_node same board h ts)
    count : length nodes ≡ (if b && not (is_node same board holder ts) then nodes_taken same board ts + 1 else nodes_taken same board ts)

  record Nodes (ts : List (Thing H N)) : Type 0 where
    nodes : List H
    differ : AllDiffer nodes
    are : (h : H) → is_one_of same h nodes ≡ is_node same board h ts
    count : length nodes ≡ nodes_taken same board ts

  -- a holder of a later thing as well
  held_later : (ts : List (Thing H N)) (holder : H) → Nodes ts → is_node same board holder ts ≡ true → NodesWith ts true holder
  held_later ts holder ih later = record {
    nodes = ih.nodes;
    differ = ih.differ;
    are = λ h. ih.are h ∙ at h (same holder h) ((exact holder h).0);
    count = rw later ih.count;
  }
    where
      at : (h : H) (b : Bool) → (b ≡ true → holder ≡ h) → is_node same board h ts ≡ (b || is_node same board h ts)
      at h true e = ap (λ (z : H). is_node same board z ts) (sym (e refl)) ∙ later
      at h false e = refl

  -- and one of none
  held_last : (ts : List (Thing H N)) (holder : H) → Nodes ts → is_node same board holder ts ≡ false → NodesWith ts true holder
  held_last ts holder ih last = record {
    nodes = holder ∷ ih.nodes;
    differ = (none_is same exact holder ih.nodes (ih.are holder ∙ last), ih.differ);
    are = λ h. ap (λ (z : Bool). same holder h || z) (ih.are h);
    count = rw last (let e : length (holder ∷ ih.nodes) ≡ length ih.nodes + 1 = omega arith in e ∙ ap (λ (n : ℕ). n + 1) ih.count);
  }

  nodes_with : (ts : List (Thing H N)) → Nodes ts → (b : Bool) (holder : H) → NodesWith ts b holder
  nodes_with ts ih false holder = record { nodes = ih.nodes; differ = ih.differ; are = ih.are; count = ih.count }
  nodes_with ts ih true holder = at (is_node same board holder ts) refl
    where
      at : (z : Bool) → is_node same board holder ts ≡ z → NodesWith ts true holder
      at true e = held_later ts holder ih e
      at false e = held_last ts holder ih e

  all_nodes : (ts : List (Thing H N)) → Nodes ts
  all_nodes [] = record { nodes = []; differ = tt; are = λ h. refl; count = refl }
  all_nodes (t ∷ ts) =
      let k = nodes_with ts (all_nodes ts) (is_of_board board t) t.holder in
      record { nodes = k.nodes; differ = k.differ; are = k.are; count = k.count }

nodes_counted_once : {H N : Type 0} (same : H → H → Bool) → ((x y : H) → Decides (same x y) (x ≡ y)) → (board : ℕ) (things : List (Thing H N))
    → (nodes : List H) × AreNodes same board things nodes × (length nodes ≡ nodes_taken same board things)
nodes_counted_once same exact board things = let k = all_nodes same exact board things in (k.nodes, record { differ = k.differ; are = k.are }, k.count)

pub nodes_once : NodesAreCountedOnce
nodes_once = record {
  in_scripts = λ board things. nodes_counted_once bytes_eq bytes_eq-Decides board things;
  in_domains = λ board things. nodes_counted_once nat_eq Decides-eqb board things;
}

-- ---- ports

abbrev pub is_port_among : ℕ → List ℕ → Bool
is_port_among p ports = list_any (λ q. q == p) ports

none_equal : (p : ℕ) (ports : List ℕ) → is_port_among p ports ≡ false → AllByRecursion (λ q. p ≡ q → ⊥) ports
none_equal p [] h = tt
none_equal p (q ∷ qs) h = at (q == p) (λ e. eq-eqb q p e) h (none_equal p qs)
  where
    at : (b : Bool) → (q ≡ p → b ≡ true) → (b || is_port_among p qs) ≡ false → (is_port_among p qs ≡ false → AllByRecursion (λ r. p ≡ r → ⊥) qs) → (p ≡ q → ⊥) × AllByRecursion (λ r. p ≡ r → ⊥) qs
    at true e k ih = absurd (false≢true (sym k))
    at false e k ih = ((λ s. false≢true (e (sym s))), ih k)

-- the ports of a thing and of those behind it
record ArePorts {H N : Type 0} (board : ℕ) (ts : List (Thing H N)) (b : Bool) (o : Option ℕ) : Type 0 where
  ports : List ℕ
  differ : AllDiffer ports
  are : (q : ℕ) → is_port_among q ports ≡ ((b && holds_at o (λ p. p == q)) || list_any (is_of_port board q) ts)
  count : length ports ≡ (if b && holds_at o (λ p. not (list_any (is_of_port board p) ts)) then writer_slots board ts + 1 else writer_slots board ts)

pub record Ports {H N : Type 0} (board : ℕ) (ts : List (Thing H N)) : Type 0 where
  pub ports : List ℕ
  pub differ : AllDiffer ports
  pub are : (q : ℕ) → is_port_among q ports ≡ list_any (is_of_port board q) ts
  pub count : length ports ≡ writer_slots board ts

-- a port that a later thing keeps as well
kept_later : {H N : Type 0} (board : ℕ) (ts : List (Thing H N)) (p : ℕ) → Ports board ts → list_any (is_of_port board p) ts ≡ true → ArePorts board ts true (Some p)
kept_later board ts p ih later = record {
  ports = ih.ports;
  differ = ih.differ;
  are = λ q. ih.are q ∙ at q (p == q) (eqb-true p q);
  count = rw later ih.count;
}
  where
    at : (q : ℕ) (b : Bool) → (b ≡ true → p ≡ q) → list_any (is_of_port board q) ts ≡ (b || list_any (is_of_port board q) ts)
    at q true e = ap (λ (z : ℕ). list_any (is_of_port board z) ts) (sym (e refl)) ∙ later
    at q false e = refl

-- one that none keeps
kept_last : {H N : Type 0} (board : ℕ) (ts : List (Thing H N)) (p : ℕ) → Ports board ts → list_any (is_of_port board p) ts ≡ false → ArePorts board ts true (Some p)
kept_last board ts p ih last = record {
  ports = p ∷ ih.ports;
  differ = (none_equal p ih.ports (ih.are p ∙ last), ih.differ);
  are = λ q. ap (λ (z : Bool). (p == q) || z) (ih.are q);
  count = rw last (let e : length (p ∷ ih.ports) ≡ length ih.ports + 1 = omega arith in e ∙ ap (λ (n : ℕ). n + 1) ih.count);
}

ports_with : {H N : Type 0} (board : ℕ) (ts : List (Thing H N)) → Ports board ts → (b : Bool) (o : Option ℕ) → ArePorts board ts b o
ports_with board ts ih false o = record { ports = ih.ports; differ = ih.differ; are = ih.are; count = ih.count }
ports_with board ts ih true None = record { ports = ih.ports; differ = ih.differ; are = ih.are; count = ih.count }
ports_with board ts ih true (Some p) = at (list_any (is_of_port board p) ts) refl
  where
    at : (z : Bool) → list_any (is_of_port board p) ts ≡ z → ArePorts board ts true (Some p)
    at true e = kept_later board ts p ih e
    at false e = kept_last board ts p ih e

pub ports_of : {H N : Type 0} (board : ℕ) (ts : List (Thing H N)) → Ports board ts
ports_of board [] = record { ports = []; differ = tt; are = λ q. refl; count = refl }
ports_of board (t ∷ ts) =
    let k = ports_with board ts (ports_of board ts) (is_of_board board t) (writer_port t.kind) in
    record { ports = k.ports; differ = k.differ; are = k.are; count = k.count }

-- what keeps a writer slot, by its kind
writer_of : {H N : Type 0} (board p : ℕ) (t : Thing H N) → is_of_port board p t ≡ true → IsOfWriter board p t
writer_of board p t h = at (is_of_board board t) (λ e. eqb-true t.board board e) t.kind refl h
  where
    at : (b : Bool) → (b ≡ true → t.board ≡ board) → (k : Kind) → t.kind ≡ k → (b && holds_at (writer_port k) (λ q. q == p)) ≡ true → IsOfWriter board p t
    at false e k is g = absurd (false≢true g)
    at true e kind.Factory is g = absurd (false≢true g)
    at true e (kind.Reader q) is g = absurd (false≢true g)
    at true e (kind.Writer q) is g = record { board_is = e refl; kind_is = inl (is ∙ ap (λ (z : ℕ). kind.Writer z) (eqb-true q p g)) }
    at true e (kind.ReadHandle i) is g = absurd (false≢true g)
    at true e (kind.WriteHandle i q) is g = record { board_is = e refl; kind_is = inr (i, is ∙ ap (λ (z : ℕ). kind.WriteHandle i z) (eqb-true q p g)) }

of_writer : {H N : Type 0} (board p : ℕ) (t : Thing H N) → IsOfWriter board p t → is_of_port board p t ≡ true
of_writer board p t w =
    let keeps : holds_at (writer_port t.kind) (λ (q : ℕ). q == p) ≡ true = elim w.kind_is [
      | inl is ↦ ap (λ (k : Kind). holds_at (writer_port k) (λ (q : ℕ). q == p)) is ∙ eq-eqb p p refl
      | inr is ↦ ap (λ (k : Kind). holds_at (writer_port k) (λ (q : ℕ). q == p)) is.1 ∙ eq-eqb p p refl
    ] in
    ap (λ (b : Bool). b && holds_at (writer_port t.kind) (λ (q : ℕ). q == p)) (eq-eqb t.board board w.board_is) ∙ keeps

contains_port : (p : ℕ) (ports : List ℕ) → is_port_among p ports ≡ true → Contains ports p
contains_port p ports h =
    let k = Any-from_list_any (λ (q : ℕ). q == p) ports h in
    (k.0, k.2, subst (λ (q : ℕ). slice_index_or ports k.0 q ≡ q) (eqb-true k.1 p k.4) k.3)

port_contained : (p : ℕ) (ports : List ℕ) → Contains ports p → is_port_among p ports ≡ true
port_contained p ports h = list_any-from_Any (λ (q : ℕ). q == p) ports (h.0, p, h.1, h.2, eq-eqb p p refl)

some_writer : {H N : Type 0} (board p : ℕ) (ts : List (Thing H N)) → list_any (is_of_port board p) ts ≡ true → Any (IsOfWriter board p) ts
some_writer board p ts h =
    let k = Any-from_list_any (is_of_port board p) ts h in
    (k.0, k.1, k.2, k.3, writer_of board p k.1 k.4)

writer_there : {H N : Type 0} (board p : ℕ) (ts : List (Thing H N)) → Any (IsOfWriter board p) ts → list_any (is_of_port board p) ts ≡ true
writer_there board p ts h = list_any-from_Any (is_of_port board p) ts (h.0, h.1, h.2, h.3, of_writer board p h.1 h.4)

ports_once : {H N : Type 0} (board : ℕ) (things : List (Thing H N)) → (ports : List ℕ) × AreWriterPorts board things ports × (length ports ≡ writer_slots board things)
ports_once board things =
    let k = ports_of board things in
    let are : AreWriterPorts board things k.ports = record {
      differ = k.differ;
      each = λ p h. some_writer board p things (sym (k.are p) ∙ port_contained p k.ports h);
      all = λ p h. contains_port p k.ports (k.are p ∙ writer_there board p things h);
    } in
    (k.ports, are, k.count)

pub ports_counted : PortsAreCountedOnce
ports_counted = record { in_scripts = λ board things. ports_once board things; in_domains = λ board things. ports_once board things }

-- ---- keys

in_order : (k : KeyType) (at : ℕ) (es : List AddedEntry) → AllByRecursion (λ (e : AddedEntry). IsKeyOf k e.key) es
    → keys_of k (entries_of (places_from at (shapes_of (map added_of es))) (map added_of es)) ≡ map (λ (e : AddedEntry). e.key) es
in_order k at [] h = refl
in_order k at (e ∷ es) h =
    let one : key_of k (key_bytes e.key) ≡ e.key = ap (λ (t : KeyType). key_of t (key_bytes e.key)) (sym h.0.type) ∙ told_as_added e.key h.0.line in
    let rest = in_order k (start_of at (shape_of (added_of e)) + cell_bytes (shape_of (added_of e))) es h.1 in
    ap (λ (x : Key). x ∷ keys_of k (entries_of (places_from (start_of at (shape_of (added_of e)) + cell_bytes (shape_of (added_of e))) (shapes_of (map added_of es))) (map added_of es))) one
    ∙ ap (λ (xs : List Key). e.key ∷ xs) rest

pub keys_in_order : KeysAreToldInOrder
keys_in_order number name k limits attributes entries h =
    ap (λ (t : KeyType). keys_of t (entries_of (places_from 0 (shapes_of (map added_of entries))) (map added_of entries))) (detail_again k) ∙ in_order k 0 entries h
