-- The limits of boards are kept, and handles have entries, as things and boards come and go.
use Rattle.std.proofs.Common.{◌≡◌, ◌≢◌, ℕ, ◌+◌, ◌≤◌, ◌<◌, Bool, true, false, cond, ◌||◌, ◌==◌, List, [], ◌∷◌, ◌++◌, refl, sym, ap, subst, ◌∙◌, Option, Some, None, arith}
use Rattle.std.specs.Prelude.{◌&&◌, not, nat_eq, nat_le, find, IfSome}
use Rattle.std.specs.List.{list_any, count_by, cons_option, AllByRecursion}
use Rattle.board_model.specs.declared.tables.Board.{Board}
use Rattle.board_model.specs.declared.tables.Thing.{Thing}
use Rattle.board_model.specs.declared.tables.Kind.{Kind}
use Rattle.board_model.specs.declared.tables.Kind.TheVariants as kind
use Rattle.board_model.specs.Tables.{holds_at, is_numbered, is_of_board, is_reader, is_reader_of, reader_slots, writer_port, is_of_port, writer_slots, is_node, is_write_handle, nodes_taken, without_first, writes_entry}
use Rattle.board_model.proofs.ListLemmas.{count_push, count_cons, count_none, find_true}
use Rattle.board_service.specs.Facts.{HasEntry, IsWithinLimits, KeepsLimits, WritesAlone, board_number, entry_count, handle_entry, written_entry}
use Rattle.board_service.proofs.DrawnLemmas.{find-push, find-push-other, find-without-other}
use Rattle.board_service.proofs.DifferentLemmas.{different, different_push, different_push_had, different_push_none, different_without, has, numbers}

-- ---- writer slots and nodes are different numbers

-- the writer slot of the board that a thing keeps
abbrev slot_of : ℕ → Thing ℕ ℕ → Option ℕ
slot_of board t = cond (is_of_board board t) (writer_port t.kind) None

-- the node of the board that has the thing
abbrev node_of : ℕ → Thing ℕ ℕ → Option ℕ
node_of board t = cond (is_of_board board t) (Some t.holder) None

counted : (a b : Bool) (m n : ℕ) → a ≡ b → m ≡ n → cond (not a) (m + 1) m ≡ cond b n (n + 1)
counted true true m n e f = f
counted true false m n e f = absurd cc
counted false true m n e f = absurd cc
counted false false m n e f = ap (λ (k : ℕ). k + 1) f

slot_is_in : (board port : ℕ) (ts : List (Thing ℕ ℕ)) → list_any (is_of_port board port) ts ≡ has port (numbers (slot_of board) ts)
slot_is_in board port [] = refl
slot_is_in board port (t ∷ ts) = at (is_of_board board t) (writer_port t.kind) (slot_is_in board port ts)
  where
    at : (b : Bool) (o : Option ℕ) → list_any (is_of_port board port) ts ≡ has port (numbers (slot_of board) ts)
        → ((b && holds_at o (λ q. q == port)) || list_any (is_of_port board port) ts) ≡ has port (cons_option (cond b o None) (numbers (slot_of board) ts))
    at false o ih = ih
    at true None ih = ih
    at true (Some q) ih = ap (λ (c : Bool). (q == port) || c) ih

slots_are : (board : ℕ) (ts : List (Thing ℕ ℕ)) → writer_slots board ts ≡ different (numbers (slot_of board) ts)
slots_are board [] = refl
slots_are board (t ∷ ts) = at (is_of_board board t) (writer_port t.kind) (slots_are board ts)
  where
    at : (b : Bool) (o : Option ℕ) → writer_slots board ts ≡ different (numbers (slot_of board) ts)
        → cond (b && holds_at o (λ p. not (list_any (is_of_port board p) ts))) (writer_slots board ts + 1) (writer_slots board ts) ≡ different (cons_option (cond b o None) (numbers (slot_of board) ts))
    at false o ih = ih
    at true None ih = ih
    at true (Some p) ih = counted (list_any (is_of_port board p) ts) (has p (numbers (slot_of board) ts)) (writer_slots board ts) (different (numbers (slot_of board) ts)) (slot_is_in board p ts) ih

node_is_in : (board node : ℕ) (ts : List (Thing ℕ ℕ)) → is_node nat_eq board node ts ≡ has node (numbers (node_of board) ts)
node_is_in board node [] = refl
node_is_in board node (t ∷ ts) = at (is_of_board board t) (node_is_in board node ts)
  where
    at : (b : Bool) → is_node nat_eq board node ts ≡ has node (numbers (node_of board) ts)
        → ((b && nat_eq t.holder node) || is_node nat_eq board node ts) ≡ has node (cons_option (cond b (Some t.holder) None) (numbers (node_of board) ts))
    at false ih = ih
    at true ih = ap (λ (c : Bool). (t.holder == node) || c) ih

nodes_are : (board : ℕ) (ts : List (Thing ℕ ℕ)) → nodes_taken nat_eq board ts ≡ different (numbers (node_of board) ts)
nodes_are board [] = refl
nodes_are board (t ∷ ts) = at (is_of_board board t) (nodes_are board ts)
  where
    at : (b : Bool) → nodes_taken nat_eq board ts ≡ different (numbers (node_of board) ts)
        → cond (b && not (is_node nat_eq board t.holder ts)) (nodes_taken nat_eq board ts + 1) (nodes_taken nat_eq board ts) ≡ different (cons_option (cond b (Some t.holder) None) (numbers (node_of board) ts))
    at false ih = ih
    at true ih = counted (is_node nat_eq board t.holder ts) (has t.holder (numbers (node_of board) ts)) (nodes_taken nat_eq board ts) (different (numbers (node_of board) ts)) (node_is_in board t.holder ts) ih

-- ---- readers, by one thing more or less

and_right : (a b : Bool) → b ≡ false → (a && b) ≡ false
and_right true b e = e
and_right false b e = refl

one_at_most : (b : Bool) → cond b 1 0 ≤ 1
one_at_most true = omega arith
one_at_most false = omega arith

none_counted : (p : Thing ℕ ℕ → Bool) (ts : List (Thing ℕ ℕ)) (x : Thing ℕ ℕ) → p x ≡ false → count_by p (ts ++ x ∷ []) ≡ count_by p ts
none_counted p ts x not_so =
    let c = count_push p ts x in
    let d : ◌≡◌ {A = ℕ} (cond (p x) 1 0) 0 = ap (λ (b : Bool). cond b 1 0) not_so in
    omega (arith, c, d)

one_counted : (p : Thing ℕ ℕ → Bool) (ts : List (Thing ℕ ℕ)) (x : Thing ℕ ℕ) → count_by p (ts ++ x ∷ []) ≤ count_by p ts + 1
one_counted p ts x =
    let c = count_push p ts x in
    let d : cond (p x) 1 0 ≤ 1 = one_at_most (p x) in
    omega (arith, c, d)

pub fewer_counted : {X : Type 0} (p q : X → Bool) (ts : List X) → count_by p (without_first q ts) ≤ count_by p ts
fewer_counted p q [] = omega arith
fewer_counted p q (t ∷ ts) = at (q t) (fewer_counted p q ts)
  where
    at : (b : Bool) → count_by p (without_first q ts) ≤ count_by p ts → count_by p (cond b ts (t ∷ without_first q ts)) ≤ count_by p (t ∷ ts)
    at true ih = omega (arith, count_cons p t ts)
    at false ih = omega (arith, count_cons p t ts, count_cons p t (without_first q ts), ih)

-- ---- one thing more of a board within its limits

-- its holder has another thing of the board
pub record IsOfNode (ts : List (Thing ℕ ℕ)) (x : Thing ℕ ℕ) (b : Board) : Type 0 where
  pub own : is_of_board b.number x ≡ true
  pub node : is_node nat_eq b.number x.holder ts ≡ true

no_reader : (ts : List (Thing ℕ ℕ)) (x : Thing ℕ ℕ) (b : Board) → IsWithinLimits ts b → is_reader x.kind ≡ false → reader_slots b.number (ts ++ x ∷ []) ≤ b.max_readers
no_reader ts x b h not_so =
    let same = none_counted (is_reader_of b.number) ts x (and_right (is_of_board b.number x) (is_reader x.kind) not_so) in
    let had = h.readers in
    subst (λ n. n ≤ b.max_readers) (sym same) had

cond_none : (b : Bool) (o : Option ℕ) → o ≡ None → cond b o None ≡ None
cond_none true o e = e
cond_none false o e = refl

no_writer : (ts : List (Thing ℕ ℕ)) (x : Thing ℕ ℕ) (b : Board) → IsWithinLimits ts b → writer_port x.kind ≡ None → writer_slots b.number (ts ++ x ∷ []) ≤ b.max_writers
no_writer ts x b h none =
    let same = slots_are b.number (ts ++ x ∷ []) ∙ different_push_none (slot_of b.number) ts x (cond_none (is_of_board b.number x) (writer_port x.kind) none) ∙ sym (slots_are b.number ts) in
    subst (λ n. n ≤ b.max_writers) (sym same) h.writers

of_node : (ts : List (Thing ℕ ℕ)) (x : Thing ℕ ℕ) (b : Board) → IsWithinLimits ts b → IsOfNode ts x b → nodes_taken nat_eq b.number (ts ++ x ∷ []) ≤ b.max_nodes
of_node ts x b h of =
    let holder : node_of b.number x ≡ Some x.holder = ap (λ (c : Bool). cond c (Some x.holder) None) of.own in
    let had = sym (node_is_in b.number x.holder ts) ∙ of.node in
    let same = nodes_are b.number (ts ++ x ∷ []) ∙ different_push_had (node_of b.number) ts x x.holder holder had ∙ sym (nodes_are b.number ts) in
    subst (λ n. n ≤ b.max_nodes) (sym same) h.nodes

-- a factory, where its node is one of the board's or may become one
pub room_of_factory : (ts : List (Thing ℕ ℕ)) (x : Thing ℕ ℕ) (b : Board) → IsWithinLimits ts b → x.kind ≡ kind.Factory → is_of_board b.number x ≡ true
    → (not (is_node nat_eq b.number x.holder ts) && nat_le b.max_nodes (nodes_taken nat_eq b.number ts)) ≡ false → IsWithinLimits (ts ++ x ∷ []) b
room_of_factory ts x b h factory own may = record {
  readers = no_reader ts x b h (ap is_reader factory);
  writers = no_writer ts x b h (ap writer_port factory);
  nodes = at (is_node nat_eq b.number x.holder ts) refl (nat_le b.max_nodes (nodes_taken nat_eq b.number ts)) refl may;
}
  where
    at : (c : Bool) → is_node nat_eq b.number x.holder ts ≡ c → (d : Bool) → nat_le b.max_nodes (nodes_taken nat_eq b.number ts) ≡ d → (not c && d) ≡ false → nodes_taken nat_eq b.number (ts ++ x ∷ []) ≤ b.max_nodes
    at true e d f m = of_node ts x b h (record { own = own; node = e })
    at false e true f m = absurd cc
    at false e false f m =
        let few : nodes_taken nat_eq b.number ts < b.max_nodes = grind (arith, f) in
        let more = different_push (node_of b.number) ts x in
        omega (arith, few, more, nodes_are b.number ts, nodes_are b.number (ts ++ x ∷ []))

-- a reader of a node of the board, where there is a slot
pub room_of_reader : (ts : List (Thing ℕ ℕ)) (x : Thing ℕ ℕ) (b : Board) → IsWithinLimits ts b → IsOfNode ts x b → writer_port x.kind ≡ None
    → nat_le b.max_readers (reader_slots b.number ts) ≡ false → IsWithinLimits (ts ++ x ∷ []) b
room_of_reader ts x b h of none may =
    let few : reader_slots b.number ts < b.max_readers = grind (arith, may) in
    record {
      readers = omega (arith, few, one_counted (is_reader_of b.number) ts x);
      writers = no_writer ts x b h none;
      nodes = of_node ts x b h of;
    }

-- a writer of a node of the board, where there is a slot
pub room_of_writer : (ts : List (Thing ℕ ℕ)) (x : Thing ℕ ℕ) (b : Board) → IsWithinLimits ts b → IsOfNode ts x b → is_reader x.kind ≡ false
    → nat_le b.max_writers (writer_slots b.number ts) ≡ false → IsWithinLimits (ts ++ x ∷ []) b
room_of_writer ts x b h of not_so may =
    let few : writer_slots b.number ts < b.max_writers = grind (arith, may) in
    let more = different_push (slot_of b.number) ts x in
    record {
      readers = no_reader ts x b h not_so;
      writers = omega (arith, few, more, slots_are b.number ts, slots_are b.number (ts ++ x ∷ []));
      nodes = of_node ts x b h of;
    }

-- a read handle of a node of the board
pub room_of_read_handle : (ts : List (Thing ℕ ℕ)) (x : Thing ℕ ℕ) (b : Board) → IsWithinLimits ts b → IsOfNode ts x b → is_reader x.kind ≡ false → writer_port x.kind ≡ None
    → IsWithinLimits (ts ++ x ∷ []) b
room_of_read_handle ts x b h of not_so none = record { readers = no_reader ts x b h not_so; writers = no_writer ts x b h none; nodes = of_node ts x b h of }

-- a write handle, whose writer slot is another thing's already
pub room_of_write_handle : (ts : List (Thing ℕ ℕ)) (x : Thing ℕ ℕ) (b : Board) (port : ℕ) → IsWithinLimits ts b → IsOfNode ts x b → is_reader x.kind ≡ false → writer_port x.kind ≡ Some port
    → list_any (is_of_port b.number port) ts ≡ true → IsWithinLimits (ts ++ x ∷ []) b
room_of_write_handle ts x b port h of not_so some had =
    let slot : slot_of b.number x ≡ Some port = ap (λ (c : Bool). cond c (writer_port x.kind) None) of.own ∙ some in
    let there = sym (slot_is_in b.number port ts) ∙ had in
    let same = slots_are b.number (ts ++ x ∷ []) ∙ different_push_had (slot_of b.number) ts x port slot there ∙ sym (slots_are b.number ts) in
    record {
      readers = no_reader ts x b h not_so;
      writers = subst (λ n. n ≤ b.max_writers) (sym same) h.writers;
      nodes = of_node ts x b h of;
    }

-- a thing of another board
within_other : (ts : List (Thing ℕ ℕ)) (x : Thing ℕ ℕ) (b : Board) → is_of_board b.number x ≡ false → IsWithinLimits ts b → IsWithinLimits (ts ++ x ∷ []) b
within_other ts x b other h =
    let readers = none_counted (is_reader_of b.number) ts x (ap (λ (c : Bool). c && is_reader x.kind) other) in
    let slot : slot_of b.number x ≡ None = ap (λ (c : Bool). cond c (writer_port x.kind) None) other in
    let node : node_of b.number x ≡ None = ap (λ (c : Bool). cond c (Some x.holder) None) other in
    let slots = slots_are b.number (ts ++ x ∷ []) ∙ different_push_none (slot_of b.number) ts x slot ∙ sym (slots_are b.number ts) in
    let nodes = nodes_are b.number (ts ++ x ∷ []) ∙ different_push_none (node_of b.number) ts x node ∙ sym (nodes_are b.number ts) in
    record {
      readers = subst (λ n. n ≤ b.max_readers) (sym readers) h.readers;
      writers = subst (λ n. n ≤ b.max_writers) (sym slots) h.writers;
      nodes = subst (λ n. n ≤ b.max_nodes) (sym nodes) h.nodes;
    }

-- one thing less
within_less : (q : Thing ℕ ℕ → Bool) (ts : List (Thing ℕ ℕ)) (b : Board) → IsWithinLimits ts b → IsWithinLimits (without_first q ts) b
within_less q ts b h =
    let readers = fewer_counted (is_reader_of b.number) q ts in
    let slots = different_without (slot_of b.number) q ts in
    let nodes = different_without (node_of b.number) q ts in
    record {
      readers = omega (arith, readers, h.readers);
      writers = omega (arith, slots, h.writers, slots_are b.number ts, slots_are b.number (without_first q ts));
      nodes = omega (arith, nodes, h.nodes, nodes_are b.number ts, nodes_are b.number (without_first q ts));
    }

-- ---- of each board

pub number_found : (n : ℕ) (boards : List Board) (b : Board) → find (is_numbered n) boards ≡ Some b → b.number ≡ n
number_found n boards b f =
    let own : (b.number == n) ≡ true = find_true (is_numbered n) boards b f in
    grind (arith, own)

other_kept : (boards : List Board) (ts : List (Thing ℕ ℕ)) (x : Thing ℕ ℕ) (n : ℕ) → (x.board == n) ≡ false → KeepsLimits boards ts n → KeepsLimits boards (ts ++ x ∷ []) n
other_kept boards ts x n other h = at (find (is_numbered n) boards) refl h
  where
    at : (o : Option Board) → find (is_numbered n) boards ≡ o → IfSome o (λ b. IsWithinLimits ts b) → IfSome o (λ b. IsWithinLimits (ts ++ x ∷ []) b)
    at None f k = tt
    at (Some b) f k = within_other ts x b (subst (λ (m : ℕ). (x.board == m) ≡ false) (sym (number_found n boards b f)) other) k

-- one thing more, which is within the limits of its board
pub limits_more : (boards : List Board) (ts : List (Thing ℕ ℕ)) (x : Thing ℕ ℕ) → ((n : ℕ) → KeepsLimits boards ts n) → KeepsLimits boards (ts ++ x ∷ []) x.board → (n : ℕ) → KeepsLimits boards (ts ++ x ∷ []) n
limits_more boards ts x all own n = at (x.board == n) refl
  where
    at : (c : Bool) → (x.board == n) ≡ c → KeepsLimits boards (ts ++ x ∷ []) n
    at true e = let same : x.board ≡ n = grind (arith, e) in subst (λ m. KeepsLimits boards (ts ++ x ∷ []) m) same own
    at false e = other_kept boards ts x n e (all n)

-- one thing less
pub limits_less : (boards : List Board) (ts : List (Thing ℕ ℕ)) (q : Thing ℕ ℕ → Bool) → ((n : ℕ) → KeepsLimits boards ts n) → (n : ℕ) → KeepsLimits boards (without_first q ts) n
limits_less boards ts q all n = at (find (is_numbered n) boards) (all n)
  where
    at : (o : Option Board) → IfSome o (λ b. IsWithinLimits ts b) → IfSome o (λ b. IsWithinLimits (without_first q ts) b)
    at None k = tt
    at (Some b) k = within_less q ts b k

-- one board less
pub limits_less_board : (boards : List Board) (ts : List (Thing ℕ ℕ)) (of : ℕ) → ((n : ℕ) → KeepsLimits boards ts n) → find (is_numbered of) (without_first (is_numbered of) boards) ≡ None
    → (n : ℕ) → KeepsLimits (without_first (is_numbered of) boards) ts n
limits_less_board boards ts of all gone n = at (n == of) refl
  where
    at : (c : Bool) → (n == of) ≡ c → KeepsLimits (without_first (is_numbered of) boards) ts n
    at true e =
        let same : of ≡ n = grind (arith, e) in
        let none = subst (λ (m : ℕ). find (is_numbered m) (without_first (is_numbered of) boards) ≡ None) same gone in
        subst (λ (o : Option Board). IfSome o (λ b. IsWithinLimits ts b)) (sym none) tt
    at false e =
        let other : n ≢ of = λ s. (let t : (n == of) ≡ true = grind (arith, s) in absurd cc) in
        subst (λ (o : Option Board). IfSome o (λ b. IsWithinLimits ts b)) (sym (find-without-other board_number is_numbered (λ m y. refl) of n boards other)) (all n)

-- ---- a board that has no thing yet

or_parts : (a b : Bool) → (a || b) ≡ false → (a ≡ false) × (b ≡ false)
or_parts true b e = absurd cc
or_parts false b e = (refl, e)

none_read : (n : ℕ) (ts : List (Thing ℕ ℕ)) → list_any (is_of_board n) ts ≡ false → reader_slots n ts ≡ 0
none_read n [] h = refl
none_read n (t ∷ ts) h =
    let parts = or_parts (is_of_board n t) (list_any (is_of_board n) ts) h in
    let d : ◌≡◌ {A = ℕ} (cond (is_reader_of n t) 1 0) 0 = ap (λ (b : Bool). cond (b && is_reader t.kind) 1 0) parts.0 in
    omega (arith, count_cons (is_reader_of n) t ts, none_read n ts parts.1, d)

no_slots : (n : ℕ) (ts : List (Thing ℕ ℕ)) → list_any (is_of_board n) ts ≡ false → numbers (slot_of n) ts ≡ []
no_slots n [] h = refl
no_slots n (t ∷ ts) h =
    let parts = or_parts (is_of_board n t) (list_any (is_of_board n) ts) h in
    ap (λ (b : Bool). cons_option (cond b (writer_port t.kind) None) (numbers (slot_of n) ts)) parts.0 ∙ no_slots n ts parts.1

no_nodes : (n : ℕ) (ts : List (Thing ℕ ℕ)) → list_any (is_of_board n) ts ≡ false → numbers (node_of n) ts ≡ []
no_nodes n [] h = refl
no_nodes n (t ∷ ts) h =
    let parts = or_parts (is_of_board n t) (list_any (is_of_board n) ts) h in
    ap (λ (b : Bool). cons_option (cond b (Some t.holder) None) (numbers (node_of n) ts)) parts.0 ∙ no_nodes n ts parts.1

first_within : (ts : List (Thing ℕ ℕ)) (x : Thing ℕ ℕ) (b : Board) → list_any (is_of_board b.number) ts ≡ false → x.kind ≡ kind.Factory → 1 ≤ b.max_nodes → IsWithinLimits (ts ++ x ∷ []) b
first_within ts x b none factory least =
    let readers = none_counted (is_reader_of b.number) ts x (and_right (is_of_board b.number x) (is_reader x.kind) (ap is_reader factory)) in
    let slots = different_push_none (slot_of b.number) ts x (cond_none (is_of_board b.number x) (writer_port x.kind) (ap writer_port factory)) in
    let nodes = different_push (node_of b.number) ts x in
    let slot : different (numbers (slot_of b.number) ts) ≡ 0 = ap (λ (l : List ℕ). different l) (no_slots b.number ts none) in
    let node : different (numbers (node_of b.number) ts) ≡ 0 = ap (λ (l : List ℕ). different l) (no_nodes b.number ts none) in
    record {
      readers = omega (arith, readers, none_read b.number ts none);
      writers = omega (arith, slots_are b.number (ts ++ x ∷ []), slots, slot);
      nodes = omega (arith, nodes_are b.number (ts ++ x ∷ []), nodes, node, least);
    }

-- one board more, with a factory of it
pub limits_more_board : (boards : List Board) (ts : List (Thing ℕ ℕ)) (b : Board) (x : Thing ℕ ℕ) → ((n : ℕ) → KeepsLimits boards ts n)
    → find (is_numbered b.number) boards ≡ None → list_any (is_of_board b.number) ts ≡ false → x.board ≡ b.number → x.kind ≡ kind.Factory → 1 ≤ b.max_nodes
    → (n : ℕ) → KeepsLimits (boards ++ b ∷ []) (ts ++ x ∷ []) n
limits_more_board boards ts b x all free none of factory least n = at (x.board == n) refl
  where
    at : (c : Bool) → (x.board == n) ≡ c → KeepsLimits (boards ++ b ∷ []) (ts ++ x ∷ []) n
    at true e =
        let same : n ≡ b.number = grind (arith, e, of) in
        let found = find-push board_number is_numbered (λ m y. refl) n boards b same (subst (λ (m : ℕ). find (is_numbered m) boards ≡ None) (sym same) free) in
        subst (λ (o : Option Board). IfSome o (λ c. IsWithinLimits (ts ++ x ∷ []) c)) (sym found) (first_within ts x b none factory least)
    at false e =
        let other : n ≢ b.number = λ s. (let t : (x.board == n) ≡ true = grind (arith, s, of) in absurd cc) in
        subst (λ (o : Option Board). IfSome o (λ c. IsWithinLimits (ts ++ x ∷ []) c)) (sym (find-push-other board_number is_numbered (λ m y. refl) n boards b other)) (other_kept boards ts x n e (all n))

-- ---- entries of handles

more_entries : (p : Board → Bool) (boards more : List Board) → entry_count (find p boards) ≤ entry_count (find p (boards ++ more))
more_entries p [] more = omega arith
more_entries p (b ∷ boards) more = at (p b) (more_entries p boards more)
  where
    at : (c : Bool) → entry_count (find p boards) ≤ entry_count (find p (boards ++ more)) → entry_count (cond c (Some b) (find p boards)) ≤ entry_count (cond c (Some b) (find p (boards ++ more)))
    at true ih = omega arith
    at false ih = ih

pub entries_more_boards : (boards more : List Board) (ts : List (Thing ℕ ℕ)) → AllByRecursion (HasEntry boards) ts → AllByRecursion (HasEntry (boards ++ more)) ts
entries_more_boards boards more [] h = tt
entries_more_boards boards more (t ∷ ts) h = (at (handle_entry t.kind) h.0, entries_more_boards boards more ts h.1)
  where
    at : (o : Option ℕ) → IfSome o (λ e. e < entry_count (find (is_numbered t.board) boards)) → IfSome o (λ e. e < entry_count (find (is_numbered t.board) (boards ++ more)))
    at None k = tt
    at (Some e) k = omega (arith, k, more_entries (is_numbered t.board) boards more)

pub entries_less_board : (of : ℕ) (boards : List Board) (ts : List (Thing ℕ ℕ)) → list_any (is_of_board of) ts ≡ false → AllByRecursion (HasEntry boards) ts
    → AllByRecursion (HasEntry (without_first (is_numbered of) boards)) ts
entries_less_board of boards [] gone h = tt
entries_less_board of boards (t ∷ ts) gone h =
    let parts = or_parts (is_of_board of t) (list_any (is_of_board of) ts) gone in
    let none : (t.board == of) ≡ false = parts.0 in
    let other : t.board ≢ of = λ s. (let e : (t.board == of) ≡ true = grind (arith, s) in absurd cc) in (
      subst (λ (o : Option Board). IfSome (handle_entry t.kind) (λ e. e < entry_count o)) (sym (find-without-other board_number is_numbered (λ m y. refl) of t.board boards other)) h.0,
      entries_less_board of boards ts parts.1 h.1,
    )

-- ---- write handles

-- one thing more, whose entry has no write handle yet
pub writers_more : (ts : List (Thing ℕ ℕ)) (x : Thing ℕ ℕ) → ((board entry : ℕ) → count_by (is_write_handle board entry) ts ≤ 1) → WritesAlone ts x
    → (board entry : ℕ) → count_by (is_write_handle board entry) (ts ++ x ∷ []) ≤ 1
writers_more ts x few alone board entry = at x.kind refl
  where
    same : is_write_handle board entry x ≡ false → count_by (is_write_handle board entry) (ts ++ x ∷ []) ≤ 1
    same not_so = let kept = none_counted (is_write_handle board entry) ts x not_so in let had = few board entry in omega (arith, kept, had)

    not_it : (k : Kind) → x.kind ≡ k → writes_entry entry k ≡ false → count_by (is_write_handle board entry) (ts ++ x ∷ []) ≤ 1
    not_it k e not_so = same (and_right (is_of_board board x) (writes_entry entry x.kind) (ap (λ (z : Kind). writes_entry entry z) e ∙ not_so))

    first : (e : ℕ) → list_any (is_write_handle x.board e) ts ≡ false → x.board ≡ board → e ≡ entry → count_by (is_write_handle board entry) (ts ++ x ∷ []) ≤ 1
    first e none b i =
        let here : list_any (is_write_handle board entry) ts ≡ false = subst (λ (m : ℕ). list_any (is_write_handle board m) ts ≡ false) i (subst (λ (n : ℕ). list_any (is_write_handle n e) ts ≡ false) b none) in
        let zero = count_none (is_write_handle board entry) ts here in
        let one = one_counted (is_write_handle board entry) ts x in
        omega (arith, zero, one)

    handle : (e port : ℕ) → x.kind ≡ kind.WriteHandle e port → list_any (is_write_handle x.board e) ts ≡ false → (c : Bool) → (x.board == board) ≡ c → (d : Bool) → (e == entry) ≡ d → count_by (is_write_handle board entry) (ts ++ x ∷ []) ≤ 1
    handle e port k none true b true i = first e none (grind (arith, b)) (grind (arith, i))
    handle e port k none true b false i = not_it (kind.WriteHandle e port) k i
    handle e port k none false b d i = same (ap (λ (c : Bool). c && writes_entry entry x.kind) b)

    at : (k : Kind) → x.kind ≡ k → count_by (is_write_handle board entry) (ts ++ x ∷ []) ≤ 1
    at kind.Factory e = not_it kind.Factory e refl
    at (kind.Reader port) e = not_it (kind.Reader port) e refl
    at (kind.Writer port) e = not_it (kind.Writer port) e refl
    at (kind.ReadHandle i) e = not_it (kind.ReadHandle i) e refl
    at (kind.WriteHandle i port) e =
        let none : list_any (is_write_handle x.board i) ts ≡ false = subst (λ (k : Kind). IfSome (written_entry k) (λ n. list_any (is_write_handle x.board n) ts ≡ false)) e alone in
        handle i port e none (x.board == board) refl (i == entry) refl

-- one thing less
pub writers_less : (ts : List (Thing ℕ ℕ)) (q : Thing ℕ ℕ → Bool) → ((board entry : ℕ) → count_by (is_write_handle board entry) ts ≤ 1) → (board entry : ℕ) → count_by (is_write_handle board entry) (without_first q ts) ≤ 1
writers_less ts q few board entry = let had = few board entry in let less = fewer_counted (is_write_handle board entry) q ts in omega (arith, had, less)
