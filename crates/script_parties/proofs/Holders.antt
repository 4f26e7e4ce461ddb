-- The parties with a thing of a board, as they are told.
use Rattle.std.proofs.Common.{◌≡◌, ◌==◌, ℕ, zero, suc, ◌-◌, ◌<◌, ◌≤◌, Bool, true, false, List, [], ◌∷◌, length, arith, refl, sym, ap, ◌∙◌, subst, Option, Some, None, inl, inr}
use Rattle.std.specs.Prelude.{◌||◌, ◌&&◌, is_some, nat_eq, nat_lt, option_map, slice_get, slice_index_or, find}
use Rattle.std.specs.BTreeSet.{BTreeSet}
use Rattle.std.specs.Cmp.Lexicographic.{nat_list_cmp_total, slice_cmp}
use Rattle.std.specs.List.{AllByRecursion, list_any}
use Rattle.std.specs.Ordering.{is_eq, nat_cmp}
use Rattle.std.specs.Str.{bytes_eq}
use Rattle.std.proofs.lemmas.Bool.{eqb-true, eq-eqb, ltb-true, ltb-false, false≢true, false_from_ne_true, and_from, or_left, or_right}
use Rattle.std.proofs.lemmas.Map.Lookups.{btree_set_from_contains, exact_bytes}
use Rattle.std.proofs.lemmas.Map.Text.{is_eq-slice_cmp}
use Rattle.std.proofs.lemmas.Slice.Eq.{bytes_eq-Decides}
use Rattle.board_model.specs.declared.tables.Board.{Board}
use Rattle.board_model.specs.Replies.{nodes_of}
use Rattle.board_model.specs.Tables.{board_at, holds_at, is_held_by, is_node, is_numbered, is_of_board, nodes_taken}
use Rattle.board_model.specs.Things.{Held}
use Rattle.board_model.proofs.ListingLaws.{nodes_ascend}
use Rattle.board_service.specs.Domain.{Domain}
use Rattle.board_service.specs.Facts.{IsDomain}
use Rattle.board_service.specs.Told.{node_from, node_in, use_in}
use Rattle.script_parties.specs.BoardNodes.{AreHolders, is_told, node_count, node_party, nodes_in_use, party_told}
use Rattle.script_parties.specs.Named.{IsCalled, IsNamed, held_or_none, named_things, party_at, things_of}
use Rattle.script_parties.proofs.Counts.{node-same, turned}
use Rattle.script_parties.proofs.Growth.{same_things}
use Rattle.script_parties.proofs.NodeCounts.{Things, board_there, first_of, from, has, node_told, node_within, or_cases, second_of, taken, told_node}
use Rattle.script_parties.proofs.Places.{chosen}

-- ---- tests of lists

same_tests : (a b : Bool) → (a ≡ true → b ≡ true) → (b ≡ true → a ≡ true) → a ≡ b
same_tests true true f g = refl
same_tests true false f g = sym (f refl)
same_tests false true f g = g refl
same_tests false false f g = refl

-- ---- parties by their places

party_there : (ps : List (List ℕ)) (i : ℕ) → i < length ps → slice_get ps i ≡ Some (slice_index_or ps i [])
party_there [] i b = absurd (omega (arith, b))
party_there (p ∷ ps) zero b = refl
party_there (p ∷ ps) (suc i) b = party_there ps i (omega (arith, b))

party_is : (nodes : List (List ℕ)) (n : ℕ) → 0 < n → n ≤ length nodes → node_party nodes (Some n) ≡ Some (party_at nodes n)
party_is nodes n a b = party_there nodes (n - 1) (omega (arith, a, b))

-- ---- a party that is told, and one that holds something

numbered : (board : ℕ) (b : Board) (bs : List Board) → find (is_numbered board) bs ≡ Some b → b.number ≡ board
numbered board b [] e = absurd cc
numbered board b (x ∷ xs) e =
    elim (chosen (x.number == board) (Some x) (find (is_numbered board) xs) (Some b) e) [
      | inl c ↦ (let s : Some x ≡ Some b = c.1 in let same : x ≡ b = cc in sym (ap (λ (y : Board). y.number) same) ∙ eqb-true x.number board c.0)
      | inr c ↦ numbered board b xs c.1
    ]

module _ {C : Type 0} (nodes : List (List ℕ)) (d : Domain C) (board : ℕ) (p : List ℕ) where
  abbrev is_it : Option (List ℕ) → Bool
  is_it o = holds_at o (λ q. bytes_eq q p)

  -- where a party is told, it is told at a place
  told_somewhere : (i : ℕ) → is_told nodes d board p i ≡ true → (j : ℕ) × (is_it (party_told nodes d board j) ≡ true)
  told_somewhere zero h = absurd (false≢true h)
  told_somewhere (suc i) h = or_cases ((j : ℕ) × (is_it (party_told nodes d board j) ≡ true)) (is_told nodes d board p i) (is_it (party_told nodes d board i)) (λ k. told_somewhere i k) (λ here. (i, here)) h

  told_at : (i j : ℕ) → j < i → is_it (party_told nodes d board j) ≡ true → is_told nodes d board p i ≡ true
  told_at zero j less h = absurd (omega (arith, less))
  told_at (suc i) j less h = by (nat_lt j i) refl (λ l. told_at i j l h)
    where
      by : (b : Bool) → nat_lt j i ≡ b → (j < i → is_told nodes d board p i ≡ true) → is_told nodes d board p (suc i) ≡ true
      by true e before = or_left (is_told nodes d board p i) (is_it (party_told nodes d board i)) (before (ltb-true j i e))
      by false e before = or_right (is_told nodes d board p i) (is_it (party_told nodes d board i))
          (let least : i ≤ j = ltb-false j i e in let same : j ≡ i = omega (arith, least, less) in subst (λ k. is_it (party_told nodes d board k) ≡ true) same h)

module _ (nodes : List (List ℕ)) (at : ℕ → Option Held) (board : ℕ) (p : List ℕ) where
  -- who holds something by name is a node
  holder_of : (ts : Things) → AllByRecursion (IsCalled (party_at nodes) at) ts → list_any (is_held_by bytes_eq board p) (named_things at ts) ≡ true
      → (m : ℕ) × (has board m ts ≡ true) × (bytes_eq (party_at nodes m) p ≡ true)
  holder_of [] all h = absurd (false≢true h)
  holder_of (t ∷ ts) all h =
      or_cases ((m : ℕ) × (has board m (t ∷ ts) ≡ true) × (bytes_eq (party_at nodes m) p ≡ true)) (is_held_by bytes_eq board p (held_or_none (at t.name))) (list_any (is_held_by bytes_eq board p) (named_things at ts))
      (λ it.
      let c = all.0 in
      let x : Held = c.named in
      let own : is_held_by bytes_eq board p x ≡ true = sym (ap (λ (o : Option Held). is_held_by bytes_eq board p (held_or_none o)) c.there) ∙ it in
      let of : is_of_board board t ≡ true = ap (λ (b : ℕ). b == board) c.board ∙ first_of (x.board == board) (bytes_eq x.holder p) own in
      let who : bytes_eq (party_at nodes t.holder) p ≡ true = ap (λ (q : List ℕ). bytes_eq q p) c.holder ∙ second_of (x.board == board) (bytes_eq x.holder p) own in
      (t.holder, or_left (is_of_board board t && nat_eq t.holder t.holder) (has board t.holder ts) (and_from (is_of_board board t) (nat_eq t.holder t.holder) of (eq-eqb t.holder t.holder refl)), who))
      (λ more.
      let r = holder_of ts all.1 more in
      (r.0, or_right (is_of_board board t && nat_eq t.holder r.0) (has board r.0 ts) r.1, r.2)) h

module _ {C : Type 0} (nodes : List (List ℕ)) (at : ℕ → Option Held) (d : Domain C) (h : IsNamed nodes at d) (board : ℕ) (p : List ℕ) where
  abbrev ts : Things
  ts = d.tables.things

  abbrev holds_one : Bool
  holds_one = list_any (is_held_by bytes_eq board p) (things_of at d)

  -- a board that doesn't stand has no nodes
  none_told : IsDomain d → board_at d.tables board ≡ None → is_told nodes d board p (node_count d board) ≡ holds_one
  none_told facts e =
      let count : node_count d board ≡ 0 = ap (λ (o : Option Board). nodes_in_use (option_map (use_in ts) o)) e in
      let none : list_any (is_of_board board) ts ≡ false = sym (facts.tables.standing board) ∙ ap is_some e in
      ap (is_told nodes d board p) count ∙ sym (false_from_ne_true holds_one (λ k.
      let m = holder_of nodes at board p ts h.called k in
      false≢true (sym none ∙ board_there board m.0 ts m.1)))

  module _ (b : Board) (e : board_at d.tables board ≡ Some b) where
    its : b.number ≡ board
    its = numbered board b d.tables.boards e

    node_is : (i : ℕ) → node_in i ts (board_at d.tables board) ≡ from board i ts ts
    node_is i = ap (node_in i ts) e ∙ ap (λ (n : ℕ). node_from nat_eq nat_lt n i ts ts) its

    count_is : node_count d board ≡ taken board ts
    count_is = ap (λ (o : Option Board). nodes_in_use (option_map (use_in ts) o)) e ∙ ap (λ (n : ℕ). nodes_taken nat_eq n ts) its

    -- a node is a party that holds something of the board
    holds : (m : ℕ) → has board m ts ≡ true → is_node bytes_eq board (party_at nodes m) (things_of at d) ≡ true
    holds m k = (let w = node_within board (length nodes) m ts h.holders k in node-same nodes board m ts (things_of at d) h.parties w.0 w.1 h.holders (same_things nodes at d h) ∙ k)

    told_holds : (i : ℕ) → is_it nodes d board p (party_told nodes d board i) ≡ true → holds_one ≡ true
    told_holds i k = by (node_in i ts (board_at d.tables board)) refl
      where
        by : (o : Option ℕ) → node_in i ts (board_at d.tables board) ≡ o → holds_one ≡ true
        by None f = absurd (false≢true (sym (ap (λ (o : Option ℕ). is_it nodes d board p (node_party nodes o)) f) ∙ k))
        by (Some m) f =
            let is = told_node board i m ts ts (sym (node_is i) ∙ f) in
            let w = node_within board (length nodes) m ts h.holders is.1 in
            let who : bytes_eq (party_at nodes m) p ≡ true =
            sym (ap (is_it nodes d board p) (party_is nodes m w.0 w.1)) ∙ sym (ap (λ (o : Option ℕ). is_it nodes d board p (node_party nodes o)) f) ∙ k in
            subst (λ (q : List ℕ). is_node bytes_eq board q (things_of at d) ≡ true) ((bytes_eq-Decides (party_at nodes m) p).0 who) (holds m is.1)

    holder_told : holds_one ≡ true → is_told nodes d board p (taken board ts) ≡ true
    holder_told k =
        let m = holder_of nodes at board p ts h.called k in
        let i = node_told board m.0 ts m.1 in
        let w = node_within board (length nodes) m.0 ts h.holders m.1 in
        told_at nodes d board p (taken board ts) i.0 i.1 (ap (λ (o : Option ℕ). is_it nodes d board p (node_party nodes o)) (node_is i.0 ∙ i.2) ∙ ap (is_it nodes d board p) (party_is nodes m.0 w.0 w.1) ∙ m.2)

    all_told : is_told nodes d board p (node_count d board) ≡ holds_one
    all_told = ap (is_told nodes d board p) count_is ∙ same_tests (is_told nodes d board p (taken board ts)) holds_one
        (λ k. let i = told_somewhere nodes d board p (taken board ts) k in told_holds i.0 i.1) holder_told

  -- who is told holds something, and all who do are told
  told_are : IsDomain d → is_told nodes d board p (node_count d board) ≡ holds_one
  told_are facts = by (board_at d.tables board) refl
    where
      by : (o : Option Board) → board_at d.tables board ≡ o → is_told nodes d board p (node_count d board) ≡ holds_one
      by None e = none_told facts e
      by (Some b) e = all_told b e

-- ---- in order

pub among : (p : List ℕ) (xs : List (List ℕ)) → list_any (λ x. is_eq (slice_cmp nat_cmp p x)) xs ≡ list_any (λ x. bytes_eq x p) xs
among p [] = refl
among p (x ∷ xs) = λ i. (is_eq-slice_cmp p x ∙ turned p x) i || among p xs i

-- the parties are those that are told
pub holders_told : {C : Type 0} (nodes : List (List ℕ)) (at : ℕ → Option Held) (d : Domain C) (board : ℕ) (names : List (List ℕ)) → IsNamed nodes at d → IsDomain d → AreHolders nodes d board names
    → names ≡ nodes_of board (things_of at d)
holders_told nodes at d board names h facts a =
    let xs = things_of at d in
    let found : BTreeSet (List ℕ) = record { keys = names } in
    let told : BTreeSet (List ℕ) = record { keys = nodes_of board xs } in
    btree_set_from_contains nat_list_cmp_total found told a.order (nodes_ascend.ascend board xs)
    (λ p. among p names ∙ a.parties p ∙ told_are nodes at d h board p facts ∙ sym (nodes_ascend.are board xs p) ∙ sym (among p (nodes_of board xs))) exact_bytes
