-- The kept numbers of a board, as things come and go.
use Rattle.std.proofs.Common.{◌≡◌, ℕ, ◌+◌, ◌-◌, ◌<◌, ◌≤◌, ◌^◌, ◌==◌, ◌&&◌, ◌||◌, Bool, true, false, cond, List, [], ◌∷◌, ◌++◌, length, Option, Some, None, refl, sym, ap, ◌∙◌, subst, arith, if◌then◌else◌}
use Rattle.std.specs.Prelude.{find, count_by, nat_le, nat_eq, not}
use Rattle.std.specs.List.{list_any}
use Rattle.std.specs.HashMap.{HashMap, get}
use Rattle.std.proofs.lemmas.List.Sums.{count_by-le-length}
use Rattle.std.proofs.lemmas.Bool.Decides.{nat_tests}
use Rattle.board_model.specs.declared.tables.Thing.{Thing}
use Rattle.board_model.specs.Tables.{holds_at, is_held_by, is_last_of_port, is_node, is_of_board, is_of_port, is_reader, is_reader_of, is_write_handle, nodes_taken, number_if, without_first, writer_port, writer_slots, writes_entry}
use Rattle.board_model.proofs.ListLemmas.{any_counts, count_none, count_push, count_without}
use Rattle.board_things.specs.declared.uses.Use.{Use}
use Rattle.board_things.specs.Kept.{AreCounts, AreUses, IsUse, is_new_node, is_new_slot, kept_at, more, number_or_none, pair_eq, use_at, use_or_none}

-- a test that asks for the board first counts what the rest of the test counts
here : (b : ℕ) (t : Thing ℕ ℕ) (z : Bool) → t.board ≡ b → number_if (is_of_board b t && z) ≡ number_if z
here b t z e = let yes : (t.board == b) ≡ true = grind (arith, nat_tests, e) in rw yes refl

elsewhere : (b : ℕ) (t : Thing ℕ ℕ) (z : Bool) → (t.board == b) ≡ false → number_if (is_of_board b t && z) ≡ 0
elsewhere b t z other = rw other refl

one_of : (b : ℕ) (t : Thing ℕ ℕ) → t.board ≡ b → number_if (is_of_board b t) ≡ 1
one_of b t e = let yes : (t.board == b) ≡ true = grind (arith, nat_tests, e) in rw yes refl

-- ---- nodes

pub any_push : {X : Type 0} (p : X → Bool) (xs : List X) (t : X) → list_any p (xs ++ t ∷ []) ≡ (list_any p xs || p t)
any_push p [] t = elim (p t) as (λ z. (z || false) ≡ z) [ true ↦ refl | false ↦ refl ]
any_push p (x ∷ xs) t = elim (p x) as (λ z. (z || list_any p (xs ++ t ∷ [])) ≡ ((z || list_any p xs) || p t)) [ true ↦ refl | false ↦ any_push p xs t ]

pub any_taken : {X : Type 0} (p q : X → Bool) (xs : List X) (t : X) → find q xs ≡ Some t → list_any p xs ≡ (list_any p (without_first q xs) || p t)
any_taken p q [] t f = absurd cc
any_taken {X = X} p q (x ∷ xs) t f =
    elim (q x) as (λ z. (w : cond z (some x) (find q xs) ≡ some t) → (p x || list_any p xs) ≡ (list_any p (cond z xs (x ∷ without_first q xs)) || p t)) [
      | true ↦ λ w. (let e : x ≡ t = cc in rw (← e) (elim (p x) as (λ z. (z || list_any p xs) ≡ (list_any p xs || z)) [ true ↦ sym (or_true (list_any p xs)) | false ↦ sym (or_false (list_any p xs)) ]))
      | false ↦ λ w. elim (p x) as (λ z. (z || list_any p xs) ≡ ((z || list_any p (without_first q xs)) || p t)) [ true ↦ refl | false ↦ any_taken p q xs t w ]
    ] f
  where
    some : X → Option X
    some y = Some y

    or_true : (z : Bool) → (z || true) ≡ true
    or_true true = refl
    or_true false = refl

    or_false : (z : Bool) → (z || false) ≡ z
    or_false true = refl
    or_false false = refl

-- of two things at most one is counted for a node that both have
shared : (x t same a c : Bool) → (same ≡ true → a ≡ c) → number_if (x && not (a || (t && same))) + number_if (t && not c) ≡ number_if (x && not a) + number_if (t && not ((x && same) || c))
shared false false same a c h = refl
shared false true same a c h = refl
shared true false same true c h = refl
shared true false same false c h = refl
shared true true true true c h = let e : true ≡ c = h refl in rw (← e) refl
shared true true true false c h = let e : false ≡ c = h refl in rw (← e) refl
shared true true false true true h = refl
shared true true false true false h = refl
shared true true false false true h = refl
shared true true false false false h = refl

counted : (z : Bool) (n : ℕ) → cond z (n + 1) n ≡ n + number_if z
counted true n = refl
counted false n = omega arith

alike : (x t : Thing ℕ ℕ) → (t.holder == x.holder) ≡ (x.holder == t.holder)
alike x t = grind (arith, nat_tests)

same_nodes : (b : ℕ) (x t : Thing ℕ ℕ) (xs : List (Thing ℕ ℕ)) → (x.holder == t.holder) ≡ true → is_node nat_eq b x.holder xs ≡ is_node nat_eq b t.holder xs
same_nodes b x t xs h = let e : x.holder ≡ t.holder = grind (arith, nat_tests, h) in ap (λ n. is_node nat_eq b n xs) e

nodes_push : (b : ℕ) (ts : List (Thing ℕ ℕ)) (t : Thing ℕ ℕ) → nodes_taken nat_eq b (ts ++ t ∷ []) ≡ nodes_taken nat_eq b ts + number_if (is_of_board b t && not (is_node nat_eq b t.holder ts))
nodes_push b [] t = counted (is_of_board b t && true) 0
nodes_push b (x ∷ xs) t =
    let later : is_node nat_eq b x.holder (xs ++ t ∷ []) ≡ (is_node nat_eq b x.holder xs || (is_of_board b t && (x.holder == t.holder))) =
    any_push (is_held_by nat_eq b x.holder) xs t ∙ ap (λ z. is_node nat_eq b x.holder xs || (is_of_board b t && z)) (alike x t) in
    let left = counted (is_of_board b x && not (is_node nat_eq b x.holder (xs ++ t ∷ []))) (nodes_taken nat_eq b (xs ++ t ∷ [])) in
    let right = counted (is_of_board b x && not (is_node nat_eq b x.holder xs)) (nodes_taken nat_eq b xs) in
    let first = ap (λ z. number_if (is_of_board b x && not z)) later in
    let sums = shared (is_of_board b x) (is_of_board b t) (x.holder == t.holder) (is_node nat_eq b x.holder xs) (is_node nat_eq b t.holder xs) (same_nodes b x t xs) in
    omega (arith, left, right, first, sums, nodes_push b xs t)

nodes_taken_out : (b : ℕ) (q : Thing ℕ ℕ → Bool) (ts : List (Thing ℕ ℕ)) (t : Thing ℕ ℕ) → find q ts ≡ Some t
    → nodes_taken nat_eq b (without_first q ts) + number_if (is_of_board b t && not (is_node nat_eq b t.holder (without_first q ts))) ≡ nodes_taken nat_eq b ts
nodes_taken_out b q [] t f = absurd cc
nodes_taken_out b q (x ∷ xs) t f =
    let w = without_first q xs in
    let right = counted (is_of_board b x && not (is_node nat_eq b x.holder xs)) (nodes_taken nat_eq b xs) in
    elim (q x) as (λ z. (e : cond z (some x) (find q xs) ≡ some t) → nodes_taken nat_eq b (cond z xs (x ∷ w)) + number_if (is_of_board b t && not (is_node nat_eq b t.holder (cond z xs (x ∷ w)))) ≡ nodes_taken nat_eq b (x ∷ xs)) [
      | true ↦ λ e. (let same : x ≡ t = cc in rw (← same) (sym right))
      | false ↦ λ e.
          let all : is_node nat_eq b x.holder xs ≡ (is_node nat_eq b x.holder w || (is_of_board b t && (x.holder == t.holder))) =
          any_taken (is_held_by nat_eq b x.holder) q xs t e ∙ ap (λ z. is_node nat_eq b x.holder w || (is_of_board b t && z)) (alike x t) in
          let left = counted (is_of_board b x && not (is_node nat_eq b x.holder w)) (nodes_taken nat_eq b w) in
          let first = ap (λ z. number_if (is_of_board b x && not z)) all in
          let sums = shared (is_of_board b x) (is_of_board b t) (x.holder == t.holder) (is_node nat_eq b x.holder w) (is_node nat_eq b t.holder w) (same_nodes b x t w) in
          omega (arith, left, right, first, sums, nodes_taken_out b q xs t e)
    ] f
  where
    some : Thing ℕ ℕ → Option (Thing ℕ ℕ)
    some y = Some y

-- ---- writer slots

-- whether no thing keeps the port, where there is one
abbrev new_slot : (ℕ → Bool) → Option ℕ → Bool
new_slot taken o = holds_at o (λ p. not (taken p))

-- of two things at most one is counted for a port that both keep
shared_slot : (x t : Bool) (o q : Option ℕ) (a : ℕ → Bool)
    → number_if (x && holds_at o (λ p. not (a p || (t && holds_at q (λ r. r == p))))) + number_if (t && new_slot a q) ≡ number_if (x && new_slot a o) + number_if (t && holds_at q (λ p. not ((x && holds_at o (λ r. r == p)) || a p)))
shared_slot true t None q a = refl
shared_slot false t None q a = refl
shared_slot x true (Some p) None a = elim (a p) as (λ z. number_if (x && not (z || false)) + 0 ≡ number_if (x && not z) + 0) [ true ↦ refl | false ↦ refl ]
shared_slot x false (Some p) None a = elim (a p) as (λ z. number_if (x && not (z || false)) + 0 ≡ number_if (x && not z) + 0) [ true ↦ refl | false ↦ refl ]
shared_slot x t (Some p) (Some r) a =
    let turned : (p == r) ≡ (r == p) = grind (arith, nat_tests) in
    let same : (r == p) ≡ true → a p ≡ a r = λ h. (let e : p ≡ r = grind (arith, nat_tests, h) in ap a e) in
    shared x t (r == p) (a p) (a r) same ∙ ap (λ z. number_if (x && not (a p)) + number_if (t && not ((x && z) || a r))) (sym turned)

slots_push : (b : ℕ) (ts : List (Thing ℕ ℕ)) (t : Thing ℕ ℕ) → writer_slots b (ts ++ t ∷ []) ≡ writer_slots b ts + number_if (is_last_of_port b t ts)
slots_push b [] t = counted (is_last_of_port b t []) 0
slots_push b (x ∷ xs) t =
    let taken : ℕ → Bool = λ p. list_any (is_of_port b p) xs in
    let later : (p : ℕ) → list_any (is_of_port b p) (xs ++ t ∷ []) ≡ (taken p || is_of_port b p t) = λ p. any_push (is_of_port b p) xs t in
    let left = counted (is_last_of_port b x (xs ++ t ∷ [])) (writer_slots b (xs ++ t ∷ [])) in
    let right = counted (is_last_of_port b x xs) (writer_slots b xs) in
    let first : number_if (is_last_of_port b x (xs ++ t ∷ [])) ≡ number_if (is_of_board b x && holds_at (writer_port x.kind) (λ p. not (taken p || is_of_port b p t))) =
    elim (writer_port x.kind) as (λ o. number_if (is_of_board b x && holds_at o (λ p. not (list_any (is_of_port b p) (xs ++ t ∷ [])))) ≡ number_if (is_of_board b x && holds_at o (λ p. not (taken p || is_of_port b p t)))) [
      | None ↦ refl
      | Some p ↦ ap (λ z. number_if (is_of_board b x && not z)) (later p)
    ] in
    let sums = shared_slot (is_of_board b x) (is_of_board b t) (writer_port x.kind) (writer_port t.kind) taken in
    omega (arith, left, right, first, sums, slots_push b xs t)

slots_taken_out : (b : ℕ) (q : Thing ℕ ℕ → Bool) (ts : List (Thing ℕ ℕ)) (t : Thing ℕ ℕ) → find q ts ≡ Some t
    → writer_slots b (without_first q ts) + number_if (is_last_of_port b t (without_first q ts)) ≡ writer_slots b ts
slots_taken_out b q [] t f = absurd cc
slots_taken_out b q (x ∷ xs) t f =
    let w = without_first q xs in
    let taken : ℕ → Bool = λ p. list_any (is_of_port b p) w in
    let right = counted (is_last_of_port b x xs) (writer_slots b xs) in
    elim (q x) as (λ z. (e : cond z (some x) (find q xs) ≡ some t) → writer_slots b (cond z xs (x ∷ w)) + number_if (is_last_of_port b t (cond z xs (x ∷ w))) ≡ writer_slots b (x ∷ xs)) [
      | true ↦ λ e. (let same : x ≡ t = cc in rw (← same) (sym right))
      | false ↦ λ e.
          let all : (p : ℕ) → list_any (is_of_port b p) xs ≡ (taken p || is_of_port b p t) = λ p. any_taken (is_of_port b p) q xs t e in
          let left = counted (is_last_of_port b x w) (writer_slots b w) in
          let first : number_if (is_last_of_port b x xs) ≡ number_if (is_of_board b x && holds_at (writer_port x.kind) (λ p. not (taken p || is_of_port b p t))) =
          elim (writer_port x.kind) as (λ o. number_if (is_of_board b x && holds_at o (λ p. not (list_any (is_of_port b p) xs))) ≡ number_if (is_of_board b x && holds_at o (λ p. not (taken p || is_of_port b p t)))) [
            | None ↦ refl
            | Some p ↦ ap (λ z. number_if (is_of_board b x && not z)) (all p)
          ] in
          let sums = shared_slot (is_of_board b x) (is_of_board b t) (writer_port x.kind) (writer_port t.kind) taken in
          omega (arith, left, right, first, sums, slots_taken_out b q xs t e)
    ] f
  where
    some : Thing ℕ ℕ → Option (Thing ℕ ℕ)
    some y = Some y

-- ---- the kept numbers of one board

-- the thing is counted for its board as a new node and as a new slot, and for no other
nodes_here : (b : ℕ) (ts : List (Thing ℕ ℕ)) (t : Thing ℕ ℕ) → t.board ≡ b → number_if (is_of_board b t && not (is_node nat_eq b t.holder ts)) ≡ number_if (is_new_node ts t)
nodes_here b ts t e = here b t (not (is_node nat_eq b t.holder ts)) e ∙ ap (λ n. number_if (not (is_node nat_eq n t.holder ts))) (sym e)

slots_here : (b : ℕ) (ts : List (Thing ℕ ℕ)) (t : Thing ℕ ℕ) → t.board ≡ b → number_if (is_last_of_port b t ts) ≡ number_if (is_new_slot ts t)
slots_here b ts t e =
    here b t (holds_at (writer_port t.kind) (λ p. not (list_any (is_of_port b p) ts))) e ∙ ap (λ n. number_if (holds_at (writer_port t.kind) (λ p. not (list_any (is_of_port n p) ts)))) (sym e)

use_more : (b : ℕ) (ts : List (Thing ℕ ℕ)) (t : Thing ℕ ℕ) (u : Use) → t.board ≡ b → IsUse b ts u → IsUse b (ts ++ t ∷ []) (more t.kind (is_new_node ts t) (is_new_slot ts t) u)
use_more b ts t u e h = record {
  things = omega (arith, h.things, count_push (is_of_board b) ts t, one_of b t e);
  readers = omega (arith, h.readers, count_push (is_reader_of b) ts t, here b t (is_reader t.kind) e);
  writers = omega (arith, h.writers, slots_push b ts t, slots_here b ts t e);
  nodes = omega (arith, h.nodes, nodes_push b ts t, nodes_here b ts t e);
}

use_same : (b : ℕ) (ts : List (Thing ℕ ℕ)) (t : Thing ℕ ℕ) (u : Use) → (t.board == b) ≡ false → IsUse b ts u → IsUse b (ts ++ t ∷ []) u
use_same b ts t u other h =
    let none : number_if (is_of_board b t) ≡ 0 = rw other refl in
    record {
      things = omega (arith, h.things, count_push (is_of_board b) ts t, none);
      readers = omega (arith, h.readers, count_push (is_reader_of b) ts t, elsewhere b t (is_reader t.kind) other);
      writers = omega (arith, h.writers, slots_push b ts t, elsewhere b t (holds_at (writer_port t.kind) (λ p. not (list_any (is_of_port b p) ts))) other);
      nodes = omega (arith, h.nodes, nodes_push b ts t, elsewhere b t (not (is_node nat_eq b t.holder ts)) other);
    }

module _ (b : ℕ) (q : Thing ℕ ℕ → Bool) (ts : List (Thing ℕ ℕ)) (t : Thing ℕ ℕ) (u : Use) (f : find q ts ≡ Some t) where
  use_less : t.board ≡ b → IsUse b ts (more t.kind (is_new_node (without_first q ts) t) (is_new_slot (without_first q ts) t) u) → IsUse b (without_first q ts) u
  use_less e h = record {
    things = omega (arith, h.things, count_without (is_of_board b) q ts t f, one_of b t e);
    readers = omega (arith, h.readers, count_without (is_reader_of b) q ts t f, here b t (is_reader t.kind) e);
    writers = omega (arith, h.writers, slots_taken_out b q ts t f, slots_here b (without_first q ts) t e);
    nodes = omega (arith, h.nodes, nodes_taken_out b q ts t f, nodes_here b (without_first q ts) t e);
  }

  use_kept : (t.board == b) ≡ false → IsUse b ts u → IsUse b (without_first q ts) u
  use_kept other h =
      let none : number_if (is_of_board b t) ≡ 0 = rw other refl in
      record {
        things = omega (arith, h.things, count_without (is_of_board b) q ts t f, none);
        readers = omega (arith, h.readers, count_without (is_reader_of b) q ts t f, elsewhere b t (is_reader t.kind) other);
        writers = omega (arith, h.writers, slots_taken_out b q ts t f, elsewhere b t (holds_at (writer_port t.kind) (λ p. not (list_any (is_of_port b p) (without_first q ts)))) other);
        nodes = omega (arith, h.nodes, nodes_taken_out b q ts t f, elsewhere b t (not (is_node nat_eq b t.holder (without_first q ts))) other);
      }

  -- there is at least as much to lower
  pub used : t.board ≡ b → IsUse b ts u → (1 ≤ u.things) × (number_if (is_reader t.kind) ≤ u.readers) × (number_if (is_new_slot (without_first q ts) t) ≤ u.writers) × (number_if (is_new_node (without_first q ts) t) ≤ u.nodes)
  used e h = (
    omega (arith, h.things, count_without (is_of_board b) q ts t f, one_of b t e),
    omega (arith, h.readers, count_without (is_reader_of b) q ts t f, here b t (is_reader t.kind) e),
    omega (arith, h.writers, slots_taken_out b q ts t f, slots_here b (without_first q ts) t e),
    omega (arith, h.nodes, nodes_taken_out b q ts t f, nodes_here b (without_first q ts) t e),
  )

-- ---- all boards

module _ {S : Type 0} (old new : HashMap ℕ Use S) (ts : List (Thing ℕ ℕ)) (t : Thing ℕ ℕ) (node slot : Bool) (kept : AreUses old ts) where
  pub all_more : node ≡ is_new_node ts t → slot ≡ is_new_slot ts t → ((b : ℕ) → use_at new b ≡ (if t.board == b then more t.kind node slot (use_at old t.board) else use_at old b)) → AreUses new (ts ++ t ∷ [])
  all_more node_is slot_is raised b =
      subst (IsUse b (ts ++ t ∷ [])) (sym (raised b))
      (elim (t.board == b) as (λ z. (t.board == b) ≡ z → IsUse b (ts ++ t ∷ []) (cond z (more t.kind node slot (use_at old t.board)) (use_at old b))) [
        | true ↦ λ yes.
            let e : t.board ≡ b = grind (arith, nat_tests, yes) in
            subst (λ z. IsUse b (ts ++ t ∷ []) (more t.kind z slot (use_at old t.board))) (sym node_is)
            (subst (λ z. IsUse b (ts ++ t ∷ []) (more t.kind (is_new_node ts t) z (use_at old t.board))) (sym slot_is)
            (use_more b ts t (use_at old t.board) e (subst (λ n. IsUse b ts (use_at old n)) (sym e) (kept b))))
        | false ↦ λ other. use_same b ts t (use_at old b) other (kept b)
      ] refl)

  pub all_less : (q : Thing ℕ ℕ → Bool) → find q ts ≡ Some t → node ≡ is_new_node (without_first q ts) t → slot ≡ is_new_slot (without_first q ts) t → more t.kind node slot (use_at new t.board) ≡ use_at old t.board
      → ((b : ℕ) → (t.board == b) ≡ false → use_at new b ≡ use_at old b) → AreUses new (without_first q ts)
  all_less q f node_is slot_is this others b =
      elim (t.board == b) as (λ z. (t.board == b) ≡ z → IsUse b (without_first q ts) (use_at new b)) [
        | true ↦ λ yes.
            let e : t.board ≡ b = grind (arith, nat_tests, yes) in
            let before : IsUse b ts (more t.kind node slot (use_at new b)) = subst (λ n. IsUse b ts (more t.kind node slot (use_at new n))) e (subst (IsUse b ts) (sym this) (subst (λ n. IsUse b ts (use_at old n)) (sym e) (kept b))) in
            let both : IsUse b ts (more t.kind (is_new_node (without_first q ts) t) (is_new_slot (without_first q ts) t) (use_at new b)) =
            subst (λ z. IsUse b ts (more t.kind (is_new_node (without_first q ts) t) z (use_at new b))) slot_is (subst (λ z. IsUse b ts (more t.kind z slot (use_at new b))) node_is before) in
            use_less b q ts t (use_at new b) f e both
        | false ↦ λ other. subst (IsUse b (without_first q ts)) (sym (others b other)) (use_kept b q ts t (use_at old b) f other (kept b))
      ] refl

-- the same rows
pub uses_same : {S : Type 0} (old new : HashMap ℕ Use S) (ts : List (Thing ℕ ℕ)) → AreUses old ts → ((b : ℕ) → get nat_eq new b ≡ get nat_eq old b) → AreUses new ts
uses_same old new ts kept same b = subst (λ (u : Use). IsUse b ts u) (sym (ap (λ o. use_or_none o) (same b))) (kept b)

-- ---- counts under two numbers

-- the same counts
pub counts_same : {S : Type 0} (test : ℕ → ℕ → Thing ℕ ℕ → Bool) (old new : HashMap (ℕ × ℕ) ℕ S) (ts : List (Thing ℕ ℕ)) → AreCounts test old ts → ((q : ℕ × ℕ) → get pair_eq new q ≡ get pair_eq old q) → AreCounts test new ts
counts_same test old new ts kept same b n = ap (λ o. number_or_none o) (same (b, n)) ∙ kept b n

module _ {S : Type 0} (test : ℕ → ℕ → Thing ℕ ℕ → Bool) (old new : HashMap (ℕ × ℕ) ℕ S) (ts : List (Thing ℕ ℕ)) (t : Thing ℕ ℕ) (kept : AreCounts test old ts) where
  pub counts_more : ((b n : ℕ) → kept_at new b n ≡ kept_at old b n + number_if (test b n t)) → AreCounts test new (ts ++ t ∷ [])
  counts_more raised b n = omega (arith, raised b n, kept b n, count_push (test b n) ts t)

  pub counts_less : (q : Thing ℕ ℕ → Bool) → find q ts ≡ Some t → ((b n : ℕ) → kept_at new b n + number_if (test b n t) ≡ kept_at old b n) → AreCounts test new (without_first q ts)
  counts_less q f lowered b n = omega (arith, lowered b n, kept b n, count_without (test b n) q ts t f)

-- the map with another number at a pair
module _ {S : Type 0} (old new : HashMap (ℕ × ℕ) ℕ S) (board node : ℕ) (w : Option ℕ) (set : (q : ℕ × ℕ) → get pair_eq new q ≡ cond (pair_eq (board, node) q) w (get pair_eq old q)) where
  pair_set : (b n : ℕ) → kept_at new b n ≡ cond ((board == b) && (node == n)) (number_or_none w) (kept_at old b n)
  pair_set b n = ap (λ o. number_or_none o) (set (b, n)) ∙ elim ((board == b) && (node == n)) as (λ z. number_or_none (cond z w (get pair_eq old (b, n))) ≡ cond z (number_or_none w) (kept_at old b n)) [ true ↦ refl | false ↦ refl ]

  same_pair : (b n : ℕ) → ((board == b) && (node == n)) ≡ true → kept_at old board node ≡ kept_at old b n
  same_pair b n h =
      let one : board ≡ b = grind (arith, nat_tests, h) in
      let two : node ≡ n = grind (arith, nat_tests, h) in
      ap (λ m. kept_at old m node) one ∙ ap (λ m. kept_at old b m) two

  pub pair_raised : number_or_none w ≡ kept_at old board node + 1 → (b n : ℕ) → kept_at new b n ≡ kept_at old b n + number_if ((board == b) && (node == n))
  pair_raised e b n =
      pair_set b n ∙ elim ((board == b) && (node == n)) as (λ z. ((board == b) && (node == n)) ≡ z → cond z (number_or_none w) (kept_at old b n) ≡ kept_at old b n + number_if z) [
        | true ↦ λ h. omega (arith, e, same_pair b n h)
        | false ↦ λ h. omega arith
      ] refl

  pub pair_lowered : number_or_none w + 1 ≡ kept_at old board node → (b n : ℕ) → kept_at new b n + number_if ((board == b) && (node == n)) ≡ kept_at old b n
  pair_lowered e b n =
      ap (λ m. m + number_if ((board == b) && (node == n))) (pair_set b n) ∙ elim ((board == b) && (node == n)) as (λ z. ((board == b) && (node == n)) ≡ z → cond z (number_or_none w) (kept_at old b n) + number_if z ≡ kept_at old b n) [
        | true ↦ λ h. omega (arith, e, same_pair b n h)
        | false ↦ λ h. omega arith
      ] refl

-- what goes was counted
pub counts_used : {S : Type 0} (test : ℕ → ℕ → Thing ℕ ℕ → Bool) (m : HashMap (ℕ × ℕ) ℕ S) (q : Thing ℕ ℕ → Bool) (ts : List (Thing ℕ ℕ)) (t : Thing ℕ ℕ) (b n : ℕ) → find q ts ≡ Some t → AreCounts test m ts → number_if (test b n t) ≤ kept_at m b n
counts_used test m q ts t b n f h = omega (arith, h b n, count_without (test b n) q ts t f)

pub port_used : {S : Type 0} (ports : HashMap (ℕ × ℕ) ℕ S) (q : Thing ℕ ℕ → Bool) (ts : List (Thing ℕ ℕ)) (t : Thing ℕ ℕ) (p : ℕ) → find q ts ≡ Some t → AreCounts is_of_port ports ts → number_if (holds_at (writer_port t.kind) (λ r. r == p)) ≤ kept_at ports t.board p
port_used ports q ts t p f h = omega (arith, here t.board t (holds_at (writer_port t.kind) (λ r. r == p)) refl, counts_used is_of_port ports q ts t t.board p f h)

pub written_used : {S : Type 0} (written : HashMap (ℕ × ℕ) ℕ S) (q : Thing ℕ ℕ → Bool) (ts : List (Thing ℕ ℕ)) (t : Thing ℕ ℕ) (e : ℕ) → find q ts ≡ Some t → AreCounts is_write_handle written ts → number_if (writes_entry e t.kind) ≤ kept_at written t.board e
written_used written q ts t e f h = omega (arith, here t.board t (writes_entry e t.kind) refl, counts_used is_write_handle written q ts t t.board e f h)

pub counts_small : {S : Type 0} (test : ℕ → ℕ → Thing ℕ ℕ → Bool) (m : HashMap (ℕ × ℕ) ℕ S) (ts : List (Thing ℕ ℕ)) (b n : ℕ) → AreCounts test m ts → length ts < 2 ^ 64 - 2 → kept_at m b n < 2 ^ 64 - 2
counts_small test m ts b n h l = omega (arith, h b n, l, count_by-le-length (test b n) ts)

pub held_used : {S : Type 0} (held : HashMap (ℕ × ℕ) ℕ S) (q : Thing ℕ ℕ → Bool) (ts : List (Thing ℕ ℕ)) (t : Thing ℕ ℕ) → find q ts ≡ Some t → AreCounts (is_held_by nat_eq) held ts → 1 ≤ kept_at held t.board t.holder
held_used held q ts t f h =
    let both : number_if (is_held_by nat_eq t.board t.holder t) ≡ 1 = (let one : (t.board == t.board) ≡ true = grind (arith, nat_tests) in let two : (t.holder == t.holder) ≡ true = grind (arith, nat_tests) in rw (one, two) refl) in
    omega (arith, both, counts_used (is_held_by nat_eq) held q ts t t.board t.holder f h)

nodes_small : (b : ℕ) (ts : List (Thing ℕ ℕ)) → nodes_taken nat_eq b ts ≤ length ts
nodes_small b [] = omega arith
nodes_small b (t ∷ ts) =
    let z = is_of_board b t && not (is_node nat_eq b t.holder ts) in
    let one : number_if z ≤ 1 = elim z as (λ y. number_if y ≤ 1) [ true ↦ omega arith | false ↦ omega arith ] in
    omega (arith, counted z (nodes_taken nat_eq b ts), one, nodes_small b ts)

slots_small : (b : ℕ) (ts : List (Thing ℕ ℕ)) → writer_slots b ts ≤ length ts
slots_small b [] = omega arith
slots_small b (t ∷ ts) =
    let z = is_last_of_port b t ts in
    let one : number_if z ≤ 1 = elim z as (λ y. number_if y ≤ 1) [ true ↦ omega arith | false ↦ omega arith ] in
    omega (arith, counted z (writer_slots b ts), one, slots_small b ts)

-- no kept number of a board is near its end
pub record IsSmallUse (u : Use) : Type 0 where
  pub things : u.things < 2 ^ 64 - 2
  pub readers : u.readers < 2 ^ 64 - 2
  pub writers : u.writers < 2 ^ 64 - 2
  pub nodes : u.nodes < 2 ^ 64 - 2

pub small : (b : ℕ) (ts : List (Thing ℕ ℕ)) (u : Use) → length ts < 2 ^ 64 - 2 → IsUse b ts u → IsSmallUse u
small b ts u l h = record {
  things = omega (arith, l, h.things, count_by-le-length (is_of_board b) ts);
  readers = omega (arith, l, h.readers, count_by-le-length (is_reader_of b) ts);
  writers = omega (arith, l, h.writers, slots_small b ts);
  nodes = omega (arith, l, h.nodes, nodes_small b ts);
}

pub none_counted : {X : Type 0} (p : X → Bool) (ts : List X) (n : ℕ) → n ≡ count_by p ts → nat_eq n 0 ≡ not (list_any p ts)
none_counted p ts n e =
    elim (list_any p ts) as (λ a. list_any p ts ≡ a → nat_eq n 0 ≡ not a) [
      | true ↦ λ h. (let le : 1 ≤ count_by p ts = any_counts p p (λ x e. e) ts h in grind (arith, nat_tests, le, e))
      | false ↦ λ h. (let z : n ≡ 0 = e ∙ count_none p ts h in rw z refl)
    ] refl

-- ---- tests

pub any_count : {X : Type 0} (p : X → Bool) (ts : List X) → nat_le 1 (count_by p ts) ≡ list_any p ts
any_count p ts =
    elim (list_any p ts) as (λ a. list_any p ts ≡ a → nat_le 1 (count_by p ts) ≡ a) [
      | true ↦ λ h. (let le : 1 ≤ count_by p ts = any_counts p p (λ x e. e) ts h in grind (arith, nat_tests, le))
      | false ↦ λ h. ap (λ n. nat_le 1 n) (count_none p ts h)
    ] refl

-- no thing is counted under the port that a kind keeps
pub port_new : {S : Type 0} (ports : HashMap (ℕ × ℕ) ℕ S) (ts : List (Thing ℕ ℕ)) (t : Thing ℕ ℕ) (o : Option ℕ) → AreCounts is_of_port ports ts
    → holds_at o (λ p. nat_eq (kept_at ports t.board p) 0) ≡ holds_at o (λ p. not (list_any (is_of_port t.board p) ts))
port_new ports ts t None h = refl
port_new ports ts t (Some p) h = none_counted (is_of_port t.board p) ts (kept_at ports t.board p) (h t.board p)
