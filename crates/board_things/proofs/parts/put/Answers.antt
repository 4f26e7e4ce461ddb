use Rattle.std.proofs.Common.{ℕ, ◌-◌, ◌<◌, ◌≤◌, List, ◌∙◌, sym, ap, length, subst, take, vec_capacity, arith}
use Rattle.std.specs.List.{insert, list_any, prefix_len}
use Rattle.board_things.specs.Nodes.{AreInOrder, comes_before, ends_before, ends_from, is_pair, joined}
use Rattle.board_things.proofs.Joined.{Parts, no_part_left, order_at, place_at, read_at}
use Rattle.board_things.proofs.Pairs.{Pair, are_put, put_in_order}
use Rattle.board_things.proofs.PartEnds.{ends_kept, has_room}
use Rattle.board_things.proofs.parts.put.Goals as goal

pub place_of-place-requires : goal.place_of-place-requires
place_of-place-requires c =
    let ps = c.args.parts.now.items in
    let inside : c.part_of-part.result < length ps = omega (arith, c.if-part-len.true, c.len.ensures, c.args.parts.now.ok.0) in
    subst AreInOrder (sym (c.pairs.ensures ∙ read_at ps c.part_of-part.result c.index.result.now inside c.index.ensures)) (order_at ps c.part_of-part.result c.requires.parts.order)

pub returns-then-part-len-clause-parts : goal.returns-then-part-len-clause-parts
returns-then-part-len-clause-parts c =
    let ps = c.args.parts.now.items in
    let x : Pair = (c.args.board, c.args.node) in
    let inside : c.part_of-part.result < length ps = omega (arith, c.if-part-len.true, c.len.ensures, c.args.parts.now.ok.0) in
    let read = c.pairs.ensures ∙ read_at ps c.part_of-part.result c.index.result.now inside c.index.ensures in
    let place = place_at c.args.board c.args.node ps c.requires.parts.order c.part_of-part.result c.place_of-place.result
    (c.part_of-part.ensures.place ∙ ap (λ (qs : List (List Pair)). prefix_len (ends_before c.args.board c.args.node) qs) c.deref.ensures.value)
    (c.place_of-place.ensures.place ∙ ap (λ (p : List Pair). prefix_len (comes_before c.args.board c.args.node) p) read) in
    record {
      filled = c.insert_at.ensures.filled;
      order = subst AreInOrder (sym (c.insert_at.ensures.joined ∙ ap (λ (n : ℕ). insert (joined ps) n x) place)) (put_in_order c.args.board c.args.node (joined ps) c.requires.parts.order c.requires.other);
    }

pub returns-then-part-len-clause-are : goal.returns-then-part-len-clause-are
returns-then-part-len-clause-are c = λ b n.
    let ps = c.args.parts.now.items in
    let x : Pair = (c.args.board, c.args.node) in
    let inside : c.part_of-part.result < length ps = omega (arith, c.if-part-len.true, c.len.ensures, c.args.parts.now.ok.0) in
    let read = c.pairs.ensures ∙ read_at ps c.part_of-part.result c.index.result.now inside c.index.ensures in
    let place = place_at c.args.board c.args.node ps c.requires.parts.order c.part_of-part.result c.place_of-place.result
    (c.part_of-part.ensures.place ∙ ap (λ (qs : List (List Pair)). prefix_len (ends_before c.args.board c.args.node) qs) c.deref.ensures.value)
    (c.place_of-place.ensures.place ∙ ap (λ (p : List Pair). prefix_len (comes_before c.args.board c.args.node) p) read) in
    ap (λ (qs : List Pair). list_any (is_pair b n) qs) (c.insert_at.ensures.joined ∙ ap (λ (k : ℕ). insert (joined ps) k x) place)
    ∙ are_put c.args.board c.args.node b n (joined ps)

pub returns-else-part-len-clause-parts : goal.returns-else-part-len-clause-parts
returns-else-part-len-clause-parts c =
    let ps = c.args.parts.now.items in
    let x : Pair = (c.args.board, c.args.node) in
    let all : length ps ≤ c.part_of-part.result = omega (arith, c.if-part-len.false, c.len.ensures, c.args.parts.now.ok.0) in
    let place = no_part_left c.args.board c.args.node ps c.requires.parts.order c.part_of-part.result
    (c.part_of-part.ensures.place ∙ ap (λ (qs : List (List Pair)). prefix_len (ends_before c.args.board c.args.node) qs) c.deref.ensures.value) all in
    record {
      filled = c.push.ensures.filled;
      order = subst AreInOrder (sym (c.push.ensures.joined ∙ ap (λ (n : ℕ). insert (joined ps) n x) place)) (put_in_order c.args.board c.args.node (joined ps) c.requires.parts.order c.requires.other);
    }

pub returns-else-part-len-clause-are : goal.returns-else-part-len-clause-are
returns-else-part-len-clause-are c = λ b n.
    let ps = c.args.parts.now.items in
    let x : Pair = (c.args.board, c.args.node) in
    let all : length ps ≤ c.part_of-part.result = omega (arith, c.if-part-len.false, c.len.ensures, c.args.parts.now.ok.0) in
    let place = no_part_left c.args.board c.args.node ps c.requires.parts.order c.part_of-part.result
    (c.part_of-part.ensures.place ∙ ap (λ (qs : List (List Pair)). prefix_len (ends_before c.args.board c.args.node) qs) c.deref.ensures.value) all in
    ap (λ (qs : List Pair). list_any (is_pair b n) qs) (c.push.ensures.joined ∙ ap (λ (k : ℕ). insert (joined ps) k x) place)
    ∙ are_put c.args.board c.args.node b n (joined ps)

pub count_from-requires-clause-ahead : goal.count_from-requires-clause-ahead
count_from-requires-clause-ahead c =
    let first = c.part_of-part.result in
    ends_kept c.insert_at.ensures.ahead c.args.ends.now.items c.requires.counted first (omega arith) ∙ ap (λ (ps : Parts). ends_from 0 (take first ps)) (sym c.deref-then-part-len.ensures.value)

pub count_from-requires-else-part-len-clause-ahead : goal.count_from-requires-else-part-len-clause-ahead
count_from-requires-else-part-len-clause-ahead c =
    let ps = c.args.parts.now.items in
    let first = c.saturating_sub.result in
    let last : first ≤ length ps - 1 = omega (arith, c.saturating_sub.ensures, c.part_of-part.ensures.inside, ap (λ (qs : Parts). length qs) c.deref.ensures.value) in
    ends_kept c.push.ensures.ahead c.args.ends.now.items c.requires.counted first last ∙ ap (λ (qs : Parts). ends_from 0 (take first qs)) (sym c.deref-else-part-len.ensures.value)

pub count_from-requires-clause-room : goal.count_from-requires-clause-room
count_from-requires-clause-room c =
    let n = ap (λ (qs : Parts). length qs) c.deref-then-part-len.ensures.value in
    omega (arith, n, has_room c.insert_at.ensures.ahead c.args.ends.now.items c.requires.counted 0 (omega arith) (vec_capacity c.args.ends.now) (omega (arith, c.requires.ends, c.args.ends.now.ok.0)))

pub count_from-requires-else-part-len-clause-room : goal.count_from-requires-else-part-len-clause-room
count_from-requires-else-part-len-clause-room c =
    let n = ap (λ (qs : Parts). length qs) c.deref-else-part-len.ensures.value in
    omega (arith, n, has_room c.push.ensures.ahead c.args.ends.now.items c.requires.counted 0 (omega arith) (vec_capacity c.args.ends.now) (omega (arith, c.requires.ends, c.args.ends.now.ok.0)))
