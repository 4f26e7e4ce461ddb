use Rattle.std.proofs.Common.{ℕ, ◌≤◌, List, ◌∙◌, sym, ap, length, subst, take, vec_capacity, rules, arith}
use Rattle.std.specs.List.{list_any, prefix_len, remove}
use Rattle.board_things.specs.Nodes.{AreInOrder, comes_before, ends_before, ends_from, is_pair, joined}
use Rattle.board_things.proofs.Joined.{Parts, order_at, part_of_place, place_at, read_at, stops_at}
use Rattle.board_things.proofs.Pairs.{Pair, are_out, out_in_order}
use Rattle.board_things.proofs.PartEnds.{ends_kept, has_room, keeps_trans, long_enough}
use Rattle.board_things.proofs.parts.take.Goals as goal

pub index-requires : goal.index-requires
index-requires c =
    let ps = c.args.parts.now.items in
    let part = c.part_of-part.ensures.place ∙ ap (λ (qs : List (List Pair)). prefix_len (ends_before c.args.board c.args.node) qs) c.deref.ensures.value in
    let inside = part_of_place c.args.board c.args.node ps c.requires.parts.order c.part_of-part.result part c.requires.one in
    omega (arith, inside, c.args.parts.now.ok.0)

pub place_of-place-requires : goal.place_of-place-requires
place_of-place-requires c =
    let ps = c.args.parts.now.items in
    let part = c.part_of-part.ensures.place ∙ ap (λ (qs : List (List Pair)). prefix_len (ends_before c.args.board c.args.node) qs) c.deref.ensures.value in
    let inside = part_of_place c.args.board c.args.node ps c.requires.parts.order c.part_of-part.result part c.requires.one in
    subst AreInOrder (sym (c.pairs.ensures ∙ read_at ps c.part_of-part.result c.index.result.now inside c.index.ensures)) (order_at ps c.part_of-part.result c.requires.parts.order)

pub remove_at-requires-clause-part : goal.remove_at-requires-clause-part
remove_at-requires-clause-part c =
    let ps = c.args.parts.now.items in
    let part = c.part_of-part.ensures.place ∙ ap (λ (qs : List (List Pair)). prefix_len (ends_before c.args.board c.args.node) qs) c.deref.ensures.value in
    part_of_place c.args.board c.args.node ps c.requires.parts.order c.part_of-part.result part c.requires.one

pub remove_at-requires-clause-place : goal.remove_at-requires-clause-place
remove_at-requires-clause-place c =
    let ps = c.args.parts.now.items in
    let part = c.part_of-part.ensures.place ∙ ap (λ (qs : List (List Pair)). prefix_len (ends_before c.args.board c.args.node) qs) c.deref.ensures.value in
    let inside = part_of_place c.args.board c.args.node ps c.requires.parts.order c.part_of-part.result part c.requires.one in
    let read = c.pairs.ensures ∙ read_at ps c.part_of-part.result c.index.result.now inside c.index.ensures in
    stops_at c.args.board c.args.node ps c.requires.parts.order c.part_of-part.result part inside c.place_of-place.result
    (c.place_of-place.ensures.place ∙ ap (λ (p : List Pair). prefix_len (comes_before c.args.board c.args.node) p) read)

pub returns-clause-parts : goal.returns-clause-parts
returns-clause-parts c =
    let ps = c.args.parts.now.items in
    let part = c.part_of-part.ensures.place ∙ ap (λ (qs : List (List Pair)). prefix_len (ends_before c.args.board c.args.node) qs) c.deref.ensures.value in
    let inside = part_of_place c.args.board c.args.node ps c.requires.parts.order c.part_of-part.result part c.requires.one in
    let read = c.pairs.ensures ∙ read_at ps c.part_of-part.result c.index.result.now inside c.index.ensures in
    let place = place_at c.args.board c.args.node ps c.requires.parts.order c.part_of-part.result c.place_of-place.result part
    (c.place_of-place.ensures.place ∙ ap (λ (p : List Pair). prefix_len (comes_before c.args.board c.args.node) p) read) in
    let all = c.join_at-2.ensures.joined ∙ c.join_at.ensures.joined ∙ c.remove_at.ensures.joined ∙ ap (λ (k : ℕ). remove (joined ps) k) place in
    record {
      filled = c.join_at-2.ensures.filled;
      order = subst AreInOrder (sym all) (out_in_order c.args.board c.args.node (joined ps) c.requires.parts.order);
    }

pub returns-clause-are : goal.returns-clause-are
returns-clause-are c = λ b n.
    let ps = c.args.parts.now.items in
    let part = c.part_of-part.ensures.place ∙ ap (λ (qs : List (List Pair)). prefix_len (ends_before c.args.board c.args.node) qs) c.deref.ensures.value in
    let inside = part_of_place c.args.board c.args.node ps c.requires.parts.order c.part_of-part.result part c.requires.one in
    let read = c.pairs.ensures ∙ read_at ps c.part_of-part.result c.index.result.now inside c.index.ensures in
    let place = place_at c.args.board c.args.node ps c.requires.parts.order c.part_of-part.result c.place_of-place.result part
    (c.place_of-place.ensures.place ∙ ap (λ (p : List Pair). prefix_len (comes_before c.args.board c.args.node) p) read) in
    let all = c.join_at-2.ensures.joined ∙ c.join_at.ensures.joined ∙ c.remove_at.ensures.joined ∙ ap (λ (k : ℕ). remove (joined ps) k) place in
    ap (λ (qs : List Pair). list_any (is_pair b n) qs) all ∙ are_out c.args.board c.args.node b n (joined ps) c.requires.parts.order c.requires.one

pub count_from-requires-clause-ahead : goal.count_from-requires-clause-ahead
count_from-requires-clause-ahead c =
    let first = c.saturating_sub-first.result in
    let keeps = keeps_trans (keeps_trans c.remove_at.ensures.ahead c.join_at.ensures.ahead (omega arith)) c.join_at-2.ensures.ahead (omega (arith, c.saturating_sub-first.ensures)) in
    ends_kept keeps c.args.ends.now.items c.requires.counted first (omega arith) ∙ ap (λ (ps : Parts). ends_from 0 (take first ps)) (sym c.deref-2.ensures.value)

pub count_from-requires-clause-inside : goal.count_from-requires-clause-inside
count_from-requires-clause-inside c =
    let ps = c.args.parts.now.items in
    let first = c.saturating_sub-first.result in
    let keeps = keeps_trans (keeps_trans c.remove_at.ensures.ahead c.join_at.ensures.ahead (omega arith)) c.join_at-2.ensures.ahead (omega (arith, c.saturating_sub-first.ensures)) in
    let part = c.part_of-part.ensures.place ∙ ap (λ (qs : List (List Pair)). prefix_len (ends_before c.args.board c.args.node) qs) c.deref.ensures.value in
    let inside = part_of_place c.args.board c.args.node ps c.requires.parts.order c.part_of-part.result part c.requires.one in
    let n = ap (λ (qs : Parts). length qs) c.deref-2.ensures.value in
    omega (arith, n, long_enough keeps c.args.ends.now.items c.requires.counted first (omega arith) (omega (arith, inside, c.saturating_sub-first.ensures)))

pub count_from-requires-clause-room : goal.count_from-requires-clause-room
count_from-requires-clause-room c =
    let keeps = keeps_trans (keeps_trans c.remove_at.ensures.ahead c.join_at.ensures.ahead (omega arith)) c.join_at-2.ensures.ahead (omega (arith, c.saturating_sub-first.ensures)) in
    let n = ap (λ (qs : Parts). length qs) c.deref-2.ensures.value in
    let fits : length c.args.ends.now.items ≤ vec_capacity c.args.ends.now = search rules in
    omega (arith, n, has_room keeps c.args.ends.now.items c.requires.counted 0 (omega arith) (vec_capacity c.args.ends.now) (omega (arith, fits)))
