use Rattle.std.proofs.Common.{◌≡◌, ℕ, ◌+◌, ◌^◌, ◌<◌, ◌≤◌, List, ◌∙◌, sym, ap, length, subst, take, arith}
use Rattle.std.specs.Prelude.{slice_get}
use Rattle.std.specs.List.{prefix_len}
use Rattle.std.proofs.lemmas.List.{length-take-le}
use Rattle.std.proofs.lemmas.List.Sums.{prefix_len-le-length}
use Rattle.std.proofs.lemmas.Option.{slice_get_past}
use Rattle.board_things.specs.Nodes.{AreInOrder, comes_before, joined, node_of}
use Rattle.board_things.proofs.Joined.{ahead, joined_dropped, node_behind, not_less, no_part_left, order_at, place_at, read_at}
use Rattle.board_things.proofs.Pairs.{Pair, node_at}
use Rattle.board_things.proofs.PartEnds.{ends_ahead, length_ends}
use Rattle.board_things.proofs.parts.node_in.Goals as goal

pub returns-then-part-parts : goal.returns-then-part-parts
returns-then-part-parts c =
    let ps = c.args.parts.now in
    let all : length ps ≤ c.part_of-part.result = omega (arith, c.if-part-parts.true) in
    let place = no_part_left c.args.board 0 ps c.requires.parts.order c.part_of-part.result c.part_of-part.ensures.place all in
    sym (ap (λ (xs : List Pair). node_of c.args.board (slice_get xs c.args.index)) (joined_dropped ps (prefix_len (comes_before c.args.board 0) (joined ps)) (sym place)))
    ∙ node_at c.args.board (joined ps) c.requires.parts.order c.args.index

pub place_of-place-requires : goal.place_of-place-requires
place_of-place-requires c =
    let ps = c.args.parts.now in
    let inside : c.part_of-part.result < length ps = omega (arith, c.if-part-parts.false, c.part_of-part.ensures.inside) in
    subst AreInOrder (sym (c.pairs.ensures ∙ read_at ps c.part_of-part.result c.index-parts-part.result inside c.index-parts-part.is)) (order_at ps c.part_of-part.result c.requires.parts.order)

pub slice_bounds-count_of-end : goal.slice_bounds-count_of-end
slice_bounds-count_of-end c =
    let ps = c.args.parts.now in
    let k = c.part_of-part.result in
    let n : length c.args.ends.now ≡ length ps = ap (λ (es : List ℕ). length es) c.requires.counted.ends_are ∙ length_ends 0 ps in
    sym (length-take-le k c.args.ends.now (omega (arith, n, c.part_of-part.ensures.inside)))

-- the first pair of the board, by what stands ahead of its part and its place there
pub overflow_add-first : goal.overflow_add-first
overflow_add-first c =
    let ps = c.args.parts.now in
    let k = c.part_of-part.result in
    let inside : k < length ps = omega (arith, c.if-part-parts.false, c.part_of-part.ensures.inside) in
    let read = c.pairs.ensures ∙ read_at ps k c.index-parts-part.result inside c.index-parts-part.is in
    let place = place_at c.args.board 0 ps c.requires.parts.order k c.place_of-place.result c.part_of-part.ensures.place
    (c.place_of-place.ensures.place ∙ ap (λ (p : List Pair). prefix_len (comes_before c.args.board 0) p) read) in
    let told : c.count_of.result ≡ ahead k ps = c.count_of.ensures (take k ps) (ends_ahead ps c.args.ends.now k c.requires.counted.ends_are) in
    omega (arith, told, place, prefix_len-le-length (comes_before c.args.board 0) (joined ps), c.requires.counted.few)

pub returns-in-Some : goal.returns-in-Some
returns-in-Some c =
    let ps = c.args.parts.now in
    let k = c.part_of-part.result in
    let inside : k < length ps = omega (arith, c.if-part-parts.false, c.part_of-part.ensures.inside) in
    let read = c.pairs.ensures ∙ read_at ps k c.index-parts-part.result inside c.index-parts-part.is in
    let place = place_at c.args.board 0 ps c.requires.parts.order k c.place_of-place.result c.part_of-part.ensures.place
    (c.place_of-place.ensures.place ∙ ap (λ (p : List Pair). prefix_len (comes_before c.args.board 0) p) read) in
    let told : c.count_of.result ≡ ahead k ps = c.count_of.ensures (take k ps) (ends_ahead ps c.args.ends.now k c.requires.counted.ends_are) in
    let sum : c.in-Some.place ≡ prefix_len (comes_before c.args.board 0) (joined ps) + c.args.index = omega (arith, c.in-Some.ensures.1, told, place) in
    c.node_of.ensures ∙ ap (λ o. node_of c.args.board o) (c.pair_at.ensures ∙ ap (λ (n : ℕ). slice_get (joined ps) n) sum)
    ∙ node_behind c.args.board (joined ps) c.requires.parts.order c.args.index

pub returns-in-None : goal.returns-in-None
returns-in-None c =
    let ps = c.args.parts.now in
    let k = c.part_of-part.result in
    let inside : k < length ps = omega (arith, c.if-part-parts.false, c.part_of-part.ensures.inside) in
    let read = c.pairs.ensures ∙ read_at ps k c.index-parts-part.result inside c.index-parts-part.is in
    let place = place_at c.args.board 0 ps c.requires.parts.order k c.place_of-place.result c.part_of-part.ensures.place
    (c.place_of-place.ensures.place ∙ ap (λ (p : List Pair). prefix_len (comes_before c.args.board 0) p) read) in
    let told : c.count_of.result ≡ ahead k ps = c.count_of.ensures (take k ps) (ends_ahead ps c.args.ends.now k c.requires.counted.ends_are) in
    let large = not_less (c.count_of.result + c.place_of-place.result + c.args.index) (2 ^ 64) (λ h. c.in-None.ensures h) in
    sym (ap (λ o. node_of c.args.board o) (slice_get_past (joined ps) (prefix_len (comes_before c.args.board 0) (joined ps) + c.args.index) (omega (arith, large, told, place, c.requires.counted.few))))
    ∙ node_behind c.args.board (joined ps) c.requires.parts.order c.args.index
