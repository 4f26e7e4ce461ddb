use Rattle.std.proofs.Common.{◌≡◌, ℕ, ◌-◌, List, ◌∙◌, sym, ap, take, arith}
use Rattle.std.specs.Prelude.{slice_get}
use Rattle.board_things.specs.Nodes.{part_at}
use Rattle.board_things.proofs.Joined.{ahead, past_parts, read_at}
use Rattle.board_things.proofs.Pairs.{Pair}
use Rattle.board_things.proofs.PartEnds.{ends_ahead, is_ahead, is_there}
use Rattle.board_things.proofs.ends.pair_at.Goals as goal

pub overflow_sub-place : goal.overflow_sub-place
overflow_sub-place c =
    let ps = c.args.parts.now in
    let k = c.ends_by-part.result in
    let told : c.count_of-ahead.result ≡ ahead k ps = c.count_of-ahead.ensures (take k ps) (ends_ahead ps c.args.ends.now k c.requires) in
    omega (arith, told, is_ahead c.args.place ps c.args.ends.now k c.requires c.ends_by-part.ensures.count)

pub returns-in-Some : goal.returns-in-Some
returns-in-Some c =
    let ps = c.args.parts.now in
    let k = c.ends_by-part.result in
    let told : c.count_of-ahead.result ≡ ahead k ps = c.count_of-ahead.ensures (take k ps) (ends_ahead ps c.args.ends.now k c.requires) in
    c.pair_in.ensures
    ∙ ap (λ (p : List Pair). slice_get p (c.args.place - c.count_of-ahead.result)) (c.pairs.ensures ∙ read_at ps k c.in-Some.p.now c.in-Some.ensures.lookup.3.0 c.in-Some.ensures.lookup.1)
    ∙ ap (λ (n : ℕ). slice_get (part_at k ps) (c.args.place - n)) told
    ∙ sym (is_there c.args.place ps c.args.ends.now k c.requires c.ends_by-part.ensures.count)

pub returns-in-None : goal.returns-in-None
returns-in-None c =
    let ps = c.args.parts.now in
    let k = c.ends_by-part.result in
    sym (is_there c.args.place ps c.args.ends.now k c.requires c.ends_by-part.ensures.count
    ∙ ap (λ (p : List Pair). slice_get p (c.args.place - ahead k ps)) (past_parts ps k c.in-None.ensures.lookup.3))
