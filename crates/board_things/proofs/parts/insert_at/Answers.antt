use Rattle.std.proofs.Common.{◌≡◌, ℕ, suc, ◌+◌, List, ◌∙◌, ap, set, arith}
use Rattle.std.specs.List.{insert}
use Rattle.board_things.specs.Nodes.{joined}
use Rattle.board_things.proofs.Joined.{joined_insert, joined_split, read_at}
use Rattle.board_things.proofs.Pairs.{Pair}
use Rattle.board_things.proofs.parts.insert_at.Goals as goal

pub returns-then-not-is_full-clause-joined : goal.returns-then-not-is_full-clause-joined
returns-then-not-is_full-clause-joined c =
    let ps = c.args.parts.now.items in
    let i = c.args.part in
    let read = read_at ps i c.index_mut.result.now c.requires.part c.index_mut.ensures.value in
    ap (λ (p : List Pair). joined (set ps i p)) (c.insert.ensures ∙ ap (λ (p : List Pair). insert p c.args.place c.args.pair) read)
    ∙ joined_insert ps i c.args.place c.args.pair c.requires.part c.requires.place

pub returns-clause-joined : goal.returns-clause-joined
returns-clause-joined c =
    let ps = c.args.parts.now.items in
    let i = c.args.part in
    let one = c.insert_and_split.new.self in
    let two = c.insert_and_split.new.rest in
    let read = read_at ps i c.index_mut-2.result.now c.requires.part c.index_mut-2.ensures.value in
    ap (λ (qs : List (List Pair)). joined qs) c.in-Ok.ensures.items
    ∙ ap (λ (k : ℕ). joined (insert (set ps i one) k two)) (let e : i + 1 ≡ suc i = omega arith in e)
    ∙ joined_split ps i one two c.requires.part
    ∙ ap (λ (p : List Pair). joined (set ps i p)) (c.insert_and_split.ensures.both ∙ ap (λ (p : List Pair). insert p c.args.place c.args.pair) read)
    ∙ joined_insert ps i c.args.place c.args.pair c.requires.part c.requires.place
