use Rattle.std.proofs.Common.{◌++◌, ◌-◌, List, ◌∙◌, ap, length, take, drop, arith}
use Rattle.std.specs.List.{insert}
use Rattle.board_things.proofs.Joined.{insert_first, insert_rest, length_first, length_rest}
use Rattle.board_things.proofs.Pairs.{Pair}
use Rattle.board_things.proofs.part.Part.insert_and_split.Goals as goal

pub insert-requires-clause-place : goal.insert-requires-clause-place
insert-requires-clause-place c =
    let n = ap (λ (ps : List Pair). length ps) c.split.ensures.first ∙ length_first c.args.self.now c.args.place c.args.pair c.requires.full in
    omega (arith, n, c.if-place-half.true)

pub insert-requires-clause-room : goal.insert-requires-clause-room
insert-requires-clause-room c =
    let n = ap (λ (ps : List Pair). length ps) c.split.ensures.first ∙ length_first c.args.self.now c.args.place c.args.pair c.requires.full in
    omega (arith, n)

pub insert-requires-else-place-half-clause-place : goal.insert-requires-else-place-half-clause-place
insert-requires-else-place-half-clause-place c =
    let n = ap (λ (ps : List Pair). length ps) c.split.ensures.rest ∙ length_rest c.args.self.now c.args.place c.args.pair c.requires.full in
    omega (arith, n, c.requires.place, c.requires.full)

pub insert-requires-else-place-half-clause-room : goal.insert-requires-else-place-half-clause-room
insert-requires-else-place-half-clause-room c =
    let n = ap (λ (ps : List Pair). length ps) c.split.ensures.rest ∙ length_rest c.args.self.now c.args.place c.args.pair c.requires.full in
    omega (arith, n)

pub returns-then-place-half-clause-both : goal.returns-then-place-half-clause-both
returns-then-place-half-clause-both c =
    let xs = c.args.self.now in
    ap (λ (ps : List Pair). ps ++ c.split.new.rest) (c.insert.ensures ∙ ap (λ (ps : List Pair). insert ps c.args.place c.args.pair) c.split.ensures.first)
    ∙ ap (λ (ps : List Pair). insert (take 128 xs) c.args.place c.args.pair ++ ps) c.split.ensures.rest
    ∙ insert_first xs c.args.place c.args.pair c.requires.full c.if-place-half.true

pub returns-then-place-half-clause-rest : goal.returns-then-place-half-clause-rest
returns-then-place-half-clause-rest c =
    let n = ap (λ (ps : List Pair). length ps) c.split.ensures.rest ∙ length_rest c.args.self.now c.args.place c.args.pair c.requires.full in
    omega (arith, n)

pub returns-else-place-half-clause-both : goal.returns-else-place-half-clause-both
returns-else-place-half-clause-both c =
    let xs = c.args.self.now in
    ap (λ (ps : List Pair). c.split.new.self ++ ps) (c.insert-else-place-half.ensures ∙ ap (λ (ps : List Pair). insert ps (c.args.place - 128) c.args.pair) c.split.ensures.rest)
    ∙ ap (λ (ps : List Pair). ps ++ insert (drop 128 xs) (c.args.place - 128) c.args.pair) c.split.ensures.first
    ∙ insert_rest xs c.args.place c.args.pair c.requires.full (omega (arith, c.if-place-half.false))
