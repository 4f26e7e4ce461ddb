use Rattle.std.proofs.Common.{rules}
use Rattle.std.proofs.lemmas.List.Sorted.{IsPartitionPoint-from_clause}
use Rattle.board_things.specs.Nodes.{comes_before}
use Rattle.board_things.proofs.Pairs.{parted, placed}
use Rattle.board_things.proofs.parts.place_of.Goals as goal

pub returns-clause-place : goal.returns-clause-place
returns-clause-place c =
    let board = c.args.board in
    let node = c.args.node in
    placed (comes_before board node) c.args.pairs.now c.partition_point.result c.partition_point.ensures.bound
    (IsPartitionPoint-from_clause (comes_before board node) c.args.pairs.now c.partition_point.result c.partition_point.ensures.partitioned
    (parted board node c.args.pairs.now c.requires) (λ a r f called. (search rules, search rules)))
