use Rattle.std.proofs.Common.{rules}
use Rattle.std.proofs.lemmas.List.Sorted.{IsPartitionPoint-from_clause}
use Rattle.board_things.specs.Nodes.{ends_before}
use Rattle.board_things.proofs.Joined.{parted_parts}
use Rattle.board_things.proofs.Pairs.{placed}
use Rattle.board_things.proofs.parts.part_of.Goals as goal

pub returns-clause-place : goal.returns-clause-place
returns-clause-place c =
    let board = c.args.board in
    let node = c.args.node in
    placed (ends_before board node) c.args.parts.now c.partition_point.result c.partition_point.ensures.bound
    (IsPartitionPoint-from_clause (ends_before board node) c.args.parts.now c.partition_point.result c.partition_point.ensures.partitioned
    (parted_parts board node c.args.parts.now c.requires.filled c.requires.order) (λ a r f called. (search rules, search rules)))
