use Rattle.std.proofs.Common.{ℕ, List, rules, sym, subst}
use Rattle.std.specs.List.Sorted.{IsPartitionedBy}
use Rattle.std.proofs.lemmas.List.Sorted.{IsPartitionPoint-from_clause}
use Rattle.board_things.specs.Nodes.{is_by}
use Rattle.board_things.proofs.PartEnds.{parted_ends}
use Rattle.board_things.proofs.Pairs.{placed}
use Rattle.board_things.proofs.ends.ends_by.Goals as goal

pub returns-clause-count : goal.returns-clause-count
returns-clause-count c =
    let place = c.args.place in
    placed (is_by place) c.args.ends.now c.partition_point.result c.partition_point.ensures.bound
    (IsPartitionPoint-from_clause (is_by place) c.args.ends.now c.partition_point.result c.partition_point.ensures.partitioned
    (subst (λ (xs : List ℕ). IsPartitionedBy (is_by place) xs) (sym c.requires.1) (parted_ends place 0 c.requires.0)) (λ a r f called. (search rules, search rules)))
