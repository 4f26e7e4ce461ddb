use Rattle.board_concepts.proofs.spelling.+skip_each.Given as goal

abbrev pub decreases-skip_each : goal.decreases-skip_each
decreases-skip_each l = l.count
