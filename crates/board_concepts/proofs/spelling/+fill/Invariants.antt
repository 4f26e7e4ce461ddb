use Rattle.board_concepts.proofs.spelling.+fill.Given as goal

abbrev pub decreases-fill : goal.decreases-fill
decreases-fill l = l.count
