use Rattle.board_concepts.proofs.spelling.+number.Given as goal

abbrev pub decreases-number : goal.decreases-number
decreases-number l = l.most
