use Rattle.board_cell.proofs.Histories.{legal, publishes_once, reads_once}
use Rattle.board_cell.proofs.laws.a_history_is_legal.Goals as goal

pub returns-clause-legal : goal.returns-clause-legal
returns-clause-legal c = legal

pub returns-clause-publishes : goal.returns-clause-publishes
returns-clause-publishes c = publishes_once

pub returns-clause-reads : goal.returns-clause-reads
returns-clause-reads c = reads_once
