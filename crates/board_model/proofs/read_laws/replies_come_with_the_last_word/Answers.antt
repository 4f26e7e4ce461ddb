use Rattle.board_model.proofs.read_laws.replies_come_with_the_last_word.Goals as goal
use Rattle.board_model.proofs.ReadLaws.{reply_at_end}

pub returns : goal.returns
returns c = reply_at_end
