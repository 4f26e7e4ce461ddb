use Rattle.board_model.proofs.read_laws.reads_are_replies.Goals as goal
use Rattle.board_model.proofs.ReadLaws.{reads_are_replies}

pub returns : goal.returns
returns c = reads_are_replies
