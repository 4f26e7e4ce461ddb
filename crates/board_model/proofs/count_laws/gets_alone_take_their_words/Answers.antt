use Rattle.board_model.proofs.count_laws.gets_alone_take_their_words.Goals as goal
use Rattle.board_model.proofs.CountLaws.{get_alone}

pub returns : goal.returns
returns c = get_alone
