use Rattle.board_model.proofs.count_laws.updates_take_their_words.Goals as goal
use Rattle.board_model.proofs.CountLaws.{update_count}

pub returns : goal.returns
returns c = update_count
