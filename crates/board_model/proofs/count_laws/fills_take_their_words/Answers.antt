use Rattle.board_model.proofs.count_laws.fills_take_their_words.Goals as goal
use Rattle.board_model.proofs.CountLaws.{fill_count}

pub returns : goal.returns
returns c = fill_count
