use Rattle.board_model.proofs.answer_laws.one_right_answer.Goals as goal
use Rattle.board_model.proofs.AnswerLaws.{one_answer}

pub returns : goal.returns
returns c = one_answer
