use Rattle.board_model.proofs.answer_laws.one_lawful_session.Goals as goal
use Rattle.board_model.proofs.AnswerLaws.{one_session}

pub returns : goal.returns
returns c = one_session
