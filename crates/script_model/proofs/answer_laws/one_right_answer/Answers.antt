use Rattle.script_model.proofs.AnswerLaws.{one_answer}
use Rattle.script_model.proofs.answer_laws.one_right_answer.Goals as goal

pub returns : goal.returns
returns c = one_answer
