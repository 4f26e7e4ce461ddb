use Rattle.script_model.proofs.AnswerLaws.{one_session}
use Rattle.script_model.proofs.answer_laws.one_lawful_session.Goals as goal

pub returns : goal.returns
returns c = one_session
