use Rattle.board_model.proofs.form_laws.right_answers_are_of_the_grammar.Goals as goal
use Rattle.board_model.proofs.FormLaws.{right_answer_form}

pub returns : goal.returns
returns c = right_answer_form
