use Rattle.std.proofs.Common.{ap, arith, ◌∙◌}
use Rattle.script_answers.specs.AnswerReading.{reads_answer}
use Rattle.script_answers.proofs.AnswerLemmas.{read_where_spelled}
use Rattle.script_answers.proofs.answer.is_answer.Goals as goal

pub returns : goal.returns
returns c = read_where_spelled c.args.n c.args.text.now c.are_of_answer.result (omega arith) (c.are_of_answer.ensures ∙ ap reads_answer c.between.ensures)
