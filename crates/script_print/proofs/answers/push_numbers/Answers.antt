use Rattle.std.proofs.Common.{arith}
use Rattle.board_model.specs.AnswerGrammar.{number_text}
use Rattle.script_print.proofs.ReplyLemmas.{list_lacks, on_any}
use Rattle.script_print.proofs.answers.push_numbers.Goals as goal

pub returns-in_err-push_number-clause-room : goal.returns-in_err-push_number-clause-room
returns-in_err-push_number-clause-room c =
    on_any c.from_residual.result _ (list_lacks number_text c.args.numbers.now c.loop-number.number-index 0 c.args.out.now c.loop-number.out _ c.loop-number-test.true c.loop-number.invariant.written c.loop-number.invariant.grows (omega arith) c.in_err-push_number.ensures.room)
