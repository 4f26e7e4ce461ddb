use Rattle.std.proofs.Common.{◌+◌, get_or, length, arith}
use Rattle.std.specs.Prelude.{decimal}
use Rattle.script_print.specs.Texts.{comma_text}
use Rattle.script_print.proofs.ReplyLemmas.{list_lacks, on_any}
use Rattle.script_print.proofs.replies.push_behind_commas.Goals as goal

pub returns-in_err-push-clause-room : goal.returns-in_err-push-clause-room
returns-in_err-push-clause-room c =
    on_any c.from_residual.result _ (list_lacks comma_text c.args.numbers.now c.loop-number.number-index 0 c.args.out.now c.loop-number.out 1 c.loop-number-test.true c.loop-number.invariant.written c.loop-number.invariant.grows (omega arith) (omega (arith, c.in_err-push.ensures.full)))

pub returns-in_err-push_digits-clause-room : goal.returns-in_err-push_digits-clause-room
returns-in_err-push_digits-clause-room c =
    on_any c.from_residual-in_err-push_digits.result _ (list_lacks comma_text c.args.numbers.now c.loop-number.number-index 0 c.args.out.now c.loop-number.out (1 + length (decimal (get_or c.args.numbers.now c.loop-number.number-index 0))) c.loop-number-test.true c.loop-number.invariant.written c.loop-number.invariant.grows (omega arith)
    (omega (arith, c.in_err-push_digits.ensures.room, c.in_ok-push.ensures.len, c.in_ok-push.ensures.capacity)))
