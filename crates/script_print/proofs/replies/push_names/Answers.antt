use Rattle.std.proofs.Common.{◌+◌, length, ap, arith}
use Rattle.board_model.specs.AnswerGrammar.{name_item_text}
use Rattle.script_print.proofs.ReplyLemmas.{list_lacks, on_any}
use Rattle.script_print.proofs.replies.push_names.Goals as goal

pub returns-in_err-push-clause-room : goal.returns-in_err-push-clause-room
returns-in_err-push-clause-room c =
    on_any c.from_residual.result _ (list_lacks name_item_text c.args.names.now c.loop-name.name-index c.name-item.result c.args.out.now c.loop-name.out 1 c.loop-name-test.true c.loop-name.invariant.written c.loop-name.invariant.grows (omega arith) (omega (arith, c.in_err-push.ensures.full)))

pub returns-in_err-extend_from_slice-clause-room : goal.returns-in_err-extend_from_slice-clause-room
returns-in_err-extend_from_slice-clause-room c =
    on_any c.from_residual-in_err-extend_from_slice.result _ (list_lacks name_item_text c.args.names.now c.loop-name.name-index c.name-item.result c.args.out.now c.loop-name.out (1 + length c.name-item.result) c.loop-name-test.true c.loop-name.invariant.written c.loop-name.invariant.grows (omega (arith, ap (λ x. length (name_item_text x)) c.name-item.is))
    (omega (arith, c.in_err-extend_from_slice.ensures.full, ap length c.as_bytes.ensures.value, c.in_ok-push.ensures.len, c.in_ok-push.ensures.capacity)))
