use Rattle.std.proofs.Common.{◌+◌, length, ap, arith}
use Rattle.board_model.specs.LineGrammar.{key_text}
use Rattle.board_model.specs.AnswerGrammar.{key_item_text}
use Rattle.script_print.proofs.ReplyLemmas.{list_lacks, on_any}
use Rattle.script_print.proofs.replies.push_keys.Goals as goal

pub returns-in_err-push-clause-room : goal.returns-in_err-push-clause-room
returns-in_err-push-clause-room c =
    on_any c.from_residual.result _ (list_lacks key_item_text c.args.keys.now c.loop-key.key-index c.key-item.result c.args.out.now c.loop-key.out 1 c.loop-key-test.true c.loop-key.invariant.written c.loop-key.invariant.grows (omega arith) (omega (arith, c.in_err-push.ensures.full)))

pub returns-in_err-push_key-clause-room : goal.returns-in_err-push_key-clause-room
returns-in_err-push_key-clause-room c =
    on_any c.from_residual-in_err-push_key.result _ (list_lacks key_item_text c.args.keys.now c.loop-key.key-index c.key-item.result c.args.out.now c.loop-key.out (1 + length (key_text c.key-item.result)) c.loop-key-test.true c.loop-key.invariant.written c.loop-key.invariant.grows (omega (arith, ap (λ x. length (key_item_text x)) c.key-item.is))
    (omega (arith, c.in_err-push_key.ensures.room, c.in_ok-push.ensures.len, c.in_ok-push.ensures.capacity)))
