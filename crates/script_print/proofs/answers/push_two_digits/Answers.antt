use Rattle.script_print.proofs.ReplyLemmas.{added, are_two, lacking}
use Rattle.script_print.proofs.answers.push_two_digits.Goals as goal

pub returns-clause-ok : goal.returns-clause-ok
returns-clause-ok c =
    added c.extend_from_slice.result _ _ _ _ (are_two c.args.n c.digit.result c.digit-2.result c.requires.low c.requires.high c.digit.ensures c.digit-2.ensures) c.extend_from_slice.ensures.items

pub returns-clause-room : goal.returns-clause-room
returns-clause-room c =
    lacking c.extend_from_slice.result c.args.out.now _ _ (are_two c.args.n c.digit.result c.digit-2.result c.requires.low c.requires.high c.digit.ensures c.digit-2.ensures) c.extend_from_slice.ensures.full
