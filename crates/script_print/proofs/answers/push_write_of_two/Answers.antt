use Rattle.std.proofs.Common.{refl}
use Rattle.std.specs.Prelude.{codes}
use Rattle.script_print.proofs.ReplyLemmas.{err_then, ok_then, on_any, place_of_two_lacks, short_place_of_two, value_of_two_lacks}
use Rattle.script_print.proofs.answers.push_write_of_two.Goals as goal

pub returns-in_err-extend_from_slice-clause-room : goal.returns-in_err-extend_from_slice-clause-room
returns-in_err-extend_from_slice-clause-room c =
    on_any c.from_residual.result _ (place_of_two_lacks (codes "write ") c.args.out.now c.args.board c.args.word c.args.value _ c.requires.board c.requires.low c.requires.high refl c.in_err-extend_from_slice.ensures.full)

pub returns-clause-ok : goal.returns-clause-ok
returns-clause-ok c =
    ok_then c.push_digits.result c.push_digits.ensures.ok
    (short_place_of_two (codes "write ") _ _ _ c.args.board c.args.word c.args.value c.digit.result c.digit-2.result c.digit-3.result c.requires.board c.requires.low c.requires.high c.digit.ensures c.digit-2.ensures c.digit-3.ensures
    c.in_ok-extend_from_slice.ensures.items)

pub returns-clause-room : goal.returns-clause-room
returns-clause-room c =
    err_then c.push_digits.result c.push_digits.ensures.room
    (value_of_two_lacks (codes "write ") c.args.out.now c.extend_from_slice.new.self c.args.board c.args.word c.args.value _ c.requires.board c.requires.low c.requires.high refl c.in_ok-extend_from_slice.ensures.len
    c.in_ok-extend_from_slice.ensures.capacity)
