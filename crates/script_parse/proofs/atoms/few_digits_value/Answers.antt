use Rattle.std.proofs.Common.{arith, get_or}
use Rattle.std.proofs.lemmas.List.{take_rest}
use Rattle.script_parse.proofs.Digits.{digit_is, last_read, room, second_room, two_read}
use Rattle.script_parse.proofs.atoms.few_digits_value.Goals as goal

pub overflow_mul-n : goal.overflow_mul-n
overflow_mul-n c = omega (arith, room c.loop-left.n c.loop-left.left.now c.args.text.now c.loop-left.invariant (omega (arith, c.in-len2-up.len_at_least)) c.requires)

pub overflow_add-n : goal.overflow_add-n
overflow_add-n c =
    let digit = digit_is (get_or c.loop-left.left.now 0 0) c.in_ok-n.field-0 c.in_ok-n.ensures in
    omega (arith, digit.low, room c.loop-left.n c.loop-left.left.now c.args.text.now c.loop-left.invariant (omega (arith, c.in-len2-up.len_at_least)) c.requires)

pub overflow_mul-n-in-len2-up : goal.overflow_mul-n-in-len2-up
overflow_mul-n-in-len2-up c =
    let digit = digit_is (get_or c.loop-left.left.now 0 0) c.in_ok-n.field-0 c.in_ok-n.ensures in
    omega (arith, second_room c.loop-left.n c.in_ok-n.field-0 c.loop-left.left.now c.args.text.now c.loop-left.invariant c.in-len2-up.len_at_least digit c.requires)

pub overflow_add-n-in-len2-up : goal.overflow_add-n-in-len2-up
overflow_add-n-in-len2-up c =
    let digit = digit_is (get_or c.loop-left.left.now 0 0) c.in_ok-n.field-0 c.in_ok-n.ensures in
    let other = digit_is (get_or c.loop-left.left.now 1 0) c.in_ok-n-2.field-0 c.in_ok-n-2.ensures in
    omega (arith, other.low, second_room c.loop-left.n c.in_ok-n.field-0 c.loop-left.left.now c.args.text.now c.loop-left.invariant c.in-len2-up.len_at_least digit c.requires)

pub loop-left-preserved : goal.loop-left-preserved
loop-left-preserved c =
    let digit = digit_is (get_or c.loop-left.left.now 0 0) c.in_ok-n.field-0 c.in_ok-n.ensures in
    let other = digit_is (get_or c.loop-left.left.now 1 0) c.in_ok-n-2.field-0 c.in_ok-n-2.ensures in
    rw (take_rest c.loop-left.left.now 2) (two_read c.loop-left.n c.in_ok-n.field-0 c.in_ok-n-2.field-0 c.loop-left.left.now c.args.text.now c.loop-left.invariant c.in-len2-up.len_at_least digit other)

pub overflow_mul-result : goal.overflow_mul-result
overflow_mul-result c = omega (arith, room c.loop-left.n c.loop-left.left.now c.args.text.now c.loop-left.invariant c.in-len1.len_at_least c.requires)

pub overflow_add-result : goal.overflow_add-result
overflow_add-result c =
    let digit = digit_is (get_or c.loop-left.left.now 0 0) c.in_ok-digit_of-in-len1.field-0 c.in_ok-digit_of-in-len1.ensures in
    omega (arith, digit.low, room c.loop-left.n c.loop-left.left.now c.args.text.now c.loop-left.invariant c.in-len1.len_at_least c.requires)

pub returns-in_ok-digit_of-in-len1 : goal.returns-in_ok-digit_of-in-len1
returns-in_ok-digit_of-in-len1 c =
    let digit = digit_is (get_or c.loop-left.left.now 0 0) c.in_ok-digit_of-in-len1.field-0 c.in_ok-digit_of-in-len1.ensures in
    last_read c.loop-left.n c.in_ok-digit_of-in-len1.field-0 c.loop-left.left.now c.args.text.now c.loop-left.invariant c.in-len1.len_at_least c.in_default.len_below digit c.requires
