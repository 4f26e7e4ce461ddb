use Rattle.script_parse.proofs.Digits.{ends_large}
use Rattle.std.proofs.Common.{arith}
use Rattle.script_parse.proofs.atoms.digits_value.Goals as goal

pub returns-then-n-digit : goal.returns-then-n-digit
returns-then-n-digit c = ends_large c.loop-b.n c.loop-b.b-index c.args.text.now c.loop-b-test.true c.loop-b.invariant (omega arith)
