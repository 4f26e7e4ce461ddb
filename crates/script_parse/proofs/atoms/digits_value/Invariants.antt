use Rattle.std.proofs.Common.{drop}
use Rattle.script_parse.proofs.Digits.{IsRead}
use Rattle.script_parse.proofs.atoms.digits_value.Given as goal

abbrev pub invariant-loop-b : goal.invariant-loop-b
invariant-loop-b l = IsRead l.n (drop l.b-index l.text) l.text
