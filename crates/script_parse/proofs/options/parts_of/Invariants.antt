use Rattle.std.proofs.Common.{◌-◌, length}
use Rattle.script_parse.proofs.PartLemmas.{IsReadParts}
use Rattle.script_parse.proofs.options.parts_of.Given as goal

abbrev pub invariant-loop-tokens : goal.invariant-loop-tokens
invariant-loop-tokens g l = IsReadParts l.word g.P.Part.read l.parts.items l.tokens l.fn.tokens

abbrev pub decreases-loop-tokens : goal.decreases-loop-tokens
decreases-loop-tokens g l = 8 - length l.parts.items
