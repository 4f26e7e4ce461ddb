use Rattle.script_parse.proofs.PartLemmas.{IsSkipped}
use Rattle.script_parse.proofs.options.skip_parts.Given as goal

abbrev pub invariant-loop-n : goal.invariant-loop-n
invariant-loop-n g l = IsSkipped l.word g.P.Part.read l._n l.tokens l.fn.tokens
