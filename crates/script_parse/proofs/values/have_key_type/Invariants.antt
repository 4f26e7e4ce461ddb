use Rattle.std.proofs.Common.{length}
use Rattle.script_parse.proofs.EntryLemmas.{AreTyped}
use Rattle.script_parse.proofs.values.have_key_type.Given as goal

abbrev pub invariant-loop-word : goal.invariant-loop-word
invariant-loop-word l = AreTyped l.key_type l.are_typed l.tokens l.fn.tokens

abbrev pub decreases-loop-word : goal.decreases-loop-word
decreases-loop-word l = length l.tokens
