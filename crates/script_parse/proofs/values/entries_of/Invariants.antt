use Rattle.std.proofs.Common.{length}
use Rattle.script_parse.proofs.EntryLemmas.{IsRead}
use Rattle.script_parse.proofs.values.entries_of.Given as goal

abbrev pub invariant-loop-word : goal.invariant-loop-word
invariant-loop-word l = IsRead l.entries.items l.tokens l.fn.tokens

abbrev pub decreases-loop-word : goal.decreases-loop-word
decreases-loop-word l = length l.tokens
