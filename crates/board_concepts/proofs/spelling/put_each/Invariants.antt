use Rattle.std.proofs.Common.{take}
use Rattle.board_concepts.specs.Spelling.{Puts}
use Rattle.board_concepts.specs.DescriptionSpelling.{SpelledEach}
use Rattle.board_concepts.proofs.spelling.put_each.Given as goal

abbrev pub invariant-loop-attribute : goal.invariant-loop-attribute
invariant-loop-attribute l = Puts (SpelledEach (take l.attribute-index l.attributes)) l.initial.out.items l.out.items
