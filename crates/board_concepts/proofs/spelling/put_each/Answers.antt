use Rattle.board_concepts.proofs.SpellingLemmas.{puts_none, puts_more, puts_all}
use Rattle.board_concepts.proofs.spelling.put_each.Goals as goal

pub loop-attribute-init : goal.loop-attribute-init
loop-attribute-init c = puts_none c.args.out.now.items

pub loop-attribute-preserved : goal.loop-attribute-preserved
loop-attribute-preserved c = puts_more _ _ _ _ _ _ c.loop-attribute-test.true c.attribute-item.is c.loop-attribute.invariant c.in_ok-put_attribute.ensures

pub returns : goal.returns
returns c = puts_all _ _ _ _ c.loop-attribute-test.false c.loop-attribute.invariant
