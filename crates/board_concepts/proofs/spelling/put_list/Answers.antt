use Rattle.std.proofs.Common.{length}
use Rattle.board_concepts.specs.Spelling.{Spelled}
use Rattle.board_concepts.specs.DescriptionSpelling.{SpelledEach, SpelledList}
use Rattle.board_concepts.proofs.SpellingLemmas.{puts_then}
use Rattle.board_concepts.proofs.spelling.put_list.Goals as goal

pub returns : goal.returns
returns c = puts_then (Spelled (length c.args.attributes.now)) (SpelledEach c.args.attributes.now) (SpelledList c.args.attributes.now) _ _ _
    (λ bytes at rest s t. (at, s, t)) c.in_ok-put_number.ensures c.in_ok-put_each.ensures
