use Rattle.board_concepts.specs.Spelling.{SpelledText}
use Rattle.board_concepts.specs.DescriptionSpelling.{SpelledAttribute}
use Rattle.board_concepts.proofs.SpellingLemmas.{puts_then}
use Rattle.board_concepts.proofs.spelling.put_attribute.Goals as goal

pub returns : goal.returns
returns c =
    let key = rw c.as_bytes.ensures.value at c.in_ok-put_text.ensures in
    let value = rw c.as_bytes-2.ensures.value at c.in_ok-put_text-2.ensures in
    puts_then (SpelledText c.args.attribute.now.key) (SpelledText c.args.attribute.now.value) (SpelledAttribute c.args.attribute.now) _ _ _
    (λ bytes at rest s t. (at, s, t)) key value
