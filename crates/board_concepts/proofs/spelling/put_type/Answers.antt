use Rattle.board_concepts.proofs.SpellingLemmas.{puts_type}
use Rattle.board_concepts.proofs.spelling.put_type.Goals as goal

pub returns : goal.returns
returns c =
    let variant = rw c.number_of.ensures at c.in_ok-put_number.ensures in
    let name = rw c.as_bytes.ensures.value at c.in_ok-put_text.ensures in
    puts_type c.args.detail.now _ _ _ _ _ variant name c.in_ok-put_number-2.ensures c.in_ok-put_number-3.ensures
