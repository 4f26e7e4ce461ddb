use Rattle.board_concepts.proofs.SpellingLemmas.{puts_description}
use Rattle.board_concepts.proofs.serialize.write.Goals as goal

pub returns : goal.returns
returns c =
    let version = rw c.new-out.ensures.items at c.in_ok-put_number.ensures in
    let name = rw c.as_bytes.ensures.value at c.in_ok-put_text.ensures in
    let attributes = rw c.as_slice.ensures.value at c.in_ok-put_list.ensures in
    puts_description c.args.value.now _ _ _ _ _ _ _ version name c.in_ok-put_type.ensures c.in_ok-put_number-2.ensures c.in_ok-put_number-3.ensures c.in_ok-put_writers.ensures attributes
