use Rattle.std.proofs.Common.{rules}
use Rattle.board_model.proofs.ShortKeyLemmas.{text_is_short}
use Rattle.board_model.proofs.type_table.key_bytes.Goals as goal

pub returns-in-F8-clause-short : goal.returns-in-F8-clause-short
returns-in-F8-clause-short c = text_is_short c.as_bytes-bytes.result.now c.key_memory-in-F8.result.bytes (search rules) (λ i lt. search rules) c.key_memory-in-F8.ensures
