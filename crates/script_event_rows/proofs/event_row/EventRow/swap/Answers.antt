use Rattle.std.specs.Prelude.{not}
use Rattle.std.specs.FinSet as set
use Rattle.board_event_model.specs.Ids.{in_word}
use Rattle.script_event_rows.proofs.RowLemmas.{becomes_ids, swap_room, swaps_right}
use Rattle.script_event_rows.proofs.event_row.EventRow.swap.Goals as goal

pub word_at-bits-requires : goal.word_at-bits-requires
word_at-bits-requires c = swap_room c.args.self.now c.args.word c.requires

pub empty_word-requires : goal.empty_word-requires
empty_word-requires c = swap_room c.args.self.now c.args.word c.requires

pub returns-clause-right : goal.returns-clause-right
returns-clause-right c = swaps_right c.args.self.now c.args.word c.word_at-bits.result c.word_at-bits.ensures

pub returns-clause-after : goal.returns-clause-after
returns-clause-after c = becomes_ids c.args.self.now c.empty_word.new.words (λ ids. set.retain ids (λ i. not (in_word c.args.word i))) c.empty_word.ensures
