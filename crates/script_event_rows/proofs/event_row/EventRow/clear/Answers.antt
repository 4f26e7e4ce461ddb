use Rattle.script_event_rows.proofs.RowLemmas.{becomes_ids, clear_room, clears_right}
use Rattle.std.specs.FinSet as set
use Rattle.script_event_rows.proofs.event_row.EventRow.clear.Goals as goal

pub take_id-requires : goal.take_id-requires
take_id-requires c = clear_room c.args.self.now c.args.id c.requires

pub returns-clause-right : goal.returns-clause-right
returns-clause-right c = clears_right c.args.self.now c.args.id c.requires

pub returns-clause-after : goal.returns-clause-after
returns-clause-after c = becomes_ids c.args.self.now c.take_id.new.words (λ ids. set.remove ids c.args.id) c.take_id.ensures
