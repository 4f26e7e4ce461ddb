use Rattle.script_event_rows.proofs.RowLemmas.{becomes_ids, set_room}
use Rattle.std.specs.FinSet as set
use Rattle.script_event_rows.proofs.event_row.EventRow.set.Goals as goal

pub put_id-requires : goal.put_id-requires
put_id-requires c = set_room c.args.self.now c.args.id c.requires

pub returns : goal.returns
returns c = becomes_ids c.args.self.now c.put_id.new.words (λ ids. set.insert ids c.args.id) c.put_id.ensures
