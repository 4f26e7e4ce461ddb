use Rattle.script_event_rows.proofs.RowLemmas.{scan_room, scans_right}
use Rattle.script_event_rows.proofs.event_row.EventRow.scan.Goals as goal

pub word_at-requires : goal.word_at-requires
word_at-requires c = scan_room c.args.self.now c.args.word c.requires

pub returns : goal.returns
returns c = scans_right c.args.self.now c.args.word c.word_at.result c.word_at.ensures
