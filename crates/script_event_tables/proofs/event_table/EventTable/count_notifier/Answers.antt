use Rattle.std.proofs.Common.{◌∙◌, ◌-◌, ◌<◌, ◌^◌}
use Rattle.std.proofs.lemmas.List.{length-set}
use Rattle.board_event_model.specs.EventMemory.{with_notifier}
use Rattle.board_event_model.specs.EventSessions.{event_of}
use Rattle.script_event_rows.specs.EventRows.{StandsFor}
use Rattle.script_event_tables.proofs.TableLemmas.{both, changed_owners, changed_rows, row_of}
use Rattle.script_event_tables.proofs.event_table.EventTable.count_notifier.Goals as goal

pub returns : goal.returns
returns c = λ s are. record {
  count = length-set c.args.self.now.rows.items (c.args.number - 1) c.add_notifier.new.self ∙ are.count;
  rows = changed_rows c.args.self.now.rows.items s.stands c.args.number c.index_mut-row.result.now c.add_notifier.new.self are.rows c.requires.made.first c.requires.made.last c.index_mut-row.ensures.value with_notifier c.add_notifier.ensures;
  names = are.names;
  each = are.each;
  owners = changed_owners c.args.self.now.listeners s.stands c.args.number with_notifier are.owners;
}

pub add_notifier-requires : goal.add_notifier-requires
add_notifier-requires c =
    let s = c.requires.few.0 in
    let are = c.requires.few.1 in
    both (event_of s.stands c.args.number) (StandsFor c.index_mut-row.result.now) (λ e. e.notifiers < 2 ^ 64 - 1)
    (row_of c.args.self.now.rows.items s.stands c.args.number c.index_mut-row.result.now are.rows c.requires.made.first c.requires.made.last c.index_mut-row.ensures.value) c.requires.few.2
