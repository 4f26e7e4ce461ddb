use Rattle.std.proofs.Common.{◌∙◌, ◌-◌}
use Rattle.std.proofs.lemmas.List.{length-set}
use Rattle.board_event_model.specs.EventMemory.{without_notifier}
use Rattle.script_event_tables.proofs.TableLemmas.{changed_owners, changed_rows}
use Rattle.script_event_tables.proofs.event_table.EventTable.let_notifier_go.Goals as goal

pub returns-clause-events : goal.returns-clause-events
returns-clause-events c = λ s are. record {
  count = length-set c.args.self.now.rows.items (c.args.number - 1) c.release_notifier.new.self ∙ are.count;
  rows = changed_rows c.args.self.now.rows.items s.stands c.args.number c.index_mut-row.result.now c.release_notifier.new.self are.rows c.requires.first c.requires.last c.index_mut-row.ensures.value without_notifier c.release_notifier.ensures;
  names = are.names;
  each = are.each;
  owners = changed_owners c.args.self.now.listeners s.stands c.args.number without_notifier are.owners;
}
