use Rattle.board_event_model.specs.EventMemory.{without_notifier}
use Rattle.script_event_tables.specs.EventTables.{with_changed}
use Rattle.script_event_tables.proofs.event_table.EventTable.release_notifier.Goals as goal

pub returns : goal.returns
returns c = λ s are. c.settle.ensures (with_changed c.args.number without_notifier s) (c.let_notifier_go.ensures.events s are)
