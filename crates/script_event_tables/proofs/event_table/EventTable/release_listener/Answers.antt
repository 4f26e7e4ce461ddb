use Rattle.board_event_model.specs.EventMemory.{without_listener}
use Rattle.script_event_tables.specs.EventTables.{with_changed}
use Rattle.script_event_tables.proofs.event_table.EventTable.release_listener.Goals as goal

pub returns : goal.returns
returns c = λ s are. c.settle.ensures (with_changed c.args.number without_listener s) (c.let_listener_go.ensures.events s are)
