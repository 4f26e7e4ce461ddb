use Rattle.board_event_core.proofs.events.Events.names.Goals as goal

pub returns-clause-ascend : goal.returns-clause-ascend
returns-clause-ascend c = c.table_stands.ensures.names c.args.kind
