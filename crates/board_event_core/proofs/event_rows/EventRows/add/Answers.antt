use Rattle.board_event_core.proofs.TableLemmas.{name_put_back}
use Rattle.board_event_core.proofs.event_rows.EventRows.add.Goals as goal

pub returns-then-not-add_event-clause-none : goal.returns-then-not-add_event-clause-none
returns-then-not-add_event-clause-none c = λ _. name_put_back c.args.self.now c.take_name.new.self c.add_event.new.self _ c.args.kind c.args.name.now _ c.requires.free
    (c.take_name.ensures.taken c.if-not-take_name.false) (c.add_event.ensures.refused c.if-not-add_event.true) c.remove.ensures.after
