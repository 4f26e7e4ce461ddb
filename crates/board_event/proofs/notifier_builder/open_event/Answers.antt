use Rattle.board_event.proofs.OpenLemmas.{opened_stands, stands_after}
use Rattle.board_event.proofs.notifier_builder.open_event.Goals as goal

pub greatest_id-max-requires : goal.greatest_id-max-requires
greatest_id-max-requires c = stands_after c.args.events.now c.notifier.new.self c.in_ok-event.event (opened_stands c.args.events.now c.notifier.result _ c.in_ok-event.event c.notifier.ensures.answer c.in_ok-event.was) c.in_ok-event.ensures.ok
