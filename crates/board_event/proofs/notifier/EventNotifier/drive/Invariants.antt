use Rattle.board_event.proofs.TypedNotify.{GoesOn}
use Rattle.board_event.proofs.notifier.EventNotifier.drive.Given as goal

abbrev pub invariant-loop : goal.invariant-loop
invariant-loop g l = (goal.iterator-loop g).can_next l.iterator' × (goal.iterator-loop g).is_finite l.iterator' × GoesOn g.K.KindOfEvents.which l.self l.id l.call
