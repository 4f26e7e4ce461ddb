use Rattle.board_event.proofs.TypedOne.{OneGoes}
use Rattle.board_event.proofs.listener.EventListener.one.Given as goal

abbrev pub invariant-loop : goal.invariant-loop
invariant-loop g l = (goal.iterator-loop g).can_next l.iterator' × (goal.iterator-loop g).is_finite l.iterator' × OneGoes g.K.KindOfEvents.which l.self.max l.call
