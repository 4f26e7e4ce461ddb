use Rattle.board_event.proofs.TypedAll.{SoFar}
use Rattle.board_event.proofs.listener.EventListener.all.Given as goal

abbrev pub invariant-loop : goal.invariant-loop
invariant-loop g l =
    (goal.iterator-loop g).can_next l.iterator' × (goal.iterator-loop g).is_finite l.iterator' × goal.F-IsAlwaysCallable g l.callback
    × SoFar (λ p x q. goal.F-step g p x tt q) g.K.KindOfEvents.which l.self.max l.call l.fn.callback l.callback
