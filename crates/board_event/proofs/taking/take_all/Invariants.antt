use Rattle.board_event_core.specs.EventTable.{event_at}
use Rattle.board_event.specs.Taking.{signals_of, steps_left}
use Rattle.board_event.proofs.AllLemmas.{TakingAll}
use Rattle.board_event.proofs.taking.take_all.Given as goal

abbrev pub invariant-loop-call : goal.invariant-loop-call
invariant-loop-call g l =
    goal.F-IsAlwaysCallable g l.callback
    × TakingAll (λ p x q. goal.F-step g p x tt q) l.fn.callback l.callback l.fn.kind l.max l.event l.fn.events l.events l.call

abbrev pub decreases-loop-call : goal.decreases-loop-call
decreases-loop-call g l = steps_left (signals_of (event_at l.events l.event)) l.call.words l.call.stage
