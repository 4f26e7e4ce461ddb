use Rattle.board_event_core.specs.EventTable.{event_at}
use Rattle.board_event.specs.Taking.{signals_of, steps_left}
use Rattle.board_event.proofs.OneLemmas.{TakingOne}
use Rattle.board_event.proofs.taking.take_one.Given as goal

abbrev pub invariant-loop-call : goal.invariant-loop-call
invariant-loop-call l = TakingOne l.fn.kind l.max l.event l.fn.events l.events l.call

abbrev pub decreases-loop-call : goal.decreases-loop-call
decreases-loop-call l = steps_left (signals_of (event_at l.events l.event)) l.call.words l.call.stage
