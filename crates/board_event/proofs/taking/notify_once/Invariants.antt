use Rattle.board_event.specs.Taking.{notify_left}
use Rattle.board_event.proofs.NotifyLemmas.{Notifying}
use Rattle.board_event.proofs.taking.notify_once.Given as goal

abbrev pub invariant-loop-call : goal.invariant-loop-call
invariant-loop-call l = Notifying l.fn.kind l.fn.max l.event l.fn.id l.fn.events l.events l.call

abbrev pub decreases-loop-call : goal.decreases-loop-call
decreases-loop-call l = notify_left l.call.stage
