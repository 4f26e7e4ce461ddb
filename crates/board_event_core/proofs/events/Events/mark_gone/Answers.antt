use Rattle.board_event_core.specs.EventTable.{with_gone}
use Rattle.board_event_core.proofs.EventLemmas.{IsAttended-with_gone, IsEvent-with_gone}
use Rattle.board_event_core.proofs.StandingLemmas.{Keeps-gone, kept_changed}
use Rattle.board_event_core.proofs.events.Events.mark_gone.Goals as goal

pub invariant_of-self : goal.invariant_of-self
invariant_of-self c = kept_changed _ _ _ with_gone Keeps-gone (λ e _. IsEvent-with_gone e) (λ e _. IsAttended-with_gone e) c.mark_gone.ensures c.self.invariant
