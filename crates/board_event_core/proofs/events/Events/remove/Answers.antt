use Rattle.board_event_core.proofs.StandingLemmas.{kept_removed}
use Rattle.board_event_core.proofs.events.Events.remove.Goals as goal

pub invariant_of-self : goal.invariant_of-self
invariant_of-self c = kept_removed _ _ c.args.kind c.args.name.now c.remove.ensures.after c.remove.ensures.left c.self.invariant
