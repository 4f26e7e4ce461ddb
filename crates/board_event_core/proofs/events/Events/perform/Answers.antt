use Rattle.std.specs.Prelude.{◌≡◌, Some}
use Rattle.board_event_model.specs.EventMemory.{CanPerform, Event, after}
use Rattle.board_event_core.specs.EventTable.{CanPerformAt, event_at}
use Rattle.board_event_core.proofs.EventLemmas.{IsAttended-after, IsEvent-after}
use Rattle.board_event_core.proofs.StandingLemmas.{Keeps-after, kept_changed}
use Rattle.board_event_core.proofs.events.Events.perform.Goals as goal

pub invariant_of-self : goal.invariant_of-self
invariant_of-self c = kept_changed _ _ _ (λ e. after e c.args.access) (Keeps-after c.args.access) (λ e is. IsEvent-after c.args.access e (can e is)) (λ e _. IsAttended-after c.args.access e) c.perform.ensures.after c.self.invariant
  where
    can : (e : Event) → event_at c.self.inside.rows c.args.event ≡ Some e → CanPerform e c.args.access
    can e is =
        let there : CanPerformAt c.self.inside.rows c.args.event c.args.access = rw c.self.view_is c.requires in
        (rw is at there)
