use Rattle.std.specs.Prelude.{◌≡◌, ◌<◌, ◌-◌, ◌^◌, Some}
use Rattle.board_event_model.specs.EventMemory.{Event, with_notifier}
use Rattle.board_event_core.specs.EventTable.{HasRoomAt, event_at}
use Rattle.board_event_core.proofs.EventLemmas.{IsAttended-with_notifier, IsEvent-with_notifier}
use Rattle.board_event_core.proofs.StandingLemmas.{Keeps-notifier, kept_changed, notified_stands, stands_in}
use Rattle.board_event_core.proofs.events.Events.notifier.Goals as goal

pub invariant_of-self : goal.invariant_of-self
invariant_of-self c = kept_changed _ _ _ with_notifier Keeps-notifier (λ e _. IsEvent-with_notifier e) (λ e is _. IsAttended-with_notifier e (room e is)) c.add_notifier.ensures c.self.invariant
  where
    room : (e : Event) → event_at c.self.inside.rows c.in_ok-number.number ≡ Some e → e.notifiers < 2 ^ 64 - 2
    room e is =
        let there : HasRoomAt c.self.inside.rows c.in_ok-number.number = rw c.self.view_is c.in_ok-number.ensures.room in
        (rw is at there)

pub returns-clause-stands : goal.returns-clause-stands
returns-clause-stands c = notified_stands c.self.inside.rows c.add_notifier.new.self c.in_ok-number.number
    (stands_in c.self.inside.rows c.args.self.now c.in_ok-number.number (λ e. e.notifiers < 2 ^ 64 - 2) c.self.view_is c.in_ok-number.ensures.room) c.add_notifier.ensures
