use Rattle.std.proofs.Common.{subst}
use Rattle.board_event.specs.Accesses.{IsNotifyAccess}
use Rattle.board_event.specs.Ends.{End}
use Rattle.board_event.proofs.notifier.EventNotifier.access.Goals as goal

pub returns : goal.returns
returns g c = (
  c.behind-state.inside.events,
  c.notify_access.new.events,
  subst (λ (end : End). IsNotifyAccess c.behind-state.inside.events c.notify_access.new.events end.event c.args.call.now c.notify_access.new.call c.notify_access.result) c.self.view_is c.notify_access.ensures,
)
