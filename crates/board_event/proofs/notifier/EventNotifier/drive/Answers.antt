use Rattle.std.specs.Prelude.{◌≡◌}
use Rattle.std.proofs.Common.{ap, ◌∙◌}
use Rattle.board_event_model.specs.declared.kind.EventKind.{EventKind}
use Rattle.board_event.specs.Ends.{End}
use Rattle.board_event.specs.Taking.{notify_begun}
use Rattle.board_event.proofs.TypedNotify.{not_ended, notify_begins, notify_done, notify_goes_on, notify_refused}
use Rattle.board_event.proofs.notifier.EventNotifier.drive.Goals as goal

pub loop-init : goal.loop-init
loop-init g c =
    let begun : c.notify_call-call.result ≡ notify_begun g.K.KindOfEvents.which c.args.self.now.max c.args.id =
    c.notify_call-call.ensures ∙ ap (λ (k : EventKind). notify_begun k c.self.inside.max c.args.id) c.kind.ensures ∙ ap (λ (end : End). notify_begun g.K.KindOfEvents.which end.max c.args.id) c.self.view_is in
    (tt, tt, notify_begins g.K.KindOfEvents.which c.args.self.now c.args.id c.notify_call-call.result begun)

pub loop-preserved : goal.loop-preserved
loop-preserved g c = (tt, tt, notify_goes_on g.K.KindOfEvents.which c.args.self.now c.args.id c.args.self.now.event c.loop.call c.access.new.call c.access.result c.loop.invariant.2 c.access.ensures c.in-More.is)

pub access-requires : goal.access-requires
access-requires g c = not_ended g.K.KindOfEvents.which c.args.self.now c.args.id c.loop.call c.loop.invariant.2

pub returns-in-Refused : goal.returns-in-Refused
returns-in-Refused g c = notify_refused g.K.KindOfEvents.which c.args.self.now c.args.id c.args.self.now.event c.loop.call c.access.new.call c.access.result c.in-Refused.why c.loop.invariant.2 c.access.ensures c.in-Refused.is

pub returns-in_default : goal.returns-in_default
returns-in_default g c = notify_done g.K.KindOfEvents.which c.args.self.now c.args.id c.args.self.now.event c.loop.call c.access.new.call c.access.result c.loop.invariant.2 c.access.ensures c.in_default.not-More c.in_default.not-Refused
