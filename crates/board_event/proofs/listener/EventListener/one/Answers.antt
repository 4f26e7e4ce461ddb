use Rattle.std.specs.Prelude.{◌≡◌, ℕ, false}
use Rattle.std.proofs.Common.{ap, subst, sym, ◌∙◌}
use Rattle.board_event_model.specs.declared.kind.EventKind.{EventKind}
use Rattle.board_event.specs.Ends.{End}
use Rattle.board_event.specs.Taking.{wait_begun}
use Rattle.board_event.specs.TypedCalls.{IsOfWords}
use Rattle.board_event.proofs.TypedOne.{OneGoes-begun, OneGoes-held, one_gives}
use Rattle.board_event.proofs.listener.EventListener.one.Goals as goal

pub loop-init : goal.loop-init
loop-init g c =
    let begun : c.wait_call-call.result ≡ wait_begun g.K.KindOfEvents.which c.args.self.now.max false c.args.mode =
    c.wait_call-call.ensures ∙ ap (λ (k : EventKind). wait_begun k c.self.inside.max false c.args.mode) c.kind.ensures ∙ ap (λ (end : End). wait_begun g.K.KindOfEvents.which end.max false c.args.mode) c.self.view_is in
    (tt, tt, OneGoes-begun g.K.KindOfEvents.which c.args.self.now.max c.args.mode c.wait_call-call.result begun)

pub loop-preserved : goal.loop-preserved
loop-preserved g c = (
  tt,
  tt,
  OneGoes-held g.K.KindOfEvents.which c.args.self.now.max c.args.self.now.event c.loop.call c.access.new.call c.in_ok-progress.progress c.loop.invariant.2 c.in_ok-progress.ensures,
)

pub returns-in-Id : goal.returns-in-Id
returns-in-Id g c =
    subst (λ (id : ℕ). IsOfWords g.K.KindOfEvents.which c.args.self.now.max id) (sym c.new.ensures)
    (one_gives g.K.KindOfEvents.which c.args.self.now.max c.args.self.now.event c.loop.call c.access.new.call c.in_ok-progress.progress c.in-Id.id c.in-Id.last c.loop.invariant.2 c.in_ok-progress.ensures c.in-Id.is)
