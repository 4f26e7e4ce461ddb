use Rattle.std.specs.Prelude.{◌≡◌, true}
use Rattle.std.proofs.Common.{ap, of_calls, ◌∙◌}
use Rattle.board_event_model.specs.declared.kind.EventKind.{EventKind}
use Rattle.board_event.specs.Ends.{End}
use Rattle.board_event.specs.Taking.{wait_begun}
use Rattle.board_event.proofs.TypedAll.{calls_begin, calls_end, calls_go_on}
use Rattle.board_event.proofs.TypedWaits.{hold_behind, hold_in_range}
use Rattle.board_event.proofs.listener.EventListener.all.Goals as goal

pub loop-init : goal.loop-init
loop-init g c =
    let begun : c.wait_call-call.result ≡ wait_begun g.K.KindOfEvents.which c.args.self.now.max true c.args.mode =
    c.wait_call-call.ensures ∙ ap (λ (k : EventKind). wait_begun k c.self.inside.max true c.args.mode) c.kind.ensures ∙ ap (λ (end : End). wait_begun g.K.KindOfEvents.which end.max true c.args.mode) c.self.view_is in
    (tt, tt, search of_calls, calls_begin (λ p x q. goal.F-step g p x tt q) c.args.callback.now g.K.KindOfEvents.which c.args.self.now.max c.args.mode c.wait_call-call.result begun)

pub loop-preserved : goal.loop-preserved
loop-preserved g c =
    let before = c.in-Some-access.ensures.0 in
    let hold = hold_behind c.args.self.now.event c.loop.call c.access.new.call c.in-Some-access.progress c.in-Some-access.ensures in (
      tt,
      tt,
      c.hand_over.ensures.callable,
      calls_go_on (λ p x q. goal.F-step g p x tt q) c.args.callback.now c.loop.callback c.hand_over.new.callback g.K.KindOfEvents.which c.args.self.now.max c.args.self.now.event c.loop.call c.access.new.call
          c.in-Some-access.progress c.loop.invariant.3 c.in-Some-access.ensures (c.hand_over.ensures.calls (hold_in_range c.args.self.now.event before c.access.new.call c.in-Some-access.progress hold)),
    )

pub returns-clause-calls : goal.returns-clause-calls
returns-clause-calls g c = calls_end (λ p x q. goal.F-step g p x tt q) c.args.callback.now c.loop.callback g.K.KindOfEvents.which c.args.self.now.max c.loop.call c.loop.invariant.3
