use Rattle.std.specs.Prelude.{◌≡◌, IsSome, IsSomeAnd}
use Rattle.std.proofs.Common.{ap, subst, ◌∙◌}
use Rattle.board_names.specs.Concept.{placed}
use Rattle.board_event_model.specs.declared.kind.EventKind.{EventKind}
use Rattle.board_event_core.specs.EventTable.{event_at}
use Rattle.board_event.specs.Ends.{greatest_of}
use Rattle.board_event.proofs.OpenLemmas.{greatest_before, is_notifier, opened_stands, stands_after}
use Rattle.board_event.proofs.notifier_builder.EventNotifierBuilder.open_in.Goals as goal

pub greatest_id-max-requires : goal.greatest_id-max-requires
greatest_id-max-requires g c = stands_after c.state.inside.events c.notifier.new.self c.in_ok-event.event (opened_stands c.state.inside.events c.notifier.result _ c.in_ok-event.event c.notifier.ensures.answer c.in_ok-event.was) c.in_ok-event.ensures.ok

pub returns-clause-end : goal.returns-clause-end
returns-clause-end g c =
    let stood : IsSome (event_at c.state.inside.events c.in_ok-event.event) = opened_stands c.state.inside.events c.notifier.result _ c.in_ok-event.event c.notifier.ensures.answer c.in_ok-event.was in
    is_notifier g.K.KindOfEvents.which c.args.self c.state.inside.events c.args.state.now c.at.result c.place.result c.in_ok-event.event c.greatest_id-max.result c.at.ensures (c.place.ensures ∙ ap placed c.self.view_is) c.state.view_is
    (greatest_before c.state.inside.events c.notifier.new.self c.in_ok-event.event c.greatest_id-max.result g.K.KindOfEvents.which stood c.in_ok-event.ensures.ok
    (subst (λ (k : EventKind). IsSomeAnd (event_at c.notifier.new.self c.in_ok-event.event) (λ e. c.greatest_id-max.result ≡ greatest_of k e)) c.kind-2.ensures c.greatest_id-max.ensures))
