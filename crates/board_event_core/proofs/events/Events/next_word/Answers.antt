use Rattle.std.proofs.Common.{Option, ap, sym, ◌∙◌, subst}
use Rattle.std.specs.Prelude.{IsSomeAnd}
use Rattle.board_event_model.specs.declared.access.EventAccess.TheVariants as access
use Rattle.board_event_model.specs.EventMemory.{CanPerform, Event}
use Rattle.board_event_core.specs.EventTable.{EventTable, event_at}
use Rattle.board_event_core.specs.Passing.{NoneBetween, ids_at}
use Rattle.board_event_core.proofs.events.Events.next_word.Goals as goal

pub returns-clause-none : goal.returns-clause-none
returns-clause-none c =
    subst (λ (o : Option Event). NoneBetween (ids_at o) c.args.word c.next_word.result) (sym c.standing.ensures ∙ ap (λ (t : EventTable). event_at t c.args.event) c.self.view_is) c.next_word.ensures.none

pub returns-clause-reachable : goal.returns-clause-reachable
returns-clause-reachable c =
    subst (λ (o : Option Event). IsSomeAnd o (λ e. CanPerform e (access.Scan c.next_word.result)))
    (sym c.standing.ensures ∙ ap (λ (t : EventTable). event_at t c.args.event) c.self.view_is) c.next_word.ensures.reachable
