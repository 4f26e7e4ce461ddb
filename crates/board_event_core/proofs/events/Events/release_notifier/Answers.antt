use Rattle.std.proofs.Common.{sym}
use Rattle.std.specs.Prelude.{◌<◌, refl}
use Rattle.board_event_core.proofs.EventLemmas.{IsEvent-without_notifier, counted-without_notifier}
use Rattle.board_event_core.proofs.StandingLemmas.{changed_stands, drops_event, frees_name, kept_settled, stands_in}
use Rattle.board_event_core.proofs.events.Events.release_notifier.Goals as goal
use Rattle.board_event_model.specs.EventMemory.{without_notifier}

pub settle-requires : goal.settle-requires
settle-requires c = changed_stands c.self.inside.rows c.drop_notifier.new.self c.args.event without_notifier
    (stands_in c.self.inside.rows c.args.self.now c.args.event (λ e. 0 < e.notifiers) c.self.view_is c.requires) c.drop_notifier.ensures

pub invariant_of-self : goal.invariant_of-self
invariant_of-self c = kept_settled c.self.inside.rows c.drop_notifier.new.self c.settle.new.self c.args.event without_notifier (λ e. (refl, refl)) IsEvent-without_notifier counted-without_notifier c.self.invariant
    (stands_in c.self.inside.rows c.args.self.now c.args.event (λ e. 0 < e.notifiers) c.self.view_is c.requires)
    c.drop_notifier.ensures c.settle.ensures.settled c.settle.ensures.left c.settle.ensures.gone c.settle.ensures.dropped

pub returns-clause-free : goal.returns-clause-free
returns-clause-free c = rw (sym c.self.view_is) (frees_name c.self.inside.rows c.drop_notifier.new.self _ c.args.event without_notifier (λ e. (refl, refl))
    (stands_in c.self.inside.rows c.args.self.now c.args.event (λ e. 0 < e.notifiers) c.self.view_is c.requires)
    c.drop_notifier.ensures c.settle.ensures.left c.settle.ensures.gone)

pub returns-clause-gone : goal.returns-clause-gone
returns-clause-gone c = rw (sym c.self.view_is) (drops_event c.self.inside.rows c.drop_notifier.new.self c.settle.new.self c.args.event without_notifier
    (stands_in c.self.inside.rows c.args.self.now c.args.event (λ e. 0 < e.notifiers) c.self.view_is c.requires)
    c.drop_notifier.ensures c.settle.ensures.dropped)
