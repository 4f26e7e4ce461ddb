use Rattle.std.proofs.Common.{sym}
use Rattle.std.specs.Prelude.{◌≡◌, true, refl}
use Rattle.board_event_core.proofs.EventLemmas.{IsEvent-without_listener, counted-without_listener}
use Rattle.board_event_core.proofs.StandingLemmas.{changed_stands, drops_event, frees_name, kept_settled, stands_in}
use Rattle.board_event_core.proofs.events.Events.release_listener.Goals as goal
use Rattle.board_event_model.specs.EventMemory.{without_listener}

pub settle-requires : goal.settle-requires
settle-requires c = changed_stands c.self.inside.rows c.drop_listener.new.self c.args.event without_listener
    (stands_in c.self.inside.rows c.args.self.now c.args.event (λ e. e.held ≡ true) c.self.view_is c.requires) c.drop_listener.ensures

pub invariant_of-self : goal.invariant_of-self
invariant_of-self c = kept_settled c.self.inside.rows c.drop_listener.new.self c.settle.new.self c.args.event without_listener (λ e. (refl, refl)) IsEvent-without_listener counted-without_listener c.self.invariant
    (stands_in c.self.inside.rows c.args.self.now c.args.event (λ e. e.held ≡ true) c.self.view_is c.requires)
    c.drop_listener.ensures c.settle.ensures.settled c.settle.ensures.left c.settle.ensures.gone c.settle.ensures.dropped

pub returns-clause-free : goal.returns-clause-free
returns-clause-free c = rw (sym c.self.view_is) (frees_name c.self.inside.rows c.drop_listener.new.self _ c.args.event without_listener (λ e. (refl, refl))
    (stands_in c.self.inside.rows c.args.self.now c.args.event (λ e. e.held ≡ true) c.self.view_is c.requires)
    c.drop_listener.ensures c.settle.ensures.left c.settle.ensures.gone)

pub returns-clause-gone : goal.returns-clause-gone
returns-clause-gone c = rw (sym c.self.view_is) (drops_event c.self.inside.rows c.drop_listener.new.self c.settle.new.self c.args.event without_listener
    (stands_in c.self.inside.rows c.args.self.now c.args.event (λ e. e.held ≡ true) c.self.view_is c.requires)
    c.drop_listener.ensures c.settle.ensures.dropped)
