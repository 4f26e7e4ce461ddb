use Rattle.std.specs.Prelude.{ℕ, Ok, Some, Option}
use Rattle.std.proofs.Common.{subst, sym}
use Rattle.board_event.specs.LentForms.{GivesNone, KeepsRestAt, OnEventAt, OnKindAt, within}
use Rattle.board_event.proofs.OneLemmas.{gives_none, gives_none_within, moved, none_of}
use Rattle.board_event.proofs.ReachLemmas.{stands_as}
use Rattle.board_event.proofs.listener.EventListener.try_wait_one_in.Goals as goal

pub returns-in_default-clause-none : goal.returns-in_default-clause-none
returns-in_default-clause-none g c =
    subst (λ (one : Option ℕ). OnEventAt g.K.KindOfEvents.which c.args.self.now.max c.args.self.now.event c.args.state.now (GivesNone (Ok one))) (none_of c.take_one.result c.in_default.not-Some)
    (moved (λ k end t. OnEventAt k end.max end.event t (GivesNone (Ok c.take_one.result))) c.kind.result g.K.KindOfEvents.which _ c.args.self.now c.state.inside.events c.args.state.now c.kind.ensures c.self.view_is c.state.view_is
    (λ e here. gives_none c.kind.result e c.take_one.result here.of_kind (c.take_one.ensures.one e (stands_as c.kind.result _ c.self.inside.event c.state.inside.events e here)).id (c.take_one.ensures.none e here)))

pub returns-clause-none : goal.returns-clause-none
returns-clause-none g c =
    subst (λ (id : ℕ). OnEventAt g.K.KindOfEvents.which c.args.self.now.max c.args.self.now.event c.args.state.now (GivesNone (Ok (Some id)))) (sym c.new.ensures)
    (moved (λ k end t. OnEventAt k end.max end.event t (GivesNone (Ok (Some c.in-Some.id)))) c.kind.result g.K.KindOfEvents.which _ c.args.self.now c.state.inside.events c.args.state.now c.kind.ensures c.self.view_is c.state.view_is
    (λ e here. gives_none c.kind.result e (Some c.in-Some.id) here.of_kind (c.in-Some.ensures.one e (stands_as c.kind.result _ c.self.inside.event c.state.inside.events e here)).id (c.in-Some.ensures.none e here)))

pub returns-in_default-clause-reached : goal.returns-in_default-clause-reached
returns-in_default-clause-reached g c =
    subst (λ (one : Option ℕ). OnKindAt g.K.KindOfEvents.which c.args.self.now.event c.args.state.now (λ e. GivesNone (Ok one) (within c.args.self.now.max e))) (none_of c.take_one.result c.in_default.not-Some)
    (moved (λ k end t. OnKindAt k end.event t (λ e. GivesNone (Ok c.take_one.result) (within end.max e))) c.kind.result g.K.KindOfEvents.which _ c.args.self.now c.state.inside.events c.args.state.now c.kind.ensures c.self.view_is c.state.view_is
    (λ e here. gives_none_within c.kind.result c.self.inside.max e c.state.inside.events c.take_one.new.events c.self.inside.event c.take_one.result here.of_kind (c.take_one.ensures.one e here)))

pub returns-clause-reached : goal.returns-clause-reached
returns-clause-reached g c =
    subst (λ (id : ℕ). OnKindAt g.K.KindOfEvents.which c.args.self.now.event c.args.state.now (λ e. GivesNone (Ok (Some id)) (within c.args.self.now.max e))) (sym c.new.ensures)
    (moved (λ k end t. OnKindAt k end.event t (λ e. GivesNone (Ok (Some c.in-Some.id)) (within end.max e))) c.kind.result g.K.KindOfEvents.which _ c.args.self.now c.state.inside.events c.args.state.now c.kind.ensures c.self.view_is c.state.view_is
    (λ e here. gives_none_within c.kind.result c.self.inside.max e c.state.inside.events c.take_one.new.events c.self.inside.event (Some c.in-Some.id) here.of_kind (c.in-Some.ensures.one e here)))

pub returns-in_default-clause-rest : goal.returns-in_default-clause-rest
returns-in_default-clause-rest g c =
    moved (λ k end t. KeepsRestAt end.event t c.take_one.new.events) c.kind.result g.K.KindOfEvents.which _ c.args.self.now c.state.inside.events c.args.state.now c.kind.ensures c.self.view_is c.state.view_is
    c.take_one.ensures.rest

pub returns-clause-rest : goal.returns-clause-rest
returns-clause-rest g c =
    moved (λ k end t. KeepsRestAt end.event t c.take_one.new.events) c.kind.result g.K.KindOfEvents.which _ c.args.self.now c.state.inside.events c.args.state.now c.kind.ensures c.self.view_is c.state.view_is
    c.take_one.ensures.rest
