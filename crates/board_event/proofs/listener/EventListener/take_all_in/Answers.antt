use Rattle.board_event.specs.LentForms.{CallsOnAll, CallsOnReached, KeepsRestAt, Leaves, OnEventAt, reached_taken}
use Rattle.board_event.proofs.OneLemmas.{moved}
use Rattle.board_event.proofs.listener.EventListener.take_all_in.Goals as goal

pub returns-clause-calls : goal.returns-clause-calls
returns-clause-calls g c =
    moved (λ k end t. OnEventAt k end.max end.event t (CallsOnAll (goal.F-step g) c.args.callback.now c.take_all.new.callback k)) c.kind.result g.K.KindOfEvents.which _ c.args.self.now c.state.inside.events c.args.state.now c.kind.ensures c.self.view_is c.state.view_is
    c.take_all.ensures.calls

pub returns-clause-reached : goal.returns-clause-reached
returns-clause-reached g c =
    moved (λ k end t. CallsOnReached (goal.F-step g) c.args.callback.now c.take_all.new.callback k end t) c.kind.result g.K.KindOfEvents.which _ c.args.self.now c.state.inside.events c.args.state.now c.kind.ensures c.self.view_is c.state.view_is
    c.take_all.ensures.reached

pub returns-clause-left : goal.returns-clause-left
returns-clause-left g c =
    moved (λ k end t. Leaves k end t c.take_all.new.events (reached_taken k end.max)) c.kind.result g.K.KindOfEvents.which _ c.args.self.now c.state.inside.events c.args.state.now c.kind.ensures c.self.view_is c.state.view_is
    c.take_all.ensures.left

pub returns-clause-rest : goal.returns-clause-rest
returns-clause-rest g c =
    moved (λ k end t. KeepsRestAt end.event t c.take_all.new.events) c.kind.result g.K.KindOfEvents.which _ c.args.self.now c.state.inside.events c.args.state.now c.kind.ensures c.self.view_is c.state.view_is
    c.take_all.ensures.rest
