use Rattle.std.proofs.Common.{subst, ap, ◌∙◌}
use Rattle.board_layout.specs.Bytes.{details}
use Rattle.board_domain.specs.LentForms as lent
use Rattle.board_domain.specs.Services.{FactorySeen}
use Rattle.board_domain.specs.Walks.{WalksTo}
use Rattle.board_domain.proofs.WalkLemmas.{nodes_told}
use Rattle.board_domain.proofs.port_factory.PortFactory.visit_nodes_in.Goals as goal

pub returns-in-Some : goal.returns-in-Some
returns-in-Some g c =
    let K = g.K.ZeroCopySend in
    let keys = details K.type_bytes K.SIZE K.ALIGNMENT in
    let d = c.args.state.now.tables in
    subst (λ ns. WalksTo (λ f x r h. goal.F-step g f x r h) c.args.callback.now ns c.visit_nodes.new.callback)
    (nodes_told d keys c.self.inside.made.thing c.board_of-board.result c.in-Some.taken c.if-not-is_held.ensures.value c.board_of-board.ensures.value c.in-Some.ensures
    ∙ ap (λ (f : FactorySeen). lent.nodes_of d keys f.made.thing) c.self.view_is)
    c.visit_nodes.ensures
