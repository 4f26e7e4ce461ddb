use Rattle.std.proofs.Common.{ap, ◌∙◌}
use Rattle.std.proofs.lemmas.Result.{IfOk-weaker}
use Rattle.board_model.specs.Replies.{nodes_of}
use Rattle.script_parties.specs.Numbered.{seat_at, things_by}
use Rattle.script_parties.specs.Parties.{Parties}
use Rattle.script_parties.proofs.Holders.{holders_told}
use Rattle.script_parties.proofs.party_domain.PartyDomain.nodes.Goals as goal

pub returns-clause-shown : goal.returns-clause-shown
returns-clause-shown g c =
    let s = c.self.inside in
    IfOk-weaker c.nodes_at.result _ _
    (λ names a. holders_told s.nodes.keys (things_by (seat_at s.names) s.core) s.core c.args.board names c.self.invariant.1 c.facts.ensures a ∙ ap (λ (p : Parties). nodes_of c.args.board p.tables.things) c.self.view_is)
    c.nodes_at.ensures.holders
