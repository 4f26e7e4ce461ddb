use Rattle.std.proofs.Common.{ap, ◌∙◌}
use Rattle.std.specs.Prelude.{is_some}
use Rattle.script_parties.specs.Numbered.{seat_at, things_by}
use Rattle.script_parties.specs.Parties.{Parties}
use Rattle.script_parties.specs.Shown.{party_thing}
use Rattle.script_parties.proofs.NamesAndThings.{some_told}
use Rattle.script_parties.proofs.party_domain.PartyDomain.holds.Goals as goal

pub returns : goal.returns
returns g c =
    let s = c.self.inside in
    let at = things_by (seat_at s.names) s.core in
    c.is_some.ensures
    ∙ some_told c.args.party.now c.args.name.now s.nodes.keys at s.core c.number_of.result c.self.invariant.1 (c.number_of.ensures at c.self.invariant.0)
    ∙ ap (λ (p : Parties). is_some (party_thing p c.args.party.now c.args.name.now)) c.self.view_is
