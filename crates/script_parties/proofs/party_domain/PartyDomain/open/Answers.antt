use Rattle.std.proofs.Common.{ap, sym, ◌∙◌}
use Rattle.std.proofs.lemmas.Result.{IfOk-weaker}
use Rattle.board_model.specs.declared.attributes.Requirements.{Requirements}
use Rattle.board_model.specs.TypeTable.{key_detail}
use Rattle.script_parties.specs.Refusals.{open_refusal}
use Rattle.script_parties.proofs.Openings.{opened_joined, party_joins}
use Rattle.script_parties.proofs.Refused.{anyway, open_refused}
use Rattle.script_parties.proofs.party_domain.PartyDomain.open.Goals as goal

pub returns-in-Some-clause-asked : goal.returns-in-Some-clause-asked
returns-in-Some-clause-asked g c =
    let why = c.open_refusal.ensures ∙ ap (λ (needs : Requirements). open_refusal c.args.self.now c.args.party c.args.name c.args.key_type c.args.limits needs) c.needs_for-needs.ensures in
    open_refused c.args.self.now c.args.party c.args.factory c.args.name c.args.key_type c.args.limits c.args.needs c.in-Some.why (sym why ∙ c.in-Some.is)

pub add_factory-requires-clause-joins : goal.add_factory-requires-clause-joins
add_factory-requires-clause-joins g c =
    party_joins c.args.self.now c.args.party c.args.name (key_detail c.args.key_type) c.args.limits c.needs_for-needs.result (sym c.open_refusal.ensures ∙ c.in-None.is)

pub returns-clause-asked : goal.returns-clause-asked
returns-clause-asked g c =
    let why = c.open_refusal.ensures ∙ ap (λ (needs : Requirements). open_refusal c.args.self.now c.args.party c.args.name c.args.key_type c.args.limits needs) c.needs_for-needs.ensures in
    IfOk-weaker c.add_factory.result _ _
    (λ told j. opened_joined c.args.self.now c.add_factory.new.self c.args.party c.args.factory c.args.name c.args.key_type c.args.limits c.args.needs told (sym why ∙ c.in-None.is) j)
    c.add_factory.ensures.joined

pub returns-clause-memory : goal.returns-clause-memory
returns-clause-memory g c =
    let why = c.open_refusal.ensures ∙ ap (λ (needs : Requirements). open_refusal c.args.self.now c.args.party c.args.name c.args.key_type c.args.limits needs) c.needs_for-needs.ensures in
    anyway c.add_factory.result _ (sym why ∙ c.in-None.is)
