use Rattle.std.proofs.Common.{List, ap, sym, subst, ◌∙◌}
use Rattle.std.specs.Prelude.{IfOk}
use Rattle.board_model.specs.declared.attributes.Attribute.{Attribute}
use Rattle.script_parties.specs.Parties.{IsCreate}
use Rattle.script_parties.specs.Refusals.{create_refusal}
use Rattle.script_parties.proofs.Refused.{anyway, create_refused}
use Rattle.script_parties.proofs.party_domain.PartyDomain.create.Goals as goal

pub returns-in-Some-clause-asked : goal.returns-in-Some-clause-asked
returns-in-Some-clause-asked g c =
    let why = c.create_refusal.ensures ∙ ap (λ es. create_refusal c.args.self.now c.args.name c.args.key_type es) c.as_slice.ensures in
    create_refused c.args.self.now c.args.party c.args.factory c.args.name c.args.key_type c.args.limits c.args.attributes c.args.entries.now c.in-Some.why (sym why ∙ c.in-Some.is)

pub returns-in-None-clause-asked : goal.returns-in-None-clause-asked
returns-in-None-clause-asked g c =
    subst (λ (given : List Attribute). IfOk c.add_board.result (IsCreate c.args.self.now c.add_board.new.self c.args.party c.args.factory c.args.name c.args.key_type c.args.limits given c.args.entries.now)) c.attributes_for-attributes.ensures c.add_board.ensures.asked

pub returns-in-None-clause-memory : goal.returns-in-None-clause-memory
returns-in-None-clause-memory g c =
    let why = c.create_refusal.ensures ∙ ap (λ es. create_refusal c.args.self.now c.args.name c.args.key_type es) c.as_slice.ensures in
    anyway c.add_board.result _ (sym why ∙ c.in-None.is)
