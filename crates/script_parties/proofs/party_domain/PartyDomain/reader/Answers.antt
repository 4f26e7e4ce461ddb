use Rattle.std.proofs.Common.{sym, ◌∙◌}
use Rattle.script_parties.proofs.Refused.{anyway, reader_refused}
use Rattle.script_parties.proofs.party_domain.PartyDomain.reader.Goals as goal

pub returns-in-Some-clause-asked : goal.returns-in-Some-clause-asked
returns-in-Some-clause-asked g c = reader_refused c.args.self.now c.args.factory.now c.args.name c.in-Some.why (sym c.reader_refusal.ensures ∙ c.in-Some.is)

pub returns-in-None-clause-memory : goal.returns-in-None-clause-memory
returns-in-None-clause-memory g c = anyway c.add_reader.result _ (sym c.reader_refusal.ensures ∙ c.in-None.is)
