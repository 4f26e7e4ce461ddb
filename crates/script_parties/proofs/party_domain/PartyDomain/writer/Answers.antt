use Rattle.std.proofs.Common.{sym, ◌∙◌}
use Rattle.script_parties.proofs.Refused.{anyway, writer_refused}
use Rattle.script_parties.proofs.party_domain.PartyDomain.writer.Goals as goal

pub returns-in-Some-clause-asked : goal.returns-in-Some-clause-asked
returns-in-Some-clause-asked g c = writer_refused c.args.self.now c.args.factory.now c.args.name c.in-Some.why (sym c.writer_refusal.ensures ∙ c.in-Some.is)

pub returns-in-None-clause-memory : goal.returns-in-None-clause-memory
returns-in-None-clause-memory g c = anyway c.add_writer.result _ (sym c.writer_refusal.ensures ∙ c.in-None.is)
