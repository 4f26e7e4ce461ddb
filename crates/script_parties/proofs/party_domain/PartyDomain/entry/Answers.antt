use Rattle.std.proofs.Common.{sym, ◌∙◌}
use Rattle.script_parties.proofs.Refused.{anyway, entry_refused}
use Rattle.script_parties.proofs.party_domain.PartyDomain.entry.Goals as goal

pub returns-in-Some-clause-asked : goal.returns-in-Some-clause-asked
returns-in-Some-clause-asked g c = entry_refused c.args.self.now c.args.reader.now c.args.name c.args.key.now c.args.value_type c.in-Some.why (sym c.entry_refusal.ensures ∙ c.in-Some.is)

pub returns-in-None-clause-memory : goal.returns-in-None-clause-memory
returns-in-None-clause-memory g c = anyway c.add_read_handle.result _ (sym c.entry_refusal.ensures ∙ c.in-None.is)
