use Rattle.script_parties.proofs.BoardNames.{service_name}
use Rattle.script_parties.proofs.party_domain.PartyDomain.create_refusal.Goals as goal

pub from_text-requires : goal.from_text-requires
from_text-requires g c = service_name c.args.name.now c.requires
