use Rattle.script_parties.proofs.BoardNames.{service_name}
use Rattle.script_parties.specs.Numbered.{seat_at, things_by}
use Rattle.script_parties.proofs.Refused.{factory_told}
use Rattle.script_parties.proofs.party_domain.PartyDomain.open_refusal.Goals as goal

pub from_text-name-requires : goal.from_text-name-requires
from_text-name-requires g c = service_name c.args.name.now c.requires.name

pub returns : goal.returns
returns g c =
    let s = c.self.inside in
    factory_told g.C.Words.list s.nodes.keys (things_by (seat_at s.names) s.core) s.core c.args.self.now c.args.party.now c.args.name.now c.args.key_type c.args.limits c.args.needs.now c.node_for.result c.from_text-name.result c.open_refusal_in.result
    c.self.invariant.1 c.node_for.ensures c.from_text-name.ensures c.self.view_is c.requires.few c.open_refusal_in.ensures
