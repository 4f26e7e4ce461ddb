use Rattle.std.proofs.Common.{refl}
use Rattle.script_parties.specs.Named.{things_of}
use Rattle.script_parties.specs.Numbered.{seat_at, things_by}
use Rattle.script_parties.proofs.Places.{has_number, stands_in, thing_of_call}
use Rattle.script_parties.proofs.Ports.{shown}
use Rattle.script_parties.proofs.Refused.{writer_told}
use Rattle.script_parties.proofs.party_domain.PartyDomain.writer_refusal.Goals as goal

pub number_of-number-requires : goal.number_of-number-requires
number_of-number-requires g c =
    let s = c.self.inside in
    let x = c.args.factory.now in
    let at = things_by (seat_at s.names) s.core in
    let number = has_number s.nodes.keys at at s.core x c.self.invariant.1 refl (stands_in (shown g.C.Words.list s.core (things_of at s.core)) _ x c.self.view_is c.requires.stands) in
    (at, number.0, c.self.invariant.0, number.1)

pub writer_refusal-requires : goal.writer_refusal-requires
writer_refusal-requires g c =
    let s = c.self.inside in
    let x = c.args.factory.now in
    let at = things_by (seat_at s.names) s.core in
    let stands = stands_in (shown g.C.Words.list s.core (things_of at s.core)) _ x c.self.view_is c.requires.stands in
    let i = thing_of_call s.nodes.keys at at s.core x c.number_of-number.result c.self.invariant.1 refl stands (c.number_of-number.ensures at c.self.invariant.0) in
    i.stands

pub returns : goal.returns
returns g c =
    let s = c.self.inside in
    let x = c.args.factory.now in
    let at = things_by (seat_at s.names) s.core in
    let stands = stands_in (shown g.C.Words.list s.core (things_of at s.core)) _ x c.self.view_is c.requires.stands in
    let i = thing_of_call s.nodes.keys at at s.core x c.number_of-number.result c.self.invariant.1 refl stands (c.number_of-number.ensures at c.self.invariant.0) in
    writer_told g.C.Words.list s.nodes.keys at s.core c.args.self.now x c.number_of-number.result c.writer_refusal.result
    c.self.invariant.1 i c.self.view_is c.requires.few c.writer_refusal.ensures
