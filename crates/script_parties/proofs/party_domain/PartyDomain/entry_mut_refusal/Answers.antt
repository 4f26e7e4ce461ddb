use Rattle.std.proofs.Common.{refl, subst, sym}
use Rattle.board_model.specs.declared.tables.ThingKind.TheVariants as thing_kind
use Rattle.script_parties.specs.Named.{things_of}
use Rattle.script_parties.specs.Numbered.{seat_at, things_by}
use Rattle.script_parties.specs.Shown.{HasKeyType}
use Rattle.script_parties.proofs.Handles.{held_as}
use Rattle.script_parties.proofs.Places.{has_number, stands_in, thing_of_call}
use Rattle.script_parties.proofs.Ports.{shown}
use Rattle.script_parties.proofs.Refused.{entry_mut_told}
use Rattle.script_parties.proofs.party_domain.PartyDomain.entry_mut_refusal.Goals as goal

pub number_of-number-requires : goal.number_of-number-requires
number_of-number-requires g c =
    let s = c.self.inside in
    let x = c.args.writer.now in
    let at = things_by (seat_at s.names) s.core in
    let number = has_number s.nodes.keys at at s.core x c.self.invariant.1 refl (stands_in (shown g.C.Words.list s.core (things_of at s.core)) _ x c.self.view_is c.requires.stands) in
    (at, number.0, c.self.invariant.0, number.1)

pub entry_mut_refusal_in-requires : goal.entry_mut_refusal_in-requires
entry_mut_refusal_in-requires g c =
    let s = c.self.inside in
    let x = c.args.writer.now in
    let at = things_by (seat_at s.names) s.core in
    let h = c.self.invariant.1 in
    let stands = stands_in (shown g.C.Words.list s.core (things_of at s.core)) _ x c.self.view_is c.requires.stands in
    let i = thing_of_call s.nodes.keys at at s.core x c.number_of-number.result h refl stands (c.number_of-number.ensures at c.self.invariant.0) in
    let typed = subst (λ p. HasKeyType p x c.args.key.now) (sym c.self.view_is) c.requires.key in
    record { held = held_as s.nodes.keys s.core x c.number_of-number.result thing_kind.Writer c.args.key.now refl i c.requires.kind typed; keys = h.keys }

pub returns : goal.returns
returns g c =
    let s = c.self.inside in
    let x = c.args.writer.now in
    let at = things_by (seat_at s.names) s.core in
    let h = c.self.invariant.1 in
    let stands = stands_in (shown g.C.Words.list s.core (things_of at s.core)) _ x c.self.view_is c.requires.stands in
    let i = thing_of_call s.nodes.keys at at s.core x c.number_of-number.result h refl stands (c.number_of-number.ensures at c.self.invariant.0) in
    entry_mut_told g.C.Words.list s.nodes.keys at s.core c.args.self.now x c.number_of-number.result c.args.key.now c.args.value_type c.value_detail.result c.entry_mut_refusal_in.result
    h i c.self.view_is c.requires.few c.value_detail.ensures c.entry_mut_refusal_in.ensures
