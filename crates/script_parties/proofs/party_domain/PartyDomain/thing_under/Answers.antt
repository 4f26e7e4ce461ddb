use Rattle.std.proofs.Common.{subst, sym, ap, ◌∙◌}
use Rattle.board_model.specs.Things.{is_held_as}
use Rattle.script_parties.specs.Numbered.{IsFirst, seat_at, things_by}
use Rattle.script_parties.specs.Parties.{Parties}
use Rattle.script_parties.specs.Shown.{party_thing}
use Rattle.script_parties.proofs.NamesAndThings.{none_told, thing_told}
use Rattle.script_parties.proofs.party_domain.PartyDomain.thing_under.Goals as goal

pub returns-in_default : goal.returns-in_default
returns-in_default g c =
    let s = c.self.inside in
    let at = things_by (seat_at s.names) s.core in
    let party = c.args.seat.now.party in
    let name = c.args.seat.now.name in
    let none = subst (IsFirst (is_held_as party name) at) c.in_default.is (c.number_of.ensures at c.self.invariant.0) in
    none_told party name s.nodes.keys at s.core c.self.invariant.1 none ∙ ap (λ (p : Parties). party_thing p party name) c.self.view_is

pub returns : goal.returns
returns g c =
    let s = c.self.inside in
    let at = things_by (seat_at s.names) s.core in
    let party = c.args.seat.now.party in
    let name = c.args.seat.now.name in
    let first = subst (IsFirst (is_held_as party name) at) c.in-Some.is (c.number_of.ensures at c.self.invariant.0) in
    thing_told party name s.nodes.keys at s.core c.in-Some.number c.self.invariant.1 first c.in-Some-thing_at.thing.now (sym c.in-Some-thing_at.ensures)
    ∙ ap (λ (p : Parties). party_thing p party name) c.self.view_is
