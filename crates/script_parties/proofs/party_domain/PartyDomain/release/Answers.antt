use Rattle.std.proofs.Common.{None, ap, subst}
use Rattle.board_model.specs.Things.{is_held_as}
use Rattle.script_parties.specs.Named.{things_of}
use Rattle.script_parties.specs.Numbered.{IsFirst, IsNamesOf, seat_at, things_by}
use Rattle.script_parties.specs.Parties.{IsReleased}
use Rattle.script_parties.proofs.Asked.{carried}
use Rattle.script_parties.proofs.Endings.{named_less, released_none, released_one}
use Rattle.script_parties.proofs.Firsts.{there}
use Rattle.script_parties.proofs.NamesAndThings.{settled, told}
use Rattle.script_parties.proofs.Places.{first_thing, thing_at_number}
use Rattle.script_parties.proofs.Ports.{shown}
use Rattle.script_seats.specs.Seats.{put}
use Rattle.script_parties.proofs.party_domain.PartyDomain.release.Goals as goal

pub end_thing-requires : goal.end_thing-requires
end_thing-requires g c =
    let s = c.self.inside in
    let at = things_by (seat_at s.names) s.core in
    let p = is_held_as c.args.party.now c.args.name.now in
    let first = subst (IsFirst p at) c.in-Some.is (c.take.ensures.number at c.self.invariant.0) in
    let x = there p (at c.in-Some.number) first.passes in
    (thing_at_number s.nodes.keys at s.core x.0 c.in-Some.number c.self.invariant.1 x.1).stands

pub invariant_of-self : goal.invariant_of-self
invariant_of-self g c =
    let s = c.self.inside in
    let at = things_by (seat_at s.names) s.core in
    let names = subst (IsNamesOf c.take.new.self at) c.in-Some.is (c.take.ensures.names at c.self.invariant.0) in
    settled c.take.new.self s.nodes.keys (put c.in-Some.number None at) c.end_thing.new.core names (named_less s.nodes.keys at s.core c.end_thing.new.core c.in-Some.number c.self.invariant.1 c.end_thing.ensures)

pub returns-in-Some : goal.returns-in-Some
returns-in-Some g c =
    let s = c.self.inside in
    let at = things_by (seat_at s.names) s.core in
    let p = is_held_as c.args.party.now c.args.name.now in
    let first = subst (IsFirst p at) c.in-Some.is (c.take.ensures.number at c.self.invariant.0) in
    let names = subst (IsNamesOf c.take.new.self at) c.in-Some.is (c.take.ensures.names at c.self.invariant.0) in
    let x = there p (at c.in-Some.number) first.passes in
    let one = released_one g.C.Words.list s.nodes.keys at s.core c.end_thing.new.core c.args.party.now c.args.name.now c.in-Some.number x.0 c.self.invariant.1 first x.1 c.end_thing.ensures in
    let named = named_less s.nodes.keys at s.core c.end_thing.new.core c.in-Some.number c.self.invariant.1 c.end_thing.ensures in
    carried (λ now xs. IsReleased now (shown g.C.Words.list c.end_thing.new.core xs) c.args.party.now c.args.name.now) (shown g.C.Words.list s.core (things_of at s.core)) c.args.self.now
    (things_of (put c.in-Some.number None at) c.end_thing.new.core) (things_of (things_by (seat_at c.take.new.self) c.end_thing.new.core) c.end_thing.new.core)
    c.self.view_is (ap (λ a. things_of a c.end_thing.new.core) (told s.nodes.keys (seat_at c.take.new.self) (put c.in-Some.number None at) c.end_thing.new.core names.names named)) one

pub returns-in_default : goal.returns-in_default
returns-in_default g c =
    let s = c.self.inside in
    let at = things_by (seat_at s.names) s.core in
    let p = is_held_as c.args.party.now c.args.name.now in
    let none = first_thing p s.nodes.keys at s.core None c.self.invariant.1 (subst (IsFirst p at) c.in_default.is (c.take.ensures.number at c.self.invariant.0)) in
    let names = subst (IsNamesOf c.take.new.self at) c.in_default.is (c.take.ensures.names at c.self.invariant.0) in
    carried (λ now xs. IsReleased now (shown g.C.Words.list s.core xs) c.args.party.now c.args.name.now) (shown g.C.Words.list s.core (things_of at s.core)) c.args.self.now
    (things_of at s.core) (things_of (things_by (seat_at c.take.new.self) s.core) s.core)
    c.self.view_is (ap (λ a. things_of a s.core) (told s.nodes.keys (seat_at c.take.new.self) at s.core names.names c.self.invariant.1)) (released_none (shown g.C.Words.list s.core (things_of at s.core)) c.args.party.now c.args.name.now none)

pub invariant_of-self-in_default : goal.invariant_of-self-in_default
invariant_of-self-in_default g c =
    let s = c.self.inside in
    let at = things_by (seat_at s.names) s.core in
    settled c.take.new.self s.nodes.keys at s.core (subst (IsNamesOf c.take.new.self at) c.in_default.is (c.take.ensures.names at c.self.invariant.0)) c.self.invariant.1
