use Rattle.std.proofs.Common.{Some, [], ◌∷◌, ◌++◌, sym, ap, ◌∙◌, subst, refl}
use Rattle.std.specs.Str.{bytes_eq}
use Rattle.board_model.specs.declared.answer.Reply.TheVariants as reply
use Rattle.board_service.specs.Domain.{CanJoin}
use Rattle.script_parties.specs.Named.{IsNamed, factory_of, node_number, nodes_with, things_of}
use Rattle.script_parties.specs.Numbered.{seat_at, things_by}
use Rattle.script_parties.specs.Parties.{IsJoined, Parties}
use Rattle.script_parties.proofs.Asked.{carried}
use Rattle.script_parties.proofs.BoardNames.{service_name}
use Rattle.script_parties.proofs.Growth.{named_more, named_with, next_free, things_more}
use Rattle.script_parties.proofs.Openings.{node_joins, open_made}
use Rattle.script_parties.proofs.NamesAndThings.{given_names, on_err, settled, shown_still, still, told}
use Rattle.script_parties.proofs.Ports.{shown}
use Rattle.script_seats.specs.Seats.{put}
use Rattle.script_parties.proofs.party_domain.PartyDomain.add_factory.Goals as goal

pub from_text-name-requires : goal.from_text-name-requires
from_text-name-requires g c = service_name c.args.name c.requires.name

pub open_unrefused-requires-clause-joins : goal.open_unrefused-requires-clause-joins
open_unrefused-requires-clause-joins g c =
    let s = c.self.inside in
    let at = things_by (seat_at s.names) s.core in
    let node_is = c.node_for.ensures ∙ ap (λ ns. node_number c.args.party ns) c.reserve.ensures.keys in
    let joins = subst (λ (p : Parties). CanJoin bytes_eq p.tables c.args.party c.args.name) (sym c.self.view_is) c.requires.joins in
    node_joins g.C.Words.list s.nodes.keys at s.core c.args.party c.args.name c.node_for.result c.from_text-name.result c.self.invariant.1 node_is c.from_text-name.ensures joins

pub invariant_of-self-in-Ok : goal.invariant_of-self-in-Ok
invariant_of-self-in-Ok g c =
    let s = c.self.inside in
    let at = things_by (seat_at s.names) s.core in
    let h = c.self.invariant.1 in
    let all = nodes_with c.args.party s.nodes.keys in
    let node_is = c.node_for.ensures ∙ ap (λ ns. node_number c.args.party ns) c.reserve.ensures.keys in
    let new = factory_of c.args.party c.args.factory c.in-Ok.made.number in
    let both = open_made g.C.Words.list s.nodes.keys at s.core c.open_unrefused.new.self c.args.party c.args.factory c.args.name
    c.node_for.result c.from_text-name.result c.in-Ok.made h node_is c.from_text-name.ensures c.in-Ok.ensures.made c.in-Ok.ensures.ok in
    let names = c.push_factory.ensures.names at (given_names s.names c.reserve-2.new.self at c.self.invariant.0 c.reserve-2.ensures.index c.reserve-2.ensures.names) (next_free s.nodes.keys at at s.core c.in-Ok.made.thing h refl both.1.next) in
    let named = named_more all at s.core c.open_unrefused.new.self c.in-Ok.made.thing new (named_with c.args.party s.nodes.keys at s.core h) both.1 in
    let joined = sym (c.push_factory.ensures.nodes ∙ ap (λ ps. nodes_with c.args.party ps) c.reserve.ensures.keys) in
    settled c.push_factory.new.names c.push_factory.new.nodes.keys (put c.in-Ok.made.thing (Some new) at) c.open_unrefused.new.self names (subst (λ ps. IsNamed ps (put c.in-Ok.made.thing (Some new) at) c.open_unrefused.new.self) joined named)

pub returns-in-Ok-clause-joined : goal.returns-in-Ok-clause-joined
returns-in-Ok-clause-joined g c =
    let s = c.self.inside in
    let at = things_by (seat_at s.names) s.core in
    let h = c.self.invariant.1 in
    let all = nodes_with c.args.party s.nodes.keys in
    let node_is = c.node_for.ensures ∙ ap (λ ns. node_number c.args.party ns) c.reserve.ensures.keys in
    let new = factory_of c.args.party c.args.factory c.in-Ok.made.number in
    let both = open_made g.C.Words.list s.nodes.keys at s.core c.open_unrefused.new.self c.args.party c.args.factory c.args.name
    c.node_for.result c.from_text-name.result c.in-Ok.made h node_is c.from_text-name.ensures c.in-Ok.ensures.made c.in-Ok.ensures.ok in
    let names = c.push_factory.ensures.names at (given_names s.names c.reserve-2.new.self at c.self.invariant.0 c.reserve-2.ensures.index c.reserve-2.ensures.names) (next_free s.nodes.keys at at s.core c.in-Ok.made.thing h refl both.1.next) in
    carried (λ now xs. IsJoined now (shown g.C.Words.list c.open_unrefused.new.self xs) c.args.party c.args.factory c.args.name (reply.Number c.in-Ok.made.number))
    (shown g.C.Words.list s.core (things_of at s.core)) c.args.self.now (things_of at s.core ++ new ∷ []) (things_of (things_by (seat_at c.push_factory.new.names) c.open_unrefused.new.self) c.open_unrefused.new.self)
    c.self.view_is
    (ap (λ a. things_of a c.open_unrefused.new.self) (told all (seat_at c.push_factory.new.names) (put c.in-Ok.made.thing (Some new) at) c.open_unrefused.new.self names.names (named_more all at s.core c.open_unrefused.new.self c.in-Ok.made.thing new (named_with c.args.party s.nodes.keys at s.core h) both.1)) ∙ things_more all at s.core c.open_unrefused.new.self c.in-Ok.made.thing new (named_with c.args.party s.nodes.keys at s.core h) both.1) both.0

pub invariant_of-self-in_err-reserve-2 : goal.invariant_of-self-in_err-reserve-2
invariant_of-self-in_err-reserve-2 g c =
    let s = c.self.inside in
    still s.names c.reserve-2.new.self s.nodes.keys c.reserve.new.self.keys s.core s.core c.self.invariant c.reserve-2.ensures.index c.reserve.ensures.keys c.reserve-2.ensures.names refl

pub invariant_of-self-in-Err : goal.invariant_of-self-in-Err
invariant_of-self-in-Err g c =
    let s = c.self.inside in
    still s.names c.reserve-2.new.self s.nodes.keys c.reserve.new.self.keys s.core c.open_unrefused.new.self c.self.invariant c.reserve-2.ensures.index c.reserve.ensures.keys c.reserve-2.ensures.names c.in-Err.ensures.err

pub returns-in_err-reserve-2-clause-err : goal.returns-in_err-reserve-2-clause-err
returns-in_err-reserve-2-clause-err g c =
    let s = c.self.inside in
    on_err c.from_residual-in_err-reserve-2.result (shown_still (shown g.C.Words.list) c.args.self.now s.names c.reserve-2.new.self s.core s.core c.reserve-2.ensures.names refl c.self.view_is)

pub returns-in-Err-clause-err : goal.returns-in-Err-clause-err
returns-in-Err-clause-err g c =
    let s = c.self.inside in
    shown_still (shown g.C.Words.list) c.args.self.now s.names c.reserve-2.new.self s.core c.open_unrefused.new.self c.reserve-2.ensures.names c.in-Err.ensures.err c.self.view_is
