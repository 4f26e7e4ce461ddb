use Rattle.std.proofs.Common.{rules, ◌≢◌, Some, [], ◌∷◌, ◌++◌, map, refl, sym, ap, ◌∙◌, subst}
use Rattle.board_model.specs.declared.answer.Reply.TheVariants as reply
use Rattle.board_names.specs.declared.errors.boards.BlackboardCreateError.TheVariants as create_error
use Rattle.board_model.specs.Replies as replies
use Rattle.script_parties.specs.Named.{IsNamed, factory_of, node_number, nodes_with, things_of}
use Rattle.script_parties.specs.Numbered.{seat_at, things_by}
use Rattle.script_parties.specs.Parties.{IsCreate, IsFew}
use Rattle.script_parties.proofs.Asked.{carried}
use Rattle.script_parties.proofs.BoardNames.{service_name}
use Rattle.script_parties.proofs.Growth.{named_more, named_with, next_free, things_more}
use Rattle.script_parties.proofs.Openings.{IsCreated, create_made, create_not_made}
use Rattle.script_parties.proofs.NamesAndThings.{given_names, on_err, settled, shown_still, still, told}
use Rattle.script_parties.proofs.Ports.{shown}
use Rattle.script_seats.specs.Seats.{put}
use Rattle.board_service.specs.Entries.{as_added}
use Rattle.script_parties.proofs.party_domain.PartyDomain.add_board.Goals as goal

pub from_text-name-requires : goal.from_text-name-requires
from_text-name-requires g c = service_name c.args.name c.requires.name

pub invariant_of-self-in-Ok : goal.invariant_of-self-in-Ok
invariant_of-self-in-Ok g c =
    let s = c.self.inside in
    let at = things_by (seat_at s.names) s.core in
    let h = c.self.invariant.1 in
    let o : IsCreated c.args.party c.args.name c.args.attributes (map replies.added_of c.args.entries.now) s.nodes.keys c.node_for.result c.from_text-name.result c.args.attributes (map as_added c.in_ok-entries.entries.items) =
    record {
      node_is = c.node_for.ensures ∙ ap (λ ns. node_number c.args.party ns) c.reserve.ensures.keys;
      title_is = c.from_text-name.ensures;
      given_is = refl;
      added_is = c.in_ok-entries.ensures.entries ∙ ap (λ es. map replies.added_of es) c.as_slice.ensures;
    } in
    let new = factory_of c.args.party c.args.factory c.in-Ok.made.number in
    let ok = c.in-Ok.ensures.ok in
    let both = create_made g.C.Cells.words g.C.Words.list s.nodes.keys at s.core c.create_in.new.core c.args.party c.args.factory c.args.name c.args.key_type c.args.limits c.args.attributes c.args.entries.now
    c.node_for.result c.from_text-name.result c.args.attributes (map as_added c.in_ok-entries.entries.items) c.in-Ok.made ok.0 g.met.C.BoardWords.known h o c.in_ok-entries.ensures.keys c.in-Ok.ensures.answer ok.2 ok.3 in
    let all = nodes_with c.args.party s.nodes.keys in
    let names = c.push_factory.ensures.names at (given_names s.names c.reserve-2.new.self at c.self.invariant.0 c.reserve-2.ensures.index c.reserve-2.ensures.names) (next_free s.nodes.keys at at s.core c.in-Ok.made.thing h refl both.1.next) in
    let named = named_more all at s.core c.create_in.new.core c.in-Ok.made.thing new (named_with c.args.party s.nodes.keys at s.core h) both.1 in
    let joined = sym (c.push_factory.ensures.nodes ∙ ap (λ ps. nodes_with c.args.party ps) c.reserve.ensures.keys) in
    settled c.push_factory.new.names c.push_factory.new.nodes.keys (put c.in-Ok.made.thing (Some new) at) c.create_in.new.core names (subst (λ ps. IsNamed ps (put c.in-Ok.made.thing (Some new) at) c.create_in.new.core) joined named)

pub returns-in-Ok-clause-asked : goal.returns-in-Ok-clause-asked
returns-in-Ok-clause-asked g c =
    let s = c.self.inside in
    let at = things_by (seat_at s.names) s.core in
    let h = c.self.invariant.1 in
    let o : IsCreated c.args.party c.args.name c.args.attributes (map replies.added_of c.args.entries.now) s.nodes.keys c.node_for.result c.from_text-name.result c.args.attributes (map as_added c.in_ok-entries.entries.items) =
    record {
      node_is = c.node_for.ensures ∙ ap (λ ns. node_number c.args.party ns) c.reserve.ensures.keys;
      title_is = c.from_text-name.ensures;
      given_is = refl;
      added_is = c.in_ok-entries.ensures.entries ∙ ap (λ es. map replies.added_of es) c.as_slice.ensures;
    } in
    let new = factory_of c.args.party c.args.factory c.in-Ok.made.number in
    let ok = c.in-Ok.ensures.ok in
    let both = create_made g.C.Cells.words g.C.Words.list s.nodes.keys at s.core c.create_in.new.core c.args.party c.args.factory c.args.name c.args.key_type c.args.limits c.args.attributes c.args.entries.now
    c.node_for.result c.from_text-name.result c.args.attributes (map as_added c.in_ok-entries.entries.items) c.in-Ok.made ok.0 g.met.C.BoardWords.known h o c.in_ok-entries.ensures.keys c.in-Ok.ensures.answer ok.2 ok.3 in
    let all = nodes_with c.args.party s.nodes.keys in
    let names = c.push_factory.ensures.names at (given_names s.names c.reserve-2.new.self at c.self.invariant.0 c.reserve-2.ensures.index c.reserve-2.ensures.names) (next_free s.nodes.keys at at s.core c.in-Ok.made.thing h refl both.1.next) in
    carried (λ now xs. IsCreate now (shown g.C.Words.list c.create_in.new.core xs) c.args.party c.args.factory c.args.name c.args.key_type c.args.limits c.args.attributes c.args.entries.now (reply.Number c.in-Ok.made.number))
    (shown g.C.Words.list s.core (things_of at s.core)) c.args.self.now (things_of at s.core ++ new ∷ []) (things_of (things_by (seat_at c.push_factory.new.names) c.create_in.new.core) c.create_in.new.core)
    c.self.view_is
    (ap (λ a. things_of a c.create_in.new.core) (told all (seat_at c.push_factory.new.names) (put c.in-Ok.made.thing (Some new) at) c.create_in.new.core names.names (named_more all at s.core c.create_in.new.core c.in-Ok.made.thing new (named_with c.args.party s.nodes.keys at s.core h) both.1)) ∙ things_more all at s.core c.create_in.new.core c.in-Ok.made.thing new (named_with c.args.party s.nodes.keys at s.core h) both.1) both.0

pub returns-in-Err-clause-asked : goal.returns-in-Err-clause-asked
returns-in-Err-clause-asked g c =
    let s = c.self.inside in
    let at = things_by (seat_at s.names) s.core in
    let h = c.self.invariant.1 in
    let o : IsCreated c.args.party c.args.name c.args.attributes (map replies.added_of c.args.entries.now) s.nodes.keys c.node_for.result c.from_text-name.result c.args.attributes (map as_added c.in_ok-entries.entries.items) =
    record {
      node_is = c.node_for.ensures ∙ ap (λ ns. node_number c.args.party ns) c.reserve.ensures.keys;
      title_is = c.from_text-name.ensures;
      given_is = refl;
      added_is = c.in_ok-entries.ensures.entries ∙ ap (λ es. map replies.added_of es) c.as_slice.ensures;
    } in
    let few = subst (λ p. IsFew p) (sym c.self.view_is) c.requires.few in
    let memory : c.in-Err.why ≢ create_error.OutOfMemory = search rules in
    carried (λ now xs. IsCreate now (shown g.C.Words.list c.create_in.new.core xs) c.args.party c.args.factory c.args.name c.args.key_type c.args.limits c.args.attributes c.args.entries.now (reply.CreateError c.in-Err.why))
    (shown g.C.Words.list s.core (things_of at s.core)) c.args.self.now (things_of at s.core) (things_of (things_by (seat_at c.reserve-2.new.self) c.create_in.new.core) c.create_in.new.core)
    c.self.view_is (ap (λ f. things_of (things_by f c.create_in.new.core) c.create_in.new.core) c.reserve-2.ensures.names ∙ ap (λ d. things_of (things_by (seat_at s.names) d) d) c.in-Err.ensures.err)
    (create_not_made g.C.Words.list s.nodes.keys at s.core c.create_in.new.core c.args.party c.args.factory c.args.name c.args.key_type c.args.limits c.args.attributes c.args.entries.now
    c.node_for.result c.from_text-name.result c.args.attributes (map as_added c.in_ok-entries.entries.items) c.in-Err.why h o few.boards few.things memory c.in-Err.ensures.answer c.in-Err.ensures.err)

pub invariant_of-self-in_err-reserve-2 : goal.invariant_of-self-in_err-reserve-2
invariant_of-self-in_err-reserve-2 g c =
    let s = c.self.inside in
    still s.names c.reserve-2.new.self s.nodes.keys c.reserve.new.self.keys s.core s.core c.self.invariant c.reserve-2.ensures.index c.reserve.ensures.keys c.reserve-2.ensures.names refl

pub invariant_of-self-in-Err-OutOfMemory : goal.invariant_of-self-in-Err-OutOfMemory
invariant_of-self-in-Err-OutOfMemory g c =
    let s = c.self.inside in
    still s.names c.reserve-2.new.self s.nodes.keys c.reserve.new.self.keys s.core c.create_in.new.core c.self.invariant c.reserve-2.ensures.index c.reserve.ensures.keys c.reserve-2.ensures.names c.in-Err-OutOfMemory.ensures.err

pub invariant_of-self-in-Err : goal.invariant_of-self-in-Err
invariant_of-self-in-Err g c =
    let s = c.self.inside in
    still s.names c.reserve-2.new.self s.nodes.keys c.reserve.new.self.keys s.core c.create_in.new.core c.self.invariant c.reserve-2.ensures.index c.reserve.ensures.keys c.reserve-2.ensures.names c.in-Err.ensures.err

pub returns-in_err-reserve-2-clause-err : goal.returns-in_err-reserve-2-clause-err
returns-in_err-reserve-2-clause-err g c =
    let s = c.self.inside in
    on_err c.from_residual-in_err-reserve-2.result (shown_still (shown g.C.Words.list) c.args.self.now s.names c.reserve-2.new.self s.core s.core c.reserve-2.ensures.names refl c.self.view_is)

pub returns-in-Err-OutOfMemory-clause-err : goal.returns-in-Err-OutOfMemory-clause-err
returns-in-Err-OutOfMemory-clause-err g c =
    let s = c.self.inside in
    shown_still (shown g.C.Words.list) c.args.self.now s.names c.reserve-2.new.self s.core c.create_in.new.core c.reserve-2.ensures.names c.in-Err-OutOfMemory.ensures.err c.self.view_is
