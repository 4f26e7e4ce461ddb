use Rattle.std.proofs.Common.{◌≡◌, refl, ◌≤◌, ℕ, List, sym, ap, subst, ◌∙◌}
use Rattle.board_model.specs.declared.tables.Thing.{Thing}
use Rattle.board_model.specs.Tables.{port_of}
use Rattle.board_service.specs.Domain.{Domain, held, thing_numbered}
use Rattle.board_service.specs.Facts.{IsDomain}
use Rattle.board_service.proofs.BoardLemmas.{core_domain, port_drawn}
use Rattle.board_service.proofs.RoomLemmas.{write_handle_room}
use Rattle.board_model.specs.declared.tables.ThingKind.TheVariants as thing_kind
use Rattle.board_service.specs.declared.made.Found.{Found}
use Rattle.board_service.proofs.HeldLemmas.{beside_next, kept_next}
use Rattle.board_service.proofs.domain_core.DomainCore.entry_mut.Goals as goal

pub add_thing-requires-clause-port : goal.add_thing-requires-clause-port
add_thing-requires-clause-port g c =
    let known = subst (λ (d : Domain g.row.C.Denot). IsDomain d) c.self.view_is (core_domain c.self.invariant.core) in
    let same : c.thing_of-of.result ≡ held c.args.self.now c.args.writer =
    c.thing_of-of.ensures ∙ ap (λ (ts : List (Thing ℕ ℕ)). thing_numbered c.args.writer ts) (ap (λ (d : Domain g.row.C.Denot). d.tables.things) c.self.view_is) in
    subst (λ (p : ℕ). p ≤ c.args.self.now.tables.last_port) (sym (c.port.ensures ∙ ap (λ (t : Thing ℕ ℕ). port_of t.kind) same)) (port_drawn c.args.self.now c.args.writer known)

pub add_thing-requires-clause-room : goal.add_thing-requires-clause-room
add_thing-requires-clause-room g c =
    let known = subst (λ (d : Domain g.row.C.Denot). IsDomain d) c.self.view_is (core_domain c.self.invariant.core) in
    let same : c.thing_of-of.result ≡ held c.args.self.now c.args.writer =
    c.thing_of-of.ensures ∙ ap (λ (ts : List (Thing ℕ ℕ)). thing_numbered c.args.writer ts) (ap (λ (d : Domain g.row.C.Denot). d.tables.things) c.self.view_is) in
    write_handle_room c.args.self.now c.args.writer _ _ c.thing_of-of.result _ known c.requires same c.port.ensures

pub returns-in-Ok-clause-held : goal.returns-in-Ok-clause-held
returns-in-Ok-clause-held g c =
    let known = subst (λ (d : Domain g.row.C.Denot). IsDomain d) c.self.view_is (core_domain c.self.invariant.core) in
    let things = ap (λ (d : Domain g.row.C.Denot). d.tables.things) c.self.view_is in
    let same : c.thing_of-of.result ≡ held c.args.self.now c.args.writer = c.thing_of-of.ensures ∙ ap (λ (ts : List (Thing ℕ ℕ)). thing_numbered c.args.writer ts) things in
    beside_next c.args.self.now c.add_thing.new.self c.args.writer c.thing_of-of.result _ thing_kind.WriteHandle _ known same c.in-Ok.ensures.ok (ap (λ (f : Found). f.thing) c.at.ensures ∙ c.in-Ok.ensures.number) refl

pub returns-in-Ok-clause-kept : goal.returns-in-Ok-clause-kept
returns-in-Ok-clause-kept g c = kept_next c.args.self.now c.add_thing.new.self _ _ _ c.in-Ok.ensures.ok
