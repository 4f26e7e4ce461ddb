use Rattle.std.proofs.Common.{◌≡◌, ◌+◌, ℕ, true, List, refl, sym, ap, subst, ◌∙◌}
use Rattle.std.specs.Prelude.{is_some}
use Rattle.board_model.specs.declared.tables.Thing.{Thing}
use Rattle.board_model.specs.declared.tables.ThingKind.TheVariants as thing_kind
use Rattle.board_model.specs.Tables.{board_at}
use Rattle.board_service.specs.declared.made.Made.{Made}
use Rattle.board_service.specs.Domain.{Domain, held, thing_numbered}
use Rattle.board_service.specs.Facts.{IsDomain}
use Rattle.board_service.proofs.BoardLemmas.{core_domain, held_stands}
use Rattle.board_service.proofs.HeldLemmas.{beside_next_port, kept_next_port}
use Rattle.board_service.proofs.RoomLemmas.{read_room}
use Rattle.board_service.proofs.domain_core.DomainCore.reader.Goals as goal

pub add_port-requires-clause-stands : goal.add_port-requires-clause-stands
add_port-requires-clause-stands g c =
    let known = subst (λ (d : Domain g.row.C.Denot). IsDomain d) c.self.view_is (core_domain c.self.invariant.core) in
    let same : c.thing_of-of.result ≡ held c.args.self.now c.args.factory =
    c.thing_of-of.ensures ∙ ap (λ (ts : List (Thing ℕ ℕ)). thing_numbered c.args.factory ts) (ap (λ (d : Domain g.row.C.Denot). d.tables.things) c.self.view_is) in
    subst (λ (n : ℕ). is_some (board_at c.args.self.now.tables n) ≡ true) (sym (ap (λ (t : Thing ℕ ℕ). t.board) same)) (held_stands c.args.self.now c.args.factory known c.requires)

pub add_port-requires-clause-room : goal.add_port-requires-clause-room
add_port-requires-clause-room g c =
    let known = subst (λ (d : Domain g.row.C.Denot). IsDomain d) c.self.view_is (core_domain c.self.invariant.core) in
    let things = ap (λ (d : Domain g.row.C.Denot). d.tables.things) c.self.view_is in
    let boards = ap (λ (d : Domain g.row.C.Denot). d.tables.boards) c.self.view_is in
    let same : c.thing_of-of.result ≡ held c.args.self.now c.args.factory = c.thing_of-of.ensures ∙ ap (λ (ts : List (Thing ℕ ℕ)). thing_numbered c.args.factory ts) things in
    read_room c.args.self.now c.args.factory (c.self.inside.last_port + 1) c.thing_of-of.result c.self.inside.boards.boards c.self.inside.things.things known c.requires same
    boards things (sym c.has_all_readers.ensures ∙ c.if-has_all_readers.false)

pub returns-in-Ok-clause-held : goal.returns-in-Ok-clause-held
returns-in-Ok-clause-held g c =
    let known = subst (λ (d : Domain g.row.C.Denot). IsDomain d) c.self.view_is (core_domain c.self.invariant.core) in
    let things = ap (λ (d : Domain g.row.C.Denot). d.tables.things) c.self.view_is in
    let same : c.thing_of-of.result ≡ held c.args.self.now c.args.factory = c.thing_of-of.ensures ∙ ap (λ (ts : List (Thing ℕ ℕ)). thing_numbered c.args.factory ts) things in
    beside_next_port c.args.self.now c.add_port.new.self c.args.factory c.thing_of-of.result _ thing_kind.Reader _ known same c.in-Ok.ensures.ok (ap (λ (m : Made). m.thing) c.in-Ok.ensures.made) refl

pub returns-in-Ok-clause-kept : goal.returns-in-Ok-clause-kept
returns-in-Ok-clause-kept g c = kept_next_port c.args.self.now c.add_port.new.self _ _ _ c.in-Ok.ensures.ok
