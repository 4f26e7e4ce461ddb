use Rattle.std.proofs.Common.{◌≡◌, ℕ, true, List, refl, sym, ap, subst, ◌∙◌}
use Rattle.std.specs.Prelude.{find}
use Rattle.board_model.specs.declared.tables.Board.{Board}
use Rattle.board_model.specs.declared.tables.Kind.TheVariants as kind
use Rattle.board_model.specs.declared.tables.ThingKind.TheVariants as thing_kind
use Rattle.board_model.specs.TypeTable.{same_type}
use Rattle.board_model.specs.Tables.{board_named, has_name, holds_at, is_numbered}
use Rattle.board_model.specs.TableCalls.{number_of}
use Rattle.board_service.specs.Domain.{Domain, next_thing}
use Rattle.board_service.specs.Facts.{HasRoomFor, IsDomain}
use Rattle.board_service.proofs.BoardLemmas.{core_domain}
use Rattle.board_service.proofs.HeldLemmas.{kept_next, next_held}
use Rattle.board_service.proofs.RoomLemmas.{keys_found, room_to_open}
use Rattle.board_service.proofs.domain_core.DomainCore.open_unrefused.Goals as goal

pub add_thing-requires-clause-room : goal.add_thing-requires-clause-room
add_thing-requires-clause-room g c =
    let known = subst (λ (d : Domain g.row.C.Denot). IsDomain d) c.self.view_is (core_domain c.self.invariant.core) in
    let boards = ap (λ (d : Domain g.row.C.Denot). d.tables.boards) c.self.view_is in
    let named : c.number_of_named-number.result ≡ number_of (board_named c.args.self.now.tables c.args.name.now) =
    c.number_of_named-number.ensures.value ∙ ap (λ (bs : List Board). number_of (find (has_name c.args.name.now) bs)) boards in
    subst (λ (n : ℕ). HasRoomFor c.args.self.now (next_thing c.args.self.now c.args.node n kind.Factory)) (sym named) (room_to_open c.args.self.now c.args.node c.args.name.now known c.requires.joins.stands c.requires.joins.nodes)

pub returns-clause-held : goal.returns-clause-held
returns-clause-held g c = λ key alike.
    let known = subst (λ (d : Domain g.row.C.Denot). IsDomain d) c.self.view_is (core_domain c.self.invariant.core) in
    let boards = ap (λ (d : Domain g.row.C.Denot). d.tables.boards) c.self.view_is in
    let number = c.number_of_named-number.result in
    let named : number ≡ number_of (board_named c.args.self.now.tables c.args.name.now) =
    c.number_of_named-number.ensures.value ∙ ap (λ (bs : List Board). number_of (find (has_name c.args.name.now) bs)) boards in
    let keys = keys_found c.args.self.now number c.args.name.now c.args.self.now.tables.boards key known refl named alike in
    let added = c.in_ok-thing.ensures.ok in
    let there = subst (λ (bs : List Board). holds_at (find (is_numbered number) bs) (λ b. same_type b.key key) ≡ true) (sym (ap (λ (d : Domain g.row.C.Denot). d.tables.boards) added)) keys in
    next_held c.args.self.now c.add_thing.new.self (next_thing c.args.self.now c.args.node number kind.Factory) _ key thing_kind.Factory known
    (ap (λ (d : Domain g.row.C.Denot). d.tables.things) added) refl c.in_ok-thing.ensures.number refl there

pub returns-clause-kept : goal.returns-clause-kept
returns-clause-kept g c = kept_next c.args.self.now c.add_thing.new.self _ _ _ c.in_ok-thing.ensures.ok
