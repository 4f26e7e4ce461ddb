use Rattle.std.proofs.Common.{◌≡◌, ◌+◌, ◌≤◌, ℕ, true, List, refl, sym, subst}
use Rattle.std.specs.Prelude.{is_some}
use Rattle.board_model.specs.declared.tables.Thing.{Thing}
use Rattle.board_model.specs.Tables.{board_at, port_of}
use Rattle.board_service.specs.Descriptions.{IsCore}
use Rattle.board_service.specs.Domain.{Domain, next_thing}
use Rattle.board_service.specs.Facts.{HasEntry, HasRoomFor, WritesAlone}
use Rattle.board_service.proofs.BoardLemmas.{core_thing}
use Rattle.board_service.proofs.domain_core.DomainCore.add_thing.Goals as goal

pub invariant_of-self-2 : goal.invariant_of-self-2
invariant_of-self-2 g c =
    let s = c.self.inside in
    let x : Thing ℕ ℕ = record { holder = c.args.holder; name = s.things.last + 1; board = c.args.board; kind = c.args.kind } in
    let stands = subst (λ (d : Domain g.row.C.Denot). is_some (board_at d.tables c.args.board) ≡ true) (sym c.self.view_is) c.requires.stands in
    let port : port_of c.args.kind ≤ c.self.inside.last_port = subst (λ (d : Domain g.row.C.Denot). port_of c.args.kind ≤ d.tables.last_port) (sym c.self.view_is) c.requires.port in
    let entry = subst (λ (d : Domain g.row.C.Denot). HasEntry d.tables.boards (next_thing d c.args.holder c.args.board c.args.kind)) (sym c.self.view_is) c.requires.entry in
    let room = subst (λ (d : Domain g.row.C.Denot). HasRoomFor d (next_thing d c.args.holder c.args.board c.args.kind)) (sym c.self.view_is) c.requires.room in
    let alone = subst (λ (d : Domain g.row.C.Denot). WritesAlone d.tables.things (next_thing d c.args.holder c.args.board c.args.kind)) (sym c.self.view_is) c.requires.alone in
    let more = core_thing x c.self.invariant.core refl stands c.requires.none port entry room alone in
    let added : List (Thing ℕ ℕ) → ℕ → Type 0 = λ ts last. IsCore (record { boards = s.boards.boards; things = ts; last_board = s.boards.last; last_port = s.last_port }) last s.boards.cells s.descriptions in
    record {
      core = subst (λ last. added c.add.new.things.things last) (sym c.in_ok-thing.ensures.last) (subst (λ ts. added ts (s.things.last + 1)) (sym c.in_ok-thing.ensures.ok) more);
      suited = c.self.invariant.suited;
    }
