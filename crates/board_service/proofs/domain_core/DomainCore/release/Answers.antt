use Rattle.std.proofs.Common.{◌≡◌, ◌<◌, ◌^◌, ℕ, true, false, List, sym, ap, subst, ◌∙◌}
use Rattle.std.specs.Prelude.{find, is_some, IfSome}
use Rattle.std.specs.List.{list_any, position_from}
use Rattle.board_model.specs.declared.tables.Board.{Board}
use Rattle.board_model.specs.declared.tables.Thing.{Thing}
use Rattle.board_model.specs.Tables.{Tables, board_at, has_name, is_numbered, is_of_board, without_first}
use Rattle.board_store.specs.Statics.{Storages}
use Rattle.board_names.specs.Table.{without}
use Rattle.board_service.specs.Descriptions.{IsCore, storage_name}
use Rattle.board_service.specs.Domain.{Domain, board_of, but_at, is_thing, thing_numbered}
use Rattle.board_service.specs.Suiting.{AllBeside, suits_board}
use Rattle.board_service.proofs.BesideLemmas.{beside_but, but_count}
use Rattle.board_service.proofs.BoardLemmas.{core_less, core_released}
use Rattle.board_service.proofs.NamedLemmas.{name_free_at}
use Rattle.board_service.proofs.TableLemmas.{board_stands}
use Rattle.board_service.proofs.domain_core.DomainCore.release.Goals as goal

pub invariant_of-self : goal.invariant_of-self
invariant_of-self g c =
    let s = c.self.inside in
    let rest = c.take_thing-gone.ensures.rest in
    let taken = c.take_thing-gone.ensures.taken in
    let some : is_some (find (is_thing c.args.thing) s.things.things) ≡ true = subst (λ (d : Domain g.row.C.Denot). is_some (find (is_thing c.args.thing) d.tables.things) ≡ true) (sym c.self.view_is) c.requires in
    let any : list_any (is_of_board c.take_thing-gone.result.board) c.take_thing-gone.new.things.things ≡ true =
    sym c.has_thing_of.ensures ∙ c.if-has_thing_of.true in
    let kept : list_any (is_of_board (thing_numbered c.args.thing s.things.things).board) (without_first (is_thing c.args.thing) s.things.things) ≡ true =
    ap (λ (ts : List (Thing ℕ ℕ)). list_any (is_of_board (thing_numbered c.args.thing s.things.things).board) ts) (sym rest)
    ∙ ap (λ (t : Thing ℕ ℕ). list_any (is_of_board t.board) c.take_thing-gone.new.things.things) (sym taken) ∙ any in
    let tables : List (Thing ℕ ℕ) → Tables ℕ ℕ = λ ts. record { boards = s.boards.boards; things = ts; last_board = s.boards.last; last_port = s.last_port } in
    record {
      core = subst (λ (n : ℕ). IsCore (tables c.take_thing-gone.new.things.things) n s.boards.cells s.descriptions) (sym c.take_thing-gone.ensures.last)
          (subst (λ (ts : List (Thing ℕ ℕ)). IsCore (tables ts) s.things.last s.boards.cells s.descriptions) (sym rest) (core_released c.args.thing c.self.invariant.core some kept));
      suited = c.self.invariant.suited;
    }

pub take-cells-requires : goal.take-cells-requires
take-cells-requires g c =
    let s = c.self.inside in
    let some : is_some (find (is_thing c.args.thing) s.things.things) ≡ true = subst (λ (d : Domain g.row.C.Denot). is_some (find (is_thing c.args.thing) d.tables.things) ≡ true) (sym c.self.view_is) c.requires in
    ap (λ (t : Thing ℕ ℕ). is_some (find (is_numbered t.board) s.boards.boards)) c.take_thing-gone.ensures.taken
    ∙ board_stands (record { boards = s.boards.boards; things = s.things.things; last_board = s.boards.last; last_port = s.last_port }) s.things.last c.args.thing c.self.invariant.core.tables some

pub invariant_of-self-2 : goal.invariant_of-self-2
invariant_of-self-2 g c =
    let s = c.self.inside in
    let gone = c.take_thing-gone in
    let took = c.take-cells in
    let board : gone.result.board ≡ (thing_numbered c.args.thing s.things.things).board = ap (λ (t : Thing ℕ ℕ). t.board) gone.ensures.taken in
    let none : list_any (is_of_board gone.result.board) gone.new.things.things ≡ false =
    sym c.has_thing_of.ensures ∙ c.if-has_thing_of.false in
    let last_one : list_any (is_of_board (thing_numbered c.args.thing s.things.things).board) (without_first (is_thing c.args.thing) s.things.things) ≡ false =
    ap (λ (ts : List (Thing ℕ ℕ)). list_any (is_of_board (thing_numbered c.args.thing s.things.things).board) ts) (sym gone.ensures.rest)
    ∙ ap (λ (n : ℕ). list_any (is_of_board n) gone.new.things.things) (sym board) ∙ none in
    let left : ℕ → List g.row.C.Denot = λ n. but_at s.boards.cells (position_from (is_numbered n) 0 s.boards.boards) in
    let n = (thing_numbered c.args.thing s.things.things).board in
    let less = core_less c.args.thing c.self.invariant.core last_one (subst (λ (m : ℕ). m < 2 ^ 64) board c.let_go.ensures.range) (but_count (is_numbered n) s.boards.boards s.boards.cells c.self.invariant.core.cells) in
    let Core : List Board → List (Thing ℕ ℕ) → ℕ → ℕ → List g.row.C.Denot → Storages → Type 0 = λ bs ts lb lt cs ds.
    IsCore (record { boards = bs; things = ts; last_board = lb; last_port = s.last_port }) lt cs ds in
    let there = subst (λ (m : ℕ). Core (without_first (is_numbered m) s.boards.boards) (without_first (is_thing c.args.thing) s.things.things) s.boards.last s.things.last (left m) (without s.descriptions (storage_name m))) (sym board) less in
    let boards = subst (λ (bs : List Board). Core bs (without_first (is_thing c.args.thing) s.things.things) s.boards.last s.things.last (left gone.result.board) (without s.descriptions (storage_name gone.result.board))) (sym took.ensures.boards) there in
    let things = subst (λ (ts : List (Thing ℕ ℕ)). Core took.new.self.boards ts s.boards.last s.things.last (left gone.result.board) (without s.descriptions (storage_name gone.result.board))) (sym gone.ensures.rest) boards in
    let drawn = subst (λ (lb : ℕ). Core took.new.self.boards gone.new.things.things lb s.things.last (left gone.result.board) (without s.descriptions (storage_name gone.result.board))) (sym took.ensures.last) things in
    let last = subst (λ (lt : ℕ). Core took.new.self.boards gone.new.things.things took.new.self.last lt (left gone.result.board) (without s.descriptions (storage_name gone.result.board))) (sym gone.ensures.last) drawn in
    let cells = subst (λ (cs : List g.row.C.Denot). Core took.new.self.boards gone.new.things.things took.new.self.last gone.new.things.last cs (without s.descriptions (storage_name gone.result.board))) (sym took.ensures.cells) last in
    let beside = beside_but (suits_board g.C.Cells.suit) (is_numbered gone.result.board) s.boards.boards s.boards.cells c.self.invariant.suited in
    record {
      core = subst (λ (ds : Storages). Core took.new.self.boards gone.new.things.things took.new.self.last gone.new.things.last took.new.self.cells ds) (sym c.let_go.ensures.after) cells;
      suited = subst (λ (bs : List Board). AllBeside (suits_board g.C.Cells.suit) bs took.new.self.cells) (sym took.ensures.boards)
          (subst (λ (cs : List g.row.C.Denot). AllBeside (suits_board g.C.Cells.suit) (without_first (is_numbered gone.result.board) s.boards.boards) cs) (sym took.ensures.cells) beside);
    }

pub returns-clause-free : goal.returns-clause-free
returns-clause-free g c =
    let s = c.self.inside in
    let n = (thing_numbered c.args.thing s.things.things).board in
    let rest : c.take-cells.new.self.boards ≡ without_first (is_numbered n) s.boards.boards =
    c.take-cells.ensures.boards ∙ ap (λ (t : Thing ℕ ℕ). without_first (is_numbered t.board) s.boards.boards) c.take_thing-gone.ensures.taken in
    let Free : List Board → Type 0 = λ bs. IfSome (find (is_numbered n) s.boards.boards) (λ b. list_any (has_name b.name) bs ≡ false) in
    let free : Free c.take-cells.new.self.boards = subst Free (sym rest) (name_free_at n s.boards.boards c.self.invariant.core.tables.names) in
    subst (λ (d : Domain g.row.C.Denot). IfSome (board_at d.tables (board_of d c.args.thing)) (λ b. list_any (has_name b.name) c.take-cells.new.self.boards ≡ false)) c.self.view_is free
