use Rattle.std.proofs.Common.{◌≡◌, ℕ, List, Option, None, Some, cond, sym, ap, subst, ◌∙◌}
use Rattle.std.specs.Prelude.{find, option_map, IsSome}
use Rattle.std.specs.List.{position_from}
use Rattle.std.specs.Str.{bytes_eq}
use Rattle.std.specs.Box.{box_value}
use Rattle.std.specs.Global.{Box}
use Rattle.board_model.specs.declared.tables.Board.{Board}
use Rattle.board_model.specs.Tables.{is_numbered, without_first}
use Rattle.board_index.specs.Boards.{Rows, but_at, called, cells_in, rows_under}
use Rattle.board_numbered.specs.Standing.{under}
use Rattle.board_index.proofs.Called.{called_turned}
use Rattle.board_index.proofs.Indexed.{cells_gone, found_cells, found_numbered, indexed_less, put_others, put_there, rows_gone, unequal}
use Rattle.board_index.proofs.boards.Boards.take.Goals as goal

abbrev no_board : Option Board
no_board = None

abbrev no_number : Option ℕ
no_number = None

pub unreachable-requires : goal.unreachable-requires
unreachable-requires g c =
    let stands = subst IsSome (ap (λ (d : Rows g.row.C.Denot). find (is_numbered c.args.number) d.boards) (sym c.self.view_is) ∙ found_numbered c.self.invariant c.args.number) c.requires in
    let none = subst IsSome (sym c.take_row.ensures.value ∙ ap (λ (o : Option (Box Board)). option_map box_value o) c.in_default.is) stands in
    absurd cc

pub invariant_of-self : goal.invariant_of-self
invariant_of-self g c =
    let stands : rows_under c.self.inside.rows c.args.number ≡ Some c.in-Some.gone.value = sym c.take_row.ensures.value ∙ ap (λ (o : Option (Box Board)). option_map box_value o) c.in-Some.is in
    let taken = called_turned c.self.inside.names c.remove.new.self c.name_bytes.result.now no_number c.remove.ensures.updates.0 c.remove.ensures.updates.1 in
    let names = subst (λ (n : List ℕ). (t : List ℕ) → called c.remove.new.self t ≡ cond (bytes_eq n t) no_number (called c.self.inside.names t)) (c.name_bytes.ensures.value ∙ ap (λ (b : Board). b.name) c.deref.ensures) taken in
    indexed_less c.self.invariant c.args.number c.in-Some.gone.value stands c.take_row.ensures.left c.remove-2.ensures.updates.0 names

pub returns-clause-taken : goal.returns-clause-taken
returns-clause-taken g c =
    ap (λ (d : Rows g.row.C.Denot). cells_in d c.args.number) (sym c.self.view_is) ∙ found_cells c.self.invariant c.args.number ∙ sym c.remove-2.ensures.value ∙ c.in-Some-remove.is

pub returns-clause-boards : goal.returns-clause-boards
returns-clause-boards g c =
    let old = rows_under c.self.inside.rows in
    let new = rows_under c.take_row.new.rows in
    rows_gone c.self.invariant c.args.number new (put_there old new c.args.number no_board c.take_row.ensures.left) (put_others old new c.args.number no_board c.take_row.ensures.left)
    ∙ ap (λ (d : Rows g.row.C.Denot). without_first (is_numbered c.args.number) d.boards) c.self.view_is

pub returns-clause-cells : goal.returns-clause-cells
returns-clause-cells g c =
    let stands : rows_under c.self.inside.rows c.args.number ≡ Some c.in-Some.gone.value = sym c.take_row.ensures.value ∙ ap (λ (o : Option (Box Board)). option_map box_value o) c.in-Some.is in
    cells_gone c.self.invariant c.args.number c.in-Some.gone.value stands (under c.remove-2.new.self) c.remove-2.ensures.updates.1 (λ n other. c.remove-2.ensures.updates.2 n (unequal n c.args.number other))
    ∙ ap (λ (d : Rows g.row.C.Denot). but_at d.cells (position_from (is_numbered c.args.number) 0 d.boards)) c.self.view_is
