use Rattle.std.proofs.Common.{◌≡◌, ◌+◌, ◌++◌, ◌∷◌, [], cond, false, sym, ap, ◌∙◌}
use Rattle.std.specs.Prelude.{nat_eq}
use Rattle.std.specs.List.{list_any}
use Rattle.board_model.specs.declared.tables.Board.{Board}
use Rattle.board_model.specs.Tables.{has_name}
use Rattle.board_index.specs.Boards.{Rows, rows_under}
use Rattle.board_numbered.specs.Standing.{standing, under}
use Rattle.board_index.proofs.Called.{called_turned}
use Rattle.board_index.proofs.Indexed.{a_board, a_number, indexed_pushed, put_others, put_there, unequal}
use Rattle.board_numbered.proofs.Standing.{standing_more}
use Rattle.board_index.proofs.boards.Boards.push_reserved.Goals as goal

pub invariant_of-self : goal.invariant_of-self
invariant_of-self g c =
    let numbered : c.number-number.result ≡ c.args.row.number = c.number-number.ensures ∙ ap (λ (b : Board). b.number) (c.deref.ensures ∙ c.row.view_is) in
    let next : c.number-number.result ≡ c.self.inside.last + 1 = numbered ∙ c.requires.next ∙ ap (λ (d : Rows g.row.C.Denot). d.last + 1) (sym c.self.view_is) in
    let free : list_any (has_name c.args.row.name) (standing (rows_under c.self.inside.rows) c.self.inside.last) ≡ false = ap (λ (d : Rows g.row.C.Denot). list_any (has_name c.args.row.name) d.boards) c.self.view_is ∙ c.requires.free in
    indexed_pushed c.self.invariant c.args.row c.args.cells numbered (c.row.invariant ∙ ap (λ (b : Board). b.name) c.row.view_is) next free
    (λ n. c.put_row.ensures n ∙ ap (λ (b : Board). cond (nat_eq c.number-number.result n) (a_board b) (rows_under c.self.inside.rows n)) c.row.view_is) c.in-Ok-None.ensures.updates.0
    (called_turned c.self.inside.names c.insert.new.self c.row.inside.name.items (a_number c.number-number.result) c.in-Ok.ensures.updates.0 c.in-Ok.ensures.updates.1)

pub returns-clause-boards : goal.returns-clause-boards
returns-clause-boards g c =
    let s = c.self.inside in
    let number = c.number-number.result in
    let row : Board = c.row.inside.row.value in
    let next : number ≡ s.last + 1 = c.number-number.ensures ∙ ap (λ (b : Board). b.number) (c.deref.ensures ∙ c.row.view_is) ∙ c.requires.next ∙ ap (λ (d : Rows g.row.C.Denot). d.last + 1) (sym c.self.view_is) in
    let old = rows_under s.rows in
    let new = rows_under c.put_row.new.rows in
    standing_more old new s.last number row next (put_there old new number (a_board row) c.put_row.ensures) (put_others old new number (a_board row) c.put_row.ensures)
    ∙ ap (λ (b : Board). standing old s.last ++ b ∷ []) c.row.view_is ∙ ap (λ (d : Rows g.row.C.Denot). d.boards ++ c.args.row ∷ []) c.self.view_is

pub returns-clause-cells : goal.returns-clause-cells
returns-clause-cells g c =
    let next : c.number-number.result ≡ c.self.inside.last + 1 = c.number-number.ensures ∙ ap (λ (b : Board). b.number) (c.deref.ensures ∙ c.row.view_is) ∙ c.requires.next ∙ ap (λ (d : Rows g.row.C.Denot). d.last + 1) (sym c.self.view_is) in
    standing_more (under c.self.inside.cells) (under c.insert-2.new.self) c.self.inside.last c.number-number.result c.args.cells next c.in-Ok-None.ensures.updates.1
    (λ n other. c.in-Ok-None.ensures.updates.2 n (unequal n c.number-number.result other)) ∙ ap (λ (d : Rows g.row.C.Denot). d.cells ++ c.args.cells ∷ []) c.self.view_is
