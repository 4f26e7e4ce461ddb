use Rattle.std.proofs.Common.{◌≡◌, ℕ, Option, None, Some, sym, ap, ◌∙◌}
use Rattle.std.specs.Prelude.{find, option_copied}
use Rattle.board_model.specs.Tables.{has_name}
use Rattle.board_index.specs.Boards.{Rows, called, rows_under}
use Rattle.board_index.proofs.Indexed.{found_named, row_of}
use Rattle.board_index.proofs.boards.Boards.named.Goals as goal

pub returns-in-Some : goal.returns-in-Some
returns-in-Some g c =
    let name = c.args.name.now in
    let kept : called c.self.inside.names name ≡ Some c.in-Some.number.now = ap (called c.self.inside.names) (sym c.as_bytes.ensures.value) ∙ sym c.get.ensures.value ∙ ap option_copied c.in-Some.is in
    c.row_in.ensures ∙ ap (λ (o : Option ℕ). row_of (rows_under c.self.inside.rows) o) (sym kept) ∙ sym (found_named c.self.invariant name) ∙ ap (λ (d : Rows g.row.C.Denot). find (has_name name) d.boards) c.self.view_is

pub returns-in-None : goal.returns-in-None
returns-in-None g c =
    let name = c.args.name.now in
    let kept : called c.self.inside.names name ≡ None = ap (called c.self.inside.names) (sym c.as_bytes.ensures.value) ∙ sym c.get.ensures.value ∙ ap option_copied c.in-None.is in
    ap (λ (o : Option ℕ). row_of (rows_under c.self.inside.rows) o) (sym kept) ∙ sym (found_named c.self.invariant name) ∙ ap (λ (d : Rows g.row.C.Denot). find (has_name name) d.boards) c.self.view_is
