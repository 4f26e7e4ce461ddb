use Rattle.std.proofs.Common.{ℕ, List, ap, ◌∙◌, subst}
use Rattle.std.proofs.lemmas.Result.{IfOk-weaker}
use Rattle.board_cell.specs.Passes.{ReaderSeen, GetsWithin}
use Rattle.board_cell.proofs.Climbs.{got_within, seen}
use Rattle.board_cell.proofs.threaded.cell.ThreadedCell.try_get_into.Goals as goal

pub returns-clause-ok : goal.returns-clause-ok
returns-clause-ok c = IfOk-weaker c.tries_into.result _ _
    (λ g a.
    let words : List ℕ = c.tries_into.new.words in
    let gets = got_within c.max.result c.load_opening-opened.result g words c.pass.inside.seat.table_id c.tries_into.new.seat.table_id c.pass.inside.seat.me.0 c.load_opening-opened.new.seat.me.0 c.tries_into.new.seat.me.0 (c.tries_into.ensures.cell.0 ∙ c.load_opening-opened.ensures.cell) (ap (λ m. m.0) c.load_opening-opened.ensures.seat) c.load_opening-opened.ensures.reached a in
    subst (λ (z : ℕ × ReaderSeen). GetsWithin z.0 g words z.1 (seen c.tries_into.new.seat.table_id c.tries_into.new.seat.me.0)) (λ i. (c.max.ensures i, c.pass.view_is i)) gets)
    c.tries_into.ensures.ok
