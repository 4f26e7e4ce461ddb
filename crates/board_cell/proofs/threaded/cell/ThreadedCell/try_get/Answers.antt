use Rattle.std.proofs.Common.{ℕ, List, ap, ◌∙◌, subst}
use Rattle.std.proofs.lemmas.Result.{IfOk-weaker}
use Rattle.board_cell.specs.Passes.{ReaderSeen, GetsWithin}
use Rattle.board_cell.proofs.Climbs.{got_within, seen}
use Rattle.board_cell.proofs.threaded.cell.ThreadedCell.try_get.Goals as goal

pub returns-clause-ok : goal.returns-clause-ok
returns-clause-ok c = IfOk-weaker c.first_tries.result _ _
    (λ g a.
    let words : List ℕ = c.first_tries.new.out.items in
    let gets = got_within c.max.result c.open_try-opened.result g words c.pass.inside.seat.table_id c.first_tries.new.seat.table_id c.pass.inside.seat.me.0 c.open_try-opened.new.seat.me.0 c.first_tries.new.seat.me.0 (c.first_tries.ensures.cell.0 ∙ c.open_try-opened.ensures.cell) (ap (λ m. m.0) c.open_try-opened.ensures.seat) c.open_try-opened.ensures.reached a in
    subst (λ (z : ℕ × ReaderSeen). GetsWithin z.0 g words z.1 (seen c.first_tries.new.seat.table_id c.first_tries.new.seat.me.0)) (λ i. (c.max.ensures i, c.pass.view_is i)) gets)
    c.first_tries.ensures.ok
