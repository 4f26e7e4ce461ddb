use Rattle.std.proofs.Common.{◌≡◌, ◌≤◌, ap, subst}
use Rattle.board_cell.specs.Passes.{ReaderSeen}
use Rattle.board_port_tests.proofs.cells.post.read_at.Goals as goal

pub returns : goal.returns
returns g c =
    let older : c.into_read_end-cell.result.pass.reached ≤ c.get.result = c.a_get_is_no_older.ensures _ _ _ _ c.get.ensures.got in
    subst (λ n. n ≤ c.get.result) (ap (λ (r : ReaderSeen). r.reached) c.into_read_end-cell.ensures.told) older
