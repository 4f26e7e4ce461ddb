use Rattle.std.proofs.Common.{◌≡◌}
use Rattle.std.specs.Prelude.{OnErr, Result, Ok, Err}
use Rattle.board_service.proofs.CellLemmas.{same_cells}
use Rattle.board_seats.proofs.seats.update.Goals as goal

-- what holds where it is refused, by what held there
on_err : {T E X Y : Type 0} (r : Result T E) → (X → Y) → OnErr r X → OnErr r Y
on_err (Ok t) f h = h
on_err (Err e) f h = f h

pub returns-in-Some-clause-err : goal.returns-in-Some-clause-err
returns-in-Some-clause-err g c =
    on_err c.update_in.result
    (same_cells c.args.domain.now c.board_of-board.result c.update_in.new.words c.in-Some.words.now c.in-Some.ensures.value) c.update_in.ensures.err
