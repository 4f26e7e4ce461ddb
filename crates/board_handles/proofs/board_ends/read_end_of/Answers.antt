use Rattle.std.proofs.Common.{rules, ◌≡◌, ◌∙◌, sym}
use Rattle.board_service.proofs.CellLemmas.{same_cells}
use Rattle.board_handles.proofs.board_ends.read_end_of.Goals as goal

pub returns-in-Some-clause-same : goal.returns-in-Some-clause-same
returns-in-Some-clause-same c =
    let made = c.in-Some.ensures.made in
    let gave = made.gave in
    let kept : made.after ≡ made.before = search rules in
    made.left ∙ same_cells c.args.tables.now c.args.board made.after made.before (sym made.had) kept
