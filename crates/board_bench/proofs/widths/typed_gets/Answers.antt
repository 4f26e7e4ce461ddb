use Rattle.std.proofs.Common.{rules, ap}
use Rattle.board_bench.specs.Handles.{read_seen}
use Rattle.board_bench.proofs.Sevens.{four_sevens, many_sevens, one_seven, sevens_of}
use Rattle.board_bench.proofs.widths.typed_gets.Goals.{in-1+in_ok-run_gets-in-1, in-4+in_ok-run_gets-in-4, in_default+in_ok-run_gets-in_default}
use Rattle.board_bench.proofs.widths.typed_gets.Goals as goal

pub returns-clause-values : goal.returns-clause-values
returns-clause-values g c = elim c.match-width.branch [
  | in-1+in_ok-run_gets-in-1 w ↦ sevens_of c.args.width 1 c.match-width.result w.in_ok-run_gets-in-1.field-0 (search rules) (ap read_seen w.result-is) (one_seven w.in_ok-run_gets-in-1.field-0.pass.notes w.in_ok-run_gets-in-1.ensures.values)
  | in-4+in_ok-run_gets-in-4 w ↦ sevens_of c.args.width 4 c.match-width.result w.in_ok-run_gets-in-4.field-0 (search rules) (ap read_seen w.result-is) (four_sevens w.in_ok-run_gets-in-4.field-0.pass.notes w.in_ok-run_gets-in-4.ensures.values)
  | in_default+in_ok-run_gets-in_default w ↦ sevens_of c.args.width 32 c.match-width.result w.in_ok-run_gets-in_default.field-0 (search rules) (ap read_seen w.result-is) (many_sevens w.in_ok-run_gets-in_default.field-0.pass.notes w.in_ok-run_gets-in_default.ensures.values)
]
