use Rattle.std.proofs.Common.{◌≡◌, ◌++◌}
use Rattle.std.specs.Prelude.{◌-◌, ◌==◌}
use Rattle.std.specs.Int.{bit_at}
use Rattle.board_event_model.specs.Ids.{ids_where}
use Rattle.script_model.proofs.reports.report_bits.Given as goal

-- the ids of the bits so far were told
abbrev pub invariant-loop-i : goal.invariant-loop-i
invariant-loop-i l = l.told.items ≡ l.initial.told.items ++ ids_where (λ j. bit_at l.bits (j - l.base) == 1) l.base l.i
