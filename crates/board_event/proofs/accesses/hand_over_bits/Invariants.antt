use Rattle.std.proofs.Common.{◌≤◌, ◌+◌, ◌-◌, ◌^◌}
use Rattle.std.specs.Prelude.{◌==◌}
use Rattle.std.specs.Int.{bit_at}
use Rattle.board_event_model.specs.Ids.{ids_of_bits, ids_where}
use Rattle.board_event.specs.LentForms.{CallsOn}
use Rattle.board_event.proofs.accesses.hand_over_bits.Given as goal

abbrev pub invariant-loop-bit : goal.invariant-loop-bit
invariant-loop-bit g l =
    goal.F-IsAlwaysCallable g l.callback
    × ((last : _) → l.base + l.count ≤ 2 ^ 64 → CallsOn (goal.F-step g) l.callback (ids_where (λ i. bit_at l.bits (i - l.base) == 1) (l.base + l.bit) (l.count - l.bit)) last
    → CallsOn (goal.F-step g) l.initial.callback (ids_of_bits l.base l.bits l.count) last)
