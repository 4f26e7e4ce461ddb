use Rattle.std.proofs.Common.{◌≡◌, ℕ, List}
use Rattle.std.specs.List.{FoldsTo}
use Rattle.std.specs.FinSet as set
use Rattle.board_event_core.specs.IdSets.{IsListOf}
use Rattle.board_event_core.proofs.bit_set.BitSet.take_all.Given as goal

abbrev pub invariant-loop-id : goal.invariant-loop-id
invariant-loop-id g l =
    goal.F-IsAlwaysCallable g l.callback
    × (l.self.max ≡ l.fn.self.max)
    × ((rest : List ℕ) (last : _) → IsListOf rest l.self.ids → FoldsTo (λ p x q. goal.F-step g p x tt q) l.callback rest last
    → (ids : List ℕ) × IsListOf ids l.fn.self.ids × FoldsTo (λ p x q. goal.F-step g p x tt q) l.fn.callback ids last)

abbrev pub decreases-loop-id : goal.decreases-loop-id
decreases-loop-id g l = set.len l.self.ids
