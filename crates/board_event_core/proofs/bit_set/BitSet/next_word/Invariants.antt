use Rattle.std.proofs.Common.{◌-◌, ◌≡◌, ◌≤◌, ◌<◌, ℕ, get_or}
use Rattle.board_event_core.proofs.bit_set.BitSet.next_word.Given as goal

abbrev pub invariant-loop-at : goal.invariant-loop-at
invariant-loop-at l = (l.word ≤ l.at) × (l.at ≤ l.last) × ((k : ℕ) → l.word ≤ k → k < l.at → get_or l.self-inside.words.items k 0 ≡ 0)

abbrev pub decreases-loop-at : goal.decreases-loop-at
decreases-loop-at l = l.last - l.at
