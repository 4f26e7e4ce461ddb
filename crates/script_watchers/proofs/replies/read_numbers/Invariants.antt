use Rattle.std.proofs.Common.{◌≡◌, length}
use Rattle.script_watchers.specs.ToldIds.{numbers_in}
use Rattle.script_watchers.proofs.ToldIdLemmas.{with_front}
use Rattle.script_watchers.proofs.replies.read_numbers.Given as goal

-- the numbers so far, and those of the words that are left
abbrev pub invariant-loop-word : goal.invariant-loop-word
invariant-loop-word l = numbers_in l.fn.words ≡ with_front l.numbers.items (numbers_in l.words)

abbrev pub decreases-loop-word : goal.decreases-loop-word
decreases-loop-word l = length l.words
