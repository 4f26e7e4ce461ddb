use Rattle.std.proofs.Common.{◌≡◌, length}
use Rattle.script_watchers.specs.ToldIds.{behind_equals}
use Rattle.script_watchers.proofs.replies.behind_equals.Given as goal

-- behind the words that are left stands what stands behind all
abbrev pub invariant-loop-word : goal.invariant-loop-word
invariant-loop-word l = behind_equals l.words ≡ behind_equals l.initial.words

abbrev pub decreases-loop-word : goal.decreases-loop-word
decreases-loop-word l = length l.words
