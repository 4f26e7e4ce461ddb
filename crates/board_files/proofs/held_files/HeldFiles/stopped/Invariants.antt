use Rattle.std.proofs.Common.{◌≡◌, take}
use Rattle.board_files.specs.Changes.{told_after}
use Rattle.board_files.proofs.held_files.HeldFiles.stopped.Given as goal

abbrev pub invariant-loop-change : goal.invariant-loop-change
invariant-loop-change l = l.stopped ≡ told_after (take l.change-index l.front)
