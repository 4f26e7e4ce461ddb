use Rattle.std.proofs.Common.{◌≡◌, ℕ, List}
use Rattle.std.specs.BTreeSet as set
use Rattle.std.specs.Cmp.Lexicographic.{slice_cmp}
use Rattle.std.specs.Ordering.{nat_cmp}
use Rattle.script_parties.specs.BoardNodes.{is_told}
use Rattle.script_parties.proofs.lists.parties_of.Given as goal

-- the parties so far are those of the nodes so far
abbrev pub invariant-loop-index : goal.invariant-loop-index
invariant-loop-index g l = (p : List ℕ) → set.contains (slice_cmp nat_cmp) l.parties p ≡ is_told l.nodes.keys l.core l.board p l.index
