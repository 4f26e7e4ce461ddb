use Rattle.std.proofs.Common.{map, length}
use denote.Param.Always.{always_mut}
use Rattle.std.specs.Fn.{CalledAt}
use Rattle.board_domain.specs.Walks.{WalksTo, key_seen}
use Rattle.board_domain.proofs.walks.visit_keys.Given as goal

-- a walk over what is left makes a walk over all
abbrev pub invariant-loop-entry : goal.invariant-loop-entry
invariant-loop-entry g l =
    always_mut g.F.FnMut l.callback
    × ((last : _) → WalksTo (CalledAt g.F.FnMut) l.callback (map (key_seen g.K.ZeroCopySend.value_of g.K.ZeroCopySend.SIZE g.K.ZeroCopySend.WORDS) l.rest) last
    → WalksTo (CalledAt g.F.FnMut) l.fn.callback (map (key_seen g.K.ZeroCopySend.value_of g.K.ZeroCopySend.SIZE g.K.ZeroCopySend.WORDS) l.fn.entries) last)

abbrev pub decreases-loop-entry : goal.decreases-loop-entry
decreases-loop-entry g l = length l.rest
