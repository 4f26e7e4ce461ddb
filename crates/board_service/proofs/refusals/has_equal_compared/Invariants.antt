use Rattle.std.proofs.Common.{◌≡◌, drop, map}
use Rattle.board_layout.specs.Keys as keys
use Rattle.board_model.specs.Tables as tables
use Rattle.board_service.specs.Entries.{as_added}
use Rattle.board_service.proofs.refusals.has_equal_compared.Given as goal

abbrev pub invariant-loop-i : goal.invariant-loop-i
invariant-loop-i g l = tables.has_equal_keys (keys.same_keys g.K.PartialEq.eq g.K.ZeroCopySend.value_of g.K.ZeroCopySend.SIZE g.K.ZeroCopySend.WORDS) (map as_added (drop l.i l.entries)) ≡ tables.has_equal_keys (keys.same_keys g.K.PartialEq.eq g.K.ZeroCopySend.value_of g.K.ZeroCopySend.SIZE g.K.ZeroCopySend.WORDS) (map as_added l.entries)
