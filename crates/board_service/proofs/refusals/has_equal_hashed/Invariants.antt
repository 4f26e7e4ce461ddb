use Rattle.std.proofs.Common.{◌≡◌, ◌++◌, List, false, length, map}
use Rattle.board_layout.specs.Keys.{key_value}
use Rattle.board_model.specs.Tables.{has_equal_keys}
use Rattle.board_service.specs.declared.new_entry.NewEntry.{NewEntry}
use Rattle.board_service.specs.Entries.{as_added}
use Rattle.board_service.proofs.MetKeys.{AreMet, same}
use Rattle.board_service.proofs.refusals.has_equal_hashed.Given as goal

-- the keys behind were met, and no two of them are equal
abbrev pub invariant-loop-last : goal.invariant-loop-last
invariant-loop-last g l =
    let value = key_value g.K.ZeroCopySend.value_of g.K.ZeroCopySend.SIZE g.K.ZeroCopySend.WORDS in
    (behind : List NewEntry) × (l.fn.entries ≡ l.left ++ behind)
    × (has_equal_keys (same g.K.PartialEq.eq value) (map as_added behind) ≡ false)
    × AreMet g.K.PartialEq.eq value l.met.keys (map as_added behind)

abbrev pub decreases-loop-last : goal.decreases-loop-last
decreases-loop-last g l = length l.left
