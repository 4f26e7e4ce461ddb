use Rattle.std.proofs.Common.{◌≡◌, ◌++◌, List, false, length, map}
use Rattle.std.specs.List.{AllByRecursion}
use Rattle.board_layout.specs.Keys.{key_value}
use Rattle.board_model.specs.declared.value.AddedEntry.{AddedEntry}
use Rattle.board_model.specs.Replies.{added_of}
use Rattle.board_model.specs.Tables.{has_equal_keys}
use Rattle.script_parties.specs.Named.{HasShortKey}
use Rattle.board_service.proofs.MetKeys.{AreMet, same}
use Rattle.script_parties.proofs.entry_tests.has_equal_hashed.Given as goal

-- the keys behind are short and were met, and no two of them are equal
abbrev pub invariant-loop-last : goal.invariant-loop-last
invariant-loop-last g l =
    let value = key_value g.K.ZeroCopySend.value_of g.K.ZeroCopySend.SIZE g.K.ZeroCopySend.WORDS in
    (behind : List AddedEntry) × (l.fn.entries ≡ l.left ++ behind) × AllByRecursion HasShortKey (map added_of behind)
    × (has_equal_keys (same g.K.PartialEq.eq value) (map added_of behind) ≡ false)
    × AreMet g.K.PartialEq.eq value l.met.keys (map added_of behind)

abbrev pub decreases-loop-last : goal.decreases-loop-last
decreases-loop-last g l = length l.left
