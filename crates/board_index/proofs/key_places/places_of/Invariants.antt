use Rattle.std.proofs.Common.{◌≡◌, ◌++◌, List, length}
use Rattle.board_model.specs.declared.tables.Entry.{Entry}
use Rattle.board_index.specs.Boards.{called}
use Rattle.board_index.specs.KeyPlaces.{AreKeyPlaces}
use Rattle.board_index.proofs.key_places.places_of.Given as goal

-- the keys behind have their places
abbrev pub invariant-loop-last : goal.invariant-loop-last
invariant-loop-last l =
    (behind : List Entry) × (l.fn.entries ≡ l.left ++ behind) × AreKeyPlaces l.size (length l.left) behind (called l.places)

abbrev pub decreases-loop-last : goal.decreases-loop-last
decreases-loop-last l = length l.left
