use Rattle.std.proofs.Common.{map}
use Rattle.std.specs.Map.{keys_of}
use Rattle.board_names.proofs.Listing.{ListsBehind}
use Rattle.board_names.proofs.table.list_names.Given as goal

abbrev pub invariant-loop-path : goal.invariant-loop-path
invariant-loop-path g l = ListsBehind l.cfg (keys_of l.table.entries) (map (λ k. k.items) l.path-iterator) l.names.items
