use Rattle.std.proofs.Common.{◌≡◌, ◌++◌, drop, map}
use Rattle.board_model.specs.TypeTable.{key_shown}
use Rattle.script_parties.proofs.lists.keys_of.Given as goal

abbrev pub invariant-loop-entry : goal.invariant-loop-entry
invariant-loop-entry l = l.keys.items ++ map (key_shown l.key_type) (drop l.entry-index l.entries) ≡ map (key_shown l.key_type) l.entries
