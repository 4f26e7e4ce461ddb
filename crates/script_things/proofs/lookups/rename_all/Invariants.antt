use Rattle.std.proofs.Common.{◌≡◌, ◌++◌, drop, map, take}
use Rattle.std.specs.Prelude.{option_map}
use Rattle.board_model.specs.Things.{named_anew}
use Rattle.script_things.proofs.lookups.rename_all.Given as goal

-- those before have their new names
abbrev pub invariant-loop-place : goal.invariant-loop-place
invariant-loop-place l = take l.place-index l.place-items ++ map (option_map (named_anew l.party l.old l.new)) (drop l.place-index l.place-items) ≡ map (option_map (named_anew l.party l.old l.new)) l.fn.places.items
