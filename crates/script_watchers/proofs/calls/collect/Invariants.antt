use Rattle.std.proofs.Common.{◌≡◌, [], drop}
use Rattle.script_watchers.specs.Calls.{collected}
use Rattle.script_watchers.proofs.calls.collect.Given as goal

-- the rows that are left lead to what all rows lead to
abbrev pub invariant-loop-row : goal.invariant-loop-row
invariant-loop-row l = collected l.ids.items l.calls.items (drop l.row-index l.rows.items) ≡ collected l.ids.items [] l.rows.items
