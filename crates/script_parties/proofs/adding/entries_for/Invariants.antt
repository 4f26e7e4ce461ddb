use Rattle.std.proofs.Common.{◌≡◌, ◌++◌, drop, map}
use Rattle.std.specs.List.{AllByRecursion}
use Rattle.board_model.specs.Replies as replies
use Rattle.script_parties.specs.Named.{HasShortKey}
use Rattle.board_service.specs.Entries.{as_added}
use Rattle.script_parties.proofs.adding.entries_for.Given as goal

-- the entries so far are the first, and have short keys
abbrev pub invariant-loop-entry : goal.invariant-loop-entry
invariant-loop-entry l = record {
  made : map as_added l.new.items ++ map replies.added_of (drop l.entry-index l.entries) ≡ map replies.added_of l.entries;
  keys : AllByRecursion HasShortKey (map as_added l.new.items);
}
