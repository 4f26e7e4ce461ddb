use Rattle.std.proofs.Common.{◌≡◌, ◌≤◌, length}
use Rattle.script_feed.specs.DriveReading.{are_things}
use Rattle.script_feed.proofs.words.Words.are_things.Given as goal

abbrev pub invariant-loop-word : goal.invariant-loop-word
invariant-loop-word l = record {
  few : l.count ≤ 17;
  same : are_things l.drive 0 l.fn.self ≡ are_things l.drive l.count l.self;
}

abbrev pub decreases-loop-word : goal.decreases-loop-word
decreases-loop-word l = length l.self
