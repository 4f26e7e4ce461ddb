use Rattle.std.proofs.Common.{◌≡◌, ◌++◌, true, length}
use Rattle.std.specs.List.{list_all}
use Rattle.board_model.specs.LineGrammar.{is_name}
use Rattle.script_feed.proofs.words.Words.names.Given as goal

abbrev pub invariant-loop-word : goal.invariant-loop-word
invariant-loop-word l = record {
  all : l.names.items ++ l.self ≡ l.fn.self;
  named : list_all is_name l.self ≡ true;
}

abbrev pub decreases-loop-word : goal.decreases-loop-word
decreases-loop-word l = length l.self
