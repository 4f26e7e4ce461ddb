use Rattle.std.proofs.Common.{◌≡◌, drop}
use Rattle.board_model.specs.LawfulSession.{all_put}
use Rattle.script_board_tables.proofs.requests.all_put.Given as goal

abbrev pub invariant-loop-word : goal.invariant-loop-word
invariant-loop-word l = all_put (drop l.word-index l.words) ≡ all_put l.words
