use Rattle.std.proofs.Common.{◌≡◌}
use Rattle.std.specs.Prelude.{drop}
use Rattle.board_model.specs.LawfulSession.{all_put}
use Rattle.board_handles.proofs.writing.are_put.Given as goal

-- all words were put where the rest of them were
abbrev pub invariant-loop-word : goal.invariant-loop-word
invariant-loop-word l = all_put (drop l.word-index l.places) ≡ all_put l.fn.places
