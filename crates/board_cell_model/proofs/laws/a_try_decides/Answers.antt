use Rattle.std.proofs.Common.{ℕ, List, [], ◌∙◌, ap, ◌≤◌, ◌≡◌, length, arith}
use Rattle.board_cell_model.specs.OwedAccesses.{reading_from}
use Rattle.board_cell_model.proofs.Hearing.{try_hears, try_closes, hear-last, hear-again}
use Rattle.board_cell_model.proofs.laws.a_try_decides.Goals as goal

at_most : (w : ℕ) (words : List ℕ) → length words ≡ w → length words ≤ w
at_most w words all = omega arith

pub returns-clause-words : goal.returns-clause-words
returns-clause-words c w k words room = try_hears w k [] words (omega (room, arith))

pub returns-clause-finishes : goal.returns-clause-finishes
returns-clause-finishes c w k words all = try_closes w k k words [] (at_most w words all) ∙ hear-last w k words all

pub returns-clause-again : goal.returns-clause-again
returns-clause-again c w k d words rest all other = try_closes w k d words rest (at_most w words all) ∙ ap (λ r. reading_from w r rest) (hear-again w k d words all other)
