use Rattle.std.proofs.Common.{◌≡◌}
use Rattle.board_port_tests.proofs.ports.a_loan_is_published_once_each_word_was_put.Given as goal

abbrev pub invariant-cases : goal.invariant-cases
invariant-cases g l = l.loan.handle ≡ l.initial.loan.handle
