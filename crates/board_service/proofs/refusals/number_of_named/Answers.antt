use Rattle.std.proofs.Common.{ℕ, sym, subst}
use Rattle.std.specs.Prelude.{find, IsSome}
use Rattle.board_model.specs.Tables.{has_name, is_numbered}
use Rattle.board_service.proofs.BoardLemmas.{number_stands}
use Rattle.board_service.proofs.refusals.number_of_named.Goals as goal

pub returns-clause-stands : goal.returns-clause-stands
returns-clause-stands g c =
    subst (λ (n : ℕ). IsSome (find (is_numbered n) c.args.boards.now.boards)) (sym c.number.ensures) (number_stands (has_name c.args.name.now) c.args.boards.now.boards c.in-Some.b.now (sym c.in-Some.ensures))
