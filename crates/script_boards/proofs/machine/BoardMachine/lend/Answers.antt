use Rattle.std.proofs.Common.{rules, ◌≡◌, ℕ, List, refl, ap, ◌∙◌, Option, Some}
use Rattle.board_model.specs.Replies.{none_put}
use Rattle.board_model.specs.Things.{with_at}
use Rattle.script_boards.specs.Loans.{lent_words}
use Rattle.script_boards.proofs.Seats.{put_under}
use Rattle.script_boards.proofs.machine.BoardMachine.lend.Goals as goal

pub returns-clause-loan : goal.returns-clause-loan
returns-clause-loan g c =
    let m = c.args.self.now in
    let none : c.in_ok-none_put.none_put.items ≡ none_put c.args.words = search rules in
    record {
      domain = c.rename.ensures;
      loans =
          put_under m.loans c.put.new.map (λ ws. ws.items) c.args.party c.args.loan (Some c.in_ok-none_put.none_put) c.in_ok-put.ensures
          ∙ ap (λ (ws : List (Option ℕ)). with_at (lent_words m) c.args.party c.args.loan (Some ws)) none;
      parties = refl;
      values = refl;
    }
