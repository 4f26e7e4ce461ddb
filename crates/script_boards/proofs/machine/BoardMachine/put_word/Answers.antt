use Rattle.std.proofs.Common.{ℕ, List, refl, ap, ◌∙◌, set, Option, Some}
use Rattle.std.specs.Prelude.{option_map}
use Rattle.std.specs.HashMap.{get}
use Rattle.script_seats.specs.Seats.{same_seat}
use Rattle.script_boards.proofs.Seats.{changed_under, has_word_of}
use Rattle.script_boards.proofs.machine.BoardMachine.put_word.Goals as goal

pub set_word-requires : goal.set_word-requires
set_word-requires g c =
    has_word_of (λ ws. ws.items) (get same_seat c.args.self.now.loans (record { party = c.args.party.now; name = c.args.loan.now })) c.requires.words c.args.index c.requires.lent c.requires.below

pub returns : goal.returns
returns g c = record {
  domain = refl;
  loans = λ put_words lent.
      changed_under c.args.self.now.loans c.set_word.new.loans (λ ws. ws.items) c.args.party.now c.args.loan.now (Some (set put_words c.args.index (Some c.args.word)))
      (c.set_word.ensures.here ∙ ap (option_map (λ (ws : List (Option ℕ)). set ws c.args.index (Some c.args.word))) lent) c.set_word.ensures.others;
  parties = refl;
  values = refl;
}
