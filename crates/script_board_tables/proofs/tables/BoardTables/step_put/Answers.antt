use Rattle.std.proofs.Common.{ℕ, ◌+◌, ap}
use Rattle.script_board_tables.proofs.StepLemmas.{puts}
use Rattle.script_board_tables.proofs.tables.BoardTables.step_put.Goals as goal

pub returns : goal.returns
returns c = puts c.args.self.now c.write.new.self c.args.lent.now c.args.index c.args.word _ (ap (λ (n : ℕ). n + c.args.index) c.spare_at.ensures) c.write.ensures c.set_words.new.self c.args.party.now c.in_ok-words.words c.in_ok-words.ensures c.in_ok-set_words.ensures
