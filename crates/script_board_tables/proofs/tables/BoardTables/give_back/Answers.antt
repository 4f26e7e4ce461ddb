use Rattle.std.proofs.Common.{refl}
use Rattle.script_board_tables.proofs.TableLemmas.{renamed}
use Rattle.script_board_tables.proofs.tables.BoardTables.give_back.Goals as goal

pub returns : goal.returns
returns c = renamed c.forget_words.new.self _ _ _ _ c.args.party.now c.args.loan.now c.args.handle.now c.forget_words.ensures c.in_ok-rename.ensures.ok refl refl refl (λ p n. refl) (λ p n. refl) refl refl
