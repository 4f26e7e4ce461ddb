use Rattle.std.proofs.Common.{refl}
use Rattle.script_board_tables.proofs.TableLemmas.{renamed}
use Rattle.script_board_tables.proofs.tables.BoardTables.lend.Goals as goal

pub returns : goal.returns
returns c = renamed c.set_words.new.self _ _ _ _ c.args.party.now c.args.handle.now c.args.loan.now c.in_ok-set_words.ensures c.in_ok-rename.ensures.ok refl refl refl (λ p n. refl) (λ p n. refl) refl refl
