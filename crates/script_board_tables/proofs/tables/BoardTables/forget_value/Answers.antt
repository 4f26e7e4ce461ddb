use Rattle.std.proofs.Common.{None, refl}
use Rattle.script_board_tables.proofs.TableLemmas.{valued}
use Rattle.script_board_tables.proofs.tables.BoardTables.forget_value.Goals as goal

pub returns : goal.returns
returns c = valued c.args.self.now _ c.args.party.now c.args.name.now None refl (λ p n. refl) refl refl c.forget.ensures
