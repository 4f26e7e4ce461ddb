use Rattle.std.proofs.Common.{Some, refl}
use Rattle.script_board_tables.proofs.TableLemmas.{valued}
use Rattle.script_board_tables.proofs.tables.BoardTables.keep.Goals as goal

pub returns : goal.returns
returns c = valued c.args.self.now _ c.args.party.now c.args.name (Some c.args.value) refl (λ p n. refl) refl refl c.in_ok-put.ensures
