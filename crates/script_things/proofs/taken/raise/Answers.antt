use Rattle.std.specs.Prelude.{nat_eq}
use Rattle.std.specs.HashMap.{get}
use Rattle.script_things.proofs.TakenLemmas.{small_same}
use Rattle.script_things.proofs.taken.raise.Goals as goal

pub raise_row-requires-clause-small : goal.raise_row-requires-clause-small
raise_row-requires-clause-small c = small_same (get nat_eq c.args.rows.now c.args.thing.now.board) (get nat_eq c.open_row.new.rows c.args.thing.now.board) (c.open_row.ensures.same c.args.thing.now.board) c.requires
