use Rattle.std.specs.BTreeMap.{keys}
use Rattle.std.proofs.lemmas.Iterator.Consumers.{YieldsList-from_rest, nth_from_yields_List}
use Rattle.board_names.proofs.table.key_at.Goals as goal

pub returns-clause-value : goal.returns-clause-value
returns-clause-value g c = nth_from_yields_List c.nth.result c.nth.new.self c.args.index c.nth.ensures.ran (YieldsList-from_rest (keys c.args.values.now) c.keys.ensures.rest)
