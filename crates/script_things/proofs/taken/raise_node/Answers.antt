use Rattle.std.proofs.Common.{Some, ap, ◌+◌}
use Rattle.std.specs.Prelude.{ℕ, Option}
use Rattle.script_things.proofs.TakenLemmas.{node_raised}
use Rattle.script_things.proofs.taken.raise_node.Goals as goal

abbrev some_number : ℕ → Option ℕ
some_number n = Some n

pub returns-clause-ok : goal.returns-clause-ok
returns-clause-ok c = node_raised c.args.nodes.now c.insert.new.self c.args.party.now (Some (c.things_of-things.result + 1)) c.in_ok-insert.ensures.updates.0 (ap (λ n. some_number (n + 1)) c.things_of-things.ensures)
