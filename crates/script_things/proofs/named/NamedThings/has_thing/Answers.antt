use Rattle.std.proofs.Common.{rules, ap, ◌∙◌}
use Rattle.std.specs.Prelude.{nat_le}
use Rattle.script_things.proofs.ToldLemmas.{thing_is_node}
use Rattle.script_things.proofs.named.NamedThings.has_thing.Goals as goal

pub returns : goal.returns
returns c = let told = ap (λ n. nat_le 1 n) c.nodes_taken.ensures ∙ thing_is_node c.args.board c.args.self.now in search (rules, told)
