use Rattle.std.proofs.Common.{◌≡◌, ◌+◌, Some, None, length, sym, ap, ◌∙◌}
use Rattle.std.specs.Str.{bytes_eq}
use Rattle.std.proofs.lemmas.Iterator.Adapters.{position_from-zero}
use Rattle.script_parties.specs.Named.{node_or_next, node_place}
use Rattle.script_parties.proofs.lookups.node_for.Goals as goal

pub returns-in-Some : goal.returns-in-Some
returns-in-Some c =
    let nodes = c.args.nodes.now.keys in
    let is : Some c.in-Some.place ≡ node_place c.args.party.now nodes = sym c.in-Some.is ∙ c.get_index_of.ensures.index ∙ position_from-zero (bytes_eq c.args.party.now) nodes in
    ap (λ o. node_or_next (length nodes + 1) o) is

pub returns-in-None : goal.returns-in-None
returns-in-None c =
    let nodes = c.args.nodes.now.keys in
    let is : None ≡ node_place c.args.party.now nodes = sym c.in-None.is ∙ c.get_index_of.ensures.index ∙ position_from-zero (bytes_eq c.args.party.now) nodes in
    ap (λ n. n + 1) c.len-count.ensures.len ∙ ap (λ o. node_or_next (length nodes + 1) o) is
