use Rattle.std.proofs.Common.{◌≡◌, [], ◌∷◌, ◌++◌, cond, Some, None, sym, ap, ◌∙◌}
use Rattle.std.specs.Prelude.{is_some}
use Rattle.std.specs.Str.{bytes_eq}
use Rattle.std.proofs.lemmas.Iterator.Adapters.{position_from-zero}
use Rattle.script_parties.specs.Named.{node_place, nodes_or_more}
use Rattle.script_parties.proofs.lookups.join.Goals as goal

pub returns-in-Some : goal.returns-in-Some
returns-in-Some c =
    let nodes = c.args.nodes.now.keys in
    let is : Some c.in-Some.field-0 ≡ node_place c.args.party nodes = sym c.in-Some.is ∙ c.get_index_of.ensures.index ∙ position_from-zero (bytes_eq c.args.party) nodes in
    ap (λ o. nodes_or_more c.args.party nodes o) is

pub returns-in-Ok : goal.returns-in-Ok
returns-in-Ok c =
    let nodes = c.args.nodes.now.keys in
    let is : None ≡ node_place c.args.party nodes = sym c.in-None.is ∙ c.get_index_of.ensures.index ∙ position_from-zero (bytes_eq c.args.party) nodes in
    c.in-Ok.ensures.keys ∙ ap (λ b. cond b nodes (nodes ++ c.args.party ∷ [])) (sym c.get_index_of.ensures.found ∙ ap is_some c.in-None.is) ∙ ap (λ o. nodes_or_more c.args.party nodes o) is
