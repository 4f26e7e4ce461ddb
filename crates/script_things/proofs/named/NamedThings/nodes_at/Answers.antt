use Rattle.std.proofs.Common.{◌≡◌, List, rules, sym, ap, subst, ◌∙◌, []}
use Rattle.std.specs.Prelude.{ℕ, option_copied}
use Rattle.std.specs.BTreeMap as tree
use Rattle.board_model.specs.Replies.{nodes_of}
use Rattle.script_things.specs.Taken.{IsTaken}
use Rattle.script_things.specs.Places.{standing}
use Rattle.script_things.proofs.ToldLemmas.{no_nodes, nodes_told, none_is_node}
use Rattle.script_things.proofs.named.NamedThings.nodes_at.Goals as goal

pub returns-in_ok-collect-in-Some : goal.returns-in_ok-collect-in-Some
returns-in_ok-collect-in-Some c =
    let ts = standing c.self.inside.places.items in
    let kept = subst (IsTaken c.args.board ts) (sym c.get.ensures.value ∙ ap option_copied c.in-Some.is) (c.self.invariant.1 c.args.board) in
    let listed : c.from_vec.result ≡ tree.keys c.in-Some.taken.now.nodes = search rules in
    listed ∙ nodes_told c.args.board ts c.in-Some.taken.now.nodes c.keys.ensures.ordered kept.nodes ∙ ap (nodes_of c.args.board) c.self.view_is

pub returns-in-None : goal.returns-in-None
returns-in-None c =
    let ts = standing c.self.inside.places.items in
    let kept = subst (IsTaken c.args.board ts) (sym c.get.ensures.value ∙ ap option_copied c.in-None.is) (c.self.invariant.1 c.args.board) in
    let none : List (List ℕ) = [] in
    let listed : c.from_vec-in-None.result ≡ none = search rules in
    listed ∙ no_nodes c.args.board ts (none_is_node c.args.board ts kept.nodes) ∙ ap (nodes_of c.args.board) c.self.view_is
