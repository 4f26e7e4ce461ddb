use Rattle.std.proofs.Common.{sym, ap, subst, ◌∙◌}
use Rattle.std.specs.Prelude.{option_copied}
use Rattle.std.specs.Str.{bytes_eq}
use Rattle.board_model.specs.Tables.{is_node}
use Rattle.script_things.specs.Taken.{IsTaken}
use Rattle.script_things.specs.Places.{standing}
use Rattle.script_things.proofs.ToldLemmas.{node_is_kept, none_is_node}
use Rattle.script_things.proofs.named.NamedThings.is_node.Goals as goal

pub returns-in-Some : goal.returns-in-Some
returns-in-Some c =
    let ts = standing c.self.inside.places.items in
    let kept = subst (IsTaken c.args.board ts) (sym c.get.ensures.value ∙ ap option_copied c.in-Some.is) (c.self.invariant.1 c.args.board) in
    c.contains_key.ensures ∙ node_is_kept c.args.board ts c.in-Some.taken.now.nodes kept.nodes c.args.party.now ∙ ap (is_node bytes_eq c.args.board c.args.party.now) c.self.view_is

pub returns-in-None : goal.returns-in-None
returns-in-None c =
    let ts = standing c.self.inside.places.items in
    let kept = subst (IsTaken c.args.board ts) (sym c.get.ensures.value ∙ ap option_copied c.in-None.is) (c.self.invariant.1 c.args.board) in
    sym (none_is_node c.args.board ts kept.nodes c.args.party.now) ∙ ap (is_node bytes_eq c.args.board c.args.party.now) c.self.view_is
