use Rattle.std.proofs.Common.{sym, ap, subst, ◌∙◌}
use Rattle.std.specs.Prelude.{option_copied}
use Rattle.std.specs.Str.{bytes_eq}
use Rattle.board_model.specs.Tables.{nodes_taken}
use Rattle.script_things.specs.Taken.{IsTaken}
use Rattle.script_things.specs.Places.{standing}
use Rattle.script_things.proofs.ToldLemmas.{no_nodes_taken, nodes_counted}
use Rattle.script_things.proofs.named.NamedThings.nodes_taken.Goals as goal

pub returns-in-Some : goal.returns-in-Some
returns-in-Some c =
    let ts = standing c.self.inside.places.items in
    let kept = subst (IsTaken c.args.board ts) (sym c.get.ensures.value ∙ ap option_copied c.in-Some.is) (c.self.invariant.1 c.args.board) in
    c.len.ensures.len ∙ nodes_counted c.args.board ts c.in-Some.taken.now.nodes c.len.ensures.ordered kept.nodes ∙ ap (nodes_taken bytes_eq c.args.board) c.self.view_is

pub returns-in-None : goal.returns-in-None
returns-in-None c =
    let ts = standing c.self.inside.places.items in
    let kept = subst (IsTaken c.args.board ts) (sym c.get.ensures.value ∙ ap option_copied c.in-None.is) (c.self.invariant.1 c.args.board) in
    no_nodes_taken c.args.board ts kept.nodes ∙ ap (nodes_taken bytes_eq c.args.board) c.self.view_is
