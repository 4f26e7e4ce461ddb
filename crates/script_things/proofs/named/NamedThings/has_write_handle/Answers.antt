use Rattle.std.proofs.Common.{sym, ap, subst, ◌∙◌}
use Rattle.std.specs.Prelude.{option_copied}
use Rattle.std.specs.List.{list_any}
use Rattle.script_things.specs.Taken.{IsTaken}
use Rattle.script_things.specs.Places.{standing}
use Rattle.std.specs.Prelude.{is_some}
use Rattle.board_model.specs.Tables.{is_write_handle}
use Rattle.script_things.proofs.TakenLemmas.{some_counted}
use Rattle.script_things.proofs.named.NamedThings.has_write_handle.Goals as goal

pub returns-in-Some : goal.returns-in-Some
returns-in-Some c =
    let ts = standing c.self.inside.places.items in
    let kept = subst (IsTaken c.args.board ts) (sym c.get.ensures.value ∙ ap option_copied c.in-Some.is) (c.self.invariant.1 c.args.board) in
    c.contains_key.ensures ∙ ap is_some (kept.handles c.args.entry) ∙ some_counted (is_write_handle c.args.board c.args.entry) ts ∙ ap (list_any (is_write_handle c.args.board c.args.entry)) c.self.view_is

pub returns-in-None : goal.returns-in-None
returns-in-None c =
    let ts = standing c.self.inside.places.items in
    let kept = subst (IsTaken c.args.board ts) (sym c.get.ensures.value ∙ ap option_copied c.in-None.is) (c.self.invariant.1 c.args.board) in
    ap is_some (kept.handles c.args.entry) ∙ some_counted (is_write_handle c.args.board c.args.entry) ts ∙ ap (list_any (is_write_handle c.args.board c.args.entry)) c.self.view_is
