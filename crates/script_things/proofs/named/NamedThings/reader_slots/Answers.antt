use Rattle.std.proofs.Common.{sym, ap, subst, ◌∙◌}
use Rattle.std.specs.Prelude.{option_copied}
use Rattle.board_model.specs.Tables.{reader_slots}
use Rattle.script_things.specs.Taken.{IsTaken}
use Rattle.script_things.specs.Places.{standing}
use Rattle.script_things.proofs.named.NamedThings.reader_slots.Goals as goal

pub returns-in-Some : goal.returns-in-Some
returns-in-Some c =
    let ts = standing c.self.inside.places.items in
    let kept = subst (IsTaken c.args.board ts) (sym c.get.ensures.value ∙ ap option_copied c.in-Some.is) (c.self.invariant.1 c.args.board) in
    kept.readers ∙ ap (reader_slots c.args.board) c.self.view_is

pub returns-in-None : goal.returns-in-None
returns-in-None c =
    let ts = standing c.self.inside.places.items in
    let kept = subst (IsTaken c.args.board ts) (sym c.get.ensures.value ∙ ap option_copied c.in-None.is) (c.self.invariant.1 c.args.board) in
    kept.readers ∙ ap (reader_slots c.args.board) c.self.view_is
