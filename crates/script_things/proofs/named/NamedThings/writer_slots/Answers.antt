use Rattle.std.proofs.Common.{sym, ap, subst, ◌∙◌}
use Rattle.std.specs.Prelude.{option_copied}
use Rattle.board_model.specs.Tables.{writer_slots}
use Rattle.script_things.specs.Taken.{IsTaken}
use Rattle.script_things.specs.Places.{standing}
use Rattle.script_things.proofs.ToldLemmas.{no_slots, slots_counted}
use Rattle.script_things.proofs.named.NamedThings.writer_slots.Goals as goal

pub returns-in-Some : goal.returns-in-Some
returns-in-Some c =
    let ts = standing c.self.inside.places.items in
    let kept = subst (IsTaken c.args.board ts) (sym c.get.ensures.value ∙ ap option_copied c.in-Some.is) (c.self.invariant.1 c.args.board) in
    c.len.ensures.len ∙ slots_counted c.args.board ts c.in-Some.taken.now.ports c.len.ensures.unique kept.ports ∙ ap (writer_slots c.args.board) c.self.view_is

pub returns-in-None : goal.returns-in-None
returns-in-None c =
    let ts = standing c.self.inside.places.items in
    let kept = subst (IsTaken c.args.board ts) (sym c.get.ensures.value ∙ ap option_copied c.in-None.is) (c.self.invariant.1 c.args.board) in
    no_slots c.args.board ts kept.ports ∙ ap (writer_slots c.args.board) c.self.view_is
