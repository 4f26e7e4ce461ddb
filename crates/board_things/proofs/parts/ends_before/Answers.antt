use Rattle.std.proofs.Common.{◌∙◌, ◌-◌, List, Option, ap, length}
use Rattle.std.specs.Prelude.{slice_get}
use Rattle.board_things.proofs.Joined.{last_given, less_or_none}
use Rattle.board_things.proofs.Pairs.{Pair}
use Rattle.board_things.proofs.parts.ends_before.Goals as goal

pub returns-in-Some : goal.returns-in-Some
returns-in-Some c =
    let board = c.args.board in
    let node = c.args.node in
    c.comes_before.ensures ∙ ap (λ (o : Option Pair). less_or_none board node o) c.in-Some.ensures.value
    ∙ ap (λ (ps : List Pair). less_or_none board node (slice_get ps (length ps - 1))) c.pairs.ensures ∙ last_given board node c.args.part.now
