use Rattle.std.proofs.Common.{Some, None, ap, ◌-◌, ◌∙◌, ◌<◌, ◌≤◌, arith}
use Rattle.std.proofs.lemmas.Bool.Decides.{nat_tests}
use Rattle.script_things.specs.Taken.{counted}
use Rattle.script_things.proofs.TakenLemmas.{node_lowered, none_left, some_left}
use Rattle.script_things.proofs.taken.lower_node.Goals as goal

pub returns-in-Ok : goal.returns-in-Ok
returns-in-Ok c =
    let n = c.things_of-things.result in
    let more : 1 < n = grind (arith, nat_tests, c.if-things-gt1.true) in
    node_lowered c.args.nodes.now c.insert.new.self c.args.party.now (Some (n - 1)) c.in-Ok.ensures.updates.0 (some_left n more ∙ ap (λ m. counted (m - 1)) c.things_of-things.ensures)

pub returns-else-things-gt1 : goal.returns-else-things-gt1
returns-else-things-gt1 c =
    let n = c.things_of-things.result in
    let few : n ≤ 1 = grind (arith, nat_tests, c.if-things-gt1.false) in
    node_lowered c.args.nodes.now c.remove.new.self c.args.party.now None c.remove.ensures.updates.0 (none_left n few ∙ ap (λ m. counted (m - 1)) c.things_of-things.ensures)
