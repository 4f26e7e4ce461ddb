use Rattle.std.proofs.Common.{◌≡◌, ℕ, List, Option, Some, subst, sym, ◌∙◌}
use Rattle.std.specs.Prelude.{IfSome}
use Rattle.board_model.specs.Things.{is_held}
use Rattle.script_model.specs.ScriptEvents.{name_made}
use Rattle.script_machine.proofs.machine.Machine.takes_board_name.Goals as goal

pub returns-in-Some : goal.returns-in-Some
returns-in-Some g c = λ s count rep reached.
    let e : name_made c.args.request.now ≡ Some c.in-Some.name = sym c.name_made.ensures ∙ c.in-Some.is in
    subst (λ (o : Option (List ℕ)). IfSome o (λ name. c.is_held.result ≡ is_held s.boards.standing c.args.party.now name)) (sym e) (c.is_held.ensures s.boards rep.boards)
