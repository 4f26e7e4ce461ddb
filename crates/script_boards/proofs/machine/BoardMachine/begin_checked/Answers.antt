use Rattle.std.proofs.Common.{refl, subst}
use Rattle.std.specs.Prelude.{Result}
use Rattle.script_boards.proofs.StepWants.{anyway}
use Rattle.board_model.specs.Requests.{request_of}
use Rattle.board_model.specs.LawfulSession.{call_reason}
use Rattle.script_boards.specs.Begins.{IsChecked}
use Rattle.script_boards.specs.Machine.{task_of}
use Rattle.script_boards.specs.declared.machine.Task.{Task}
use Rattle.script_boards.specs.declared.not_begun.NotBegun.{NotBegun}
use Rattle.script_boards.proofs.CallChecks.{begin_begun, begin_takes}
use Rattle.script_boards.proofs.PartyTasks.{is_free}
use Rattle.script_boards.proofs.machine.BoardMachine.begin_checked.Goals as goal

pub returns-in_ok-put-in-Ok-clause-serves : goal.returns-in_ok-put-in-Ok-clause-serves
returns-in_ok-put-in-Ok-clause-serves g c =
    let m = c.args.self.now in
    let party = c.args.party in
    λ call checks s rep reached l.
    let checked = subst (λ (r : Result Task NotBegun). IsChecked (call_reason s.standing party call (request_of s.standing s.published party call)) (request_of s.standing s.published party call) r) c.in-Ok.is (checks s rep reached.sound) in
    begin_begun m _ s rep party call c.in-Ok.task (is_free (task_of m) s.parties rep.parties party c.requires) checked refl refl refl refl
    c.in_ok-put-in-Ok.ensures.put l

pub returns-in_err-put-in-Ok-clause-memory : goal.returns-in_err-put-in-Ok-clause-memory
returns-in_err-put-in-Ok-clause-memory g c =
    let party = c.args.party in
    anyway c.from_residual.result _ (λ call checks s rep reached.
    let checked = subst (λ (r : Result Task NotBegun). IsChecked (call_reason s.standing party call (request_of s.standing s.published party call)) (request_of s.standing s.published party call) r) c.in-Ok.is (checks s rep reached.sound) in
    begin_takes s party call (is_free (task_of c.args.self.now) s.parties rep.parties party c.requires) checked.0)
