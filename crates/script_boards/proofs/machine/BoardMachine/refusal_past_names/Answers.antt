use Rattle.std.proofs.Common.{sym, subst}
use Rattle.board_model.specs.Requests.{request_of}
use Rattle.board_model.specs.LawfulSession.{call_reason}
use Rattle.script_boards.specs.Machine.{Represents, task_of}
use Rattle.script_boards.proofs.CallChecks.{reason_for, wanted_for}
use Rattle.script_boards.proofs.PartyTasks.{is_free}
use Rattle.script_boards.proofs.PastNames.{past_begun, past_refused, past_wanted}
use Rattle.script_boards.proofs.machine.BoardMachine.refusal_past_names.Goals as goal
use Rattle.script_boards.proofs.machine.BoardMachine.refusal_past_names.Goals.{in-Ok, in-Err-Refused, in-Err-OutOfMemory}

pub returns-clause-told : goal.returns-clause-told
returns-clause-told g c =
    let m = c.args.self.now in
    let party = c.args.party.now in
    let call = c.args.call in
    elim c.match-check.branch [
      | in-Ok w ↦ rw w.result-is (λ s rep reached.
          past_begun s party call w.in-Ok.field-0 (is_free (task_of m) s.parties rep.parties party c.in_default.ensures.free)
          (w.in-Ok.ensures s (subst (λ x. Represents x s) (sym c.generation_for-generation.ensures.same) rep) reached.sound))
      | in-Err-Refused w ↦ rw (w.result-is, w.past_names.ensures) (λ s rep reached.
          past_refused s party call w.in-Err-Refused.why (is_free (task_of m) s.parties rep.parties party c.in_default.ensures.free)
          (reason_for (call_reason s.standing party call (request_of s.standing s.published party call)) (request_of s.standing s.published party call) w.in-Err-Refused.field-0 w.in-Err-Refused.why w.in-Err-Refused.field-0-is
          (w.in-Err-Refused.ensures s (subst (λ x. Represents x s) (sym c.generation_for-generation.ensures.same) rep) reached.sound)))
      | in-Err-OutOfMemory w ↦ rw w.result-is (λ s rep reached.
          past_wanted s party call (is_free (task_of m) s.parties rep.parties party c.in_default.ensures.free)
          (wanted_for (call_reason s.standing party call (request_of s.standing s.published party call)) (request_of s.standing s.published party call) w.in-Err-OutOfMemory.field-0 w.in-Err-OutOfMemory.field-0-is
          (w.in-Err-OutOfMemory.ensures s (subst (λ x. Represents x s) (sym c.generation_for-generation.ensures.same) rep) reached.sound)))
    ]
