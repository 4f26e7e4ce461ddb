use Rattle.std.proofs.Common.{◌≡◌, refl, true, false, sym, ◌∙◌}
use Rattle.script_boards.specs.Machine.{task_of}
use Rattle.script_boards.specs.Steps.{was_abandoned}
use Rattle.script_boards.proofs.Abandonments.{abandon_again, abandoned_is, party_leaves}
use Rattle.script_boards.proofs.PartyTasks.{is_free}
use Rattle.script_boards.proofs.StepWants.{anyway}
use Rattle.script_boards.proofs.machine.BoardMachine.abandon.Goals as goal

pub returns-then-is_gone-clause-serves : goal.returns-then-is_gone-clause-serves
returns-then-is_gone-clause-serves g c =
    let m = c.args.self.now in
    let party = c.args.party in
    let was : was_abandoned (task_of m party) ≡ true = sym c.is_gone.ensures ∙ c.if-is_gone.true in
    λ s rep reached l. (abandon_again s party (abandoned_is (task_of m party) (s.parties party) was (rep.parties party)) l, rep)

pub returns-clause-serves : goal.returns-clause-serves
returns-clause-serves g c =
    let m = c.args.self.now in
    let party = c.args.party in
    let was : was_abandoned (task_of m party) ≡ false = sym c.is_gone.ensures ∙ c.if-is_gone.false in
    λ s rep reached l. party_leaves m _ s rep party l (record { domain = refl; values = refl; loans = refl }) was c.in_ok-put.ensures.put

pub returns-in_err-put-clause-memory : goal.returns-in_err-put-clause-memory
returns-in_err-put-clause-memory g c =
    let m = c.args.self.now in
    anyway c.from_residual.result _ (λ s rep reached. rw (is_free (task_of m) s.parties rep.parties c.args.party c.in_err-put.ensures.absent) refl)

pub returns-in_err-put-clause-held : goal.returns-in_err-put-clause-held
returns-in_err-put-clause-held g c = anyway c.from_residual.result _ (record { domain = refl; values = refl; loans = refl })

pub returns-in_err-put-clause-parties : goal.returns-in_err-put-clause-parties
returns-in_err-put-clause-parties g c = anyway c.from_residual.result _ c.in_err-put.ensures.same
