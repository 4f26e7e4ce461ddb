use Rattle.std.proofs.Common.{◌≡◌, rules, refl, true, false, None}
use Rattle.script_boards.specs.Machine.{task_of}
use Rattle.script_boards.specs.Steps.{is_gone}
use Rattle.script_boards.proofs.PartyTasks.{a_task, gone_at, is_free, is_running}
use Rattle.script_boards.proofs.machine.BoardMachine.refusal_of_party.Goals as goal

pub returns-in_default-clause-reason : goal.returns-in_default-clause-reason
returns-in_default-clause-reason g c =
    let m = c.args.self.now in
    let none : task_of m c.args.party.now ≡ None = search rules in
    λ s rep. rw (is_free (task_of m) s.parties rep.parties c.args.party.now none) refl

pub returns-then-is_gone-clause-reason : goal.returns-then-is_gone-clause-reason
returns-then-is_gone-clause-reason g c =
    let m = c.args.self.now in
    let t = c.in-Some.task.now in
    let stands : task_of m c.args.party.now ≡ a_task t = search rules in
    let gone : is_gone t ≡ true = search rules in
    λ s rep. rw (gone_at (task_of m) s.parties rep.parties c.args.party.now t stands gone) refl

pub returns-else-is_gone-clause-reason : goal.returns-else-is_gone-clause-reason
returns-else-is_gone-clause-reason g c =
    let m = c.args.self.now in
    let t = c.in-Some.task.now in
    let stands : task_of m c.args.party.now ≡ a_task t = search rules in
    let not_gone : is_gone t ≡ false = search rules in
    λ s rep. rw (is_running (task_of m) s.parties rep.parties c.args.party.now t stands not_gone).runs refl
