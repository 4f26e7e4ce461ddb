use Rattle.std.proofs.Common.{◌≡◌, rules, true, false, None}
use Rattle.script_boards.specs.Machine.{task_of}
use Rattle.script_boards.specs.Steps.{is_gone}
use Rattle.script_boards.proofs.OwedWords.{task_goes_on}
use Rattle.script_boards.proofs.PartyTasks.{a_task, gone_at, is_free, is_running}
use Rattle.script_boards.proofs.StepRefusals.{step_gone, step_idle}
use Rattle.script_boards.proofs.machine.BoardMachine.step.Goals as goal

pub returns-in_default-clause-serves : goal.returns-in_default-clause-serves
returns-in_default-clause-serves g c =
    let m = c.args.self.now in
    let none : task_of m c.args.party.now ≡ None = search rules in
    λ s rep reached l. (step_idle s c.args.party.now (is_free (task_of m) s.parties rep.parties c.args.party.now none) l, rep)

pub returns-then-is_gone-clause-serves : goal.returns-then-is_gone-clause-serves
returns-then-is_gone-clause-serves g c =
    let m = c.args.self.now in
    let t = c.in-Some.task.now in
    let stands : task_of m c.args.party.now ≡ a_task t = search rules in
    let gone : is_gone t ≡ true = search rules in
    λ s rep reached l. (step_gone s c.args.party.now (gone_at (task_of m) s.parties rep.parties c.args.party.now t stands gone) l, rep)

pub owed-requires : goal.owed-requires
owed-requires g c =
    let m = c.args.self.now in
    let t = c.in-Some.task.now in
    let stands : task_of m c.args.party.now ≡ a_task t = search rules in
    let not_gone : is_gone t ≡ false = search rules in
    let led = c.requires in
    task_goes_on led.state led.reached.sound c.args.party.now t (is_running (task_of m) led.state.parties led.represents.parties c.args.party.now t stands not_gone)

pub step_table-requires-clause-owes : goal.step_table-requires-clause-owes
step_table-requires-clause-owes g c =
    let stands : task_of c.args.self.now c.args.party.now ≡ a_task c.in-Some.task.now = search rules in
    record { task = c.in-Some.task.now; stands = stands; owes = c.in-Table.ensures }

pub step_read-requires-clause-owes : goal.step_read-requires-clause-owes
step_read-requires-clause-owes g c =
    let stands : task_of c.args.self.now c.args.party.now ≡ a_task c.in-Some.task.now = search rules in
    record { task = c.in-Some.task.now; stands = stands; owes = c.in-Read.ensures }

pub step_write-requires-clause-owes : goal.step_write-requires-clause-owes
step_write-requires-clause-owes g c =
    let stands : task_of c.args.self.now c.args.party.now ≡ a_task c.in-Some.task.now = search rules in
    record { task = c.in-Some.task.now; stands = stands; owes = c.in-Write.ensures }
