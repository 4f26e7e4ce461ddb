use Rattle.std.proofs.Common.{refl, sym, subst, ◌∙◌}
use Rattle.script_boards.specs.declared.machine.Task.{Task}
use Rattle.script_boards.specs.declared.step.OwedAccess.TheVariants as owed
use Rattle.script_boards.specs.Machine.{IsTableTask, IsTaskOf}
use Rattle.script_boards.proofs.Bounds.{bounded}
use Rattle.script_boards.proofs.OwedTasks.{owed_is, owed_runs}
use Rattle.script_boards.proofs.StepWants.{anyway, task_takes}
use Rattle.script_boards.proofs.TableSteps.{task_can_run, task_right}
use Rattle.script_boards.proofs.machine.BoardMachine.step_table.Goals as goal

pub run_table-requires : goal.run_table-requires
run_table-requires g c =
    let m = c.args.self.now in
    let party = c.args.party.now in
    let owes = c.requires.owes in
    let led = c.requires.led in
    let runs = owed_runs m party owed.Table owes led.state led.represents in
    let is = owed_is m party owed.Table owes c.take.result c.in-Some.task c.take.ensures.task c.in-Some.is in
    let asked : IsTableTask c.in-Table.task runs.r.request = subst (λ (t : Task). IsTaskOf t runs.r.request runs.r.so_far) (sym is ∙ c.in-Table.is) runs.task in
    let mid = record m { parties = c.take.new.self } in
    task_can_run m led.state led.represents led.reached party owes.task runs mid m refl refl c.take.ensures.rest refl refl c.in-Table.task (bounded led.state led.reached) led.few asked

pub returns-clause-serves : goal.returns-clause-serves
returns-clause-serves g c =
    let m = c.args.self.now in
    let party = c.args.party.now in
    let owes = c.requires.owes in
    let is = owed_is m party owed.Table owes c.take.result c.in-Some.task c.take.ensures.task c.in-Some.is in
    let mid = record m { parties = c.take.new.self } in
    λ s rep reached l.
    let runs = owed_runs m party owed.Table owes s rep in
    let asked : IsTableTask c.in-Table.task runs.r.request = subst (λ (t : Task). IsTaskOf t runs.r.request runs.r.so_far) (sym is ∙ c.in-Table.is) runs.task in
    task_right m s rep reached party owes.task runs mid c.run_table.new.self refl refl c.take.ensures.rest refl refl c.in-Table.task c.in_ok-told-in-Table.told asked c.in_ok-told-in-Table.ensures.told l

pub returns-in_err-told-in-Table-clause-memory : goal.returns-in_err-told-in-Table-clause-memory
returns-in_err-told-in-Table-clause-memory g c =
    let m = c.args.self.now in
    let party = c.args.party.now in
    let owes = c.requires.owes in
    let is = owed_is m party owed.Table owes c.take.result c.in-Some.task c.take.ensures.task c.in-Some.is in
    let mid = record m { parties = c.take.new.self } in
    anyway c.from_residual.result _ (λ s rep reached.
    let runs = owed_runs m party owed.Table owes s rep in
    let asked : IsTableTask c.in-Table.task runs.r.request = subst (λ (t : Task). IsTaskOf t runs.r.request runs.r.so_far) (sym is ∙ c.in-Table.is) runs.task in
    rw runs.runs (task_takes mid s rep.tables party runs.r.so_far c.in-Table.task runs.r.request asked c.in_err-told-in-Table.ensures.memory))
