use Rattle.std.proofs.Common.{◌<◌, ℕ, ◌^◌, List, Option, rules, refl, sym, ap, subst, ◌∙◌}
use Rattle.script_boards.specs.declared.machine.Task.{Task}
use Rattle.script_boards.specs.declared.step.OwedAccess.TheVariants as owed
use Rattle.script_boards.specs.LoanCalls.{CanSettle, IsSettled}
use Rattle.script_boards.specs.Machine.{task_of}
use Rattle.script_boards.proofs.OwedTasks.{can_go_on, owed_is, owed_runs, was_found}
use Rattle.script_boards.proofs.OwedWords.{task_goes_on}
use Rattle.script_boards.proofs.WriteSteps.{can_settle, task_has_word, write_ends, write_goes_on}
use Rattle.script_boards.proofs.machine.BoardMachine.step_write.Goals as goal

pub write_word-requires : goal.write_word-requires
write_word-requires g c =
    let m = c.args.self.now in
    let party = c.args.party.now in
    let o = owed.Write c.args.write in
    let owes = c.requires.owes in
    let led = c.requires.led in
    task_has_word m led.state led.represents led.reached.sound party owes.task (owed_runs m party o owes led.state led.represents) c.args.write owes.owes

pub go_on-requires : goal.go_on-requires
go_on-requires g c =
    let m = c.args.self.now in
    let party = c.args.party.now in
    let o = owed.Write c.args.write in
    let owes = c.requires.owes in
    let led = c.requires.led in
    can_go_on (task_of c.write_word.new.self party) owes.task (ap (λ (f : List ℕ → Option Task). f party) c.write_word.ensures.rest.parties ∙ owes.stands)
    (task_goes_on led.state led.reached.sound party owes.task (owed_runs m party o owes led.state led.represents))

pub unreachable-requires : goal.unreachable-requires
unreachable-requires g c =
    let m = c.args.self.now in
    let party = c.args.party.now in
    was_found m party (owed.Write c.args.write) c.requires.owes c.take.result (c.take.ensures.task ∙ ap (λ (f : List ℕ → Option Task). f party) c.write_word.ensures.rest.parties) c.in_default.is

pub settle-requires : goal.settle-requires
settle-requires g c =
    let m = c.args.self.now in
    let party = c.args.party.now in
    let o = owed.Write c.args.write in
    let owes = c.requires.owes in
    let led = c.requires.led in
    let runs = owed_runs m party o owes led.state led.represents in
    let is = owed_is m party o owes c.take.result c.in-Some.task (c.take.ensures.task ∙ ap (λ (f : List ℕ → Option Task). f party) c.write_word.ensures.rest.parties) c.in-Some.is in
    let mid = record c.write_word.new.self { parties = c.take.new.self } in
    subst (λ (t : Task). CanSettle mid party t) (sym is) (can_settle m led.state led.represents led.reached.sound party owes.task runs mid c.write_word.ensures.rest.loans owes.task runs.task)

pub returns-in-Some-clause-serves : goal.returns-in-Some-clause-serves
returns-in-Some-clause-serves g c =
    let m = c.args.self.now in
    let party = c.args.party.now in
    let o = owed.Write c.args.write in
    let owes = c.requires.owes in
    let board : c.args.write.board < 2 ^ 64 = search rules in
    let word : c.args.write.word < 2 ^ 64 = search rules in
    let value : c.args.write.value < 2 ^ 64 = search rules in
    let is = owed_is m party o owes c.take.result c.in-Some.task (c.take.ensures.task ∙ ap (λ (f : List ℕ → Option Task). f party) c.write_word.ensures.rest.parties) c.in-Some.is in
    let mid = record c.write_word.new.self { parties = c.take.new.self } in
    let settled = subst (λ (t : Task). IsSettled mid c.settle.new.self party t) is c.settle.ensures in
    λ s rep reached l.
    write_ends m s rep reached.sound party owes.task (owed_runs m party o owes s rep) c.args.write owes.owes c.write_word.new.self c.write_word.ensures
    (record { board = board; word = word; value = value }) l mid c.settle.new.self refl refl refl refl c.take.ensures.rest c.if-write.true settled

pub returns-else-write-clause-serves : goal.returns-else-write-clause-serves
returns-else-write-clause-serves g c =
    let m = c.args.self.now in
    let party = c.args.party.now in
    let o = owed.Write c.args.write in
    let owes = c.requires.owes in
    let board : c.args.write.board < 2 ^ 64 = search rules in
    let word : c.args.write.word < 2 ^ 64 = search rules in
    let value : c.args.write.value < 2 ^ 64 = search rules in
    λ s rep reached l.
    write_goes_on m s rep reached.sound party owes.task (owed_runs m party o owes s rep) c.args.write owes.owes c.write_word.new.self c.write_word.ensures
    (record { board = board; word = word; value = value }) l _ refl refl refl refl c.if-write.false
    (c.go_on.ensures owes.task (ap (λ (f : List ℕ → Option Task). f party) c.write_word.ensures.rest.parties ∙ owes.stands))
