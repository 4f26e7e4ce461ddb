use Rattle.std.proofs.Common.{◌≡◌, ℕ, ◌<◌, ◌^◌, List, Option, true, rules, sym, ap, subst, ◌∙◌}
use Rattle.board_model.specs.Replies.{ask}
use Rattle.script_parties.specs.Parties.{Parties}
use Rattle.script_boards.specs.declared.machine.Task.{Task}
use Rattle.script_boards.specs.declared.step.OwedAccess.TheVariants as owed
use Rattle.script_boards.specs.Machine.{task_of}
use Rattle.script_boards.specs.Steps.{HasRead}
use Rattle.script_boards.specs.TaskWants.{keeps_value}
use Rattle.script_boards.proofs.OwedTasks.{can_go_on, has_read, heard_last, heard_more, owed_runs}
use Rattle.script_boards.proofs.OwedWords.{task_goes_on}
use Rattle.script_boards.proofs.ReadSteps.{read_ends, read_goes_on, task_has_read, word_stands}
use Rattle.script_boards.proofs.StepWants.{anyway, get_takes}
use Rattle.script_boards.proofs.machine.BoardMachine.step_read.Goals as goal

pub read_word-value-requires : goal.read_word-value-requires
read_word-value-requires g c =
    let m = c.args.self.now in
    let party = c.args.party.now in
    let o = owed.Read c.args.read in
    let owes = c.requires.owes in
    let led = c.requires.led in
    task_has_read m led.state led.represents led.reached.sound party owes.task (owed_runs m party o owes led.state led.represents) c.args.read owes.owes

pub hear-requires : goal.hear-requires
hear-requires g c =
    let m = c.args.self.now in
    let party = c.args.party.now in
    let o = owed.Read c.args.read in
    let owes = c.requires.owes in
    let led = c.requires.led in
    can_go_on (task_of c.read_word-value.new.self party) owes.task (ap (λ (f : List ℕ → Option Task). f party) c.read_word-value.ensures.same.rest.parties ∙ owes.stands)
    (task_goes_on led.state led.reached.sound party owes.task (owed_runs m party o owes led.state led.represents))

pub tell_read-requires : goal.tell_read-requires
tell_read-requires g c =
    let m = c.args.self.now in
    let party = c.args.party.now in
    let owes = c.requires.owes in
    let same = c.read_word-value.ensures.same in
    let v = c.read_word-value.result in
    let heard = c.hear.ensures owes.task (ap (λ (f : List ℕ → Option Task). f party) same.rest.parties ∙ owes.stands) in
    let mid = record c.read_word-value.new.self { parties = c.hear.new.self } in
    let ends = heard_last (task_of m) (task_of c.read_word-value.new.self) (task_of mid) party owes.task v same.rest.parties c.hear.result c.in-Some.task heard c.in-Some.is in
    subst HasRead (sym ends.task) (has_read owes.task c.args.read v owes.owes ends.last)

pub returns-in-None-clause-serves : goal.returns-in-None-clause-serves
returns-in-None-clause-serves g c =
    let m = c.args.self.now in
    let party = c.args.party.now in
    let o = owed.Read c.args.read in
    let owes = c.requires.owes in
    let same = c.read_word-value.ensures.same in
    let v = c.read_word-value.result in
    let board : c.args.read.board < 2 ^ 64 = search rules in
    let word : c.args.read.word < 2 ^ 64 = search rules in
    let value : v < 2 ^ 64 = search rules in
    let heard = c.hear.ensures owes.task (ap (λ (f : List ℕ → Option Task). f party) same.rest.parties ∙ owes.stands) in
    let mid = record c.read_word-value.new.self { parties = c.hear.new.self } in
    let goes = heard_more (task_of m) (task_of c.read_word-value.new.self) (task_of mid) party owes.task v same.rest.parties c.hear.result heard c.in-None.is in
    λ s rep reached l.
    read_goes_on m s rep reached.sound party owes.task (owed_runs m party o owes s rep) c.args.read owes.owes v c.read_word-value.ensures.value board word value l _
    (ap (λ (d : Parties). d.tables) same.domain) (ap (λ (d : Parties). d.words) same.domain) same.rest.values same.rest.loans goes

pub returns-in_ok-told-in-Some-clause-serves : goal.returns-in_ok-told-in-Some-clause-serves
returns-in_ok-told-in-Some-clause-serves g c =
    let m = c.args.self.now in
    let party = c.args.party.now in
    let o = owed.Read c.args.read in
    let owes = c.requires.owes in
    let same = c.read_word-value.ensures.same in
    let v = c.read_word-value.result in
    let board : c.args.read.board < 2 ^ 64 = search rules in
    let word : c.args.read.word < 2 ^ 64 = search rules in
    let value : v < 2 ^ 64 = search rules in
    let heard = c.hear.ensures owes.task (ap (λ (f : List ℕ → Option Task). f party) same.rest.parties ∙ owes.stands) in
    let mid = record c.read_word-value.new.self { parties = c.hear.new.self } in
    let ends = heard_last (task_of m) (task_of c.read_word-value.new.self) (task_of mid) party owes.task v same.rest.parties c.hear.result c.in-Some.task heard c.in-Some.is in
    λ s rep reached l.
    read_ends m s rep reached.sound party owes.task (owed_runs m party o owes s rep) c.args.read owes.owes v c.read_word-value.ensures.value board word value l mid c.tell_read.new.self
    (ap (λ (d : Parties). d.tables) same.domain) (ap (λ (d : Parties). d.words) same.domain) same.rest.values same.rest.loans c.in-Some.task ends c.in_ok-told-in-Some.told c.in_ok-told-in-Some.ensures.told c.in_ok-told-in-Some.ensures.is_reply

pub returns-in_err-told-in-Some-clause-memory : goal.returns-in_err-told-in-Some-clause-memory
returns-in_err-told-in-Some-clause-memory g c =
    let m = c.args.self.now in
    let party = c.args.party.now in
    let o = owed.Read c.args.read in
    let owes = c.requires.owes in
    let same = c.read_word-value.ensures.same in
    let v = c.read_word-value.result in
    let heard = c.hear.ensures owes.task (ap (λ (f : List ℕ → Option Task). f party) same.rest.parties ∙ owes.stands) in
    let mid = record c.read_word-value.new.self { parties = c.hear.new.self } in
    let ends = heard_last (task_of m) (task_of c.read_word-value.new.self) (task_of mid) party owes.task v same.rest.parties c.hear.result c.in-Some.task heard c.in-Some.is in
    let keeps = subst (λ (t : Task). keeps_value t ≡ true) ends.task c.in_err-told-in-Some.ensures.memory in
    anyway c.from_residual.result _ (λ s rep reached.
    let runs = owed_runs m party o owes s rep in
    rw runs.runs
    (get_takes s.memory (ask s.standing s.published party runs.r.request).reply runs.r owes.task c.args.read v runs.task owes.owes
    (word_stands m s rep reached.sound party owes.task runs c.args.read owes.owes v c.read_word-value.ensures.value) keeps (task_goes_on s reached.sound party owes.task runs) ends.last))
