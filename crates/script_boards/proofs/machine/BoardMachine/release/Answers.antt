use Rattle.std.proofs.Common.{◌≡◌, rules, sym, ◌∙◌, true, false}
use Rattle.script_boards.specs.Begins.{holds}
use Rattle.script_boards.specs.Machine.{task_of}
use Rattle.script_boards.proofs.PartyTasks.{is_free}
use Rattle.script_boards.proofs.Releases.{release_refused, release_unknown, released_right}
use Rattle.script_boards.proofs.machine.BoardMachine.release.Goals as goal

pub returns-in-Some-clause-serves : goal.returns-in-Some-clause-serves
returns-in-Some-clause-serves g c =
    λ s rep reached l.
    (release_refused c.args.self.now s rep c.args.party.now c.args.name.now l c.in-Some.why (sym c.in-Some.is ∙ c.refusal_of_party.ensures.reason s rep), rep)

pub returns-then-not-holds-clause-serves : goal.returns-then-not-holds-clause-serves
returns-then-not-holds-clause-serves g c =
    let m = c.args.self.now in
    let held : holds m c.args.party.now c.args.name.now ≡ false = search rules in
    λ s rep reached l.
    (release_unknown m s rep c.args.party.now c.args.name.now l (is_free (task_of m) s.parties rep.parties c.args.party.now c.in_default.ensures.free) held, rep)

pub returns-clause-serves : goal.returns-clause-serves
returns-clause-serves g c =
    let m = c.args.self.now in
    let held : holds m c.args.party.now c.args.name.now ≡ true = search rules in
    λ s rep reached l.
    released_right m s rep c.args.party.now c.args.name.now l c.let_go.new.self (is_free (task_of m) s.parties rep.parties c.args.party.now c.in_default.ensures.free) held c.let_go.ensures
