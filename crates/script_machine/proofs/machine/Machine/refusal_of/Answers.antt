use Rattle.std.proofs.Common.{sym, ◌∙◌}
use Rattle.script_machine.proofs.UnkeptLines.{told_busy, told_taken, told_unfree, told_unrefused, told_untyped}
use Rattle.script_machine.proofs.machine.Machine.refusal_of.Goals as goal

pub returns-then-runs : goal.returns-then-runs
returns-then-runs g c = λ s count rep reached l formed known.
    told_busy s l c.args.line.now known (sym (c.runs.ensures s.events count reached.few reached.sound.events rep.events) ∙ c.if-runs.true)

pub returns-in-Some : goal.returns-in-Some
returns-in-Some g c = λ s count rep reached l formed known.
    told_unfree s l c.args.line.now known c.in-Some.why (sym (c.runs.ensures s.events count reached.few reached.sound.events rep.events) ∙ c.if-runs.false) (sym (c.refusal_of_party.ensures.reason s.boards rep.boards) ∙ c.in-Some.is)

pub returns-then-holds : goal.returns-then-holds
returns-then-holds g c = λ s count rep reached l formed known.
    told_taken s l c.args.line.now known (sym (c.runs.ensures s.events count reached.few reached.sound.events rep.events) ∙ c.if-runs.false) (sym (c.refusal_of_party.ensures.reason s.boards rep.boards) ∙ c.in_default.is)
    (sym (c.holds.ensures s count rep reached) ∙ c.if-holds.true)

pub returns-then-not-line : goal.returns-then-not-line
returns-then-not-line g c = λ s count rep reached l formed known.
    told_untyped s l c.args.line.now known (sym (c.runs.ensures s.events count reached.few reached.sound.events rep.events) ∙ c.if-runs.false) (sym (c.refusal_of_party.ensures.reason s.boards rep.boards) ∙ c.in_default.is)
    (sym (c.holds.ensures s count rep reached) ∙ c.if-holds.false) c.if-not-line.true

pub returns : goal.returns
returns g c = λ s count rep reached l formed known.
    told_unrefused s l c.args.line.now known (sym (c.runs.ensures s.events count reached.few reached.sound.events rep.events) ∙ c.if-runs.false) (sym (c.refusal_of_party.ensures.reason s.boards rep.boards) ∙ c.in_default.is)
    (sym (c.holds.ensures s count rep reached) ∙ c.if-holds.false) c.if-not-line.false
