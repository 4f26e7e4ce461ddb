use Rattle.std.proofs.Common.{ℕ, refl, subst, Option}
use Rattle.script_judge.specs.declared.task.Task.TheVariants as task
use Rattle.script_event_tables.specs.EventTables.{HasNotified}
use Rattle.script_judge.proofs.EventSteps.{notifier_made, notifier_refused, sound_table}
use Rattle.script_judge.proofs.judge.Judge.made_notifier.Goals as goal

pub notifier-requires : goal.notifier-requires
notifier-requires c = sound_table c.args.self.now c.args.party.now task.Gone c.requires.state c.requires.count c.requires.represents c.requires.reached

pub returns-in_ok-hold-in-Some : goal.returns-in_ok-hold-in-Some
returns-in_ok-hold-in-Some c = λ s count rep out reached.
    notifier_made c.args.self.now (record c.args.self.now { events = c.notifier.new.self }) c.hold.new.self c.args.party.now c.args.name c.args.kind c.args.event.now s count rep out c.in-Some.number
    (subst (λ (o : Option ℕ). HasNotified c.args.self.now.events c.notifier.new.self c.args.kind c.args.event.now o) c.in-Some.is c.notifier.ensures) refl (λ p m. refl) (λ p. refl) c.in_ok-hold-in-Some.ensures

pub returns-in-None : goal.returns-in-None
returns-in-None c = λ s count rep out reached.
    notifier_refused c.args.self.now c.args.self.now (record c.args.self.now { events = c.notifier.new.self }) c.args.party.now c.args.name c.args.kind c.args.event.now s count rep out
    (subst (λ (o : Option ℕ). HasNotified c.args.self.now.events c.notifier.new.self c.args.kind c.args.event.now o) c.in-None.is c.notifier.ensures) refl (λ p m. refl) (λ p. refl)
