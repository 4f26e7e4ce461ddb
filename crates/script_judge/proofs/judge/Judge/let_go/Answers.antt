use Rattle.std.proofs.Common.{refl, ap, ◌∙◌, Some}
use Rattle.script_judge.specs.declared.task.EventThing.TheVariants as thing
use Rattle.script_judge.specs.declared.task.EventThing.{EventThing}
use Rattle.script_judge.proofs.EventSteps.{listener_goes, notifier_goes, thing_made}
use Rattle.script_judge.proofs.judge.Judge.let_go.Goals as goal

pub release_listener-requires : goal.release_listener-requires
release_listener-requires c = thing_made c.args.self.now c.requires.led c.args.party.now c.args.name.now (thing.Listener c.in-Listener.number) (c.requires.held ∙ ap (λ (t : EventThing). Some t) c.in-Listener.is)

pub returns-in-Listener : goal.returns-in-Listener
returns-in-Listener c = λ s count rep reached.
    listener_goes c.args.self.now (record c.args.self.now { events = c.release_listener.new.self }) c.forget.new.self c.args.party.now c.args.name.now s count rep reached refl (λ p n. refl) (λ p. refl) c.forget.ensures
    c.in-Listener.number (c.requires.held ∙ ap (λ (t : EventThing). Some t) c.in-Listener.is) c.release_listener.ensures

pub release_notifier-requires : goal.release_notifier-requires
release_notifier-requires c = thing_made c.args.self.now c.requires.led c.args.party.now c.args.name.now (thing.Notifier c.in-Notifier.number) (c.requires.held ∙ ap (λ (t : EventThing). Some t) c.in-Notifier.is)

pub returns-in-Notifier : goal.returns-in-Notifier
returns-in-Notifier c = λ s count rep reached.
    notifier_goes c.args.self.now (record c.args.self.now { events = c.release_notifier.new.self }) c.forget-in-Notifier.new.self c.args.party.now c.args.name.now s count rep reached refl (λ p n. refl) (λ p. refl) c.forget-in-Notifier.ensures
    c.in-Notifier.number (c.requires.held ∙ ap (λ (t : EventThing). Some t) c.in-Notifier.is) c.release_notifier.ensures
