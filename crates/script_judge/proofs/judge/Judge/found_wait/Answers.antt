use Rattle.std.proofs.Common.{◌≡◌, [], sym, ap, ◌∙◌, Some, None}
use Rattle.script_judge.specs.declared.task.EventThing.TheVariants as thing
use Rattle.script_judge.specs.declared.task.EventThing.{EventThing}
use Rattle.script_judge.specs.Judges.{thing_at}
use Rattle.script_judge.proofs.EventLemmas.{kept_of}
use Rattle.script_judge.proofs.EventSteps.{thing_made}
use Rattle.script_judge.proofs.Others.{no_wait, wait_found}
use Rattle.script_judge.proofs.judge.Judge.found_wait.Goals as goal

pub get-event-requires : goal.get-event-requires
get-event-requires c =
    let is : thing_at c.args.self.now c.args.party.now c.args.listener.now ≡ Some (thing.Listener c.in-Listener.number) = sym c.event_thing.ensures ∙ c.in-Some.is ∙ ap (λ (t : EventThing). Some t) c.in-Listener.is in
    thing_made c.args.self.now c.requires c.args.party.now c.args.listener.now (thing.Listener c.in-Listener.number) is

pub returns-in-Listener : goal.returns-in-Listener
returns-in-Listener c = λ s count rep reached.
    let is : thing_at c.args.self.now c.args.party.now c.args.listener.now ≡ Some (thing.Listener c.in-Listener.number) = sym c.event_thing.ensures ∙ c.in-Some.is ∙ ap (λ (t : EventThing). Some t) c.in-Listener.is in
    wait_found c.args.self.now s count rep reached c.args.party.now [] c.args.listener.now c.args.many c.args.mode c.in-Listener.number c.get-event.result.now _ is (c.get-event.ensures (kept_of s.events) rep.events) c.wait-call.ensures

pub returns-in-None : goal.returns-in-None
returns-in-None c = λ s count rep reached.
    let none : thing_at c.args.self.now c.args.party.now c.args.listener.now ≡ None = sym c.event_thing.ensures ∙ c.in-None.is in
    no_wait c.args.self.now s count rep reached c.args.party.now [] c.args.listener.now c.args.many c.args.mode (λ n e. (let z : None ≡ Some (thing.Listener n) = sym none ∙ e in absurd cc))

pub returns-in-Notifier : goal.returns-in-Notifier
returns-in-Notifier c = λ s count rep reached.
    let is : thing_at c.args.self.now c.args.party.now c.args.listener.now ≡ Some c.in-Some.thing = sym c.event_thing.ensures ∙ c.in-Some.is in
    no_wait c.args.self.now s count rep reached c.args.party.now [] c.args.listener.now c.args.many c.args.mode (λ n e. (let z : Some c.in-Some.thing ≡ Some (thing.Listener n) = sym is ∙ e in let y : c.in-Some.thing ≡ thing.Listener n = cc in let w = c.in-Notifier.is in absurd cc))
