use Rattle.std.proofs.Common.{ℕ, refl, subst, Option}
use Rattle.script_event_tables.specs.EventTables.{HasListened}
use Rattle.script_judge.proofs.EventSteps.{listener_made, listener_refused}
use Rattle.script_judge.proofs.judge.Judge.made_listener.Goals as goal

pub returns-in_ok-hold-in-Some : goal.returns-in_ok-hold-in-Some
returns-in_ok-hold-in-Some c = λ s count rep out reached.
    listener_made c.args.self.now (record c.args.self.now { events = c.listen.new.self }) c.hold.new.self c.args.party.now c.args.name c.args.kind c.args.event.now c.args.max s count rep out c.in-Some.number
    (subst (λ (o : Option ℕ). HasListened c.args.self.now.events c.listen.new.self c.args.party.now c.args.kind c.args.event.now c.args.max o) c.in-Some.is c.in_ok-number.ensures.told) refl (λ p m. refl) (λ p. refl) c.in_ok-hold-in-Some.ensures

pub returns-in-None : goal.returns-in-None
returns-in-None c = λ s count rep out reached.
    listener_refused c.args.self.now c.args.self.now (record c.args.self.now { events = c.listen.new.self }) c.args.party.now c.args.name c.args.kind c.args.event.now c.args.max s count rep out
    (subst (λ (o : Option ℕ). HasListened c.args.self.now.events c.listen.new.self c.args.party.now c.args.kind c.args.event.now c.args.max o) c.in-None.is c.in_ok-number.ensures.told) refl (λ p m. refl) (λ p. refl)
