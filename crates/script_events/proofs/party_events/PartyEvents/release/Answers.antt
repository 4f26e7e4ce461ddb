use Rattle.std.proofs.Common.{◌≡◌, ◌∙◌, Some, None, false, true, ap, rules, sym}
use Rattle.std.specs.Prelude.{is_some}
use Rattle.script_events.specs.declared.rows.Holding.TheVariants as holding
use Rattle.script_events.specs.PartyEvents.{held_in, thing_in}
use Rattle.script_events.proofs.Options.{is_some-map}
use Rattle.script_events.proofs.Releases.{has_listener, has_notifier, listener_let_go, notifier_let_go, same_calls}
use Rattle.script_events.proofs.party_events.PartyEvents.release.Goals as goal

pub unreachable-requires : goal.unreachable-requires
unreachable-requires c =
    let m = c.args.self.now in
    let led = c.requires.led in
    let held = held_in m.things c.args.party.now c.args.name.now in
    let none : held ≡ None = search rules in
    let some : is_some held ≡ true = sym (is_some-map thing_in held) ∙ ap is_some (led.represents.held.things c.args.party.now c.args.name.now) ∙ c.requires.held led.state led.count led.few led.sound led.represents in
    let no : false ≡ true = sym (ap is_some none) ∙ some in
    cc

pub release_listener-requires : goal.release_listener-requires
release_listener-requires c =
    let m = c.args.self.now in
    let led = c.requires.led in
    let is : held_in m.things c.args.party.now c.args.name.now ≡ Some (holding.Listener c.in-Some-Listener.event) = search rules in
    has_listener m.events (held_in m.things) led.state led.count led.sound led.represents.held c.args.party.now c.args.name.now c.in-Some-Listener.event is

pub release_notifier-requires : goal.release_notifier-requires
release_notifier-requires c =
    let m = c.args.self.now in
    let led = c.requires.led in
    let is : held_in m.things c.args.party.now c.args.name.now ≡ Some (holding.Notifier c.in-Some-Notifier.event) = search rules in
    has_notifier m.events (held_in m.things) led.state led.count led.sound led.represents.held c.args.party.now c.args.name.now c.in-Some-Notifier.event is

pub returns-in-Some-Listener : goal.returns-in-Some-Listener
returns-in-Some-Listener c =
    let m = c.args.self.now in
    let party = c.args.party.now in
    let name = c.args.name.now in
    let is : held_in m.things party name ≡ Some (holding.Listener c.in-Some-Listener.event) = search rules in
    λ x count few sound rep. record {
      held = listener_let_go m.events (held_in m.things) x count sound rep.held party name c.in-Some-Listener.event (held_in c.take.new.self) c.take.ensures.left is c.release_listener.new.self c.release_listener.ensures.after;
      calls = same_calls x party name _ rep.calls;
    }

pub returns-in-Some-Notifier : goal.returns-in-Some-Notifier
returns-in-Some-Notifier c =
    let m = c.args.self.now in
    let party = c.args.party.now in
    let name = c.args.name.now in
    let is : held_in m.things party name ≡ Some (holding.Notifier c.in-Some-Notifier.event) = search rules in
    λ x count few sound rep. record {
      held = notifier_let_go m.events (held_in m.things) x count sound rep.held party name c.in-Some-Notifier.event (held_in c.take.new.self) c.take.ensures.left is c.release_notifier.new.self c.release_notifier.ensures.after;
      calls = same_calls x party name _ rep.calls;
    }
