use Rattle.std.proofs.Common.{◌≡◌, [], Some, None, rules, refl}
use Rattle.script_events.specs.Calls.{IsMarkable}
use Rattle.script_events.specs.PartyEvents.{Own, all_in, held_in, own_in, task_in}
use Rattle.script_events.proofs.Abandonments.{abandoned, markable, none_listed, own_held, own_listed}
use Rattle.script_events.proofs.Tasks.{task_ended}
use Rattle.script_events.proofs.party_events.PartyEvents.abandon.Goals as goal

pub mark_own-requires : goal.mark_own-requires
mark_own-requires c =
    let m = c.args.self.now in
    let led = c.requires in
    let party = c.args.party.now in
    let own : Own = c.in-Some.own.now in
    let found : own_in m.things party ≡ Some own = search rules in
    own_held m.things party own found (IsMarkable m.events) (markable m.events (held_in m.things) led.state led.count led.sound led.represents.held party)

pub returns-in-Some : goal.returns-in-Some
returns-in-Some c =
    let m = c.args.self.now in
    let party = c.args.party.now in
    let own : Own = c.in-Some.own.now in
    let found : own_in m.things party ≡ Some own = search rules in
    let listed = own_listed m.things party own found c.mark_own.ensures.unique in
    λ x count few sound rep. record {
      held = abandoned m.events (held_in m.things) x count sound rep.held party (all_in own) listed.0 listed.1 c.mark_own.new.events c.mark_own.ensures.marked;
      calls = task_ended (task_in m) _ party c.remove.ensures.updates.0 x.asked x.session.doing rep.calls;
    }

pub returns-in_default : goal.returns-in_default
returns-in_default c =
    let m = c.args.self.now in
    let party = c.args.party.now in
    let none : own_in m.things party ≡ None = search rules in
    let listed = none_listed m.things party none in
    λ x count few sound rep. record {
      held = abandoned m.events (held_in m.things) x count sound rep.held party [] listed.0 listed.1 m.events refl;
      calls = task_ended (task_in m) _ party c.remove.ensures.updates.0 x.asked x.session.doing rep.calls;
    }
