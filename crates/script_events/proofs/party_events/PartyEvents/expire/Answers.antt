use Rattle.std.proofs.Common.{◌≡◌, Option, Some, None, false, refl, rules, subst, true}
use Rattle.board_model.specs.declared.answer.Reason.TheVariants as reason
use Rattle.script_events.specs.declared.rows.CallTask.{CallTask}
use Rattle.script_events.specs.Calls.{may_end}
use Rattle.script_events.specs.PartyEvents.{IsCall, task_in}
use Rattle.script_events.proofs.Expiries.{end_of, expired_turn, idle_end, not_asked, refused_turn}
use Rattle.script_events.proofs.Steps.{runs_task}
use Rattle.script_events.proofs.Tasks.{call_changed}
use Rattle.script_events.proofs.party_events.PartyEvents.expire.Goals as goal

abbrev no_task : Option CallTask
no_task = None

pub returns-in_default : goal.returns-in_default
returns-in_default c =
    let m = c.args.self.now in
    let party = c.args.party.now in
    let none : task_in m party ≡ no_task = search rules in
    λ x count few sound rep.
    refused_turn m x _ reason.Idle (idle_end party (x.asked party) (x.session.doing party) (subst (λ (o : Option CallTask). IsCall o (x.asked party) (x.session.doing party)) none (rep.calls party))) rep

pub returns-then-not-may_end : goal.returns-then-not-may_end
returns-then-not-may_end c =
    let m = c.args.self.now in
    let party = c.args.party.now in
    let t = c.in-Some.task.now in
    let found : task_in m party ≡ Some t = search rules in
    let stays : may_end t ≡ false = search rules in
    λ x count few sound rep. refused_turn m x _ reason.NotWaiting (end_of party t (x.asked party) (x.session.doing party) (runs_task m x rep party t found) false stays) rep

pub returns : goal.returns
returns c =
    let m = c.args.self.now in
    let party = c.args.party.now in
    let t = c.in-Some.task.now in
    let found : task_in m party ≡ Some t = search rules in
    let waits : may_end t ≡ true = search rules in
    λ x count few sound rep.
    let running = runs_task m x rep party t found in
    let idle = not_asked t (x.asked party) (x.session.doing party) running waits in
    expired_turn m _ x party _ (end_of party t (x.asked party) (x.session.doing party) running true waits) (record {
      held = record { once = rep.held.once; events = rep.held.events; drawn = rep.held.drawn; names = rep.held.names; things = rep.held.things };
      calls = call_changed (task_in m) _ party None c.remove.ensures.updates.0 x.asked x.session.doing rep.calls None (idle, refl);
    })
