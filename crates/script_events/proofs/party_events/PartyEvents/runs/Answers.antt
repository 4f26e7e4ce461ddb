use Rattle.std.proofs.Common.{◌≡◌, ◌∙◌, ap, length, rules, sym}
use Rattle.std.specs.Prelude.{is_some}
use Rattle.script_events.specs.PartyEvents.{task_in}
use Rattle.script_events.proofs.Maps.{none_in}
use Rattle.script_events.proofs.Tasks.{is_running}
use Rattle.script_events.proofs.party_events.PartyEvents.runs.Goals as goal

pub returns-then-is_empty : goal.returns-then-is_empty
returns-then-is_empty c = λ x count few sound rep.
    let m = c.args.self.now in
    let party = c.args.party.now in
    let empty : length m.calls.entries ≡ 0 = search rules in
    sym (ap is_some (none_in m.calls empty party)) ∙ is_running (task_in m party) (x.asked party) (x.session.doing party) (rep.calls party)

pub returns : goal.returns
returns c = λ x count few sound rep.
    c.contains_key.ensures ∙ is_running (task_in c.args.self.now c.args.party.now) (x.asked c.args.party.now) (x.session.doing c.args.party.now) (rep.calls c.args.party.now)
