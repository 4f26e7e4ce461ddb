use Rattle.std.proofs.Common.{◌≡◌, ◌∙◌, ap, rules, sym}
use Rattle.std.specs.Prelude.{is_some}
use Rattle.script_events.specs.PartyEvents.{held_in, thing_in}
use Rattle.script_events.proofs.Options.{is_some-map}
use Rattle.script_events.proofs.party_events.PartyEvents.holds.Goals as goal

pub returns : goal.returns
returns c = λ x count few sound rep.
    let held = held_in c.args.self.now.things c.args.party.now c.args.name.now in
    let e : c.is_some.result ≡ is_some held = search rules in
    e ∙ sym (is_some-map thing_in held) ∙ ap is_some (rep.held.things c.args.party.now c.args.name.now)
