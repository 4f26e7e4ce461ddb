use Rattle.std.proofs.Common.{◌≡◌, ◌∙◌, ap, sym, false, rules}
use Rattle.std.specs.Prelude.{◌||◌}
use Rattle.script_model.specs.ScriptEvents.{holds_event}
use Rattle.script_events.proofs.party_events.PartyEvents.is_taken.Goals as goal

pub returns : goal.returns
returns c = let untaken : c.args.taken ≡ false = search rules in
    λ x count few sound rep. c.holds.ensures x count few sound rep ∙ ap (λ b. b || holds_event x c.args.party.now c.args.name.now) (sym untaken)
