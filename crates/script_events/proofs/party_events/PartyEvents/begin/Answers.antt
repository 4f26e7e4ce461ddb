use Rattle.std.proofs.Common.{refl}
use Rattle.script_events.proofs.Checks.{begun_turn}
use Rattle.script_events.proofs.Expiries.{refused_turn}
use Rattle.script_events.proofs.Options.{anyway}
use Rattle.script_events.proofs.Tasks.{not_running}
use Rattle.script_events.proofs.party_events.PartyEvents.begin.Goals as goal

pub returns-in_ok-insert-in-Ok-clause-told : goal.returns-in_ok-insert-in-Ok-clause-told
returns-in_ok-insert-in-Ok-clause-told c =
    let m = c.args.self.now in
    λ x count few sound rep boards same.
    let checked = (rw c.in-Ok.is at c.check.ensures) x count few sound rep boards same in
    begun_turn m _ x rep c.args.party c.in-Ok.task refl refl c.in_ok-insert-in-Ok.ensures.updates.0 (not_running (x.asked c.args.party) (x.session.doing c.args.party) (c.requires.free x count few sound rep)) _ checked.0 checked.1 checked.2

pub returns-in-Err-clause-told : goal.returns-in-Err-clause-told
returns-in-Err-clause-told c =
    let m = c.args.self.now in
    λ x count few sound rep boards same.
    refused_turn m x _ c.in-Err.why (c.in-Err.ensures x count few sound rep boards same) rep

pub returns-in_err-insert-in-Ok-clause-memory : goal.returns-in_err-insert-in-Ok-clause-memory
returns-in_err-insert-in-Ok-clause-memory c =
    anyway c.from_residual.result _ (λ x count few sound rep boards same.
    let checked = (rw c.in-Ok.is at c.check.ensures) x count few sound rep boards same in
    rw checked.1 refl)

pub returns-in_err-insert-in-Ok-clause-left : goal.returns-in_err-insert-in-Ok-clause-left
returns-in_err-insert-in-Ok-clause-left c =
    anyway c.from_residual.result _ (record { events = refl; things = refl; calls = c.in_err-insert-in-Ok.ensures.err })
