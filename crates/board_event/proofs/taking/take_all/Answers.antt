use Rattle.std.specs.Prelude.{◌≢◌}
use Rattle.std.proofs.Common.{rules, of_calls, subst, sym}
use Rattle.board_event_model.specs.declared.call.WaitStage.TheVariants as wait
use Rattle.board_event_core.specs.EventTable.{EventTable}
use Rattle.board_event.specs.LentForms.{KeepsRestAt}
use Rattle.board_event.proofs.AllLemmas.{all_begins, all_called, all_ends, all_goes_on, all_is_taken, all_stops}
use Rattle.board_event.proofs.TryLemmas.{made_in_range, not_taken, wait_fewer}
use Rattle.board_event.proofs.taking.take_all.Goals as goal

pub loop-call-init : goal.loop-call-init
loop-call-init g c = (search of_calls, all_begins (λ p x q. goal.F-step g p x tt q) c.args.callback.now c.args.kind c.args.max c.args.event c.args.events.now c.wait_call-call.result c.ranges.max.fits c.table_stands.ensures c.wait_call-call.ensures)

pub loop-call-smaller : goal.loop-call-smaller
loop-call-smaller g c =
    let on : c.loop-call.call.stage ≢ wait.Finished = search rules in
    wait_fewer c.loop-call.events c.wait_access.new.events c.args.event c.loop-call.call c.wait_access.new.call _ c.in-Some.progress c.in-Some.ensures.0 c.loop-call.invariant.1.try on c.in-Some.ensures.1

pub loop-call-preserved : goal.loop-call-preserved
loop-call-preserved g c =
    let on : c.loop-call.call.stage ≢ wait.Finished = search rules in
    let range = made_in_range c.loop-call.events c.wait_access.new.events c.args.event c.loop-call.call c.wait_access.new.call _ c.in-Some.progress c.in-Some.ensures.0 c.loop-call.invariant.1.try c.in-Some.ensures.1 in (
      c.hand_over.ensures.callable,
      all_goes_on (λ p x q. goal.F-step g p x tt q) c.args.callback.now c.loop-call.callback c.hand_over.new.callback c.args.kind c.args.max c.args.event c.args.events.now c.loop-call.events c.wait_access.new.events
          c.loop-call.call c.wait_access.new.call c.in-Some.progress c.in-Some.ensures.0 c.loop-call.invariant.1 on c.in-Some.ensures.1 (c.hand_over.ensures.calls range),
    )

pub returns-in_default-clause-reached : goal.returns-in_default-clause-reached
returns-in_default-clause-reached g c =
    let on : c.loop-call.call.stage ≢ wait.Finished = search rules in
    let refused = not_taken c.loop-call.events c.wait_access.new.events c.args.event c.loop-call.call c.wait_access.new.call c.wait_access.result c.wait_access.ensures c.in_default.not-Some in
    λ e here. (all_stops (λ p x q. goal.F-step g p x tt q) c.args.callback.now c.loop-call.callback c.args.kind c.args.max c.args.event c.args.events.now c.loop-call.events c.wait_access.new.events c.loop-call.call c.loop-call.invariant.1 on refused.0 refused.1 e here).calls

pub returns-in_default-clause-left : goal.returns-in_default-clause-left
returns-in_default-clause-left g c =
    let on : c.loop-call.call.stage ≢ wait.Finished = search rules in
    let refused = not_taken c.loop-call.events c.wait_access.new.events c.args.event c.loop-call.call c.wait_access.new.call c.wait_access.result c.wait_access.ensures c.in_default.not-Some in
    λ e here. (all_stops (λ p x q. goal.F-step g p x tt q) c.args.callback.now c.loop-call.callback c.args.kind c.args.max c.args.event c.args.events.now c.loop-call.events c.wait_access.new.events c.loop-call.call c.loop-call.invariant.1 on refused.0 refused.1 e here).left

pub returns-in_default-clause-calls : goal.returns-in_default-clause-calls
returns-in_default-clause-calls g c =
    let on : c.loop-call.call.stage ≢ wait.Finished = search rules in
    let refused = not_taken c.loop-call.events c.wait_access.new.events c.args.event c.loop-call.call c.wait_access.new.call c.wait_access.result c.wait_access.ensures c.in_default.not-Some in
    all_called (λ p x q. goal.F-step g p x tt q) c.args.callback.now c.loop-call.callback c.args.kind c.args.max c.args.event c.args.events.now c.wait_access.new.events c.table_stands.ensures
    (all_stops (λ p x q. goal.F-step g p x tt q) c.args.callback.now c.loop-call.callback c.args.kind c.args.max c.args.event c.args.events.now c.loop-call.events c.wait_access.new.events c.loop-call.call c.loop-call.invariant.1 on refused.0 refused.1)

pub returns-in_default-clause-after : goal.returns-in_default-clause-after
returns-in_default-clause-after g c =
    let on : c.loop-call.call.stage ≢ wait.Finished = search rules in
    let refused = not_taken c.loop-call.events c.wait_access.new.events c.args.event c.loop-call.call c.wait_access.new.call c.wait_access.result c.wait_access.ensures c.in_default.not-Some in
    all_is_taken (λ p x q. goal.F-step g p x tt q) c.args.callback.now c.loop-call.callback c.args.kind c.args.max c.args.event c.args.events.now c.wait_access.new.events c.table_stands.ensures
    (all_stops (λ p x q. goal.F-step g p x tt q) c.args.callback.now c.loop-call.callback c.args.kind c.args.max c.args.event c.args.events.now c.loop-call.events c.wait_access.new.events c.loop-call.call c.loop-call.invariant.1 on refused.0 refused.1)

pub returns-clause-reached : goal.returns-clause-reached
returns-clause-reached g c = λ e here. (all_ends (λ p x q. goal.F-step g p x tt q) c.args.callback.now c.loop-call.callback c.args.kind c.args.max c.args.event c.args.events.now c.loop-call.events c.loop-call.call c.loop-call.invariant.1 (search rules) e here).calls

pub returns-clause-left : goal.returns-clause-left
returns-clause-left g c = λ e here. (all_ends (λ p x q. goal.F-step g p x tt q) c.args.callback.now c.loop-call.callback c.args.kind c.args.max c.args.event c.args.events.now c.loop-call.events c.loop-call.call c.loop-call.invariant.1 (search rules) e here).left

pub returns-clause-calls : goal.returns-clause-calls
returns-clause-calls g c = all_called (λ p x q. goal.F-step g p x tt q) c.args.callback.now c.loop-call.callback c.args.kind c.args.max c.args.event c.args.events.now c.loop-call.events c.table_stands.ensures
    (all_ends (λ p x q. goal.F-step g p x tt q) c.args.callback.now c.loop-call.callback c.args.kind c.args.max c.args.event c.args.events.now c.loop-call.events c.loop-call.call c.loop-call.invariant.1 (search rules))

pub returns-clause-after : goal.returns-clause-after
returns-clause-after g c = all_is_taken (λ p x q. goal.F-step g p x tt q) c.args.callback.now c.loop-call.callback c.args.kind c.args.max c.args.event c.args.events.now c.loop-call.events c.table_stands.ensures
    (all_ends (λ p x q. goal.F-step g p x tt q) c.args.callback.now c.loop-call.callback c.args.kind c.args.max c.args.event c.args.events.now c.loop-call.events c.loop-call.call c.loop-call.invariant.1 (search rules))

pub returns-in_default-clause-rest : goal.returns-in_default-clause-rest
returns-in_default-clause-rest g c =
    let refused = not_taken c.loop-call.events c.wait_access.new.events c.args.event c.loop-call.call c.wait_access.new.call c.wait_access.result c.wait_access.ensures c.in_default.not-Some in
    subst (λ (t : EventTable). KeepsRestAt c.args.event c.args.events.now t) (sym refused.1) c.loop-call.invariant.1.rest

pub returns-clause-rest : goal.returns-clause-rest
returns-clause-rest g c = c.loop-call.invariant.1.rest
