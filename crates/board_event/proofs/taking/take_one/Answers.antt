use Rattle.std.specs.Prelude.{◌≢◌, None}
use Rattle.std.proofs.Common.{rules, subst, sym}
use Rattle.board_event_model.specs.declared.call.EventProgress.{EventProgress}
use Rattle.board_event_model.specs.declared.call.WaitStage.TheVariants as wait
use Rattle.board_event_core.specs.EventTable.{EventTable}
use Rattle.board_event.specs.Accesses.{WaitMade}
use Rattle.board_event.specs.LentForms.{KeepsRestAt}
use Rattle.board_event.proofs.OneLemmas.{found_none, one_begins, one_ends, one_gives, one_goes_on, one_stops}
use Rattle.board_event.proofs.RestLemmas.{rest_next}
use Rattle.board_event.proofs.TryLemmas.{not_taken, wait_fewer}
use Rattle.board_event.proofs.taking.take_one.Goals as goal

pub loop-call-init : goal.loop-call-init
loop-call-init c = one_begins c.args.kind c.args.max c.args.event c.args.events.now c.wait_call-call.result c.ranges.max.fits c.table_stands.ensures c.wait_call-call.ensures

pub loop-call-smaller : goal.loop-call-smaller
loop-call-smaller c =
    let on : c.loop-call.call.stage ≢ wait.Finished = search rules in
    wait_fewer c.loop-call.events c.wait_access.new.events c.args.event c.loop-call.call c.wait_access.new.call _ c.in-Some.progress c.in-Some.ensures.0 c.loop-call.invariant.try on c.in-Some.ensures.1

pub loop-call-preserved : goal.loop-call-preserved
loop-call-preserved c =
    let on : c.loop-call.call.stage ≢ wait.Finished = search rules in
    one_goes_on c.args.kind c.args.max c.args.event c.args.events.now c.loop-call.events c.wait_access.new.events c.loop-call.call c.wait_access.new.call c.in-Some.progress c.in-Some.ensures.0
    c.loop-call.invariant on c.in-Some.ensures.1 c.in_default-progress.not-Id

pub returns-in_default-clause-one : goal.returns-in_default-clause-one
returns-in_default-clause-one c =
    let on : c.loop-call.call.stage ≢ wait.Finished = search rules in
    let refused = not_taken c.loop-call.events c.wait_access.new.events c.args.event c.loop-call.call c.wait_access.new.call c.wait_access.result c.wait_access.ensures c.in_default.not-Some in
    one_stops c.args.kind c.args.max c.args.event c.args.events.now c.loop-call.events c.wait_access.new.events c.loop-call.call c.loop-call.invariant on refused.0 refused.1

pub returns-in_default-clause-none : goal.returns-in_default-clause-none
returns-in_default-clause-none c = found_none c.args.kind c.args.max c.args.event c.args.events.now c.wait_access.new.events None c.table_stands.ensures (returns-in_default-clause-one c)

pub returns-in-Id-clause-one : goal.returns-in-Id-clause-one
returns-in-Id-clause-one c =
    let on : c.loop-call.call.stage ≢ wait.Finished = search rules in
    one_gives c.args.kind c.args.max c.args.event c.args.events.now c.loop-call.events c.wait_access.new.events c.loop-call.call c.wait_access.new.call c.in-Id.id c.in-Id.last c.in-Some.ensures.0
    c.loop-call.invariant on (subst (λ (p : EventProgress). WaitMade c.loop-call.events c.wait_access.new.events c.args.event c.loop-call.call c.wait_access.new.call p c.in-Some.ensures.0) c.in-Id.is c.in-Some.ensures.1)

pub returns-clause-one : goal.returns-clause-one
returns-clause-one c = one_ends c.args.kind c.args.max c.args.event c.args.events.now c.loop-call.events c.loop-call.call c.loop-call.invariant (search rules)

pub returns-clause-none : goal.returns-clause-none
returns-clause-none c = found_none c.args.kind c.args.max c.args.event c.args.events.now c.loop-call.events None c.table_stands.ensures (returns-clause-one c)

pub returns-in_default-clause-rest : goal.returns-in_default-clause-rest
returns-in_default-clause-rest c =
    let refused = not_taken c.loop-call.events c.wait_access.new.events c.args.event c.loop-call.call c.wait_access.new.call c.wait_access.result c.wait_access.ensures c.in_default.not-Some in
    subst (λ (t : EventTable). KeepsRestAt c.args.event c.args.events.now t) (sym refused.1) c.loop-call.invariant.rest

pub returns-in-Id-clause-rest : goal.returns-in-Id-clause-rest
returns-in-Id-clause-rest c = rest_next c.args.event c.args.events.now c.loop-call.events c.wait_access.new.events c.loop-call.call.stage c.loop-call.invariant.rest c.in-Some.ensures.1.memory

pub returns-clause-rest : goal.returns-clause-rest
returns-clause-rest c = c.loop-call.invariant.rest
