use Rattle.std.proofs.Common.{rules, subst}
use Rattle.board_event_model.specs.declared.call.EventProgress.{EventProgress}
use Rattle.board_event.specs.Accesses.{IsNotifyAccess}
use Rattle.board_event.proofs.NotifyLemmas.{notify_begins, notify_ends, notify_ends_none, notify_goes_on, notify_not_still, notify_refuses, notify_refuses_none}
use Rattle.board_event.proofs.taking.notify_once.Goals as goal

pub loop-call-init : goal.loop-call-init
loop-call-init c = notify_begins c.args.kind c.args.max c.args.event c.args.id c.args.events.now c.notify_call-call.result c.notify_call-call.ensures

pub loop-call-preserved : goal.loop-call-preserved
loop-call-preserved c = notify_goes_on c.args.kind c.args.max c.args.event c.args.id c.args.events.now c.loop-call.events c.notify_access.new.events c.loop-call.call c.notify_access.new.call
    c.notify_access.result c.loop-call.invariant c.notify_access.ensures c.in-More.is

pub returns-in-Refused-clause-answer : goal.returns-in-Refused-clause-answer
returns-in-Refused-clause-answer c = λ e here. (notify_refuses c.args.kind c.args.max c.args.event c.args.id c.args.events.now c.loop-call.events c.notify_access.new.events c.loop-call.call c.notify_access.new.call
    c.in-Refused.why c.loop-call.invariant (subst (λ (p : EventProgress). IsNotifyAccess c.loop-call.events c.notify_access.new.events c.args.event c.loop-call.call c.notify_access.new.call p) c.in-Refused.is c.notify_access.ensures) e here).0

pub returns-in-Refused-clause-after : goal.returns-in-Refused-clause-after
returns-in-Refused-clause-after c = λ e here. (notify_refuses c.args.kind c.args.max c.args.event c.args.id c.args.events.now c.loop-call.events c.notify_access.new.events c.loop-call.call c.notify_access.new.call
    c.in-Refused.why c.loop-call.invariant (subst (λ (p : EventProgress). IsNotifyAccess c.loop-call.events c.notify_access.new.events c.args.event c.loop-call.call c.notify_access.new.call p) c.in-Refused.is c.notify_access.ensures) e here).1

pub returns-in-Refused-clause-gone : goal.returns-in-Refused-clause-gone
returns-in-Refused-clause-gone c = λ none. (notify_refuses_none c.args.kind c.args.max c.args.event c.args.id c.args.events.now c.loop-call.events c.notify_access.new.events c.loop-call.call c.notify_access.new.call
    c.in-Refused.why c.loop-call.invariant (subst (λ (p : EventProgress). IsNotifyAccess c.loop-call.events c.notify_access.new.events c.args.event c.loop-call.call c.notify_access.new.call p) c.in-Refused.is c.notify_access.ensures) none).0

pub returns-in-Refused-clause-stays : goal.returns-in-Refused-clause-stays
returns-in-Refused-clause-stays c = λ none. (notify_refuses_none c.args.kind c.args.max c.args.event c.args.id c.args.events.now c.loop-call.events c.notify_access.new.events c.loop-call.call c.notify_access.new.call
    c.in-Refused.why c.loop-call.invariant (subst (λ (p : EventProgress). IsNotifyAccess c.loop-call.events c.notify_access.new.events c.args.event c.loop-call.call c.notify_access.new.call p) c.in-Refused.is c.notify_access.ensures) none).1

pub returns-in_default-clause-answer : goal.returns-in_default-clause-answer
returns-in_default-clause-answer c = λ e here. (notify_ends c.args.kind c.args.max c.args.event c.args.id c.args.events.now c.loop-call.events c.notify_access.new.events c.loop-call.call c.notify_access.new.call
    c.notify_access.result c.loop-call.invariant c.notify_access.ensures c.in_default.not-More c.in_default.not-Refused e here).0

pub returns-in_default-clause-after : goal.returns-in_default-clause-after
returns-in_default-clause-after c = λ e here. (notify_ends c.args.kind c.args.max c.args.event c.args.id c.args.events.now c.loop-call.events c.notify_access.new.events c.loop-call.call c.notify_access.new.call
    c.notify_access.result c.loop-call.invariant c.notify_access.ensures c.in_default.not-More c.in_default.not-Refused e here).1

pub returns-in_default-clause-gone : goal.returns-in_default-clause-gone
returns-in_default-clause-gone c = λ none. absurd (notify_ends_none c.args.kind c.args.max c.args.event c.args.id c.args.events.now c.loop-call.events c.notify_access.new.events c.loop-call.call c.notify_access.new.call
    c.notify_access.result c.loop-call.invariant c.notify_access.ensures c.in_default.not-Refused none)

pub returns-in_default-clause-stays : goal.returns-in_default-clause-stays
returns-in_default-clause-stays c = λ none. absurd (notify_ends_none c.args.kind c.args.max c.args.event c.args.id c.args.events.now c.loop-call.events c.notify_access.new.events c.loop-call.call c.notify_access.new.call
    c.notify_access.result c.loop-call.invariant c.notify_access.ensures c.in_default.not-Refused none)

pub returns-clause-answer : goal.returns-clause-answer
returns-clause-answer c = λ e here. absurd (notify_not_still c.args.kind c.args.max c.args.event c.args.id c.args.events.now c.loop-call.events c.loop-call.call c.loop-call.invariant (search rules) e here)

pub returns-clause-after : goal.returns-clause-after
returns-clause-after c = λ e here. absurd (notify_not_still c.args.kind c.args.max c.args.event c.args.id c.args.events.now c.loop-call.events c.loop-call.call c.loop-call.invariant (search rules) e here)

pub returns-clause-gone : goal.returns-clause-gone
returns-clause-gone c = λ none. absurd ((c.loop-call.invariant.gone none).2 (search rules))

pub returns-clause-stays : goal.returns-clause-stays
returns-clause-stays c = λ none. absurd ((c.loop-call.invariant.gone none).2 (search rules))
