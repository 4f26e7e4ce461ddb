use Rattle.std.proofs.Common.{◌≡◌, ◌∙◌, ℕ, Bool, Option, Some, None, ap, refl, rules, subst, sym, true, false}
use Rattle.std.specs.Prelude.{if◌then◌else◌}
use Rattle.board_event_model.specs.declared.kind.EventKind.TheVariants as kind
use Rattle.board_model.specs.declared.answer.Reason.TheVariants as reason
use Rattle.script_model.specs.declared.line.EventRequest.{EventRequest}
use Rattle.script_model.specs.declared.line.EventRequest.TheVariants as request
use Rattle.script_model.specs.ScriptEvents.{ask, name_made, notify_call, task_of, to_listen, to_notify, wait_call}
use Rattle.script_model.specs.ScriptTurns.{begins, refused, task_turn}
use Rattle.script_events.specs.Calls.{listened_in, notified_in}
use Rattle.script_events.specs.PartyEvents.{event_call, held_in}
use Rattle.script_events.proofs.Checks.{act_turn, listened_there, named_turn, no_listened, no_notified, notified_there, on_listened, on_notified}
use Rattle.script_events.proofs.party_events.PartyEvents.check.Goals as goal

abbrev a_number : ℕ → Option ℕ
a_number n = Some n

abbrev no_number : Option ℕ
no_number = None

pub returns-then-is_taken : goal.returns-then-is_taken
returns-then-is_taken c =
    let m = c.args.self.now in
    let party = c.args.party.now in
    let r : c.is_taken.result ≡ true = search rules in
    let q : c.args.request ≡ request.ListenBits c.in-ListenBits.listener c.in-ListenBits.event c.in-ListenBits.max = search rules in
    λ x count few sound rep boards same.
    let turn = named_turn boards x party _ (ask (to_listen c.in-ListenBits.listener kind.Bits c.in-ListenBits.event c.in-ListenBits.max)) c.in-ListenBits.listener c.args.taken c.is_taken.result (ap (task_of x party) q) (ap name_made q) same (c.is_taken.ensures x count few sound rep) ∙ ap (λ (b : Bool). if b then refused reason.Taken else begins party (ask (to_listen c.in-ListenBits.listener kind.Bits c.in-ListenBits.event c.in-ListenBits.max))) r in
    turn

pub returns-else-is_taken : goal.returns-else-is_taken
returns-else-is_taken c =
    let m = c.args.self.now in
    let party = c.args.party.now in
    let r : c.is_taken.result ≡ false = search rules in
    let q : c.args.request ≡ request.ListenBits c.in-ListenBits.listener c.in-ListenBits.event c.in-ListenBits.max = search rules in
    λ x count few sound rep boards same.
    let turn = named_turn boards x party _ (ask (to_listen c.in-ListenBits.listener kind.Bits c.in-ListenBits.event c.in-ListenBits.max)) c.in-ListenBits.listener c.args.taken c.is_taken.result (ap (task_of x party) q) (ap name_made q) same (c.is_taken.ensures x count few sound rep) ∙ ap (λ (b : Bool). if b then refused reason.Taken else begins party (ask (to_listen c.in-ListenBits.listener kind.Bits c.in-ListenBits.event c.in-ListenBits.max))) r in
    (ask (to_listen c.in-ListenBits.listener kind.Bits c.in-ListenBits.event c.in-ListenBits.max), turn, refl)

pub returns-then-is_taken-2 : goal.returns-then-is_taken-2
returns-then-is_taken-2 c =
    let m = c.args.self.now in
    let party = c.args.party.now in
    let r : c.is_taken-in-ListenQueue.result ≡ true = search rules in
    let q : c.args.request ≡ request.ListenQueue c.in-ListenQueue.listener c.in-ListenQueue.event = search rules in
    λ x count few sound rep boards same.
    let turn = named_turn boards x party _ (ask (to_listen c.in-ListenQueue.listener kind.Queue c.in-ListenQueue.event 0)) c.in-ListenQueue.listener c.args.taken c.is_taken-in-ListenQueue.result (ap (task_of x party) q) (ap name_made q) same (c.is_taken-in-ListenQueue.ensures x count few sound rep) ∙ ap (λ (b : Bool). if b then refused reason.Taken else begins party (ask (to_listen c.in-ListenQueue.listener kind.Queue c.in-ListenQueue.event 0))) r in
    turn

pub returns-else-is_taken-2 : goal.returns-else-is_taken-2
returns-else-is_taken-2 c =
    let m = c.args.self.now in
    let party = c.args.party.now in
    let r : c.is_taken-in-ListenQueue.result ≡ false = search rules in
    let q : c.args.request ≡ request.ListenQueue c.in-ListenQueue.listener c.in-ListenQueue.event = search rules in
    λ x count few sound rep boards same.
    let turn = named_turn boards x party _ (ask (to_listen c.in-ListenQueue.listener kind.Queue c.in-ListenQueue.event 0)) c.in-ListenQueue.listener c.args.taken c.is_taken-in-ListenQueue.result (ap (task_of x party) q) (ap name_made q) same (c.is_taken-in-ListenQueue.ensures x count few sound rep) ∙ ap (λ (b : Bool). if b then refused reason.Taken else begins party (ask (to_listen c.in-ListenQueue.listener kind.Queue c.in-ListenQueue.event 0))) r in
    (ask (to_listen c.in-ListenQueue.listener kind.Queue c.in-ListenQueue.event 0), turn, refl)

pub returns-then-is_taken-3 : goal.returns-then-is_taken-3
returns-then-is_taken-3 c =
    let m = c.args.self.now in
    let party = c.args.party.now in
    let r : c.is_taken-in-Notifier.result ≡ true = search rules in
    let q : c.args.request ≡ request.Notifier c.in-Notifier.notifier c.in-Notifier.kind c.in-Notifier.event = search rules in
    λ x count few sound rep boards same.
    let turn = named_turn boards x party _ (ask (to_notify c.in-Notifier.notifier c.in-Notifier.kind c.in-Notifier.event)) c.in-Notifier.notifier c.args.taken c.is_taken-in-Notifier.result (ap (task_of x party) q) (ap name_made q) same (c.is_taken-in-Notifier.ensures x count few sound rep) ∙ ap (λ (b : Bool). if b then refused reason.Taken else begins party (ask (to_notify c.in-Notifier.notifier c.in-Notifier.kind c.in-Notifier.event))) r in
    turn

pub returns-else-is_taken-3 : goal.returns-else-is_taken-3
returns-else-is_taken-3 c =
    let m = c.args.self.now in
    let party = c.args.party.now in
    let r : c.is_taken-in-Notifier.result ≡ false = search rules in
    let q : c.args.request ≡ request.Notifier c.in-Notifier.notifier c.in-Notifier.kind c.in-Notifier.event = search rules in
    λ x count few sound rep boards same.
    let turn = named_turn boards x party _ (ask (to_notify c.in-Notifier.notifier c.in-Notifier.kind c.in-Notifier.event)) c.in-Notifier.notifier c.args.taken c.is_taken-in-Notifier.result (ap (task_of x party) q) (ap name_made q) same (c.is_taken-in-Notifier.ensures x count few sound rep) ∙ ap (λ (b : Bool). if b then refused reason.Taken else begins party (ask (to_notify c.in-Notifier.notifier c.in-Notifier.kind c.in-Notifier.event))) r in
    (ask (to_notify c.in-Notifier.notifier c.in-Notifier.kind c.in-Notifier.event), turn, refl)

pub notify_call-call-requires : goal.notify_call-call-requires
notify_call-call-requires c =
    let m = c.args.self.now in
    let party = c.args.party.now in
    let led = c.requires in
    let is : a_number c.in-Some.event ≡ notified_in (held_in m.things party c.in-Notify.notifier) = search rules in
    rw (notified_there m.events (held_in m.things) led.state led.count led.sound led.represents.held party c.in-Notify.notifier c.in-Some.event is).found refl

pub returns-in-Some : goal.returns-in-Some
returns-in-Some c =
    let m = c.args.self.now in
    let party = c.args.party.now in
    let is : a_number c.in-Some.event ≡ notified_in (held_in m.things party c.in-Notify.notifier) = search rules in
    let q : c.args.request ≡ request.Notify c.in-Notify.notifier c.in-Notify.id = search rules in
    λ x count few sound rep boards same.
    let there = notified_there m.events (held_in m.things) x count sound rep.held party c.in-Notify.notifier c.in-Some.event is in
    act_turn boards m.events x party _ c.in-Some.event (λ e. notify_call e c.in-Notify.id) (event_call c.notify_call-call.result) c.act.result there c.notify_call-call.ensures (ap name_made q) (ap (task_of x party) q ∙ on_notified m.events (held_in m.things) x count sound rep.held party c.in-Notify.notifier c.in-Some.event is (λ e. notify_call e c.in-Notify.id)) c.act.ensures

pub returns-in-None : goal.returns-in-None
returns-in-None c =
    let m = c.args.self.now in
    let party = c.args.party.now in
    let none : no_number ≡ notified_in (held_in m.things party c.in-Notify.notifier) = search rules in
    let q : c.args.request ≡ request.Notify c.in-Notify.notifier c.in-Notify.id = search rules in
    λ x count few sound rep boards same. subst (λ (r : EventRequest). task_turn (record { boards = boards; events = x }) party r (task_of x party r) ≡ refused reason.Unknown) (sym q) (no_notified m.events (held_in m.things) x count sound rep.held party c.in-Notify.notifier none boards c.in-Notify.id)

pub wait_call-call-requires : goal.wait_call-call-requires
wait_call-call-requires c =
    let m = c.args.self.now in
    let party = c.args.party.now in
    let led = c.requires in
    let is : a_number c.in-Some-listened.event ≡ listened_in (held_in m.things party c.in-Wait.listener) = search rules in
    rw (listened_there m.events (held_in m.things) led.state led.count led.sound led.represents.held party c.in-Wait.listener c.in-Some-listened.event is).found refl

pub returns-in-Some-listened : goal.returns-in-Some-listened
returns-in-Some-listened c =
    let m = c.args.self.now in
    let party = c.args.party.now in
    let is : a_number c.in-Some-listened.event ≡ listened_in (held_in m.things party c.in-Wait.listener) = search rules in
    let q : c.args.request ≡ request.Wait c.in-Wait.listener c.in-Wait.many c.in-Wait.mode = search rules in
    λ x count few sound rep boards same.
    let there = listened_there m.events (held_in m.things) x count sound rep.held party c.in-Wait.listener c.in-Some-listened.event is in
    act_turn boards m.events x party _ c.in-Some-listened.event (λ e. wait_call e c.in-Wait.many c.in-Wait.mode) (event_call c.wait_call-call.result) c.act-in-Some-listened.result there c.wait_call-call.ensures (ap name_made q) (ap (task_of x party) q ∙ on_listened m.events (held_in m.things) x count sound rep.held party c.in-Wait.listener c.in-Some-listened.event is (λ e. wait_call e c.in-Wait.many c.in-Wait.mode)) c.act-in-Some-listened.ensures

pub returns-in-None-listened : goal.returns-in-None-listened
returns-in-None-listened c =
    let m = c.args.self.now in
    let party = c.args.party.now in
    let none : no_number ≡ listened_in (held_in m.things party c.in-Wait.listener) = search rules in
    let q : c.args.request ≡ request.Wait c.in-Wait.listener c.in-Wait.many c.in-Wait.mode = search rules in
    λ x count few sound rep boards same. subst (λ (r : EventRequest). task_turn (record { boards = boards; events = x }) party r (task_of x party r) ≡ refused reason.Unknown) (sym q) (no_listened m.events (held_in m.things) x count sound rep.held party c.in-Wait.listener none boards c.in-Wait.many c.in-Wait.mode)
