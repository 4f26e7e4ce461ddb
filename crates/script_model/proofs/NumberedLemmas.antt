-- Each line keeps that the ids in queues and those of running calls are numbers.
use Rattle.std.proofs.Common.{◌≡◌, ℕ, ◌+◌, ◌-◌, ◌<◌, ◌≤◌, ◌^◌, Bool, true, false, List, refl, sym, subst, Option, Some, None}
use Rattle.std.specs.Prelude.{if◌then◌else◌, ◌==◌, IsSomeAnd, is_some}
use Rattle.board_event_model.specs.declared.access.EventAnswer.{EventAnswer}
use Rattle.board_event_model.specs.declared.kind.EventKind.{EventKind}
use Rattle.board_event_model.specs.Ids.{has}
use Rattle.board_event_model.specs.EventMemory as memory
use Rattle.board_event_model.specs.EventMemory.{CanPerform, Event, is_bits}
use Rattle.board_event_model.specs.NotifyCalls.{notify_bits, notify_queue}
use Rattle.board_event_model.specs.EventCalls.{EventCall, a_notify, call_of, owed, turn, went_on}
use Rattle.board_event_model.specs.EventSessions.{EventSession, PartyCall, StandingEvent, abandon_of, begin_on, doing_on, event_of, expire_of, gone_with, listen, next_session, notifiers_of, release_of, step_of, stepped_on, took_step, view}
use Rattle.board_event_model.proofs.SoundLemmas as events
use Rattle.board_model.specs.declared.answer.Answer.{Answer}
use Rattle.board_model.specs.declared.answer.Answer.TheVariants as answer
use Rattle.board_model.specs.declared.answer.Reason.TheVariants as reason
use Rattle.board_model.specs.declared.line.Line.{Line}
use Rattle.board_model.specs.declared.line.Line.TheVariants as board_line
use Rattle.board_model.specs.LineGrammar.{IsNumber}
use Rattle.board_model.specs.Parties.{Party, free, gone, running}
use Rattle.board_model.specs.Requests.{and_then}
use Rattle.script_model.specs.declared.line.EventRequest.{EventRequest}
use Rattle.script_model.specs.declared.line.EventRequest.TheVariants as request
use Rattle.script_model.specs.declared.line.ScriptLine.{ScriptLine}
use Rattle.script_model.specs.declared.line.ScriptLine.TheVariants as line
use Rattle.script_model.specs.ScriptGrammar.{IsEventRequest, IsScriptLine, is_event_name}
use Rattle.script_model.specs.ScriptAnswers.{ScriptAnswer}
use Rattle.script_model.specs.ScriptEvents.{EventAsk, EventTask, EventThing, IsEventAccess, IsStepOf, ScriptEvents, act, ask, ask_made, event_let_go, name_made, runs_on_events, let_go_from, listened_event, listener, notified, notifier, notify_call, on_event, opened, opened_with, step_made, task_of, to_listen, to_notify, with_listener, notifier_more}
use Rattle.script_model.specs.ScriptTurns.{EventTurn, IsTurnAnswer, ScriptState, begin_turn, begins, drop_turn, drops, expire_of_call, expire_turn, expires, free_turn, is_name_taken, may_expire, refused, request_turn, steps, task_turn, turn_of, turned}
use Rattle.script_model.specs.ScriptSession.{after_boards, after_turn}
use Rattle.script_model.specs.LawsOfRules.{IsRuled}
use Rattle.script_model.specs.SoundEvents.{AreNumbered, AreNumbers, AreSoundEvents, IsNumbered, IsNumberedCall}
use Rattle.script_model.proofs.EachLemmas.{each_was}
use Rattle.script_model.proofs.NumberLemmas.{IsSmall, after_numbers, change_numbers, doing_numbers, owed_small, turn_says, went_numbers}
use Rattle.script_model.proofs.OwedLemmas.{can_perform, reached}

-- ---- sessions of events

none_some : {A : Type 0} (x : A) → None ≡ Some x → ⊥
none_some x e = cc

-- an event that stands
record StandsAs (s : EventSession) (n : ℕ) (e : Event) : Type 0 where
  st : StandingEvent
  is : s.stands n ≡ Some st
  event : st.event ≡ e

stands_as : (s : EventSession) (n : ℕ) (e : Event) → event_of s.stands n ≡ Some e → StandsAs s n e
stands_as s n e f = at (s.stands n) refl f
  where
    at : (o : Option StandingEvent) → s.stands n ≡ o → (elim o [ None ↦ None | Some st ↦ Some st.event ]) ≡ Some e → StandsAs s n e
    at None q g = absurd (none_some e g)
    at (Some st) q g = record { st = st; is = q; event = (cc) }

stepped_numbers : (s : EventSession) (p : List ℕ) (d : PartyCall) (e : Event) (b : EventAnswer) → AreNumbered s → s.doing p ≡ Some d → event_of s.stands d.on ≡ Some e → memory.IsRight e (owed (call_of d.call)) b → IsSmall (owed (call_of d.call)) → AreNumbered (next_session s (step_of p (owed (call_of d.call)) b))
stepped_numbers s p d e b h runs stands right small =
    subst (λ (o : Option PartyCall). AreNumbered (stepped_on s p (owed (call_of d.call)) b o)) (sym runs)
    (subst (λ (o : Option Event). AreNumbered (took_step s p (owed (call_of d.call)) b d o)) (sym stands) (
    let k = stands_as s d.on e stands in
    let queue : AreNumbers e.queue = subst (λ (z : Event). AreNumbers z.queue) k.event (h.queues d.on k.st k.is) in
    let new : AreNumbered (took_step s p (owed (call_of d.call)) b d (Some e)) = record {
      queues = change_numbers s.stands d.on (λ x. memory.after x (owed (call_of d.call))) (λ x. after_numbers x (owed (call_of d.call)) small) h.queues;
      calls = doing_numbers s.doing p (doing_on d.on (went_on d.call e (owed (call_of d.call)) b)) (went_numbers d.call e (owed (call_of d.call)) b d.on (h.calls p d runs) (turn_says e (call_of d.call) b right small queue)) h.calls;
    } in
    new))

released : (s : EventSession) (n : ℕ) → AreNumbered s → AreNumbered (next_session s (release_of n))
released s n h = record { queues = change_numbers s.stands n (λ e. record e { held = false }) (λ e q. q) h.queues; calls = h.calls }

renumbered : (s : EventSession) (n k : ℕ) → AreNumbered s → AreNumbered (next_session s (notifiers_of n k))
renumbered s n k h = record { queues = change_numbers s.stands n (λ e. record e { notifiers = k }) (λ e q. q) h.queues; calls = h.calls }

expired_numbers : (s : EventSession) (p : List ℕ) → AreNumbered s → AreNumbered (next_session s (expire_of p))
expired_numbers s p h = record { queues = h.queues; calls = doing_numbers s.doing p None (λ d e. absurd (none_some d e)) h.calls }

abandoned : (s : EventSession) (p : List ℕ) → AreNumbered s → AreNumbered (next_session s (abandon_of p))
abandoned s p h = record {
  queues = λ m st e.
      let w = each_was (gone_with p) (s.stands m) st e in
      subst (λ (z : StandingEvent). AreNumbers z.event.queue) (sym w.is) (h.queues m w.old w.was);
  calls = doing_numbers s.doing p None (λ d e. absurd (none_some d e)) h.calls;
}

begun_numbers : (s : EventSession) (p : List ℕ) (n : ℕ) (c : EventCall) → IsNumberedCall c → AreNumbered s → AreNumbered (next_session s (begin_on p n c))
begun_numbers s p n c k h = record {
  queues = h.queues;
  calls = doing_numbers s.doing p _ (λ d e. subst (λ (z : PartyCall). IsNumbered z.call) (same _ d e) (record { call = k; told = tt })) h.calls;
}
  where
    same : (y z : PartyCall) → Some y ≡ Some z → y ≡ z
    same y z q = cc

listened_numbers : (s : EventSession) (p : List ℕ) (k : EventKind) (name : List ℕ) (max : ℕ) → AreNumbered s → AreNumbered (next_session s (listen p k name max))
listened_numbers s p k name max h = record {
  queues = λ m st e. at m st (m == s.count + 1) e;
  calls = h.calls;
}
  where
    new : StandingEvent
    new = record { event = memory.new_event k name max; listener = p }

    at : (m : ℕ) (st : StandingEvent) (b : Bool) → (if b then Some (record { event = memory.new_event k name max; listener = p }) else s.stands m) ≡ Some st → AreNumbers st.event.queue
    at m st true e = subst (λ (z : StandingEvent). AreNumbers z.event.queue) (same _ st e) tt
      where
        same : (y z : StandingEvent) → Some y ≡ Some z → y ≡ z
        same y z q = cc
    at m st false e = h.queues m st e

-- ---- what a party asks for and lets go

opened_numbers : (x : ScriptEvents) (party name : List ℕ) (o : Option ℕ) → AreNumbered x.session → AreNumbered (opened x party name o).session
opened_numbers x party name None h = h
opened_numbers x party name (Some n) h = with_event (event_of x.session.stands n)
  where
    by_held : (e : Event) (b : Bool) → AreNumbered (if b then notifier_more x party name n e else x).session
    by_held e true = renumbered x.session n (e.notifiers + 1) h
    by_held e false = h

    with_event : (o : Option Event) → AreNumbered (opened_with x party name n o).session
    with_event None = h
    with_event (Some e) = by_held e e.held

asked_numbers : (x : ScriptEvents) (party : List ℕ) (q : EventAsk) → AreNumbered x.session → AreNumbered (ask_made x party q).session
asked_numbers x party (to_listen name k event max) h = at (is_some (x.names k event))
  where
    at : (b : Bool) → AreNumbered (if b then x else with_listener x party name k event max).session
    at true = h
    at false = listened_numbers x.session party k event max h
asked_numbers x party (to_notify name k event) h = opened_numbers x party name (x.names k event) h

let_go_numbers : (x : ScriptEvents) (party name : List ℕ) (t : EventThing) (o : Option Event) → AreNumbered x.session → AreNumbered (let_go_from x party name t o).session
let_go_numbers x party name t None h = h
let_go_numbers x party name (listener n) (Some e) h = released x.session n h
let_go_numbers x party name (notifier n) (Some e) h = renumbered x.session n (e.notifiers - 1) h

dropped_numbers : (x : ScriptEvents) (party name : List ℕ) (o : Option EventThing) → AreNumbered x.session → AreNumbered (event_let_go x party name o).session
dropped_numbers x party name None h = h
dropped_numbers x party name (Some t) h = let_go_numbers x party name t (event_of x.session.stands _) h

-- ---- calls that begin

IsNumberedTask : EventTask → Type 0
IsNumberedTask (ask q) = Unit {0}
IsNumberedTask (act n c) = IsNumberedCall c

abbrev OnTask : Option EventTask → Type 0
OnTask None = Unit {0}
OnTask (Some t) = IsNumberedTask t

abbrev OnTurn : Option EventTurn → Type 0
OnTurn None = Unit {0}
OnTurn (Some (refused why)) = Unit {0}
OnTurn (Some (begins party t)) = IsNumberedTask t
OnTurn (Some (steps party)) = Unit {0}
OnTurn (Some (drops party name)) = Unit {0}
OnTurn (Some (expires party)) = Unit {0}

notify_numbers : (e : Event) (id : ℕ) (b : Bool) → IsNumber id → IsNumberedCall (a_notify (if b then notify_bits id e.max else notify_queue id))
notify_numbers e id true h = h
notify_numbers e id false h = h

on_event_numbers : (x : ScriptEvents) (call : Event → EventCall) (n : ℕ) → ((e : Event) → IsNumberedCall (call e)) → OnTask (on_event x call n)
unfolding IsNumberedTask
on_event_numbers x call n h = at (event_of x.session.stands n)
  where
    at : (o : Option Event) → OnTask (and_then o (λ e. Some (act n (call e))))
    at None = tt
    at (Some e) = h e

thing_numbers : (x : ScriptEvents) (call : Event → EventCall) (o : Option ℕ) → ((e : Event) → IsNumberedCall (call e)) → OnTask (and_then o (on_event x call))
thing_numbers x call None h = tt
thing_numbers x call (Some n) h = on_event_numbers x call n h

task_numbers : (x : ScriptEvents) (party : List ℕ) (q : EventRequest) → IsEventRequest q → OnTask (task_of x party q)
unfolding IsNumberedTask
task_numbers x party (request.ListenBits name event max) h = tt
task_numbers x party (request.ListenQueue name event) h = tt
task_numbers x party (request.Notifier name k event) h = tt
task_numbers x party (request.Notify name id) h = thing_numbers x (λ e. notify_call e id) (notified (x.things party name)) (λ e. notify_numbers e id (is_bits e.kind) h.1)
task_numbers x party (request.Wait name many m) h = thing_numbers x _ (listened_event (x.things party name)) (λ e. tt)

turn_if : (b : Bool) (t u : EventTurn) → OnTurn (Some t) → OnTurn (Some u) → OnTurn (Some (if b then t else u))
turn_if true t u h k = h
turn_if false t u h k = k

maybe_if : (b : Bool) (t u : Option EventTurn) → OnTurn t → OnTurn u → OnTurn (if b then t else u)
maybe_if true t u h k = h
maybe_if false t u h k = k

request_numbers : (s : ScriptState) (party : List ℕ) (q : EventRequest) → IsEventRequest q → OnTurn (Some (request_turn s party q))
request_numbers s party q h =
    turn_if (runs_on_events s.events party) (refused reason.Busy) (free_turn (s.boards.parties party) (task_turn s party q (task_of s.events party q))) tt
    (by_party (s.boards.parties party) (by_task (task_of s.events party q) (task_numbers s.events party q h)))
  where
    by_task : (o : Option EventTask) → OnTask o → OnTurn (Some (task_turn s party q o))
    by_task None k = tt
    by_task (Some t) k = turn_if (is_name_taken s party (name_made q)) (refused reason.Taken) (begins party t) tt k

    by_party : (y : Party) → OnTurn (Some (task_turn s party q (task_of s.events party q))) → OnTurn (Some (free_turn y (task_turn s party q (task_of s.events party q))))
    by_party free k = k
    by_party (running r) k = tt
    by_party gone k = tt

begin_none : (y : Party) (b : Bool) → OnTurn (begin_turn y b)
begin_none free true = tt
begin_none free false = tt
begin_none (running r) b = tt
begin_none gone b = tt

drop_none : (y : Party) (b : Bool) (party name : List ℕ) → OnTurn (drop_turn y b party name)
drop_none free true party name = tt
drop_none free false party name = tt
drop_none (running r) b party name = tt
drop_none gone b party name = tt

expire_none : (s : ScriptState) (party : List ℕ) (y : Party) → OnTurn (Some (expire_turn s party y))
expire_none s party free = by_call (s.events.asked party) (s.events.session.doing party)
  where
    by_call : (o : Option EventAsk) (d : Option PartyCall) → OnTurn (Some (expire_of_call party o d))
    by_call (Some q) d = tt
    by_call None None = tt
    by_call None (Some d) = turn_if (may_expire d) (expires party) (refused reason.NotWaiting) tt tt
expire_none s party (running r) = tt
expire_none s party gone = tt

line_numbers : (s : ScriptState) (l : ScriptLine) → IsScriptLine l → OnTurn (turn_of s l)
line_numbers s (line.Board (board_line.Begin p c)) h = maybe_if (runs_on_events s.events p) (Some (refused reason.Busy)) (begin_turn (s.boards.parties p) _) tt (begin_none (s.boards.parties p) _)
line_numbers s (line.Board (board_line.Step p)) h = maybe_if (runs_on_events s.events p) (Some (steps p)) None tt tt
line_numbers s (line.Board (board_line.Release p name)) h = maybe_if (runs_on_events s.events p) (Some (refused reason.Busy)) (drop_turn (s.boards.parties p) _ p name) tt (drop_none (s.boards.parties p) _ p name)
line_numbers s (line.Board (board_line.Abandon p)) h = tt
line_numbers s (line.Board (board_line.Words n)) h = tt
line_numbers s (line.Event p q) h = request_numbers s p q h.1
line_numbers s (line.Expire p) h = expire_none s p (s.boards.parties p)

-- ---- a step on an event

-- what is known where a party's call on an event runs
pub record IsActing (x : ScriptEvents) (d : PartyCall) (e : Event) : Type 0 where
  pub can : CanPerform e (owed (call_of d.call))
  pub small : IsSmall (owed (call_of d.call))
  pub text : is_event_name e.name ≡ true
  pub queue : AreNumbers e.queue

pub acting : (s : ScriptState) (n : ℕ) (party : List ℕ) (d : PartyCall) (e : Event) → AreSoundEvents s.events n → n < 2 ^ 63 → AreNumbered s.events.session → s.events.session.doing party ≡ Some d → event_of s.events.session.stands d.on ≡ Some e → IsActing s.events d e
acting s n party d e sound few h runs stands =
    let k = stands_as s.events.session d.on e stands in
    let formed = sound.formed d.on k.st k.is in
    let can : CanPerform e (owed (call_of d.call)) = subst (λ (z : Event). CanPerform z (owed (call_of d.call))) k.event (can_perform s.events n sound few party d k.st runs k.is) in
    let max : e.max ≤ 65535 = subst (λ (z : Event). z.max ≤ 65535) k.event formed.max in
    let bounded : is_bits e.kind ≡ true → (id : ℕ) → has e.pending id ≡ true → id ≤ e.max =
    subst (λ (z : Event). is_bits z.kind ≡ true → (id : ℕ) → has z.pending id ≡ true → id ≤ z.max) k.event
    (λ bits. (events.sound_reached (view s.events.session d.on k.st) (reached s.events n sound d.on k.st k.is) bits).bounded) in
    record {
      can = can;
      small = owed_small e (call_of d.call) (h.calls party d runs).call can max bounded;
      text = subst (λ (z : Event). is_event_name z.name ≡ true) k.event formed.text;
      queue = subst (λ (z : Event). AreNumbers z.queue) k.event (h.queues d.on k.st k.is);
    }

-- ---- lines

step_keeps : (s : ScriptState) (n : ℕ) (party : List ℕ) (a : ScriptAnswer) → AreSoundEvents s.events n → n < 2 ^ 63 → AreNumbered s.events.session → (q : Option EventAsk) (o : Option PartyCall) → s.events.session.doing party ≡ o → IsStepOf s.events q o a → AreNumbered (step_made s.events party q a).session
step_keeps s n party a sound few h (Some q) o e ok = asked_numbers s.events party q h
step_keeps s n party a sound few h None None e ok = absurd ok
step_keeps s n party a sound few h None (Some d) e ok = at (event_of s.events.session.stands d.on) refl ok
  where
    at : (o : Option Event) → event_of s.events.session.stands d.on ≡ o → IsSomeAnd o (λ z. IsEventAccess z d.call a) → AreNumbered (step_made s.events party None a).session
    at None f k = absurd k
    at (Some z) f k =
        let facts = acting s n party d z sound few h e f in
        subst (λ (y : ScriptAnswer). AreNumbered (step_made s.events party None y).session) (sym k.printed) (stepped_numbers s.events.session party d z k.answer h e f k.right facts.small)

turn_keeps : (s : ScriptState) (n : ℕ) (a : ScriptAnswer) (t : EventTurn) → AreSoundEvents s.events n → n < 2 ^ 63 → AreNumbered s.events.session → OnTurn (Some t) → IsTurnAnswer s.events t a → AreNumbered (turned s.events t a).session
unfolding IsNumberedTask
turn_keeps s n a (refused why) sound few h k ok = h
turn_keeps s n a (begins party (ask q)) sound few h k ok = h
turn_keeps s n a (begins party (act m c)) sound few h k ok = begun_numbers s.events.session party m c k h
turn_keeps s n a (steps party) sound few h k ok = step_keeps s n party a sound few h (s.events.asked party) (s.events.session.doing party) refl ok
turn_keeps s n a (drops party name) sound few h k ok = dropped_numbers s.events party name (s.events.things party name) h
turn_keeps s n a (expires party) sound few h k ok = expired_numbers s.events.session party h

boards_keep : (x : ScriptEvents) (l : Line) (a : Answer) → AreNumbered x.session → AreNumbered (after_boards x l a).session
boards_keep x (board_line.Begin p c) a h = h
boards_keep x (board_line.Step p) a h = h
boards_keep x (board_line.Release p name) a h = h
boards_keep x (board_line.Abandon p) answer.Begun h = h
boards_keep x (board_line.Abandon p) (answer.Refused why) h = h
boards_keep x (board_line.Abandon p) (answer.Step b told) h = h
boards_keep x (board_line.Abandon p) answer.Gone h = abandoned x.session p h
boards_keep x (board_line.Abandon p) (answer.Words ws) h = h
boards_keep x (board_line.Words n) a h = h

-- a line that is answered in its turn keeps the numbers
pub line_keeps : (s : ScriptState) (l : ScriptLine) (a : ScriptAnswer) (n : ℕ) (o : Option EventTurn) → turn_of s l ≡ o → IsScriptLine l → IsRuled s l a o → AreSoundEvents s.events n → n < 2 ^ 63 → AreNumbered s.events.session
    → AreNumbered (after_turn s l a o).events.session
line_keeps s l a n (Some t) turn ok r sound few h = turn_keeps s n a t sound few h (subst OnTurn turn (line_numbers s l ok)) r
line_keeps s (line.Board l) a n None turn ok r sound few h = subst (λ (b : ScriptAnswer). AreNumbered (after_turn s (line.Board l) b None).events.session) (sym r.is) (boards_keep s.events l r.answer h)
line_keeps s (line.Event p q) a n None turn ok r sound few h = absurd r
line_keeps s (line.Expire p) a n None turn ok r sound few h = absurd r
