-- Steps of calls.
use Rattle.std.proofs.Common.{◌≡◌, ℕ, ◌<◌, ◌≤◌, Bool, true, false, List, ◌∷◌, ◌++◌, length, refl, sym, ap, subst, ◌∙◌, Option, Some, None, inl, inr, ◌⊎◌, arith}
use Rattle.std.specs.Prelude.{if◌then◌else◌, ◌^◌, not, is_some, option_map, IfOk, IsSomeAnd, OnErr, Result, Ok, Err}
use Rattle.board_event_model.specs.declared.access.EventAccess.{EventAccess}
use Rattle.board_event_model.specs.declared.access.EventAnswer.{EventAnswer}
use Rattle.board_event_model.specs.declared.call.EventProgress.{EventProgress}
use Rattle.board_event_model.specs.declared.kind.EventKind.{EventKind}
use Rattle.board_event_model.specs.EventMemory.{Event, IsRight, after}
use Rattle.board_event_model.specs.EventCalls.{EventCall, a_notify, a_wait, is_last, is_waiting, owed, reported, turn, RunningCall, call_of, went_on}
use Rattle.board_event_model.specs.EventSessions.{EventSession, PartyCall, change_at, do_at, doing_on, event_of, next_session, step_of, stepped_on, took_step}
use Rattle.board_event_model.proofs.SoundLemmas.{after_kind}
use Rattle.board_event_core.specs.EventTable.{CanPerformAt, EventTable, changed, event_at}
use Rattle.script_model.specs.declared.reply.EventReply.{EventReply}
use Rattle.script_model.specs.declared.reply.EventReply.TheVariants as event_reply
use Rattle.script_model.specs.ScriptAnswers.{ScriptAnswer, of_ask, of_event}
use Rattle.script_model.specs.ScriptEvents.{EventAsk, EventThing, IsEventAccess, IsStepOf, ScriptEvents, ask_made, ask_told, end_told, is_for_all, listener, notifier, event_number, opened, opened_with, step_made, step_told, to_listen, to_notify, with_ask, with_listener, notifier_more}
use Rattle.script_model.specs.SoundEvents.{AreSoundEvents, IsCallOfThing, IsHeldCall}
use Rattle.script_events.specs.declared.party_events.PartyEvents.{PartyEvents}
use Rattle.script_events.specs.declared.rows.Act.{Act}
use Rattle.script_events.specs.declared.rows.CallTask.{CallTask}
use Rattle.script_events.specs.declared.rows.CallTask.TheVariants as task
use Rattle.script_events.specs.declared.step.Stepped.{Stepped}
use Rattle.script_events.specs.declared.step.Stepped.TheVariants as stepped
use Rattle.script_events.specs.Calls.{AnswersAsk, CanStep, GoesOn, IsAnswered, IsAsked, IsLeft, IsWentOn, Makes, StepsTo, TakesAt, stays}
use Rattle.script_events.specs.Calls.{goes_on as goes_on_told}
use Rattle.script_events.specs.Left.{HasTask}
use Rattle.script_events.specs.PartyEvents.{AreCalls, Gives, Held, Holds, IsActOf, IsAnswerOf, IsAskedBy, IsCall, IsRunning, IsStepped, IsTaskOf, Represents, StepMayWant, StepTakes, Steps, event_call, held_in, task_in, thing_in}
use Rattle.script_events.proofs.Asks.{few_notifiers}
use Rattle.script_events.proofs.Tasks.{alike, ask_changed, call_changed}
use Rattle.script_events.proofs.Holding.{IsThere, event_of-some, thing_there}
use Rattle.script_events.proofs.Accesses.{accessed, kept_after, still_there}
use Rattle.script_events.proofs.Running.{can, goes_on}

-- ---- the task of a call that runs

-- it says what the party asks for
record IsAsking (t : CallTask) (a : Option EventAsk) : Type 0 where
  pub ask : EventAsk
  pub asked : a ≡ Some ask
  pub is : IsAskedBy t ask

-- or how its call stands
pub record IsActing (t : CallTask) (a : Option EventAsk) (d : Option PartyCall) : Type 0 where
  pub call : PartyCall
  pub idle : a ≡ None
  pub doing : d ≡ Some call
  pub is : IsTaskOf t call

said : (t : CallTask) (q : Option EventAsk) (d : Option PartyCall) → IsRunning t q d → IsAsking t q ⊎ IsActing t q d
said t None None h = absurd h
said t None (Some d) h = inr (record { call = d; idle = refl; doing = refl; is = h })
said t (Some q) d h = inl (record { ask = q; asked = refl; is = h })

-- of a call on an event
acting : (a : Act) (q : Option EventAsk) (d : Option PartyCall) → IsRunning (task.Act a) q d → IsActing (task.Act a) q d
acting a q d h = elim (said (task.Act a) q d h) [
  | inl p ↦ absurd p.is
  | inr r ↦ r
]

-- of an ask
acts_no_ask : (t : CallTask) (q : EventAsk) (d : PartyCall) → IsAskedBy t q → IsTaskOf t d → ⊥
acts_no_ask (task.Listen name kind event max) q d h k = k
acts_no_ask (task.Notifier name kind event) q d h k = k
acts_no_ask (task.Act a) q d h k = h

same_ask : (t : CallTask) (p q : EventAsk) → IsAskedBy t p → IsAskedBy t q → p ≡ q
same_ask (task.Listen name kind event max) p q h k = h ∙ sym k
same_ask (task.Notifier name kind event) p q h k = h ∙ sym k
same_ask (task.Act a) p q h k = absurd h

asking : (t : CallTask) (ask : EventAsk) (q : Option EventAsk) (d : Option PartyCall) → IsAskedBy t ask → IsRunning t q d → q ≡ Some ask
asking t ask q d f h = elim (said t q d h) [
  | inl p ↦ p.asked ∙ ap (λ (r : EventAsk). Some r) (same_ask t p.ask ask p.is f)
  | inr r ↦ absurd (acts_no_ask t ask r.call f r.is)
]

-- the party's task is what it runs
pub runs_task : (m : PartyEvents) (x : ScriptEvents) → Represents m x → (party : List ℕ) (t : CallTask) → task_in m party ≡ Some t → IsRunning t (x.asked party) (x.session.doing party)
runs_task m x rep party t found = subst (λ (o : Option CallTask). IsCall o (x.asked party) (x.session.doing party)) found (rep.calls party)

-- ---- an ask

-- it changes no call
made_same : (x : ScriptEvents) (party : List ℕ) (q : EventAsk) (P : (List ℕ → Option EventAsk) → (List ℕ → Option PartyCall) → Type 0) → P x.asked x.session.doing → P (ask_made x party q).asked (ask_made x party q).session.doing
made_same x party (to_listen name k event max) P h = elim (is_some (x.names k event)) as (λ b. P (if b then x else with_listener x party name k event max).asked (if b then x else with_listener x party name k event max).session.doing) [ true ↦ h | false ↦ h ]
made_same x party (to_notify name k event) P h = by (x.names k event)
  where
    held : (n : ℕ) (e : Event) (b : Bool) → P (if b then notifier_more x party name n e else x).asked (if b then notifier_more x party name n e else x).session.doing
    held n e true = h
    held n e false = h

    open_with : (n : ℕ) (o : Option Event) → P (opened_with x party name n o).asked (opened_with x party name n o).session.doing
    open_with n None = h
    open_with n (Some e) = held n e e.held

    by : (o : Option ℕ) → P (opened x party name o).asked (opened x party name o).session.doing
    by None = h
    by (Some n) = open_with n (event_of x.session.stands n)

ask_stepped : (m new : PartyEvents) (x : ScriptEvents) (count : ℕ) (sound : AreSoundEvents x count) (rep : Represents m x) (party : List ℕ) (t : CallTask) (found : task_in m party ≡ Some t) (q : EventAsk) (is : IsAskedBy t q) (told : EventReply)
    → AnswersAsk m.events (held_in m.things) new.events (held_in new.things) party q told → HasTask (task_in m) (task_in new) party None → IsStepped new x party (stepped.Asked told)
ask_stepped m new x count sound rep party t found q is told answers calls =
    let asked : x.asked party ≡ Some q = asking t q (x.asked party) (x.session.doing party) is (runs_task m x rep party t found) in
    let done : IsAsked new.events (held_in new.things) x party q told = answers x count sound asked rep.held in
    let idle : x.session.doing party ≡ None = sound.apart party q asked in
    let tasks : AreCalls (task_in new) (with_ask x.asked party None) x.session.doing = ask_changed (task_in m) (task_in new) party None calls x.asked x.session.doing rep.calls None (refl, idle) in
    let h = done.held in
    record {
      answer = of_ask told;
      told_is = refl;
      right = rw asked (ap of_ask done.told_is);
      represents = rw asked (record {
        held = record { once = h.once; events = h.events; drawn = h.drawn; names = h.names; things = h.things };
        calls = made_same x party q (λ a d. AreCalls (task_in new) (with_ask a party None) d) tasks;
      });
    }

-- what is made takes memory
ask_takes : (m : PartyEvents) (x : ScriptEvents) (count : ℕ) (sound : AreSoundEvents x count) (rep : Represents m x) (party : List ℕ) (t : CallTask) (found : task_in m party ≡ Some t) (q : EventAsk) (is : IsAskedBy t q)
    → Makes m.events (held_in m.things) party q → StepTakes x (x.asked party) (x.session.doing party)
ask_takes m x count sound rep party t found q is makes =
    let asked : x.asked party ≡ Some q = asking t q (x.asked party) (x.session.doing party) is (runs_task m x rep party t found) in
    let done : ask_told x q ≡ event_reply.Done = makes x count sound asked rep.held in
    rw asked done

-- ---- an access

-- the event of a call is that of the thing that it uses
thing_on : (t : EventThing) (on : ℕ) (c : EventCall) → IsCallOfThing t on c → event_number t ≡ on
thing_on (listener n) on (a_notify c) h = absurd h
thing_on (listener n) on (a_wait w) h = h
thing_on (notifier n) on (a_notify c) h = h
thing_on (notifier n) on (a_wait w) h = absurd h

call_there : (t : EventTable) (held : Held) (x : ScriptEvents) (count : ℕ) → AreSoundEvents x count → Holds t held x → (party : List ℕ) (d : PartyCall) → x.session.doing party ≡ Some d → IsThere t x d.on
call_there t held x count sound holds party d runs =
    let uses : IsHeldCall x party d = sound.calls party d runs in
    subst (λ (n : ℕ). IsThere t x n) (thing_on uses.thing d.on d.call.first uses.uses) (thing_there t held x count sound holds party uses.name uses.thing uses.found)

-- so it goes on, and its event can take its access
module _ (m : PartyEvents) (x : ScriptEvents) (count : ℕ) (few : count < 2 ^ 63) (sound : AreSoundEvents x count) (rep : Represents m x) (party : List ℕ) (a : Act) (found : task_in m party ≡ Some (task.Act a)) where
  acts : IsActing (task.Act a) (x.asked party) (x.session.doing party)
  acts = acting a (x.asked party) (x.session.doing party) (runs_task m x rep party (task.Act a) found)

  there : IsThere m.events x acts.call.on
  there = call_there m.events (held_in m.things) x count sound rep.held party acts.call acts.doing

  act_goes_on : GoesOn (event_call a.call)
  act_goes_on = rw acts.is.call (goes_on x count few sound party acts.call acts.doing there.st there.stands)

  act_can : CanPerformAt m.events a.event (owed (event_call a.call))
  act_can = rw (acts.is.event, acts.is.call, there.found) (can x count few sound party acts.call acts.doing there.st there.stands)

  -- it takes memory where its access gives ids
  act_takes : IsSomeAnd (event_at m.events a.event) (λ e. Gives e (event_call a.call)) → StepTakes x (x.asked party) (x.session.doing party)
  act_takes h =
      let same : event_at m.events a.event ≡ event_of x.session.stands acts.call.on = ap (event_at m.events) acts.is.event ∙ there.found ∙ sym (event_of-some x.session.stands acts.call.on there.st there.stands) in
      let given = subst (λ (c : EventCall). IsSomeAnd (event_at m.events a.event) (λ e. Gives e c)) acts.is.call h in
      rw (acts.idle, acts.doing) (subst (λ (o : Option Event). IsSomeAnd o (λ e. Gives e (call_of acts.call.call))) same given)

-- the session after the access
abbrev session_after : EventSession → List ℕ → PartyCall → Event → EventAccess → EventAnswer → EventSession
session_after s party d e access answer = record s {
  stands = change_at s.stands d.on (λ x. after x access);
  doing = do_at s.doing party (doing_on d.on (went_on d.call e access answer));
  history = record { on = d.on; taken = record { call = d.call.number; access = access; last = is_last (turn (call_of d.call) answer).0 } } ∷ s.history;
}

stepped_to : (s : EventSession) (party : List ℕ) (d : PartyCall) (e : Event) (access : EventAccess) (answer : EventAnswer) → s.doing party ≡ Some d → event_of s.stands d.on ≡ Some e → next_session s (step_of party access answer) ≡ session_after s party d e access answer
stepped_to s party d e access answer runs was = ap (stepped_on s party access answer) runs ∙ ap (took_step s party access answer d) was

-- how the call stands after the access
abbrev next_call : RunningCall → Event → EventAccess → EventAnswer → RunningCall
next_call r e access answer = record {
  number = r.number;
  first = r.first;
  answers = answer ∷ r.answers;
  told = r.told ++ reported (turn (call_of r) answer).0;
  steps = record { met = e; access = access } ∷ r.steps;
  waited = is_waiting (turn (call_of r) answer).0;
}

went_to : (r : RunningCall) (e : Event) (access : EventAccess) (answer : EventAnswer) (last : Bool) → is_last (turn (call_of r) answer).0 ≡ last → went_on r e access answer ≡ (if last then None else Some (next_call r e access answer))
went_to r e access answer last f = rw f refl

left_act : (b : Act) (d : PartyCall) (next : EventCall) (told : List ℕ) (waited : Bool) (r : RunningCall) → IsLeft b d.on next told waited → next ≡ call_of r → told ≡ r.told → waited ≡ r.waited → IsActOf b (record { on = d.on; call = r })
left_act b d next told waited r h e f g = record { event = h.event_is; call = h.call ∙ e; told = h.told_is ∙ f; waited = h.waited_is ∙ g }

-- what the party has to do after the access
call_after : (d : PartyCall) (e : Event) (access : EventAccess) (answer : EventAnswer) (q : Option EventAsk) → q ≡ None → (b : Act) (next : EventCall) → next ≡ (turn (call_of d.call) answer).1 → (told : List ℕ) → told ≡ d.call.told ++ reported (turn (call_of d.call) answer).0
    → (last : Bool) → is_last (turn (call_of d.call) answer).0 ≡ last → (last ≡ false → IsLeft b d.on next told (is_waiting (turn (call_of d.call) answer).0))
    → IsCall (if last then None else Some (task.Act b)) q (doing_on d.on (went_on d.call e access answer))
call_after d e access answer q idle b next is_next told is_told true last left = alike None None q None (doing_on d.on (went_on d.call e access answer)) None refl idle (ap (doing_on d.on) (went_to d.call e access answer true last)) (refl, refl)
call_after d e access answer q idle b next is_next told is_told false last left = alike (Some (task.Act b)) (Some (task.Act b)) q None (doing_on d.on (went_on d.call e access answer)) (Some (record { on = d.on; call = next_call d.call e access answer }))
    refl idle (ap (doing_on d.on) (went_to d.call e access answer false last)) (left_act b d next told (is_waiting (turn (call_of d.call) answer).0) (next_call d.call e access answer) (left refl) is_next is_told refl)

-- what a call is told with its access
abbrev reply_of : EventProgress → EventCall → List ℕ → Option EventReply
reply_of p c ids = if is_last p then Some (end_told (is_for_all c) ids p) else None

-- the step of a party that runs a call on an event
right_step : (x : ScriptEvents) (asked : Option EventAsk) (doing : Option PartyCall) (d : PartyCall) (e : Event) (answer : ScriptAnswer) → asked ≡ None → doing ≡ Some d → event_of x.session.stands d.on ≡ Some e → IsEventAccess e d.call answer → IsStepOf x asked doing answer
right_step x asked doing d e answer f g was h = rw (f, g) (rw was h)

right_of : (t : EventTable) (n : ℕ) (e : Event) (access : EventAccess) (answer : EventAnswer) → event_at t n ≡ Some e → IsSomeAnd (event_at t n) (λ e. IsRight e access answer) → IsRight e access answer
right_of t n e access answer found h = (rw found at h)

module _ (m new : PartyEvents) (x : ScriptEvents) (count : ℕ) (few : count < 2 ^ 63) (sound : AreSoundEvents x count) (rep : Represents m x) (party : List ℕ) (a b : Act) (found : task_in m party ≡ Some (task.Act a)) (told : Stepped)
    (went : IsWentOn m.events new.events a b told) (things : (p n : List ℕ) → held_in new.things p n ≡ held_in m.things p n) (calls : HasTask (task_in m) (task_in new) party (if is_last went.step.progress then None else Some (task.Act b))) where
  mine : IsActing (task.Act a) (x.asked party) (x.session.doing party)
  mine = acting a (x.asked party) (x.session.doing party) (runs_task m x rep party (task.Act a) found)

  abbrev d : PartyCall
  d = mine.call

  on : IsThere m.events x d.on
  on = call_there m.events (held_in m.things) x count sound rep.held party d mine.doing

  abbrev e : Event
  e = on.st.event

  abbrev access : EventAccess
  access = went.step.access

  abbrev answer : EventAnswer
  answer = went.step.answer

  was : event_of x.session.stands d.on ≡ Some e
  was = event_of-some x.session.stands d.on on.st on.stands

  table : new.events ≡ changed m.events d.on (λ e. after e access)
  table = went.made.memory ∙ ap (λ (n : ℕ). changed m.events n (λ e. after e access)) mine.is.event

  owes : access ≡ owed (call_of d.call)
  owes = went.made.owes ∙ ap owed mine.is.call

  progress : went.step.progress ≡ (turn (call_of d.call) answer).0
  progress = went.made.progress ∙ ap (λ (c : EventCall). (turn c answer).0) mine.is.call

  right : IsRight e (owed (call_of d.call)) answer
  right = subst (λ (acc : EventAccess). IsRight e acc answer) owes (right_of m.events d.on e access answer on.found
      (subst (λ (n : ℕ). IsSomeAnd (event_at m.events n) (λ e. IsRight e access answer)) mine.is.event went.made.right))

  abbrev reply : Option EventReply
  reply = reply_of went.step.progress (event_call a.call) a.told.items

  told_so : reply ≡ step_told d.call (turn (call_of d.call) answer).0
  told_so = ap (λ (c : EventCall). reply_of went.step.progress c a.told.items) mine.is.call ∙ ap (reply_of went.step.progress (call_of d.call)) mine.is.told ∙ ap (λ (p : EventProgress). reply_of p (call_of d.call) d.call.told) progress

  abbrev shown : ScriptAnswer
  shown = of_event e.kind e.name access answer reply

  abbrev y : ScriptEvents
  y = record x { session = session_after x.session party d e access answer }

  holds : Holds new.events (held_in new.things) y
  holds =
      let h = accessed m.events new.events (held_in m.things) x y rep.held d.on access on table (λ q. refl) refl refl refl in
      record { once = h.once; events = h.events; drawn = h.drawn; names = h.names; things = λ p n. ap (option_map thing_in) (things p n) ∙ h.things p n }

  tasks : AreCalls (task_in new) x.asked y.session.doing
  tasks = call_changed (task_in m) (task_in new) party (if is_last went.step.progress then None else Some (task.Act b)) calls x.asked x.session.doing rep.calls (doing_on d.on (went_on d.call e access answer))
      (call_after d e access answer (x.asked party) mine.idle b went.next (went.made.goes_on ∙ ap (λ (c : EventCall). (turn c answer).1) mine.is.call) (a.told.items ++ reported went.step.progress)
      (ap (λ (ids : List ℕ). ids ++ reported went.step.progress) mine.is.told ∙ ap (λ (p : EventProgress). d.call.told ++ reported p) progress) (is_last went.step.progress) (sym (ap is_last progress))
      (λ more. subst (λ (p : EventProgress). IsLeft b d.on went.next (a.told.items ++ reported went.step.progress) (is_waiting p)) progress
      (subst (λ (n : ℕ). IsLeft b n went.next (a.told.items ++ reported went.step.progress) (is_waiting went.step.progress)) mine.is.event (went.left more))))

  now_there : event_at new.events d.on ≡ Some (after e access)
  now_there = still_there m.events new.events (held_in m.things) x y rep.held d.on access on table (λ q. refl) refl refl refl

  told_of : IsAnswerOf new.events (stepped.Acted a.event access answer reply) shown
  told_of = subst (λ (n : ℕ). IsSomeAnd (event_at new.events n) (λ f. shown ≡ of_event f.kind f.name access answer reply)) (sym mine.is.event)
      (subst (λ (o : Option Event). IsSomeAnd o (λ f. shown ≡ of_event f.kind f.name access answer reply)) (sym now_there)
      (ap (λ (k : EventKind). of_event k e.name access answer reply) (sym (after_kind e access)) ∙ ap (λ (n : List ℕ). of_event (after e access).kind n access answer reply) (sym (kept_after e access).name)))

  stands_for : Represents new (step_made x party None shown)
  stands_for = subst (λ (s : EventSession). Represents new (record x { session = s })) (sym (stepped_to x.session party d e access answer mine.doing was)) (record {
    held = holds;
    calls = tasks;
  })

  act_stepped : IsStepped new x party told
  act_stepped = subst (λ (s : Stepped). IsStepped new x party s) (sym went.told_is) (record {
    answer = shown;
    told_is = told_of;
    right = right_step x (x.asked party) (x.session.doing party) d e shown mine.idle mine.doing was (record {
      answer = answer;
      right = right;
      printed = ap (λ (acc : EventAccess). of_event e.kind e.name acc answer reply) owes ∙ ap (λ (r : Option EventReply). of_event e.kind e.name (owed (call_of d.call)) answer r) told_so;
    });
    represents = subst (λ (q : Option EventAsk). Represents new (step_made x party q shown)) (sym mine.idle) stands_for;
  })

-- an access that gives ids
pub gives_at : (t : EventTable) (n : ℕ) (c : EventCall) (access : EventAccess) (answer : EventAnswer) → IsSomeAnd (event_at t n) (λ e. IsRight e access answer) → access ≡ owed c → 0 < length (reported (turn c answer).0) → IsSomeAnd (event_at t n) (λ e. Gives e c)
gives_at t n c access answer right owes ids = by (event_at t n) right
  where
    by : (o : Option Event) → IsSomeAnd o (λ e. IsRight e access answer) → IsSomeAnd o (λ e. Gives e c)
    by None h = absurd h
    by (Some e) h = record { answer = answer; right = subst (λ (a : EventAccess). IsRight e a answer) owes h; ids = ids }

-- ---- the step of whatever a party runs

goes_or_ends : (last : Bool) (r : EventReply) (left : Option CallTask) → (if not (is_some (if last then Some r else None)) then left else None) ≡ (if last then None else left)
goes_or_ends true r left = refl
goes_or_ends false r left = refl

module _ (m new : PartyEvents) (x : ScriptEvents) (count : ℕ) (few : count < 2 ^ 63) (sound : AreSoundEvents x count) (rep : Represents m x) (party : List ℕ) where
  answered : (t : CallTask) → task_in m party ≡ Some t → (q : EventAsk) → IsAskedBy t q → (left : Option CallTask) (told : Stepped) → IsAnswered m.events (held_in m.things) new.events (held_in new.things) party q told
      → HasTask (task_in m) (task_in new) party (if stays told then left else None) → IsStepped new x party told
  answered t found q is left told h calls =
      let gone = subst (λ (s : Stepped). HasTask (task_in m) (task_in new) party (if stays s then left else None)) h.told_is calls in
      subst (λ (s : Stepped). IsStepped new x party s) (sym h.told_is) (ask_stepped m new x count sound rep party t found q is h.reply h.answers gone)

  pub step_done : (t : CallTask) → task_in m party ≡ Some t → (left : CallTask) (told : Stepped) → StepsTo m.events (held_in m.things) new.events (held_in new.things) party t left told
      → HasTask (task_in m) (task_in new) party (if stays told then Some left else None) → IsStepped new x party told
  step_done (task.Listen name kind event max) found left told h calls = answered (task.Listen name kind event max) found (to_listen name kind event max) refl (Some left) told h calls
  step_done (task.Notifier name kind event) found left told h calls = answered (task.Notifier name kind event) found (to_notify name kind event) refl (Some left) told h calls
  step_done (task.Act a) found (task.Listen name kind event max) told h calls = absurd h.1
  step_done (task.Act a) found (task.Notifier name kind event) told h calls = absurd h.1
  step_done (task.Act a) found (task.Act b) told h calls =
      let last = is_last h.1.step.progress in
      let reply = end_told (is_for_all (event_call a.call)) a.told.items h.1.step.progress in
      let left = subst (λ (s : Stepped). HasTask (task_in m) (task_in new) party (if stays s then Some (task.Act b) else None)) h.1.told_is calls in
      act_stepped m new x count few sound rep party a b found told h.1 h.0 (subst (λ (o : Option CallTask). HasTask (task_in m) (task_in new) party o) (goes_or_ends last reply (Some (task.Act b))) left)

  -- it can be made
  pub can_step : (t : CallTask) → task_in m party ≡ Some t → CanStep m.events t
  can_step (task.Listen name kind event max) found = (let drawn : m.events.drawn ≡ x.session.count = rep.held.drawn in let made : x.session.count ≤ count = sound.made in omega (arith, drawn, made, few))
  can_step (task.Notifier name kind event) found = few_notifiers m.events (held_in m.things) x count few sound rep.held
  can_step (task.Act a) found = (act_goes_on m x count few sound rep party a found, act_can m x count few sound rep party a found)

  -- and where it wants memory, it takes some
  pub step_takes : (t : CallTask) → task_in m party ≡ Some t → TakesAt m.events (held_in m.things) party t → StepTakes x (x.asked party) (x.session.doing party)
  step_takes (task.Listen name kind event max) found h = ask_takes m x count sound rep party (task.Listen name kind event max) found (to_listen name kind event max) refl h
  step_takes (task.Notifier name kind event) found h = ask_takes m x count sound rep party (task.Notifier name kind event) found (to_notify name kind event) refl h
  step_takes (task.Act a) found h = act_takes m x count few sound rep party a found h

-- each step is told right, whatever the events are that stand here
pub told_done : {E : Type 0} (m new : PartyEvents) (party : List ℕ) (t : CallTask) → task_in m party ≡ Some t → (left : CallTask) (r : Result Stepped E) → IfOk r (StepsTo m.events (held_in m.things) new.events (held_in new.things) party t left)
    → HasTask (task_in m) (task_in new) party (if goes_on_told r then Some left else None) → IfOk r (Steps m new party)
told_done m new party t found left (Ok told) steps calls = λ x count few sound rep. step_done m new x count few sound rep party t found left told steps calls
told_done m new party t found left (Err e) steps calls = steps

-- a call that goes on had its memory
pub had_memory : {E : Type 0} (r : Result Stepped E) (X : Type 0) → goes_on_told r ≡ true → OnErr r X
had_memory (Ok told) X e = tt
had_memory (Err f) X e = absurd cc

-- a step wants memory where it takes some, whatever the events are
pub may_want : (m : PartyEvents) (party : List ℕ) (t : CallTask) → task_in m party ≡ Some t → TakesAt m.events (held_in m.things) party t → StepMayWant m party
may_want m party t found takes x count few sound rep = step_takes m m x count few sound rep party t found takes
