-- What parties hold after a listener or a notifier was asked for.
use Rattle.std.proofs.Common.{◌≡◌, ℕ, ◌+◌, ◌<◌, ◌≤◌, true, false, List, refl, sym, ap, subst, ◌∙◌, Option, Some, None, inl, inr, arith}
use Rattle.std.specs.Prelude.{if◌then◌else◌, ◌==◌, ◌^◌, ◌-◌, nat_lt, Result, Ok, Err, IsSomeAnd}
use Rattle.board_layout.specs.Answer.{Refuses}
use Rattle.board_model.specs.Things.{with_at}
use Rattle.board_names.specs.Table.{at}
use Rattle.board_event_model.specs.declared.kind.EventKind.{EventKind}
use Rattle.board_event_model.specs.EventMemory.{Event, has_holder, new_event, with_notifier}
use Rattle.board_event_model.specs.EventSessions.{EventSession, StandingEvent, event_of, listen, next_session}
use Rattle.board_event_model.proofs.SoundLemmas.{some_same}
use Rattle.board_event_core.specs.EventTable.{EventTable, IsNotifierAnswer, changed, event_at, listen_answer, table_listened, names_of, notifier_of}
use Rattle.board_names.specs.declared.errors.event.ListenerCreateError.{ListenerCreateError}
use Rattle.board_names.specs.declared.errors.event.ListenerCreateError.TheVariants as listener_error
use Rattle.board_names.specs.declared.errors.event.NotifierCreateError.{NotifierCreateError}
use Rattle.board_names.specs.declared.errors.event.NotifierCreateError.TheVariants as notifier_error
use Rattle.script_model.specs.ScriptEvents.{ScriptEvents, listener, notifier, to_listen, to_notify, with_listener, name_held}
use Rattle.script_model.specs.ScriptEvents as script
use Rattle.script_model.specs.SoundEvents.{AreSoundEvents}
use Rattle.script_model.specs.declared.reply.EventReply.TheVariants as reply
use Rattle.script_events.specs.declared.rows.Holding.TheVariants as holding
use Rattle.script_events.specs.Calls.{AnswersAsk, HasAt, HasFewNotifiers, IsAsked, Makes}
use Rattle.script_events.specs.PartyEvents.{Held, Holds, where_held}
use Rattle.script_events.proofs.Options.{either}
use Rattle.script_events.proofs.TableCalls.{HasNames, IsChange, IsListened, change, listening}
use Rattle.script_events.proofs.Holding.{event_of-none, event_of-some, other_change, own_change, things_at}

-- ---- a new event

event_of-listen : (s : EventSession) (p : List ℕ) (k : EventKind) (name : List ℕ) (max q : ℕ) → event_of (next_session s (listen p k name max)).stands q ≡ (if q == s.count + 1 then Some (new_event k name max) else event_of s.stands q)
event_of-listen s p k name max q = elim (either (q == s.count + 1)) [
  | inl f ↦ rw (f, event_of) refl
  | inr f ↦ rw (f, event_of) refl
]

module _ (t u : EventTable) (held held' : Held) (x : ScriptEvents) (count : ℕ) (sound : AreSoundEvents x count) (holds : Holds t held x) (party name : List ℕ) (k : EventKind) (event : List ℕ) (max : ℕ)
    (unheld : x.names k event ≡ None) (is : u ≡ table_listened t k event max) where
  free : (o : Option StandingEvent) → x.session.stands (x.session.count + 1) ≡ o → x.session.stands (x.session.count + 1) ≡ None
  free None e = e
  free (Some st) e = absurd (let low = sound.numbered (x.session.count + 1) st e in omega arith)

  no_event : event_of x.session.stands (x.session.count + 1) ≡ None
  no_event = event_of-none x.session.stands (x.session.count + 1) (free (x.session.stands (x.session.count + 1)) refl)

  new_table : IsListened t u k event max
  new_table = subst (λ (v : EventTable). IsListened t v k event max) (sym is)
      (listening t k event max holds.once (holds.events (t.drawn + 1) ∙ ap (λ (m : ℕ). where_held (event_of x.session.stands (m + 1))) holds.drawn ∙ ap where_held no_event) (holds.names k event ∙ unheld))

  abbrev after : ScriptEvents
  after = with_listener x party name k event max

  events : (q : ℕ) → event_at u q ≡ where_held (event_of after.session.stands q)
  events q =
      let new : event_at u q ≡ (if q == x.session.count + 1 then Some (new_event k event max) else event_at t q) = new_table.events q ∙ ap (λ (m : ℕ). if q == m + 1 then Some (new_event k event max) else event_at t q) holds.drawn in
      new ∙ elim (either (q == x.session.count + 1)) as (λ _. (if q == x.session.count + 1 then Some (new_event k event max) else event_at t q) ≡ where_held (event_of after.session.stands q)) [
        | inl f ↦ rw (event_of-listen x.session party k event max q) (rw f refl)
        | inr f ↦ rw (event_of-listen x.session party k event max q) (rw f (holds.events q))
      ]

  -- a listener more
  pub listener_more : (n : ℕ) → n ≡ t.drawn + 1 → HasAt held held' party name (Some (holding.Listener n)) → Holds u held' after
  listener_more n number has = record {
    once = new_table.once;
    events = events;
    drawn = new_table.drawn ∙ ap (λ (m : ℕ). m + 1) holds.drawn;
    names = subst (λ (m : ℕ). HasNames u (name_held x.names k event (Some (m + 1)))) holds.drawn (new_table.names x.names holds.names);
    things = things_at held held' x.things holds.things party name (Some (holding.Listener (x.session.count + 1)))
        (subst (λ (m : ℕ). HasAt held held' party name (Some (holding.Listener m))) (number ∙ ap (λ (m : ℕ). m + 1) holds.drawn) has);
  }

-- ---- a notifier more

module _ (t u : EventTable) (held held' : Held) (x : ScriptEvents) (holds : Holds t held x) (party name : List ℕ) (n : ℕ) (e : Event)
    (stands : event_of x.session.stands n ≡ Some e) (listens : e.held ≡ true) (is : u ≡ changed t n with_notifier) where
  more_table : IsChange t u n (with_notifier e)
  more_table = change t u n e with_notifier holds.once (holds.events n ∙ ap where_held stands ∙ rw listens refl) is

  abbrev with_more : ScriptEvents
  with_more = script.notifier_more x party name n e

  abbrev more : Event → Event
  more d = record d { notifiers = e.notifiers + 1 }

  own : (q : ℕ) → (q == n) ≡ true → event_of with_more.session.stands q ≡ Some (more e)
  own q f = own_change x.session.stands n more e stands q f

  other : (q : ℕ) → (q == n) ≡ false → event_of with_more.session.stands q ≡ event_of x.session.stands q
  other q f = other_change x.session.stands n more q f

  pub notifier_more : HasAt held held' party name (Some (holding.Notifier n)) → Holds u held' with_more
  notifier_more has = record {
    once = more_table.once;
    events = λ q. more_table.events q ∙ elim (either (q == n)) as (λ _. (if q == n then Some (with_notifier e) else event_at t q) ≡ where_held (event_of with_more.session.stands q)) [
      | inl f ↦ rw (f, own q f, listens) refl
      | inr f ↦ rw (f, other q f) (holds.events q)
    ];
    drawn = more_table.drawn ∙ holds.drawn;
    names = λ k text. ap (λ (names : List (List ℕ × ℕ)). at names text) (more_table.names k) ∙ holds.names k text;
    things = things_at held held' x.things holds.things party name (Some (holding.Notifier n)) has;
  }

-- ---- what the table answers

abbrev pub no_listener : ListenerCreateError → Result ℕ ListenerCreateError
no_listener e = Err e

abbrev no_notifier : NotifierCreateError → Result ℕ NotifierCreateError
no_notifier e = Err e

-- a listen's number
pub listen_drawn : (t : EventTable) (n : ℕ) (o : Option ℕ) → Ok n ≡ listen_answer t o → (o ≡ None) × (n ≡ t.drawn + 1)
listen_drawn t n (Some m) e = absurd cc
listen_drawn t n None e = elim (either (nat_lt t.drawn (2 ^ 64 - 2))) [
  | inl f ↦ (refl, (let h : Ok n ≡ Ok (t.drawn + 1) = (rw f at e) in cc))
  | inr f ↦ absurd (let h : Ok n ≡ Err listener_error.NumbersSpent = (rw f at e) in cc)
]

-- a notifier's event has its listener, and the number is that of the name
pub notifier_numbered : (n m : ℕ) (e : Event) → Ok n ≡ notifier_of m e → (e.held ≡ true) × (n ≡ m)
notifier_numbered n m e h = elim (either e.held) [
  | inr f ↦ absurd (let g : Ok n ≡ Err notifier_error.DoesNotExist = (rw f at h) in cc)
  | inl f ↦ elim (either (nat_lt e.notifiers (2 ^ 64 - 2))) [
    | inl g ↦ (f, (let k : Ok n ≡ Ok m = (rw (f, g) at h) in cc))
    | inr g ↦ absurd (let k : Ok n ≡ Err notifier_error.NumbersSpent = (rw (f, g) at h) in cc)
  ]
]

pub listen_done : (t u : EventTable) (held held' : Held) (party name : List ℕ) (k : EventKind) (event : List ℕ) (max n : ℕ) → Ok n ≡ listen_answer t (at (names_of k t) event) → u ≡ table_listened t k event max
    → HasAt held held' party name (Some (holding.Listener n)) → AnswersAsk t held u held' party (to_listen name k event max) reply.Done
listen_done t u held held' party name k event max n answer is more x count sound asked holds =
    let drawn = listen_drawn t n (at (names_of k t) event) answer in
    let unheld : x.names k event ≡ None = sym (holds.names k event) ∙ drawn.0 in
    let after = listener_more t u held held' x count sound holds party name k event max unheld is n drawn.1 more in
    record {
      told_is = rw unheld refl;
      held = rw unheld after;
    }

-- a free name makes a listener
pub listen_makes : (t : EventTable) (held : Held) (party name : List ℕ) (k : EventKind) (event : List ℕ) (max : ℕ) → at (names_of k t) event ≡ None → Makes t held party (to_listen name k event max)
listen_makes t held party name k event max none x count sound asked holds =
    let unheld : x.names k event ≡ None = sym (holds.names k event) ∙ none in
    rw unheld refl

-- so is the name where the table wants memory
pub listen_wanted : (t : EventTable) (o : Option ℕ) → Refuses (no_listener listener_error.OutOfMemory) (listen_answer t o) → o ≡ None
listen_wanted t None h = refl
listen_wanted t (Some m) h = absurd (let e : no_listener listener_error.OutOfMemory ≡ no_listener listener_error.AlreadyExists = h listener_error.AlreadyExists refl in cc)

-- what stands under the name of a script's events
named_event : (t : EventTable) (held : Held) (x : ScriptEvents) → Holds t held x → (n : ℕ) (e : Event) → event_at t n ≡ Some e → event_of x.session.stands n ≡ Some e
named_event t held x holds n e found = by (event_of x.session.stands n) refl (sym (holds.events n) ∙ found)
  where
    by : (o : Option Event) → event_of x.session.stands n ≡ o → where_held o ≡ Some e → event_of x.session.stands n ≡ Some e
    by None f h = absurd cc
    by (Some d) f h = elim (either (has_holder d)) [
      | inl g ↦ f ∙ (rw g at h)
      | inr g ↦ absurd (let none : None ≡ Some e = (rw g at h) in cc)
    ]

-- and no event has more notifiers than lines
pub few_notifiers : (t : EventTable) (held : Held) (x : ScriptEvents) (count : ℕ) → count < 2 ^ 63 → AreSoundEvents x count → Holds t held x → HasFewNotifiers t
few_notifiers t held x count few sound holds n e found = by (x.session.stands n) refl (named_event t held x holds n e found)
  where
    by : (o : Option StandingEvent) → x.session.stands n ≡ o → event_of x.session.stands n ≡ Some e → e.notifiers < 2 ^ 63
    by None f h = absurd (let none : None ≡ Some e = sym (event_of-none x.session.stands n f) ∙ h in cc)
    by (Some st) f h = (let same : st.event ≡ e = some_same st.event e (sym (event_of-some x.session.stands n st f) ∙ h) in
        let low : st.event.notifiers ≤ count = (sound.formed n st f).notifiers in
        let is : st.event.notifiers ≡ e.notifiers = ap (λ (d : Event). d.notifiers) same in
        omega (arith, low, few, is))

-- a notifier was made of the event that the name was looked up for
pub notifier_named : (t : EventTable) (n : ℕ) (o : Option ℕ) → IsNotifierAnswer t (Ok n) o → o ≡ Some n
notifier_named t n None h = absurd cc
notifier_named t n (Some m) h = by (event_at t m) h
  where
    by : (e : Option Event) → IsSomeAnd e (λ d. Ok n ≡ notifier_of m d) → Some m ≡ Some n
    by None g = absurd g
    by (Some d) g = ap (λ (i : ℕ). Some i) (sym (notifier_numbered n m d g).1)

pub notifier_done : (t u : EventTable) (held held' : Held) (party name : List ℕ) (k : EventKind) (event : List ℕ) (n : ℕ) → IsNotifierAnswer t (Ok n) (at (names_of k t) event) → u ≡ changed t n with_notifier
    → HasAt held held' party name (Some (holding.Notifier n)) → AnswersAsk t held u held' party (to_notify name k event) reply.Done
notifier_done t u held held' party name k event n answer is more x count sound asked holds = by (at (names_of k t) event) refl answer
  where
    there : (m : ℕ) → at (names_of k t) event ≡ Some m → (o : Option Event) → event_at t m ≡ o → IsSomeAnd o (λ e. Ok n ≡ notifier_of m e) → IsAsked u held' x party (to_notify name k event) reply.Done
    there m f None g h = absurd h
    there m f (Some e) g h =
        let found = notifier_numbered n m e h in
        let stands : event_of x.session.stands n ≡ Some e = rw found.1 (named_event t held x holds m e g) in
        let named : x.names k event ≡ Some n = sym (holds.names k event) ∙ f ∙ ap (λ (i : ℕ). Some i) (sym found.1) in
        let after = notifier_more t u held held' x holds party name n e stands found.0 is more in
        record { told_is = rw (named, stands, found.0) refl; held = rw (named, stands, found.0) after }

    by : (o : Option ℕ) → at (names_of k t) event ≡ o → IsNotifierAnswer t (Ok n) o → IsAsked u held' x party (to_notify name k event) reply.Done
    by None f h = absurd cc
    by (Some m) f h = there m f (event_at t m) refl h

-- where the table makes a notifier, so does the ask
pub notifier_makes : (t : EventTable) (held : Held) (party name : List ℕ) (k : EventKind) (event : List ℕ) (n : ℕ) → IsNotifierAnswer t (Ok n) (at (names_of k t) event) → Makes t held party (to_notify name k event)
notifier_makes t held party name k event n answer x count sound asked holds =
    let here : HasAt held (with_at held party name (Some (holding.Notifier n))) party name (Some (holding.Notifier n)) = λ p m. refl in
    sym (notifier_done t (changed t n with_notifier) held (with_at held party name (Some (holding.Notifier n))) party name k event n answer refl here x count sound asked holds).told_is

-- a refusal that is told
refused_by : (m : ℕ) (e : Event) → no_notifier notifier_error.DoesNotExist ≡ notifier_of m e → e.held ≡ false
refused_by m e h = elim (either e.held) [
  | inr f ↦ f
  | inl f ↦ absurd (elim (either (nat_lt e.notifiers (2 ^ 64 - 2))) [
    | inl g ↦ (let k : no_notifier notifier_error.DoesNotExist ≡ Ok m = (rw (f, g) at h) in cc)
    | inr g ↦ (let k : no_notifier notifier_error.DoesNotExist ≡ Err notifier_error.NumbersSpent = (rw (f, g) at h) in cc)
  ])
]

pub notifier_refused : (t u : EventTable) (held held' : Held) (party name : List ℕ) (k : EventKind) (event : List ℕ) → IsNotifierAnswer t (Err notifier_error.DoesNotExist) (at (names_of k t) event) → u ≡ t → held' ≡ held
    → AnswersAsk t held u held' party (to_notify name k event) reply.DoesNotExist
notifier_refused t u held held' party name k event answer is same x count sound asked holds = by (at (names_of k t) event) refl answer
  where
    after : Holds u held' x
    after = rw (is, same) holds

    there : (m : ℕ) → at (names_of k t) event ≡ Some m → (o : Option Event) → event_at t m ≡ o → IsSomeAnd o (λ e. no_notifier notifier_error.DoesNotExist ≡ notifier_of m e) → IsAsked u held' x party (to_notify name k event) reply.DoesNotExist
    there m f None g h = absurd h
    there m f (Some e) g h =
        let deaf = refused_by m e h in
        let stands : event_of x.session.stands m ≡ Some e = named_event t held x holds m e g in
        let named : x.names k event ≡ Some m = sym (holds.names k event) ∙ f in
        record { told_is = rw (named, stands, deaf) refl; held = rw (named, stands, deaf) after }

    by : (o : Option ℕ) → at (names_of k t) event ≡ o → IsNotifierAnswer t (Err notifier_error.DoesNotExist) o → IsAsked u held' x party (to_notify name k event) reply.DoesNotExist
    by None f h =
        let named : x.names k event ≡ None = sym (holds.names k event) ∙ f in
        record { told_is = rw named refl; held = rw named after }
    by (Some m) f h = there m f (event_at t m) refl h
