-- What parties hold of events: what it says of the table, and how both change.
use Rattle.std.proofs.Common.{◌≡◌, ℕ, zero, suc, ◌<◌, Bool, true, false, List, refl, ap, ◌∙◌, Option, Some, None, inl, inr, arith}
use Rattle.std.specs.Prelude.{if◌then◌else◌, ◌==◌, ◌&&◌, option_map, IsSome, IsSomeAnd}
use Rattle.std.specs.Str.{bytes_eq}
use Rattle.board_model.specs.Things.{with_at}
use Rattle.board_event_model.specs.EventMemory.{Event, has_holder}
use Rattle.board_event_model.specs.EventSessions.{StandingEvent, change_at, event_of}
use Rattle.board_event_model.proofs.QuietLemmas.{eqb_true}
use Rattle.board_event_core.specs.EventTable.{EventTable, event_at}
use Rattle.script_model.specs.ScriptEvents.{EventThing, ScriptEvents, listener, notifier, event_number}
use Rattle.script_model.specs.SoundEvents.{AreNotifiers, AreSoundEvents, IsListening}
use Rattle.script_events.specs.declared.rows.Holding.{Holding}
use Rattle.script_events.specs.Calls.{HasAt}
use Rattle.script_events.specs.PartyEvents.{Held, Holds, thing_in, where_held}
use Rattle.script_events.proofs.Options.{either}

-- ---- standing events

-- the event of a known row of a session
pub event_of-some : (stands : ℕ → Option StandingEvent) (n : ℕ) (st : StandingEvent) → stands n ≡ Some st → event_of stands n ≡ Some st.event
event_of-some stands n st e = rw (e, event_of) refl

pub event_of-none : (stands : ℕ → Option StandingEvent) (n : ℕ) → stands n ≡ None → event_of stands n ≡ None
event_of-none stands n e = rw (e, event_of) refl

-- an event that may change
abbrev pub changed_by : Bool → (Event → Event) → Option Event → Option Event
changed_by b f None = None
changed_by b f (Some e) = Some (if b then f e else e)

pub event_of-change : (stands : ℕ → Option StandingEvent) (n : ℕ) (f : Event → Event) (q : ℕ) → event_of (change_at stands n f) q ≡ changed_by (q == n) f (event_of stands q)
event_of-change stands n f q = by (stands q)
  where
    by : (o : Option StandingEvent) → elim (elim o as (λ _. Option StandingEvent) [ None ↦ None | Some st ↦ Some (record st { event = if q == n then f st.event else st.event }) ]) as (λ _. Option Event) [ None ↦ None | Some st ↦ Some st.event ]
        ≡ changed_by (q == n) f (elim o as (λ _. Option Event) [ None ↦ None | Some st ↦ Some st.event ])
    by None = refl
    by (Some st) = refl

unchanged : (f : Event → Event) (o : Option Event) → changed_by false f o ≡ o
unchanged f None = refl
unchanged f (Some e) = refl

-- of the event, and of another
pub own_change : (stands : ℕ → Option StandingEvent) (n : ℕ) (f : Event → Event) (e : Event) → event_of stands n ≡ Some e → (q : ℕ) → (q == n) ≡ true → event_of (change_at stands n f) q ≡ Some (f e)
own_change stands n f e is q same = event_of-change stands n f q ∙ rw same (ap (changed_by true f) (ap (event_of stands) (eqb_true q n same) ∙ is))

pub other_change : (stands : ℕ → Option StandingEvent) (n : ℕ) (f : Event → Event) (q : ℕ) → (q == n) ≡ false → event_of (change_at stands n f) q ≡ event_of stands q
other_change stands n f q apart = event_of-change stands n f q ∙ rw apart (unchanged f (event_of stands q))

-- ---- what is held under a name

-- a thing comes, or goes
pub things_at : (held held' : Held) (things : List ℕ → List ℕ → Option EventThing) → ((p n : List ℕ) → option_map thing_in (held p n) ≡ things p n)
    → (party name : List ℕ) (x : Option Holding) → HasAt held held' party name x → (p n : List ℕ) → option_map thing_in (held' p n) ≡ with_at things party name (option_map thing_in x) p n
things_at held held' things are party name x has p n = ap (option_map thing_in) (has p n) ∙ by (bytes_eq p party && bytes_eq n name)
  where
    by : (b : Bool) → option_map thing_in (if b then x else held p n) ≡ (if b then option_map thing_in x else things p n)
    by true = refl
    by false = are p n

-- ---- the event of a thing

-- the event stands, somebody holds it, and it is in the table
pub record IsThere (t : EventTable) (x : ScriptEvents) (n : ℕ) : Type 0 where
  pub st : StandingEvent
  pub stands : x.session.stands n ≡ Some st
  pub held : has_holder st.event ≡ true
  pub found : event_at t n ≡ Some st.event

abbrev there_by : (t : EventTable) (held : Held) (x : ScriptEvents) → Holds t held x → (n : ℕ) (st : StandingEvent) → x.session.stands n ≡ Some st → has_holder st.event ≡ true → IsThere t x n
there_by t held x holds n st e h = record {
  st = st;
  stands = e;
  held = h;
  found = holds.events n ∙ ap where_held (event_of-some x.session.stands n st e) ∙ rw h refl;
}

listening_held : (e : Event) → e.held ≡ true → has_holder e ≡ true
listening_held e h = rw h refl

notified_held : (e : Event) → 0 < e.notifiers → has_holder e ≡ true
notified_held e h = elim (either e.held) [ inl f ↦ rw f refl | inr f ↦ rw f (grind arith) ]

-- a listener's event, and its listener's party
pub listener_there : (t : EventTable) (held : Held) (x : ScriptEvents) (count : ℕ) → AreSoundEvents x count → Holds t held x → (p name : List ℕ) (n : ℕ) → x.things p name ≡ Some (listener n)
    → (there : IsThere t x n) × IsListening p there.st
listener_there t held x count sound holds p name n e = by (x.session.stands n) refl (sound.things p name (listener n) e)
  where
    by : (o : Option StandingEvent) → x.session.stands n ≡ o → IsSomeAnd o (IsListening p) → (there : IsThere t x n) × IsListening p there.st
    by None f h = absurd h
    by (Some st) f h = (there_by t held x holds n st f (listening_held st.event h.held), h)

-- a notifier's event
pub notifier_there : (t : EventTable) (held : Held) (x : ScriptEvents) (count : ℕ) → AreSoundEvents x count → Holds t held x → (p name : List ℕ) (n : ℕ) → x.things p name ≡ Some (notifier n)
    → (there : IsThere t x n) × (0 < there.st.event.notifiers)
notifier_there t held x count sound holds p name n e = by (x.session.stands n) refl (sound.things p name (notifier n) e)
  where
    by : (o : Option StandingEvent) → x.session.stands n ≡ o → IsSome o → (there : IsThere t x n) × (0 < there.st.event.notifiers)
    by None f h = absurd cc
    by (Some st) f h = (let some = counted st.event.notifiers (sound.notifiers n st f) in (there_by t held x holds n st f (notified_held st.event some), some))
      where
        counted : (k : ℕ) → AreNotifiers x.things n k → 0 < k
        counted zero none = absurd (none p name e)
        counted (suc k) more = omega arith

-- of whatever it is
pub thing_there : (t : EventTable) (held : Held) (x : ScriptEvents) (count : ℕ) → AreSoundEvents x count → Holds t held x → (p name : List ℕ) (thing : EventThing) → x.things p name ≡ Some thing → IsThere t x (event_number thing)
thing_there t held x count sound holds p name (listener n) e = (listener_there t held x count sound holds p name n e).0
thing_there t held x count sound holds p name (notifier n) e = (notifier_there t held x count sound holds p name n e).0
