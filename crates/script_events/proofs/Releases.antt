-- What parties hold after one lets a listener or a notifier go.
use Rattle.std.proofs.Common.{◌≡◌, ℕ, ◌<◌, true, false, List, refl, sym, ap, ◌∙◌, Option, Some, None, inl, inr}
use Rattle.std.specs.Prelude.{if◌then◌else◌, ◌==◌, ◌-◌, option_map, IsSomeAnd}
use Rattle.board_names.specs.Table.{at}
use Rattle.board_event_model.specs.EventMemory.{Event, has_holder, without_listener, without_notifier}
use Rattle.board_event_model.specs.EventSessions.{change_at, event_of}
use Rattle.board_event_model.proofs.QuietLemmas.{eqb_self}
use Rattle.board_event_core.specs.EventTable.{EventTable, changed, event_at, settled}
use Rattle.script_model.specs.ScriptEvents.{EventThing, ScriptEvents, event_let_go, let_go_from, listener, names_left, notifier, event_number}
use Rattle.script_model.specs.SoundEvents.{AreSoundEvents}
use Rattle.script_events.specs.declared.rows.CallTask.{CallTask}
use Rattle.script_events.specs.declared.rows.Holding.TheVariants as holding
use Rattle.script_events.specs.Calls.{HasAt}
use Rattle.script_events.specs.PartyEvents.{AreCalls, Held, Holds, thing_in, where_held}
use Rattle.script_events.proofs.Options.{either}
use Rattle.script_events.proofs.TableCalls.{HasNames, IsChange, IsSettled, change, settle}
use Rattle.script_events.proofs.Holding.{IsThere, event_of-some, listener_there, notifier_there, other_change, own_change, things_at}

-- a holder of event n goes
module _ (t u : EventTable) (held held' : Held) (x : ScriptEvents) (holds : Holds t held x) (party name : List ℕ) (has : HasAt held held' party name None)
    (n : ℕ) (there : IsThere t x n) (less : Event → Event) (done : u ≡ settled (changed t n less) n) where
  abbrev e : Event
  e = there.st.event

  table : IsChange t (changed t n less) n (less e)
  table = change t (changed t n less) n e less holds.once there.found refl

  left : IsSettled (changed t n less) u n (less e)
  left = settle (changed t n less) u n (less e) table.once (table.events n ∙ rw (eqb_self n) refl) done

  was : event_of x.session.stands n ≡ Some e
  was = event_of-some x.session.stands n there.st there.stands

  events_left : (f : Event → Event) → f e ≡ less e → (q : ℕ) → event_at u q ≡ where_held (event_of (change_at x.session.stands n f) q)
  events_left f same q = left.events q ∙ elim (either (q == n)) as (λ _. (if q == n then (if has_holder (less e) then Some (less e) else None) else event_at (changed t n less) q) ≡ where_held (event_of (change_at x.session.stands n f) q)) [
    | inl g ↦ rw (g, own_change x.session.stands n f e was q g, same) refl
    | inr g ↦ rw (g, other_change x.session.stands n f q g) (table.events q ∙ rw g (holds.events q))
  ]

  names_now : HasNames u (names_left x.names n (less e))
  names_now = left.names x.names (λ k text. ap (λ (names : List (List ℕ × ℕ)). at names text) (table.names k) ∙ holds.names k text)

  drawn_now : u.drawn ≡ x.session.count
  drawn_now = left.drawn ∙ table.drawn ∙ holds.drawn

module _ (t : EventTable) (held : Held) (x : ScriptEvents) (count : ℕ) (sound : AreSoundEvents x count) (holds : Holds t held x) (party name : List ℕ) (n : ℕ) where
  held_listener : held party name ≡ Some (holding.Listener n) → x.things party name ≡ Some (listener n)
  held_listener e = sym (holds.things party name) ∙ ap (option_map thing_in) e

  held_notifier : held party name ≡ Some (holding.Notifier n) → x.things party name ≡ Some (notifier n)
  held_notifier e = sym (holds.things party name) ∙ ap (option_map thing_in) e

  -- a listener can be let go
  pub has_listener : held party name ≡ Some (holding.Listener n) → IsSomeAnd (event_at t n) (λ e. e.held ≡ true)
  has_listener e = (let there = listener_there t held x count sound holds party name n (held_listener e) in rw there.0.found there.1.held)

  -- and a notifier
  pub has_notifier : held party name ≡ Some (holding.Notifier n) → IsSomeAnd (event_at t n) (λ e. 0 < e.notifiers)
  has_notifier e = (let there = notifier_there t held x count sound holds party name n (held_notifier e) in rw there.0.found there.1)

  -- and this is what follows
  pub listener_let_go : (held' : Held) → HasAt held held' party name None → held party name ≡ Some (holding.Listener n) → (u : EventTable) → u ≡ settled (changed t n without_listener) n → Holds u held' (event_let_go x party name (x.things party name))
  listener_let_go held' has f u done =
      let there = (listener_there t held x count sound holds party name n (held_listener f)).0 in
      let gone : Holds u held' (let_go_from x party name (listener n) (Some there.st.event)) = record {
        once = (left t u held held' x holds party name has n there without_listener done).once;
        events = events_left t u held held' x holds party name has n there without_listener done (λ e. record e { held = false }) refl;
        drawn = drawn_now t u held held' x holds party name has n there without_listener done;
        names = names_now t u held held' x holds party name has n there without_listener done;
        things = things_at held held' x.things holds.things party name None has;
      } in
      rw (held_listener f) (rw (event_of-some x.session.stands n there.st there.stands) gone)

  pub notifier_let_go : (held' : Held) → HasAt held held' party name None → held party name ≡ Some (holding.Notifier n) → (u : EventTable) → u ≡ settled (changed t n without_notifier) n → Holds u held' (event_let_go x party name (x.things party name))
  notifier_let_go held' has f u done =
      let there = (notifier_there t held x count sound holds party name n (held_notifier f)).0 in
      let gone : Holds u held' (let_go_from x party name (notifier n) (Some there.st.event)) = record {
        once = (left t u held held' x holds party name has n there without_notifier done).once;
        events = events_left t u held held' x holds party name has n there without_notifier done (λ e. record e { notifiers = there.st.event.notifiers - 1 }) refl;
        drawn = drawn_now t u held held' x holds party name has n there without_notifier done;
        names = names_now t u held held' x holds party name has n there without_notifier done;
        things = things_at held held' x.things holds.things party name None has;
      } in
      rw (held_notifier f) (rw (event_of-some x.session.stands n there.st there.stands) gone)

-- no call begins or ends
pub same_calls : (x : ScriptEvents) (party name : List ℕ) (tasks : List ℕ → Option CallTask) → AreCalls tasks x.asked x.session.doing → AreCalls tasks (event_let_go x party name (x.things party name)).asked (event_let_go x party name (x.things party name)).session.doing
same_calls x party name tasks are = by (x.things party name)
  where
    from : (t : EventThing) (o : Option Event) → AreCalls tasks (let_go_from x party name t o).asked (let_go_from x party name t o).session.doing
    from t None = are
    from (listener n) (Some e) = are
    from (notifier n) (Some e) = are

    by : (o : Option EventThing) → AreCalls tasks (event_let_go x party name o).asked (event_let_go x party name o).session.doing
    by None = are
    by (Some t) = from t (event_of x.session.stands (event_number t))
