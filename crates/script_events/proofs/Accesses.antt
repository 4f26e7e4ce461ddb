-- What parties hold after an access to an event: the same, with the event's memory changed.
use Rattle.std.proofs.Common.{◌≡◌, ℕ, Bool, true, false, List, [], ◌∷◌, ◌++◌, length, refl, sym, ap, ◌∙◌, Some, inl, inr}
use Rattle.std.specs.Prelude.{if◌then◌else◌, ◌==◌, ◌||◌, not, nat_lt}
use Rattle.board_names.specs.Table.{at}
use Rattle.board_event_model.specs.declared.access.EventAccess.{EventAccess}
use Rattle.board_event_model.specs.declared.access.EventAccess.TheVariants as access
use Rattle.board_event_model.specs.EventMemory.{Event, after, has_holder}
use Rattle.board_event_model.specs.EventSessions.{change_at, event_of}
use Rattle.board_event_model.proofs.QuietLemmas.{eqb_self}
use Rattle.board_event_core.specs.EventTable.{EventTable, changed, event_at}
use Rattle.script_model.specs.ScriptEvents.{ScriptEvents}
use Rattle.script_events.specs.PartyEvents.{Held, Holds, where_held}
use Rattle.script_events.proofs.Options.{either}
use Rattle.script_events.proofs.TableCalls.{IsChange, change}
use Rattle.script_events.proofs.Holding.{IsThere, event_of-some, other_change, own_change}

-- who holds the event, and its name
pub record IsSameHeld (e f : Event) : Type 0 where
  pub name : f.name ≡ e.name
  pub held : f.held ≡ e.held
  pub notifiers : f.notifiers ≡ e.notifiers

itself : (e : Event) → IsSameHeld e e
itself e = record { name = refl; held = refl; notifiers = refl }

either_of : (e x y : Event) (b : Bool) → IsSameHeld e x → IsSameHeld e y → IsSameHeld e (if b then x else y)
either_of e x y true h k = h
either_of e x y false h k = k

-- stay as they are
pub kept_after : (e : Event) (a : EventAccess) → IsSameHeld e (after e a)
kept_after e access.Listener = itself e
kept_after e (access.Set id) = record { name = refl; held = refl; notifiers = refl }
kept_after e access.Post = record { name = refl; held = refl; notifiers = refl }
kept_after e (access.Push id) = either_of e e (if nat_lt (length e.queue) 512 then record e { queue = e.queue ++ id ∷ [] } else e) (not e.held || e.gone) (itself e)
    (either_of e (record e { queue = e.queue ++ id ∷ [] }) e (nat_lt (length e.queue) 512) (record { name = refl; held = refl; notifiers = refl }) (itself e))
kept_after e access.Signal = record { name = refl; held = refl; notifiers = refl }
kept_after e (access.Scan k) = itself e
kept_after e (access.Clear id) = record { name = refl; held = refl; notifiers = refl }
kept_after e (access.Swap k) = record { name = refl; held = refl; notifiers = refl }
kept_after e access.Pop = record { name = refl; held = refl; notifiers = refl }

same_held : (e f : Event) → IsSameHeld e f → has_holder f ≡ has_holder e
same_held e f same = rw (same.held, same.notifiers) refl

module _ (t u : EventTable) (held : Held) (x y : ScriptEvents) (holds : Holds t held x) (n : ℕ) (a : EventAccess) (there : IsThere t x n) (is : u ≡ changed t n (λ e. after e a))
    (stands : (q : ℕ) → y.session.stands q ≡ change_at x.session.stands n (λ e. after e a) q) (count : y.session.count ≡ x.session.count) (names : y.names ≡ x.names) (things : y.things ≡ x.things) where
  abbrev e : Event
  e = there.st.event

  abbrev next : Event → Event
  next d = after d a

  table : IsChange t u n (next e)
  table = change t u n e next holds.once there.found is

  was : event_of x.session.stands n ≡ Some e
  was = event_of-some x.session.stands n there.st there.stands

  moved : (q : ℕ) → event_of y.session.stands q ≡ event_of (change_at x.session.stands n next) q
  moved q = rw (stands q, event_of) refl

  own : (q : ℕ) → (q == n) ≡ true → event_of y.session.stands q ≡ Some (next e)
  own q f = moved q ∙ own_change x.session.stands n next e was q f

  other : (q : ℕ) → (q == n) ≡ false → event_of y.session.stands q ≡ event_of x.session.stands q
  other q f = moved q ∙ other_change x.session.stands n next q f

  pub accessed : Holds u held y
  accessed = record {
    once = table.once;
    events = λ q. table.events q ∙ elim (either (q == n)) as (λ _. (if q == n then Some (next e) else event_at t q) ≡ where_held (event_of y.session.stands q)) [
      | inl f ↦ rw (f, own q f) (rw (same_held e (next e) (kept_after e a), there.held) refl)
      | inr f ↦ rw (f, other q f) (holds.events q)
    ];
    drawn = table.drawn ∙ holds.drawn ∙ sym count;
    names = λ k text. ap (λ (names : List (List ℕ × ℕ)). at names text) (table.names k) ∙ holds.names k text ∙ ap (λ f. f k text) (sym names);
    things = λ p m. holds.things p m ∙ ap (λ f. f p m) (sym things);
  }

  -- the event stands in the table as it is now
  pub still_there : event_at u n ≡ Some (next e)
  still_there = table.events n ∙ rw (eqb_self n) refl
