-- What is left where memory was wanted.
use Rattle.std.specs.Prelude.{◌≡◌, ◌⊎◌, ℕ, if◌then◌else◌, List, Option, None, Some}
use Rattle.std.specs.Str.{bytes_eq}
use Rattle.board_names.specs.Table.{at}
use Rattle.board_event_model.specs.declared.access.EventAccess.{EventAccess}
use Rattle.board_event_model.specs.declared.kind.EventKind.{EventKind}
use Rattle.board_event_model.specs.EventCalls.{owed}
use Rattle.board_event_model.specs.EventMemory.{after, with_notifier}
use Rattle.board_event_core.specs.EventTable.{EventTable, changed, names_of, table_listened}
use Rattle.script_events.specs.declared.party_events.PartyEvents.{PartyEvents}
use Rattle.script_events.specs.declared.rows.CallTask.{CallTask}
use Rattle.script_events.specs.declared.rows.CallTask.TheVariants as task
use Rattle.script_events.specs.PartyEvents.{event_call, held_in, task_in}

-- nothing has changed
pub record IsUnchanged (old new : PartyEvents) : Type 0 where
  pub events : new.events ≡ old.events
  pub things : new.things ≡ old.things
  pub calls : new.calls.entries ≡ old.calls.entries

-- the events after a listener was asked for: it was made, and nobody holds it, or nothing has changed
abbrev pub MayHaveListener : EventTable → EventTable → EventKind → List ℕ → ℕ → Type 0
MayHaveListener t t' kind name max = (t' ≡ t) ⊎ (t' ≡ table_listened t kind name max)

-- the events after a notifier of the event of this name was asked for: it was made, and nobody holds it
abbrev pub HasNotifierMore : EventTable → EventTable → EventKind → List ℕ → Type 0
HasNotifierMore t t' kind name = (event : ℕ) × (at (names_of kind t) name ≡ Some event) × (t' ≡ changed t event with_notifier)

-- the events after an access was made
abbrev pub IsPerformed : EventTable → EventTable → ℕ → EventAccess → Type 0
IsPerformed t t' event access = t' ≡ changed t event (λ e. after e access)

-- the events after the step of what a party runs
abbrev pub IsCutAt : EventTable → EventTable → CallTask → Type 0
IsCutAt t t' (task.Listen name kind event max) = MayHaveListener t t' kind event max
IsCutAt t t' (task.Notifier name kind event) = HasNotifierMore t t' kind event
IsCutAt t t' (task.Act a) = IsPerformed t t' a.event (owed (event_call a.call))

-- the party has this to do, and others what they had
abbrev pub HasTask : (List ℕ → Option CallTask) → (List ℕ → Option CallTask) → List ℕ → Option CallTask → Type 0
HasTask tasks tasks' party t = (p : List ℕ) → tasks' p ≡ (if bytes_eq party p then t else tasks p)

-- the party's call runs no more, and parties hold what they held; what the step has done to the events isn't undone
pub record IsCutShort (old new : PartyEvents) (party : List ℕ) : Type 0 where
  pub task : CallTask
  pub found : task_in old party ≡ Some task
  pub calls : HasTask (task_in old) (task_in new) party None
  pub things : (p n : List ℕ) → held_in new.things p n ≡ held_in old.things p n
  pub events : IsCutAt old.events new.events task
