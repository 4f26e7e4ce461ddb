-- What a checker keeps of one event, and which event of the definitions it stands for.
use Rattle.std.specs.Prelude.{◌≡◌, ℕ, ◌+◌, ◌/◌, length}
use Rattle.board_event_model.specs.declared.kind.EventKind.TheVariants as event_kind
use Rattle.board_event_model.specs.declared.access.EventAccess.{EventAccess}
use Rattle.board_event_model.specs.declared.access.EventAnswer.{EventAnswer}
use Rattle.board_event_model.specs.EventMemory.{CanPerform, Event, IsRight}
use Rattle.script_event_rows.specs.declared.event_row.EventRow.{EventRow}
use Rattle.script_event_rows.specs.IdWords.{HaveIds}

-- the row stands for the event: each part is the event's, and a set has words for all ids up to its greatest
pub record StandsFor (row : EventRow) (e : Event) : Type 0 where
  pub kind : row.kind ≡ e.kind
  pub name : row.name ≡ e.name
  pub max : row.max ≡ e.max
  pub ids : HaveIds row.pending.items e.pending
  pub words : e.kind ≡ event_kind.Bits → length row.pending.items ≡ e.max / 64 + 1
  pub queue : row.queue.items ≡ e.queue
  pub signals : row.signals ≡ e.signals
  pub held : row.held ≡ e.held
  pub gone : row.gone ≡ e.gone
  pub notifiers : row.notifiers ≡ e.notifiers

-- this is what the event has for which the row stands
abbrev pub IsOf : {A : Type 0} → EventRow → (Event → A) → A → Type 0
IsOf row part x = (e : Event) → StandsFor row e → x ≡ part e

-- the row stands for an event of which this holds
abbrev pub OfSome : EventRow → (Event → Type 0) → Type 0
OfSome row P = (e : Event) × StandsFor row e × P e

-- the event for which the row stood has become this one
abbrev pub Becomes : EventRow → EventRow → (Event → Event) → Type 0
Becomes old new change = (e : Event) → StandsFor old e → StandsFor new (change e)

-- the answer to an access is right for the event for which the row stands
abbrev pub AnswersRight : EventRow → EventAccess → EventAnswer → Type 0
AnswersRight row access answer = (e : Event) → StandsFor row e → IsRight e access answer
