-- The event law on the lines of a script: what a step on an event tells, or an expiry, is true of the run of its event.
use Rattle.std.specs.Prelude.{◌≡◌, ℕ, ◌<◌, ◌≤◌, true, false, ◌==◌, List, [], ◌∷◌, length, Option, Some, ◌⊎◌}
use Rattle.std.specs.List.{list_any}
use Rattle.board_event_model.specs.declared.access.EventAccess.{EventAccess}
use Rattle.board_event_model.specs.declared.access.EventAnswer.{EventAnswer}
use Rattle.board_event_model.specs.declared.call.WaitMode.TheVariants as mode
use Rattle.board_event_model.specs.declared.kind.EventKind.{EventKind}
use Rattle.board_event_model.specs.Ids.{has}
use Rattle.board_event_model.specs.EventMemory.{Event, is_bits}
use Rattle.board_names.specs.declared.errors.event.NotifierNotifyError.{NotifierNotifyError}
use Rattle.board_names.specs.declared.errors.event.NotifierNotifyError.TheVariants as notify_error
use Rattle.board_event_model.specs.WaitCalls.{Wait}
use Rattle.board_event_model.specs.EventCalls.{EventCall, MetAccess, RunningCall, a_notify, a_wait, call_of}
use Rattle.board_event_model.specs.EventRuns.{IsReached, Moment, Takes}
use Rattle.board_event_model.specs.EventSessions.{PartyCall, StandingEvent, view}
use Rattle.board_event_model.specs.LawsOfCalls.{IsExpired, IsNoneOfTry, IsNotifyOk, first_step, progress_with, taken_by, with_step}
use Rattle.board_model.specs.declared.line.Line.TheVariants as board_line
use Rattle.script_model.specs.declared.line.ScriptLine.{ScriptLine}
use Rattle.script_model.specs.declared.line.ScriptLine.TheVariants as line
use Rattle.script_model.specs.declared.reply.EventReply.{EventReply}
use Rattle.script_model.specs.declared.reply.EventReply.TheVariants as reply
use Rattle.script_model.specs.ScriptAnswers.{ScriptAnswer, expired, of_event}
use Rattle.script_model.specs.ScriptEvents.{step_told}
use Rattle.script_model.specs.ScriptTurns.{ScriptState}
use Rattle.script_model.specs.LawsOfEvents.{Last, at_last}

-- ---- a printed access is a step of a run

-- the pair is a step of the party, which prints this access to an event, its answer, and what is told
pub record PrintsAccess (pair : ScriptLine × ScriptAnswer) (party : List ℕ) (a : EventAccess) (answer : EventAnswer) (told : Option EventReply) : Type 0 where
  pub kind : EventKind
  pub name : List ℕ
  pub steps : pair.0 ≡ line.Board (board_line.Step party)
  pub prints : pair.1 ≡ of_event kind name a answer told

-- the party's call on an event that stands
pub record RunsOnEvent (s : ScriptState) (party : List ℕ) : Type 0 where
  pub doing : PartyCall
  pub standing : StandingEvent
  pub runs : s.events.session.doing party ≡ Some doing
  pub stands : s.events.session.stands doing.on ≡ Some standing

-- what concerns its event
abbrev pub moment_of : (s : ScriptState) (party : List ℕ) → RunsOnEvent s party → Moment
moment_of s party r = view s.events.session r.doing.on r.standing

-- the call takes this access as a step of the run on its event, which has this kind and name, and tells what it has come to
pub record IsEventStep (s : ScriptState) (party : List ℕ) (kind : EventKind) (name : List ℕ) (a : EventAccess) (answer : EventAnswer) (told : Option EventReply) : Type 0 where
  pub of : RunsOnEvent s party
  pub kind_is : kind ≡ of.standing.event.kind
  pub name_is : name ≡ of.standing.event.name
  pub reached : IsReached (moment_of s party of)
  pub takes : Takes (moment_of s party of) party of.doing.call a answer
  pub tells : told ≡ step_told of.doing.call (progress_with of.doing.call answer)

-- so does each access that a right answer prints, and the kind and the name are printed with it
abbrev pub PrintedStepsAreTaken : Type 0
PrintedStepsAreTaken = (l : Last) (party : List ℕ) (a : EventAccess) (answer : EventAnswer) (told : Option EventReply) (p : PrintsAccess l.pair party a answer told)
    → IsEventStep (at_last l) party p.kind p.name a answer told

-- ---- what is told is true

-- of a wait for all: on bits each id that was pending at its first step is told; on the queue it found the list empty, or took 513 ids
pub record MissesNone (now : Moment) (r : RunningCall) (a : EventAccess) (ids : List ℕ) : Type 0 where
  pub bits : is_bits now.event.kind ≡ true → (s : MetAccess) → first_step (with_step now r a) ≡ Some s
      → (id : ℕ) → has s.met.pending id ≡ true → list_any (λ x. x == id) ids ≡ true
  pub list : is_bits now.event.kind ≡ false → (now.event.queue ≡ []) ⊎ (length ids ≡ 513)

-- why a notify is refused, as its last step meets the event: its listener was released, or on a queue the listener's party was
-- abandoned; on bits its
-- id is above the greatest; on a queue 512 ids wait
abbrev pub IsRefusal : Event → ℕ → NotifierNotifyError → Type 0
IsRefusal e id notify_error.Disconnected = (e.held ≡ false) ⊎ ((is_bits e.kind ≡ false) × (e.gone ≡ true))
IsRefusal e id notify_error.TriggerIdOutOfBounds = (is_bits e.kind ≡ true) × (e.max < id)
IsRefusal e id notify_error.FailedToDeliverSignal = (is_bits e.kind ≡ false) × (512 ≤ length e.queue)
IsRefusal e id notify_error.Interrupt = ⊥
IsRefusal e id notify_error.InternalFailure = ⊥

-- a wait is told exactly the ids that its own steps took, in order, and none only in mode try; a notify that is told ok made
-- its id pending, and an error is so
abbrev pub IsTrue : Moment → RunningCall → EventAccess → EventCall → EventReply → Type 0
IsTrue now r a (a_notify n) reply.Done = IsNotifyOk n.id (with_step now r a)
IsTrue now r a (a_notify n) (reply.NotNotified why) = IsRefusal now.event n.id why
IsTrue now r a (a_wait w) reply.Nothing = IsNoneOfTry now r w a × (w.many ≡ true → MissesNone now r a [])
IsTrue now r a (a_wait w) (reply.Id id) = (w.many ≡ false) × (taken_by (with_step now r a) ≡ id ∷ [])
IsTrue now r a (a_wait w) (reply.Ids ids) = (w.many ≡ true) × (taken_by (with_step now r a) ≡ ids) × (ids ≡ [] → ⊥) × MissesNone now r a ids
IsTrue now r a c told = ⊥

-- a step of a call on an event that ends it, with a reply that is true
pub record TellsTruth (s : ScriptState) (party : List ℕ) (kind : EventKind) (name : List ℕ) (a : EventAccess) (answer : EventAnswer) (told : EventReply) : Type 0 where
  pub step : IsEventStep s party kind name a answer (Some told)
  pub holds : IsTrue (moment_of s party step.of) step.of.doing.call a (call_of step.of.doing.call) told

-- so is each reply that a right answer prints behind an access
abbrev pub RepliesAreTrue : Type 0
RepliesAreTrue = (l : Last) (party : List ℕ) (a : EventAccess) (answer : EventAnswer) (told : EventReply) (p : PrintsAccess l.pair party a answer (Some told))
    → TellsTruth (at_last l) party p.kind p.name a answer told

-- ---- expiries

-- the party's timed wait, which has taken nothing: one for all on bits met no pending id at its first step, and one on a queue saw it empty at its last
pub record IsExpiredWait (s : ScriptState) (party : List ℕ) : Type 0 where
  pub of : RunsOnEvent s party
  pub wait : Wait
  pub waits : call_of of.doing.call ≡ a_wait wait
  pub timed : wait.mode ≡ mode.Timed
  pub reached : IsReached (moment_of s party of)
  pub expired : IsExpired (moment_of s party of) of.doing.call

-- such a wait ends by each expiry that is accepted
abbrev pub ExpiriesAreTrue : Type 0
ExpiriesAreTrue = (l : Last) (party : List ℕ) → l.pair.0 ≡ line.Expire party → l.pair.1 ≡ expired → IsExpiredWait (at_last l) party
