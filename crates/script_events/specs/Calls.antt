-- What the parts of a call do. No clause of a public call cites what follows.
use Rattle.std.specs.Prelude.{◌≡◌, ◌≢◌, ℕ, ◌+◌, ◌-◌, ◌<◌, ◌^◌, Bool, false, not, ◌&&◌, if◌then◌else◌, List, [], ◌∷◌, ◌++◌, Option, Some, None, is_some, IsSomeAnd, IsSome, Result, Ok, Err, ⊤}
use Rattle.board_event_model.specs.declared.call.NotifyStage.TheVariants as notify
use Rattle.board_event_model.specs.declared.call.WaitStage.TheVariants as wait
use Rattle.board_event_model.specs.EventMemory.{Event, IsRight, after}
use Rattle.board_event_model.specs.EventCalls.{EventCall, a_notify, a_wait, is_last, is_timed, is_waiting, owed, reported, turn}
use Rattle.board_event_core.specs.EventTable.{CanPerformAt, EventTable, changed, event_at, with_gone}
use Rattle.board_event_core.specs.declared.steps.EventStep.{EventStep}
use Rattle.board_model.specs.declared.answer.Reason.{Reason}
use Rattle.board_model.specs.LawfulSession.{State}
use Rattle.board_model.specs.Things.{with_at}
use Rattle.script_model.specs.declared.line.EventRequest.{EventRequest}
use Rattle.script_model.specs.declared.reply.EventReply.{EventReply}
use Rattle.script_model.specs.declared.reply.EventReply.TheVariants as reply
use Rattle.script_model.specs.ScriptEvents.{EventAsk, EventTask, ScriptEvents, act, ask, ask_made, ask_told, end_told, is_for_all, task_of, to_listen, to_notify}
use Rattle.script_model.specs.ScriptTurns.{EventTurn, begins, refused, task_turn}
use Rattle.script_model.specs.SoundEvents.{AreSoundEvents}
use Rattle.script_events.specs.declared.rows.Act.{Act}
use Rattle.script_events.specs.declared.rows.CallTask.{CallTask}
use Rattle.script_events.specs.declared.rows.CallTask.TheVariants as task
use Rattle.script_events.specs.declared.rows.Holding.{Holding}
use Rattle.script_events.specs.declared.rows.Holding.TheVariants as holding
use Rattle.script_events.specs.declared.step.Stepped.{Stepped}
use Rattle.script_events.specs.declared.step.Stepped.TheVariants as stepped
use Rattle.script_events.specs.PartyEvents.{Gives, Held, Holds, IsAskedBy, TellsTaken, event_call}

-- ---- lookups

-- the event that something held is a listener of
abbrev pub listened_in : Option Holding → Option ℕ
listened_in None = None
listened_in (Some (holding.Listener n)) = Some n
listened_in (Some (holding.Notifier n)) = None

-- the event that something held is a notifier of
abbrev pub notified_in : Option Holding → Option ℕ
notified_in None = None
notified_in (Some (holding.Listener n)) = None
notified_in (Some (holding.Notifier n)) = Some n

-- ---- changes

-- the party holds this under the name, and all else is held as it was
abbrev pub HasAt : Held → Held → List ℕ → List ℕ → Option Holding → Type 0
HasAt held held' party name x = (p n : List ℕ) → held' p n ≡ with_at held party name x p n

-- ---- beginnings

-- a call on an event that has taken no access
abbrev pub IsNewAct : CallTask → ℕ → EventCall → Type 0
IsNewAct (task.Listen name kind event max) n c = ⊥
IsNewAct (task.Notifier name kind event) n c = ⊥
IsNewAct (task.Act a) n c = (a.event ≡ n) × (event_call a.call ≡ c) × (a.told.items ≡ []) × (a.waited ≡ false)

-- a call that is to begin is this one
abbrev pub IsTask : CallTask → EventTask → Type 0
IsTask t (ask q) = IsAskedBy t q
IsTask t (act n c) = IsNewAct t n c

-- a call begins, or is refused
abbrev pub IsChecked : EventTurn → List ℕ → Result CallTask Reason → Type 0
IsChecked turn party (Err why) = turn ≡ refused why
IsChecked turn party (Ok t) = (u : EventTask) × (turn ≡ begins party u) × IsTask t u

-- so the call of a party does, where boards hold its name or don't
abbrev pub IsCheckedBy : ScriptEvents → List ℕ → EventRequest → Bool → Result CallTask Reason → Type 0
IsCheckedBy x party q taken result =
    (boards : State) → TellsTaken taken boards party q → IsChecked (task_turn (record { boards = boards; events = x }) party q (task_of x party q)) party result

-- ---- steps

-- an access is owed
abbrev pub GoesOn : EventCall → Type 0
GoesOn (a_notify c) = c.stage ≢ notify.Finished
GoesOn (a_wait c) = c.stage ≢ wait.Finished

-- a call takes the access that it owes, is answered right, and goes on by the answer
pub record IsActStep (old new : EventTable) (event : ℕ) (call next : EventCall) (s : EventStep) : Type 0 where
  pub owes : s.access ≡ owed call
  pub right : IsSomeAnd (event_at old event) (λ e. IsRight e s.access s.answer)
  pub memory : new ≡ changed old event (λ e. after e s.access)
  pub progress : s.progress ≡ (turn call s.answer).0
  pub goes_on : next ≡ (turn call s.answer).1

-- a call that goes on, with the ids that it has reported
pub record IsLeft (a : Act) (event : ℕ) (next : EventCall) (told : List ℕ) (waited : Bool) : Type 0 where
  pub event_is : a.event ≡ event
  pub call : event_call a.call ≡ next
  pub told_is : a.told.items ≡ told
  pub waited_is : a.waited ≡ waited

-- a call makes its step, and is left so where that was not its last
pub record IsWentOn (t t' : EventTable) (a b : Act) (told : Stepped) : Type 0 where
  pub step : EventStep
  pub next : EventCall
  pub made : IsActStep t t' a.event (event_call a.call) next step
  pub told_is : told ≡ stepped.Acted a.event step.access step.answer (if is_last step.progress then Some (end_told (is_for_all (event_call a.call)) a.told.items step.progress) else None)
  pub left : is_last step.progress ≡ false → IsLeft b a.event next (a.told.items ++ reported step.progress) (is_waiting step.progress)

-- what is asked for is told as it should be, and what parties hold stands for what follows
pub record IsAsked (t : EventTable) (has : Held) (x : ScriptEvents) (party : List ℕ) (q : EventAsk) (told : EventReply) : Type 0 where
  pub told_is : told ≡ ask_told x q
  pub held : Holds t has (ask_made x party q)

-- so it is for each script that the table and what is held stand for, whose ask is for a free name
abbrev pub AnswersAsk : EventTable → Held → EventTable → Held → List ℕ → EventAsk → EventReply → Type 0
AnswersAsk t held t' held' party q told =
    (x : ScriptEvents) (count : ℕ) → AreSoundEvents x count → x.asked party ≡ Some q → Holds t held x → IsAsked t' held' x party q told

-- what is asked for is made, for each script that the table and what is held stand for
abbrev pub Makes : EventTable → Held → List ℕ → EventAsk → Type 0
Makes t held party q =
    (x : ScriptEvents) (count : ℕ) → AreSoundEvents x count → x.asked party ≡ Some q → Holds t held x → ask_told x q ≡ reply.Done

-- no event has so many notifiers that there can be no more
abbrev pub HasFewNotifiers : EventTable → Type 0
HasFewNotifiers t = (n : ℕ) (e : Event) → event_at t n ≡ Some e → e.notifiers < 2 ^ 63

-- the task's step can be made
abbrev pub CanStep : EventTable → CallTask → Type 0
CanStep t (task.Listen name kind event max) = t.drawn < 2 ^ 63
CanStep t (task.Notifier name kind event) = HasFewNotifiers t
CanStep t (task.Act a) = GoesOn (event_call a.call) × CanPerformAt t a.event (owed (event_call a.call))

-- what is asked for is answered
pub record IsAnswered (t : EventTable) (held : Held) (t' : EventTable) (held' : Held) (party : List ℕ) (q : EventAsk) (told : Stepped) : Type 0 where
  pub reply : EventReply
  pub told_is : told ≡ stepped.Asked reply
  pub answers : AnswersAsk t held t' held' party q reply

-- a call that is left as a task
abbrev pub IsWentOnTo : EventTable → EventTable → Act → CallTask → Stepped → Type 0
IsWentOnTo t t' a (task.Listen name kind event max) told = ⊥
IsWentOnTo t t' a (task.Notifier name kind event) told = ⊥
IsWentOnTo t t' a (task.Act b) told = IsWentOn t t' a b told

-- the step of a party's task, and what it leaves
abbrev pub StepsTo : EventTable → Held → EventTable → Held → List ℕ → CallTask → CallTask → Stepped → Type 0
StepsTo t held t' held' party (task.Listen name kind event max) left told = IsAnswered t held t' held' party (to_listen name kind event max) told
StepsTo t held t' held' party (task.Notifier name kind event) left told = IsAnswered t held t' held' party (to_notify name kind event) told
StepsTo t held t' held' party (task.Act a) left told = ((p n : List ℕ) → held' p n ≡ held p n) × IsWentOnTo t t' a left told

-- the step takes memory
abbrev pub TakesAt : EventTable → Held → List ℕ → CallTask → Type 0
TakesAt t held party (task.Listen name kind event max) = Makes t held party (to_listen name kind event max)
TakesAt t held party (task.Notifier name kind event) = Makes t held party (to_notify name kind event)
TakesAt t held party (task.Act a) = IsSomeAnd (event_at t a.event) (λ e. Gives e (event_call a.call))

-- the call goes on that was told so
abbrev pub stays : Stepped → Bool
stays (stepped.Asked reply) = false
stays (stepped.Acted event access answer told) = not (is_some told)

-- and that had memory
abbrev pub goes_on : {E : Type 0} → Result Stepped E → Bool
goes_on (Ok told) = stays told
goes_on (Err e) = false

-- ---- ends

-- a timed wait whose last access found nothing
abbrev pub may_end : CallTask → Bool
may_end (task.Listen name kind event max) = false
may_end (task.Notifier name kind event) = false
may_end (task.Act a) = is_timed (event_call a.call) && a.waited

-- the table after a listener was counted as gone
abbrev pub marked : Holding → EventTable → EventTable
marked (holding.Listener n) t = changed t n with_gone
marked (holding.Notifier n) t = t

-- the table after all listeners were, one after another
abbrev pub marked_gone : List Holding → EventTable → EventTable
marked_gone [] t = t
marked_gone (h ∷ hs) t = marked_gone hs (marked h t)

-- a listener's event stands
abbrev pub IsMarkable : EventTable → Holding → Type 0
IsMarkable t (holding.Listener n) = IsSome (event_at t n)
IsMarkable t (holding.Notifier n) = ⊤
