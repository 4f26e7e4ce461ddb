-- The calls on an event: the accesses that they owe, as a fold over the answers so far, what they report, and what is kept of one that runs.
use Rattle.std.specs.Prelude.{ℕ, ◌-◌, Bool, true, false, ◌==◌, if◌then◌else◌, List, [], ◌∷◌, ◌++◌, Option, Some, None}
use Rattle.std.specs.Int.{bit_at}
use Rattle.board_event_model.specs.declared.access.EventAccess.{EventAccess}
use Rattle.board_event_model.specs.declared.access.EventAnswer.{EventAnswer}
use Rattle.board_event_model.specs.declared.call.EventProgress.{EventProgress}
use Rattle.board_event_model.specs.declared.call.EventProgress.TheVariants as progress
use Rattle.board_event_model.specs.declared.call.WaitMode.TheVariants as mode
use Rattle.board_event_model.specs.Ids.{ids_where}
use Rattle.board_event_model.specs.NotifyCalls.{Notify, notify_owed, notify_turn}
use Rattle.board_event_model.specs.WaitCalls.{Wait, wait_owed, wait_turn}
use Rattle.board_event_model.specs.EventMemory.{Event}

-- a call
pub data EventCall : Type 0 where
  a_notify : Notify → EventCall
  a_wait : Wait → EventCall

-- the access that it owes where it stands
abbrev pub owed : EventCall → EventAccess
owed (a_notify n) = notify_owed n.id n.stage
owed (a_wait w) = wait_owed w.stage

-- what it has come to with an answer, and how it goes on
abbrev pub turn : EventCall → EventAnswer → EventProgress × EventCall
turn (a_notify n) a = ((notify_turn n n.stage a).0, a_notify (record n { stage = (notify_turn n n.stage a).1 }))
turn (a_wait w) a = ((wait_turn w w.stage a).0, a_wait (record w { stage = (wait_turn w w.stage a).1 }))

-- how it stands after these answers, the last one first
abbrev pub answered : EventCall → List EventAnswer → EventCall
answered c [] = c
answered c (a ∷ before) = (turn (answered c before) a).1

-- whether it is a timed wait
abbrev pub is_timed : EventCall → Bool
is_timed (a_notify n) = false
is_timed (a_wait w) = elim w.mode [ mode.Try ↦ false | mode.Timed ↦ true | mode.Block ↦ false ]

-- ---- what is told

-- the ids that a call reports at a step
abbrev pub reported : EventProgress → List ℕ
reported progress.More = []
reported progress.Waiting = []
reported (progress.Took base bits last) = ids_where (λ i. bit_at bits (i - base) == 1) base 64
reported (progress.Id id last) = id ∷ []
reported progress.Notified = []
reported (progress.Refused why) = []
reported progress.Nothing = []

-- whether the step ends the call
abbrev pub is_last : EventProgress → Bool
is_last progress.More = false
is_last progress.Waiting = false
is_last (progress.Took base bits last) = last
is_last (progress.Id id last) = last
is_last progress.Notified = true
is_last (progress.Refused why) = true
is_last progress.Nothing = true

-- whether it was a waiting look that found nothing
abbrev pub is_waiting : EventProgress → Bool
is_waiting progress.Waiting = true
is_waiting _ = false

-- ---- calls that run

-- a party is known by its name
abbrev pub PartyName : Type 0
PartyName = List ℕ

-- an access of a call, and the memory that it met
pub record MetAccess : Type 0 where
  pub met : Event
  pub access : EventAccess

-- a call that runs: its number among the calls, how it began, its answers so far, the ids that it has reported, its accesses,
-- and whether the last one was a waiting look that found nothing. Of answers and accesses the last one comes first
pub record RunningCall : Type 0 where
  pub number : ℕ
  pub first : EventCall
  pub answers : List EventAnswer
  pub told : List ℕ
  pub steps : List MetAccess
  pub waited : Bool

-- how a running call stands
abbrev pub call_of : RunningCall → EventCall
call_of r = answered r.first r.answers

-- an access of the call with this number, and whether it was its last
pub record TakenAccess : Type 0 where
  pub call : ℕ
  pub access : EventAccess
  pub last : Bool

-- a call that begins
abbrev pub new_call : ℕ → EventCall → RunningCall
new_call number call = record { number = number; first = call; answers = []; told = []; steps = []; waited = false }

-- what is left of a call after an access: nothing, where it was its last
abbrev pub went_on : RunningCall → Event → EventAccess → EventAnswer → Option RunningCall
went_on r e a answer =
    if is_last (turn (call_of r) answer).0 then None
    else Some (record {
      number = r.number;
      first = r.first;
      answers = answer ∷ r.answers;
      told = r.told ++ reported (turn (call_of r) answer).0;
      steps = record { met = e; access = a } ∷ r.steps;
      waited = is_waiting (turn (call_of r) answer).0;
    })
