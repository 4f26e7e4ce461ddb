-- Runs on one event: what many parties may do, one move after another, abandoned anywhere.
use Rattle.std.specs.Prelude.{◌≡◌, ℕ, ◌+◌, ◌/◌, true, false, ◌||◌, ◌&&◌, if◌then◌else◌, List, [], ◌∷◌, Option, Some, None, IsSomeAnd, ⊤}
use Rattle.std.specs.Str.{bytes_eq}
use Rattle.board_event_model.specs.declared.kind.EventKind.{EventKind}
use Rattle.board_event_model.specs.declared.access.EventAccess.{EventAccess}
use Rattle.board_event_model.specs.declared.access.EventAnswer.{EventAnswer}
use Rattle.board_event_model.specs.EventMemory.{Event, new_event, is_bits, IsRight, after}
use Rattle.board_event_model.specs.NotifyCalls.{notify_bits, notify_queue}
use Rattle.board_event_model.specs.WaitCalls.{wait_bits, wait_queue}
use Rattle.board_event_model.specs.EventCalls.{EventCall, a_notify, a_wait, owed, turn, is_last, is_timed, PartyName, RunningCall, call_of, TakenAccess, new_call, went_on}

-- where a run stands: the event, its listener's party, the calls that run, how many have begun, and all accesses so far, the last one first
pub record Moment : Type 0 where
  pub event : Event
  pub listener : PartyName
  pub running : PartyName → Option RunningCall
  pub begun : ℕ
  pub history : List TakenAccess

-- what a party does; `elsewhere`: a call begins on another event
pub data EventMove : Type 0 where
  begin : PartyName → EventCall → EventMove
  step : PartyName → EventAccess → EventAnswer → EventMove
  expire : PartyName → EventMove
  abandon : PartyName → EventMove
  release_listener : EventMove
  notifiers : ℕ → EventMove
  elsewhere : EventMove

-- the calls with this for one party
abbrev pub put : (PartyName → Option RunningCall) → PartyName → Option RunningCall → PartyName → Option RunningCall
put running p x q = if bytes_eq q p then x else running q

-- the calls that a party may begin on an event: any notify, and a wait of the listener's party
abbrev pub IsCallOf : Event → PartyName → PartyName → EventCall → Type 0
IsCallOf e listener p (a_notify n) = n ≡ (if is_bits e.kind then notify_bits n.id e.max else notify_queue n.id)
IsCallOf e listener p (a_wait w) = (p ≡ listener) × (w ≡ (if is_bits e.kind then wait_bits (e.max / 64 + 1) w.many w.mode else wait_queue w.many w.mode))

-- what may come next: a free party begins, a running call takes the access that it owes and is answered right, and a timed wait expires after a waiting look
abbrev pub IsAllowed : Moment → EventMove → Type 0
IsAllowed now (begin p call) = (now.running p ≡ None) × IsCallOf now.event now.listener p call
IsAllowed now (step p a answer) = IsSomeAnd (now.running p) (λ r. (a ≡ owed (call_of r)) × IsRight now.event a answer)
IsAllowed now (expire p) = IsSomeAnd (now.running p) (λ r. (is_timed (call_of r) ≡ true) × (r.waited ≡ true))
IsAllowed now (abandon p) = ⊤
IsAllowed now release_listener = now.running now.listener ≡ None
IsAllowed now (notifiers n) = ⊤
IsAllowed now elsewhere = ⊤

-- after an access of a party's call
abbrev pub stepped : Moment → PartyName → EventAccess → EventAnswer → Option RunningCall → Moment
stepped now p a answer None = now
stepped now p a answer (Some r) = record now {
  event = after now.event a;
  running = put now.running p (went_on r now.event a answer);
  history = record { call = r.number; access = a; last = is_last (turn (call_of r) answer).0 } ∷ now.history;
}

-- after a move
abbrev pub moved : Moment → EventMove → Moment
moved now (begin p call) = record now { running = put now.running p (Some (new_call now.begun call)); begun = now.begun + 1 }
moved now (step p a answer) = stepped now p a answer (now.running p)
moved now (expire p) = record now { running = put now.running p None }
moved now (abandon p) = record now { running = put now.running p None; event = record now.event { gone = now.event.gone || (now.event.held && bytes_eq p now.listener) } }
moved now release_listener = record now { event = record now.event { held = false } }
moved now (notifiers n) = record now { event = record now.event { notifiers = n } }
moved now elsewhere = record now { begun = now.begun + 1 }

-- where these moves lead, the last one first
abbrev pub run_to : Moment → List EventMove → Moment
run_to now [] = now
run_to now (m ∷ ms) = moved (run_to now ms) m

-- each of these moves is allowed after those before it
abbrev pub IsRun : Moment → List EventMove → Type 0
IsRun now [] = ⊤
IsRun now (m ∷ ms) = IsRun now ms × IsAllowed (run_to now ms) m

-- where a listen leaves an event
abbrev pub listened : EventKind → List ℕ → ℕ → PartyName → Moment
listened k name max listener = record {
  event = new_event k name max;
  listener = listener;
  running = λ p. None;
  begun = 0;
  history = [];
}

-- some run from a listen leads here
pub record IsReached (now : Moment) : Type 0 where
  pub kind : EventKind
  pub name : List ℕ
  pub max : ℕ
  pub listener : PartyName
  pub moves : List EventMove
  pub run : IsRun (listened kind name max listener) moves
  pub is : now ≡ run_to (listened kind name max listener) moves

-- these moves from a listen lead here
pub record IsReachedBy (moves : List EventMove) (now : Moment) : Type 0 where
  pub reached : IsReached now
  pub moves_are : reached.moves ≡ moves

-- a party's running call takes this access, and is answered so
pub record Takes (now : Moment) (p : PartyName) (r : RunningCall) (a : EventAccess) (answer : EventAnswer) : Type 0 where
  pub runs : now.running p ≡ Some r
  pub owes : a ≡ owed (call_of r)
  pub right : IsRight now.event a answer
