-- Sessions on many events, and what of them concerns one event.
use Rattle.std.specs.Prelude.{◌≡◌, ℕ, ◌+◌, Bool, true, false, ◌||◌, ◌&&◌, ◌==◌, if◌then◌else◌, List, [], ◌∷◌, ◌++◌, Option, Some, None, is_some, IsSomeAnd, ⊤}
use Rattle.std.specs.Str.{bytes_eq}
use Rattle.board_event_model.specs.declared.kind.EventKind.{EventKind}
use Rattle.board_event_model.specs.declared.access.EventAccess.{EventAccess}
use Rattle.board_event_model.specs.declared.access.EventAnswer.{EventAnswer}
use Rattle.board_event_model.specs.EventMemory.{Event, new_event, IsRight, after}
use Rattle.board_event_model.specs.EventCalls.{EventCall, owed, turn, is_last, is_timed, PartyName, RunningCall, TakenAccess, new_call, went_on, call_of}
use Rattle.board_event_model.specs.EventRuns.{EventMove, Moment, IsCallOf, abandon, begin, elsewhere, expire, notifiers, release_listener, step}

-- an event, and its listener's party
pub record StandingEvent : Type 0 where
  pub event : Event
  pub listener : PartyName

-- a party's call, and the event that it is on
pub record PartyCall : Type 0 where
  pub on : ℕ
  pub call : RunningCall

-- an access to an event
pub record SessionAccess : Type 0 where
  pub on : ℕ
  pub taken : TakenAccess

-- a session of events; those from 1 to `count` were made
pub record EventSession : Type 0 where
  pub stands : ℕ → Option StandingEvent
  pub count : ℕ
  pub doing : PartyName → Option PartyCall
  pub begun : ℕ
  pub history : List SessionAccess

-- what a party does
pub data EventLine : Type 0 where
  listen : PartyName → EventKind → List ℕ → ℕ → EventLine
  begin_on : PartyName → ℕ → EventCall → EventLine
  step_of : PartyName → EventAccess → EventAnswer → EventLine
  expire_of : PartyName → EventLine
  abandon_of : PartyName → EventLine
  release_of : ℕ → EventLine
  notifiers_of : ℕ → ℕ → EventLine

-- the calls with this for one party
abbrev pub do_at : (PartyName → Option PartyCall) → PartyName → Option PartyCall → PartyName → Option PartyCall
do_at doing p x q = if bytes_eq q p then x else doing q

-- the events with one changed
abbrev pub change_at : (ℕ → Option StandingEvent) → ℕ → (Event → Event) → ℕ → Option StandingEvent
change_at stands n f m = elim (stands m) [ None ↦ None | Some st ↦ Some (record st { event = if m == n then f st.event else st.event }) ]

-- the event, after its listener's party may have been abandoned while it had the listener
abbrev pub gone_with : PartyName → StandingEvent → StandingEvent
gone_with p st = record st { event = record st.event { gone = st.event.gone || (st.event.held && bytes_eq p st.listener) } }

-- all events, after a party was abandoned
abbrev pub all_gone : (ℕ → Option StandingEvent) → PartyName → ℕ → Option StandingEvent
all_gone stands p m = elim (stands m) [ None ↦ None | Some st ↦ Some (gone_with p st) ]

-- a running call may take this access of its event, and is answered right
abbrev pub MayTake : EventSession → EventAccess → EventAnswer → PartyCall → Type 0
MayTake s a answer d = IsSomeAnd (s.stands d.on) (λ st. (a ≡ owed (call_of d.call)) × IsRight st.event a answer)

-- what may come next
abbrev pub IsEventLine : EventSession → EventLine → Type 0
IsEventLine s (listen p k name max) = ⊤
IsEventLine s (begin_on p n c) = (s.doing p ≡ None) × IsSomeAnd (s.stands n) (λ st. IsCallOf st.event st.listener p c)
IsEventLine s (step_of p a answer) = IsSomeAnd (s.doing p) (MayTake s a answer)
IsEventLine s (expire_of p) = IsSomeAnd (s.doing p) (λ d. (is_timed (call_of d.call) ≡ true) × (d.call.waited ≡ true))
IsEventLine s (abandon_of p) = ⊤
IsEventLine s (release_of n) = IsSomeAnd (s.stands n) (λ st. s.doing st.listener ≡ None)
IsEventLine s (notifiers_of n k) = ⊤

-- a call on an event
abbrev pub doing_on : ℕ → Option RunningCall → Option PartyCall
doing_on n None = None
doing_on n (Some r) = Some (record { on = n; call = r })

-- the event with this number
abbrev pub event_of : (ℕ → Option StandingEvent) → ℕ → Option Event
event_of stands n = elim (stands n) [ None ↦ None | Some st ↦ Some st.event ]

-- after an access of a party's call
abbrev pub took_step : EventSession → PartyName → EventAccess → EventAnswer → PartyCall → Option Event → EventSession
took_step s p a answer d None = s
took_step s p a answer d (Some e) = record s {
  stands = change_at s.stands d.on (λ x. after x a);
  doing = do_at s.doing p (doing_on d.on (went_on d.call e a answer));
  history = record { on = d.on; taken = record { call = d.call.number; access = a; last = is_last (turn (call_of d.call) answer).0 } } ∷ s.history;
}

-- after a step of a party
abbrev pub stepped_on : EventSession → PartyName → EventAccess → EventAnswer → Option PartyCall → EventSession
stepped_on s p a answer None = s
stepped_on s p a answer (Some d) = took_step s p a answer d (event_of s.stands d.on)

-- after a line
abbrev pub next_session : EventSession → EventLine → EventSession
next_session s (listen p k name max) = record s { stands = (λ m. if m == s.count + 1 then Some (record { event = new_event k name max; listener = p }) else s.stands m); count = s.count + 1 }
next_session s (begin_on p n c) = record s { doing = do_at s.doing p (Some (record { on = n; call = new_call s.begun c })); begun = s.begun + 1 }
next_session s (step_of p a answer) = stepped_on s p a answer (s.doing p)
next_session s (expire_of p) = record s { doing = do_at s.doing p None }
next_session s (abandon_of p) = record s { doing = do_at s.doing p None; stands = all_gone s.stands p }
next_session s (release_of n) = record s { stands = change_at s.stands n (λ e. record e { held = false }) }
next_session s (notifiers_of n k) = record s { stands = change_at s.stands n (λ e. record e { notifiers = k }) }

-- nothing was done yet
abbrev pub no_session : EventSession
no_session = record { stands = λ n. None; count = 0; doing = λ p. None; begun = 0; history = [] }

-- after these lines
abbrev pub session_of : List EventLine → EventSession
session_of [] = no_session
session_of (l ∷ ls) = next_session (session_of ls) l

-- each of these lines is allowed after those before it; the last one comes first
abbrev pub IsEventSession : List EventLine → Type 0
IsEventSession [] = ⊤
IsEventSession (l ∷ ls) = IsEventSession ls × IsEventLine (session_of ls) l

-- ---- one event's part

-- a call, where it is on this event
abbrev pub running_on : ℕ → Option PartyCall → Option RunningCall
running_on n None = None
running_on n (Some d) = if d.on == n then Some d.call else None

-- the accesses to this event
abbrev pub history_on : ℕ → List SessionAccess → List TakenAccess
history_on n [] = []
history_on n (a ∷ rest) = if a.on == n then a.taken ∷ history_on n rest else history_on n rest

-- what of a session concerns one event
abbrev pub view : EventSession → ℕ → StandingEvent → Moment
view s n st = record { event = st.event; listener = st.listener; running = λ p. running_on n (s.doing p); begun = s.begun; history = history_on n s.history }

-- ---- one event's moves, the last one first

-- the call runs on this event
abbrev pub is_on : ℕ → Option PartyCall → Bool
is_on n None = false
is_on n (Some d) = d.on == n

-- what a line does with an event that stands
abbrev pub moves_at : ℕ → EventSession → EventLine → List EventMove
moves_at n s (listen p k name max) = []
moves_at n s (begin_on p m c) = (if m == n then begin p c else elsewhere) ∷ []
moves_at n s (step_of p a answer) = if is_on n (s.doing p) then step p a answer ∷ [] else []
moves_at n s (expire_of p) = if is_on n (s.doing p) then expire p ∷ [] else []
moves_at n s (abandon_of p) = abandon p ∷ []
moves_at n s (release_of m) = if m == n then release_listener ∷ [] else []
moves_at n s (notifiers_of m k) = if m == n then notifiers k ∷ [] else []

-- before the event is made, calls only begin elsewhere
abbrev pub moves_before : EventLine → List EventMove
moves_before (listen p k name max) = []
moves_before (begin_on p m c) = elsewhere ∷ []
moves_before (step_of p a answer) = []
moves_before (expire_of p) = []
moves_before (abandon_of p) = []
moves_before (release_of m) = []
moves_before (notifiers_of m k) = []

-- what a line does with an event
abbrev pub moves_of : ℕ → EventSession → EventLine → List EventMove
moves_of n s l = if is_some (s.stands n) then moves_at n s l else moves_before l

-- the moves on an event of a session's lines
abbrev pub moves_on : ℕ → List EventLine → List EventMove
moves_on n [] = []
moves_on n (l ∷ ls) = moves_of n (session_of ls) l ++ moves_on n ls
