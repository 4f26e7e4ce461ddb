-- What is known of a turn of events that isn't a refusal.
use Rattle.std.proofs.Common.{arith, ◌≡◌, ℕ, ◌+◌, Bool, true, false, refl, sym, ◌∙◌, ap, inl, inr, subst, Some, None, Option, List}
use Rattle.std.specs.Prelude.{if◌then◌else◌, ◌&&◌, ◌||◌, IsSomeAnd, is_some, ⊤, ◌/◌}
use Rattle.std.proofs.lemmas.Bool.{false≢true}
use Rattle.board_event_model.specs.declared.call.WaitMode.{WaitMode}
use Rattle.board_event_model.specs.declared.kind.EventKind.TheVariants as kind
use Rattle.board_event_model.specs.EventMemory.{Event, is_bits}
use Rattle.board_event_model.specs.NotifyCalls.{notify_bits, notify_queue}
use Rattle.board_event_model.specs.WaitCalls.{wait_bits, wait_queue}
use Rattle.board_event_model.specs.EventCalls.{EventCall, is_timed, call_of, new_call}
use Rattle.board_event_model.specs.EventRuns.{IsCallOf}
use Rattle.board_event_model.specs.EventSessions.{IsEventLine, PartyCall, StandingEvent, begin_on, expire_of}
use Rattle.board_event_model.proofs.SetLemmas.{and_split, either}
use Rattle.board_event_model.proofs.SoundLemmas.{none_some, some_same}
use Rattle.board_model.specs.declared.line.Line.{Line}
use Rattle.board_model.specs.declared.line.Line.TheVariants as board_line
use Rattle.board_model.specs.Parties.{Party, free, gone, running}
use Rattle.board_model.specs.Requests.{and_then, new_name, request_of}
use Rattle.board_model.specs.Things.{is_held}
use Rattle.script_model.specs.declared.line.EventRequest.{EventRequest}
use Rattle.script_model.specs.declared.line.EventRequest.TheVariants as request
use Rattle.script_model.specs.declared.line.ScriptLine.{ScriptLine}
use Rattle.script_model.specs.declared.line.ScriptLine.TheVariants as line
use Rattle.script_model.specs.ScriptGrammar.{IsEventRequest, IsScriptLine}
use Rattle.script_model.specs.ScriptEvents.{EventAsk, EventTask, EventThing, ScriptEvents, act, ask, holds_event, listened_event, listener, name_made, notified, notifier, notify_call, on_event, runs_on_events, task_of, to_listen, to_notify, wait_call}
use Rattle.script_model.specs.ScriptTurns.{EventTurn, ScriptState, begin_turn, begins, board_turn, drop_turn, drops, expire_of_call, expire_turn, expires, free_turn, is_name_taken, may_expire, refused, request_turn, steps, takes_event_name, task_turn, turn_of}
use Rattle.script_model.specs.SoundEvents.{AreSoundEvents, IsFormedAsk, IsHeldCall, IsListening, name_asked}
use Rattle.script_model.proofs.EachLemmas.{event_in}

-- ---- tests

pub some_none : {A : Type 0} (o : Option A) → is_some o ≡ false → o ≡ None
some_none None h = refl
some_none (Some x) h = absurd (false≢true (sym h))

pub or_false : (a b : Bool) → (a || b) ≡ false → (a ≡ false) × (b ≡ false)
or_false true b h = absurd (false≢true (sym h))
or_false false b h = (refl, h)

-- a party with no call on events
pub record IsIdle (x : ScriptEvents) (party : List ℕ) : Type 0 where
  pub asked : x.asked party ≡ None
  pub doing : x.session.doing party ≡ None

pub idle_is : (x : ScriptEvents) (party : List ℕ) → runs_on_events x party ≡ false → IsIdle x party
idle_is x party h = let w = or_false _ _ h in record { asked = some_none _ w.0; doing = some_none _ w.1 }

-- ---- a call that may begin

-- what is known of a call that begins
abbrev pub IsTask : ScriptEvents → List ℕ → EventTask → Type 0
IsTask x party (ask q) = IsFormedAsk q × (x.things party (name_asked q) ≡ None)
IsTask x party (act n c) = IsHeldCall x party (record { on = n; call = new_call x.session.begun c }) × IsEventLine x.session (begin_on party n c)

notify_is : (e : Event) (owner party : List ℕ) (id : ℕ) → IsCallOf e owner party (notify_call e id)
notify_is e owner party id = by (is_bits e.kind)
  where
    by : (b : Bool) → (if b then notify_bits id e.max else notify_queue id) ≡ (if b then notify_bits (if b then notify_bits id e.max else notify_queue id).id e.max else notify_queue (if b then notify_bits id e.max else notify_queue id).id)
    by true = refl
    by false = refl

wait_is : (e : Event) (owner party : List ℕ) (many : Bool) (m : WaitMode) → party ≡ owner → IsCallOf e owner party (wait_call e many m)
wait_is e owner party many m own = (own, by (is_bits e.kind))
  where
    by : (b : Bool) → (if b then wait_bits (e.max / 64 + 1) many m else wait_queue many m) ≡ (if b then wait_bits (e.max / 64 + 1) (if b then wait_bits (e.max / 64 + 1) many m else wait_queue many m).many (if b then wait_bits (e.max / 64 + 1) many m else wait_queue many m).mode else wait_queue (if b then wait_bits (e.max / 64 + 1) many m else wait_queue many m).many (if b then wait_bits (e.max / 64 + 1) many m else wait_queue many m).mode)
    by true = refl
    by false = refl

-- a call on an event that stands
on_standing : (x : ScriptEvents) (party name : List ℕ) (thing : EventThing) (n : ℕ) (call : Event → EventCall) (o : Option StandingEvent) (t : EventTask) → x.session.doing party ≡ None → x.things party name ≡ Some thing → x.session.stands n ≡ o → and_then (event_in o) (λ e. Some (act n (call e))) ≡ Some t → ((st : StandingEvent) → x.session.stands n ≡ Some st → IsHeldCall x party (record { on = n; call = new_call x.session.begun (call st.event) }) × IsCallOf st.event st.listener party (call st.event)) → IsTask x party t
on_standing x party name thing n call None t idle holds stands e h = absurd (none_some t e)
on_standing x party name thing n call (Some st) t idle holds stands e h =
    let w = h st stands in
    let there : IsSomeAnd (x.session.stands n) (λ s. IsCallOf s.event s.listener party (call st.event)) = subst (λ (o : Option StandingEvent). IsSomeAnd o (λ s. IsCallOf s.event s.listener party (call st.event))) (sym stands) w.1 in
    subst (IsTask x party) (some_same _ t e) (w.0, (idle, there))

-- the owner of a listener
owner_of : (x : ScriptEvents) (c : ℕ) (party name : List ℕ) (n : ℕ) (st : StandingEvent) → AreSoundEvents x c → x.things party name ≡ Some (listener n) → x.session.stands n ≡ Some st → party ≡ st.listener
owner_of x c party name n st h holds stands =
    let own : IsListening party st = subst (λ (o : Option StandingEvent). IsSomeAnd o (IsListening party)) stands (h.things party name (listener n) holds) in
    sym own.owner

notify_task : (x : ScriptEvents) (c : ℕ) (party name : List ℕ) (id : ℕ) (o : Option EventThing) (t : EventTask) → AreSoundEvents x c → x.session.doing party ≡ None → x.things party name ≡ o → and_then (notified o) (on_event x (λ e. notify_call e id)) ≡ Some t → IsTask x party t
notify_task x c party name id None t h idle holds e = absurd (none_some t e)
notify_task x c party name id (Some (listener n)) t h idle holds e = absurd (none_some t e)
notify_task x c party name id (Some (notifier n)) t h idle holds e =
    on_standing x party name (notifier n) n (λ e. notify_call e id) (x.session.stands n) t idle holds refl e (λ st stands. (record { name = name; thing = notifier n; found = holds; uses = refl }, notify_is st.event st.listener party id))

wait_task : (x : ScriptEvents) (c : ℕ) (party name : List ℕ) (many : Bool) (m : WaitMode) (o : Option EventThing) (t : EventTask) → AreSoundEvents x c → x.session.doing party ≡ None → x.things party name ≡ o → and_then (listened_event o) (on_event x (λ e. wait_call e many m)) ≡ Some t → IsTask x party t
wait_task x c party name many m None t h idle holds e = absurd (none_some t e)
wait_task x c party name many m (Some (notifier n)) t h idle holds e = absurd (none_some t e)
wait_task x c party name many m (Some (listener n)) t h idle holds e =
    on_standing x party name (listener n) n (λ e. wait_call e many m) (x.session.stands n) t idle holds refl e (λ st stands. (record { name = name; thing = listener n; found = holds; uses = refl }, wait_is st.event st.listener party many m (owner_of x c party name n st h holds stands)))

-- what is asked for
ask_task : (x : ScriptEvents) (party : List ℕ) (q : EventAsk) (t : EventTask) → IsFormedAsk q → x.things party (name_asked q) ≡ None → Some (ask q) ≡ Some t → IsTask x party t
ask_task x party q t formed new e = subst (IsTask x party) (some_same _ t e) (formed, new)

not_held : (s : ScriptState) (party name : List ℕ) → is_name_taken s party (Some name) ≡ false → s.events.things party name ≡ None
not_held s party name h = some_none _ (or_false (is_held s.boards.standing party name) (holds_event s.events party name) h).1

task_is : (s : ScriptState) (c : ℕ) (party : List ℕ) (q : EventRequest) (t : EventTask) → IsEventRequest q → AreSoundEvents s.events c → s.events.session.doing party ≡ None → is_name_taken s party (name_made q) ≡ false → task_of s.events party q ≡ Some t → IsTask s.events party t
task_is s c party (request.ListenBits name event max) t formed h idle new e = ask_task s.events party (to_listen name kind.Bits event max) t (formed.1, formed.2) (not_held s party name new) e
task_is s c party (request.ListenQueue name event) t formed h idle new e = ask_task s.events party (to_listen name kind.Queue event 0) t (formed.1, omega arith) (not_held s party name new) e
task_is s c party (request.Notifier name k event) t formed h idle new e = ask_task s.events party (to_notify name k event) t formed.1 (not_held s party name new) e
task_is s c party (request.Notify name id) t formed h idle new e = notify_task s.events c party name id (s.events.things party name) t h idle refl e
task_is s c party (request.Wait name many m) t formed h idle new e = wait_task s.events c party name many m (s.events.things party name) t h idle refl e

-- ---- turns

-- what is known of a turn
abbrev pub IsTurn : ScriptState → EventTurn → Type 0
IsTurn s (refused why) = ⊤
IsTurn s (begins party t) = IsIdle s.events party × (s.boards.parties party ≡ free) × IsTask s.events party t
IsTurn s (steps party) = runs_on_events s.events party ≡ true
IsTurn s (drops party name) = IsIdle s.events party × (s.boards.parties party ≡ free) × (is_some (s.events.things party name) ≡ true)
IsTurn s (expires party) = IsEventLine s.events.session (expire_of party) × (runs_on_events s.events party ≡ true)

abbrev IsTurnOr : ScriptState → Option EventTurn → Type 0
IsTurnOr s None = ⊤
IsTurnOr s (Some t) = IsTurn s t

begin_is : (s : ScriptState) (p : Party) (taken : Bool) → IsTurnOr s (begin_turn p taken)
begin_is s free true = tt
begin_is s free false = tt
begin_is s (running r) true = tt
begin_is s (running r) false = tt
begin_is s gone true = tt
begin_is s gone false = tt

drop_is : (s : ScriptState) (p : Party) (held : Bool) (party name : List ℕ) → s.boards.parties party ≡ p → holds_event s.events party name ≡ held → IsIdle s.events party → IsTurnOr s (drop_turn p held party name)
drop_is s free true party name e h idle = (idle, e, h)
drop_is s free false party name e h idle = tt
drop_is s (running r) true party name e h idle = tt
drop_is s (running r) false party name e h idle = tt
drop_is s gone true party name e h idle = tt
drop_is s gone false party name e h idle = tt

if_turn : (P : Option EventTurn → Type 0) (b : Bool) (x y : Option EventTurn) → (b ≡ true → P x) → (b ≡ false → P y) → P (if b then x else y)
if_turn P true x y f g = f refl
if_turn P false x y f g = g refl

board_is : (s : ScriptState) (l : Line) → IsTurnOr s (board_turn s l)
board_is s (board_line.Begin party c) =
    if_turn (IsTurnOr s) (runs_on_events s.events party) _ _ (λ h. tt) (λ h. begin_is s (s.boards.parties party) (is_some (request_of s.boards.standing s.boards.published party c) && takes_event_name s.events party (new_name c)))
board_is s (board_line.Step party) = if_turn (IsTurnOr s) (runs_on_events s.events party) _ _ (λ h. h) (λ h. tt)
board_is s (board_line.Release party name) =
    if_turn (IsTurnOr s) (runs_on_events s.events party) _ _ (λ h. tt) (λ h. drop_is s (s.boards.parties party) (holds_event s.events party name) party name refl refl (idle_is s.events party h))
board_is s (board_line.Abandon party) = tt
board_is s (board_line.Words board) = tt

task_turn_is : (s : ScriptState) (c : ℕ) (party : List ℕ) (q : EventRequest) (o : Option EventTask) → IsEventRequest q → AreSoundEvents s.events c → IsIdle s.events party → s.boards.parties party ≡ free → task_of s.events party q ≡ o → IsTurn s (task_turn s party q o)
task_turn_is s c party q None formed h idle is_free e = tt
task_turn_is s c party q (Some t) formed h idle is_free e =
    elim (either (is_name_taken s party (name_made q))) [
      | inl taken ↦ rw taken tt
      | inr new ↦ rw new (idle, is_free, task_is s c party q t formed h idle.doing new e)
    ]

free_is : (s : ScriptState) (c : ℕ) (party : List ℕ) (q : EventRequest) (p : Party) → IsEventRequest q → AreSoundEvents s.events c → IsIdle s.events party → s.boards.parties party ≡ p → IsTurn s (free_turn p (task_turn s party q (task_of s.events party q)))
free_is s c party q free formed h idle e = task_turn_is s c party q (task_of s.events party q) formed h idle e refl
free_is s c party q (running r) formed h idle e = tt
free_is s c party q gone formed h idle e = tt

request_is : (s : ScriptState) (c : ℕ) (party : List ℕ) (q : EventRequest) → IsEventRequest q → AreSoundEvents s.events c → IsTurn s (request_turn s party q)
request_is s c party q formed h =
    elim (either (runs_on_events s.events party)) [
      | inl runs ↦ rw runs tt
      | inr idle ↦ rw idle (free_is s c party q (s.boards.parties party) formed h (idle_is s.events party idle) refl)
    ]

expire_call_is : (s : ScriptState) (party : List ℕ) (o : Option EventAsk) (d : Option PartyCall) → s.events.asked party ≡ o → s.events.session.doing party ≡ d → IsTurn s (expire_of_call party o d)
expire_call_is s party (Some q) d asked doing = tt
expire_call_is s party None None asked doing = tt
expire_call_is s party None (Some d) asked doing =
    elim (either (may_expire d)) [
      | inl may ↦ (
          let both = and_split _ _ may in
          rw may (
            subst (λ (o : Option PartyCall). IsSomeAnd o (λ d. (is_timed (call_of d.call) ≡ true) × (d.call.waited ≡ true))) (sym doing) both,
            ap (λ (o : Option EventAsk). is_some o || is_some (s.events.session.doing party)) asked ∙ ap (λ (o : Option PartyCall). is_some o) doing,
          ))
      | inr not ↦ rw not tt
    ]

expire_is : (s : ScriptState) (party : List ℕ) (p : Party) → IsTurn s (expire_turn s party p)
expire_is s party free = expire_call_is s party (s.events.asked party) (s.events.session.doing party) refl refl
expire_is s party (running r) = tt
expire_is s party gone = tt

turn_or : (s : ScriptState) (c : ℕ) (l : ScriptLine) → IsScriptLine l → AreSoundEvents s.events c → IsTurnOr s (turn_of s l)
turn_or s c (line.Board l) formed h = board_is s l
turn_or s c (line.Event party q) formed h = request_is s c party q formed.1 h
turn_or s c (line.Expire party) formed h = expire_is s party (s.boards.parties party)

pub turn_is : (s : ScriptState) (c : ℕ) (l : ScriptLine) (t : EventTurn) → IsScriptLine l → AreSoundEvents s.events c → turn_of s l ≡ Some t → IsTurn s t
turn_is s c l t formed h e = subst (IsTurnOr s) e (turn_or s c l formed h)
