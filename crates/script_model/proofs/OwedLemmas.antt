-- A step of a call on events has a right answer.
use Rattle.std.proofs.Common.{◌≡◌, ℕ, ◌<◌, ◌≤◌, ◌^◌, true, List, [], ◌∷◌, length, arith, Option, Some, None, IsSomeAnd, refl, sym, ap, subst, ◌∙◌, inl, inr, eqb}
use Rattle.std.specs.Prelude.{◌||◌, is_some, IsSome}
use Rattle.std.proofs.lemmas.Bool.{false≢true}
use Rattle.std.proofs.lemmas.Bool.Decides.{Decides-eqb}
use Rattle.board_event_model.specs.declared.access.EventAccess.{EventAccess}
use Rattle.board_event_model.specs.declared.access.EventAccess.TheVariants as access
use Rattle.board_event_model.specs.declared.access.EventAnswer.{EventAnswer}
use Rattle.board_event_model.specs.declared.access.EventAnswer.TheVariants as event_answer
use Rattle.board_event_model.specs.EventMemory.{CanPerform, Event}
use Rattle.board_event_model.specs.EventMemory as memory
use Rattle.board_event_model.specs.EventCalls.{EventCall, a_notify, a_wait, owed, turn, call_of}
use Rattle.board_event_model.specs.EventRuns.{IsReached}
use Rattle.board_event_model.specs.EventSessions.{EventSession, PartyCall, SessionAccess, StandingEvent, event_of, history_on, running_on, view}
use Rattle.board_event_model.proofs.SetLemmas.{either}
use Rattle.board_event_model.proofs.AccessLemmas.{perform_law_holds}
use Rattle.board_event_model.proofs.ViewLemmas.{session_reached}
use Rattle.script_model.specs.ScriptAnswers.{ScriptAnswer, of_ask, of_event}
use Rattle.script_model.specs.ScriptEvents.{EventAsk, EventThing, IsEventAccess, IsStepOf, ScriptEvents, ask_told, listener, notifier, step_told}
use Rattle.script_model.specs.SoundEvents.{AreSoundEvents, IsCallOfThing, IsEventThing}
use Rattle.script_model.proofs.WordLemmas.{word_exists}

-- ---- the answer of an access

abbrev HasEventAnswer : Event → EventAccess → Type 0
HasEventAnswer e x = (a : EventAnswer) × memory.IsRight e x a

owed_answer : (e : Event) (x : EventAccess) → CanPerform e x → HasEventAnswer e x
owed_answer e access.Listener h = (_, refl)
owed_answer e (access.Set id) h = (_, refl)
owed_answer e access.Post h = (_, refl)
owed_answer e (access.Push id) h = (_, refl)
owed_answer e access.Signal h = (_, refl)
owed_answer e (access.Scan k) h = let w = word_exists e.pending k in (event_answer.Word w.0, (w.0, refl, w.1))
owed_answer e (access.Clear id) h = (event_answer.Done, (refl, h.inside))
owed_answer e (access.Swap k) h = let w = word_exists e.pending k in (event_answer.Word w.0, (w.0, refl, w.1))
owed_answer e access.Pop h = (_, refl)

-- ---- the event of a running call

abbrev pub Stands : (ℕ → Option StandingEvent) → ℕ → Type 0
Stands stands n = (st : StandingEvent) × (stands n ≡ Some st)

some_holds : (o : Option StandingEvent) (P : StandingEvent → Type 0) → IsSomeAnd o P → (st : StandingEvent) × (o ≡ Some st)
some_holds None P h = absurd h
some_holds (Some st) P h = (st, refl)

some_is : (o : Option StandingEvent) → IsSome o → (st : StandingEvent) × (o ≡ Some st)
some_is None h = absurd cc
some_is (Some st) h = (st, refl)

thing_stands : (x : ScriptEvents) (p : List ℕ) (t : EventThing) (on : ℕ) (c : EventCall) → IsEventThing x p t → IsCallOfThing t on c → Stands x.session.stands on
thing_stands x p (listener n) on (a_notify c) h used = absurd used
thing_stands x p (listener n) on (a_wait w) h used = subst (Stands x.session.stands) used (some_holds (x.session.stands n) _ h)
thing_stands x p (notifier n) on (a_notify c) h used = subst (Stands x.session.stands) used (some_is (x.session.stands n) h)
thing_stands x p (notifier n) on (a_wait w) h used = absurd used

pub call_stands : (x : ScriptEvents) (n : ℕ) → AreSoundEvents x n → (p : List ℕ) (d : PartyCall) → x.session.doing p ≡ Some d → Stands x.session.stands d.on
call_stands x n sound p d e =
    let c = sound.calls p d e in
    thing_stands x p c.thing d.on d.call.first (sound.things p c.name c.thing c.found) c.uses

-- ---- the access can be made

history_fewer : (n : ℕ) (h : List SessionAccess) → length (history_on n h) ≤ length h
history_fewer n [] = omega arith
history_fewer n (a ∷ rest) =
    elim (either (eqb a.on n)) [
      | inl same ↦ (let k = history_fewer n rest in rw same (omega (arith, k)))
      | inr apart ↦ (let k = history_fewer n rest in rw apart (omega (arith, k)))
    ]

pub reached : (x : ScriptEvents) (n : ℕ) → AreSoundEvents x n → (on : ℕ) (st : StandingEvent) → x.session.stands on ≡ Some st → IsReached (view x.session on st)
reached x n sound on st e =
    let o = sound.session in
    subst (λ (s : EventSession). IsReached (view s on st)) (sym o.is) (session_reached o.lines o.allowed on st (ap (λ (s : EventSession). s.stands on) (sym o.is) ∙ e))

pub runs_here : (d : PartyCall) → running_on d.on (Some d) ≡ Some d.call
runs_here d = rw ((Decides-eqb d.on d.on).1 refl) refl

pub can_perform : (x : ScriptEvents) (n : ℕ) → AreSoundEvents x n → n < 2 ^ 63 → (p : List ℕ) (d : PartyCall) (st : StandingEvent) → x.session.doing p ≡ Some d → x.session.stands d.on ≡ Some st
    → CanPerform st.event (owed (call_of d.call))
can_perform x n sound few p d st e is =
    let t = sound.taken in
    let k = history_fewer d.on x.session.history in
    perform_law_holds (view x.session d.on st) (reached x n sound d.on st is) (omega (arith, t, k, few)) p d.call (ap (running_on d.on) e ∙ runs_here d)

-- ---- the answer of a step

abbrev HasStep : ScriptEvents → Option EventAsk → Option PartyCall → Type 0
HasStep x asked doing = (a : ScriptAnswer) × IsStepOf x asked doing a

event_step : (x : ScriptEvents) (d : PartyCall) (st : StandingEvent) → x.session.stands d.on ≡ Some st → HasEventAnswer st.event (owed (call_of d.call)) → HasStep x None (Some d)
event_step x d st is a =
    let printed : ScriptAnswer = of_event st.event.kind st.event.name (owed (call_of d.call)) a.0 (step_told d.call (turn (call_of d.call) a.0).0) in
    let right : IsEventAccess st.event d.call printed = record { answer = a.0; right = a.1; printed = refl } in
    (printed, rw (is, IsSomeAnd, event_of) right)

step_exists : (x : ScriptEvents) (n : ℕ) → AreSoundEvents x n → n < 2 ^ 63 → (p : List ℕ) (asked : Option EventAsk) (doing : Option PartyCall) → x.session.doing p ≡ doing → (is_some asked || is_some doing) ≡ true → HasStep x asked doing
step_exists x n sound few p (Some q) doing e runs = (of_ask (ask_told x q), refl)
step_exists x n sound few p None None e runs = absurd (false≢true runs)
step_exists x n sound few p None (Some d) e runs =
    let st = call_stands x n sound p d e in
    event_step x d st.0 st.1 (owed_answer st.0.event (owed (call_of d.call)) (can_perform x n sound few p d st.0 e st.1))

-- the step of a party that runs on events has a right answer
pub step_answer : (x : ScriptEvents) (n : ℕ) → AreSoundEvents x n → n < 2 ^ 63 → (p : List ℕ) → (is_some (x.asked p) || is_some (x.session.doing p)) ≡ true → HasStep x (x.asked p) (x.session.doing p)
step_answer x n sound few p runs = step_exists x n sound few p (x.asked p) (x.session.doing p) refl runs
