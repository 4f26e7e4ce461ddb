-- Each access of a run is one of its event's kind, and an event keeps its kind and its name.
use Rattle.std.proofs.Common.{◌≡◌, ℕ, true, false, List, [], ◌∷◌, ◌++◌, refl, sym, ap, subst, ◌∙◌, Option, Some, None, inl, inr}
use Rattle.std.specs.Prelude.{⊤, IsSomeAnd}
use Rattle.std.proofs.lemmas.Bool.{false≢true}
use Rattle.board_event_model.specs.declared.access.EventAccess.{EventAccess}
use Rattle.board_event_model.specs.declared.access.EventAnswer.{EventAnswer}
use Rattle.board_event_model.specs.declared.call.NotifyStage.{NotifyStage}
use Rattle.board_event_model.specs.declared.call.NotifyStage.TheVariants as notify
use Rattle.board_event_model.specs.declared.call.WaitStage.{WaitStage}
use Rattle.board_event_model.specs.declared.call.WaitStage.TheVariants as wait
use Rattle.board_event_model.specs.declared.kind.EventKind.{EventKind}
use Rattle.board_event_model.specs.declared.kind.EventKind.TheVariants as kind
use Rattle.board_event_model.specs.EventMemory.{Event, IsRight, is_bits, kind_of_access}
use Rattle.board_event_model.specs.NotifyCalls.{Notify, notify_owed}
use Rattle.board_event_model.specs.WaitCalls.{Wait, wait_owed}
use Rattle.board_event_model.specs.EventCalls.{EventCall, a_notify, a_wait, PartyName, RunningCall, call_of, owed}
use Rattle.board_event_model.specs.EventRuns.{EventMove, IsAllowed, IsReached, IsReachedBy, IsRun, Moment, abandon, begin, elsewhere, expire, listened, notifiers, release_listener, run_to, step}
use Rattle.board_event_model.specs.EventSessions.{StandingEvent, view}
use Rattle.board_event_model.proofs.EndLemmas.{QueueCall, queue_reached}
use Rattle.board_event_model.proofs.QuietLemmas.{NotifyFits, StageFits}
use Rattle.board_event_model.proofs.SetLemmas.{either}
use Rattle.board_event_model.proofs.SoundLemmas.{CallFits, run_kind, sound_reached}
use Rattle.script_model.specs.ScriptSession.{IsLawful, Session}
use Rattle.script_model.specs.LawsOfComposition.{state_met}
use Rattle.script_model.proofs.EventPartLemmas.{events_law_holds}
use Rattle.script_moments.specs.LawsOfTakes.{moves_in}

-- ---- the access that a call owes

pub bits_kind : (k : EventKind) → is_bits k ≡ true → k ≡ kind.Bits
bits_kind kind.Bits h = refl
bits_kind kind.Queue h = absurd (false≢true h)

pub queue_kind : (k : EventKind) → is_bits k ≡ false → k ≡ kind.Queue
queue_kind kind.Bits h = absurd (false≢true (sym h))
queue_kind kind.Queue h = refl

notify_kind : (max : ℕ) (n : Notify) (stage : NotifyStage) → NotifyFits max n stage → kind_of_access (notify_owed n.id stage) ≡ kind.Bits
notify_kind max n notify.Look f = refl
notify_kind max n notify.Set f = refl
notify_kind max n notify.Post f = refl
notify_kind max n notify.Push f = absurd f
notify_kind max n notify.Finished f = absurd f

wait_kind : (w : Wait) (stage : WaitStage) → StageFits w stage → kind_of_access (wait_owed stage) ≡ kind.Bits
wait_kind w wait.Drain f = refl
wait_kind w (wait.Scan k) f = refl
wait_kind w (wait.Clear id) f = refl
wait_kind w (wait.Swap k some) f = refl
wait_kind w wait.Look f = refl
wait_kind w (wait.Pop n) f = absurd f
wait_kind w wait.Finished f = absurd f

set_call : (e : Event) (l p : PartyName) (c : EventCall) → CallFits e l p c → kind_of_access (owed c) ≡ kind.Bits
set_call e l p (a_notify n) f = notify_kind e.max n n.stage f
set_call e l p (a_wait w) f = wait_kind w w.stage f.2

queue_call : (c : EventCall) → QueueCall c → kind_of_access (owed c) ≡ kind.Queue
queue_call (a_notify n) q = ap (λ (s : NotifyStage). kind_of_access (notify_owed n.id s)) q
queue_call (a_wait w) q = ap (λ (s : WaitStage). kind_of_access (wait_owed s)) q.1

pub owed_kind : (now : Moment) (p : PartyName) (r : RunningCall) → IsReached now → now.running p ≡ Some r → now.event.kind ≡ kind_of_access (owed (call_of r))
owed_kind now p r reached runs =
    elim (either (is_bits now.event.kind)) [
      | inl bits ↦ bits_kind now.event.kind bits ∙ sym (set_call now.event now.listener p (call_of r) ((sound_reached now reached bits).each p r runs).fits)
      | inr queue ↦ queue_kind now.event.kind queue ∙ sym (queue_call (call_of r) (queue_reached now reached queue p r runs).queue)
    ]

-- ---- the moves of a run

abbrev pub IsOfKind : EventKind → EventMove → Type 0
IsOfKind k (begin p c) = ⊤
IsOfKind k (step p a b) = k ≡ kind_of_access a
IsOfKind k (expire p) = ⊤
IsOfKind k (abandon p) = ⊤
IsOfKind k release_listener = ⊤
IsOfKind k (notifiers n) = ⊤
IsOfKind k elsewhere = ⊤

abbrev pub AreOfKind : EventKind → List EventMove → Type 0
AreOfKind k [] = ⊤
AreOfKind k (m ∷ ms) = IsOfKind k m × AreOfKind k ms

pub kinds_back : (k : EventKind) (ms xs : List EventMove) → AreOfKind k (ms ++ xs) → AreOfKind k xs
kinds_back k [] xs h = h
kinds_back k (m ∷ ms) xs h = kinds_back k ms xs h.1

step_kind : (k : EventKind) (now : Moment) (p : PartyName) (a : EventAccess) (b : EventAnswer) (o : Option RunningCall) → IsReached now → now.event.kind ≡ k → now.running p ≡ o → IsSomeAnd o (λ r. (a ≡ owed (call_of r)) × IsRight now.event a b) → k ≡ kind_of_access a
step_kind k now p a b None reached is runs ok = absurd ok
step_kind k now p a b (Some r) reached is runs ok = sym is ∙ owed_kind now p r reached runs ∙ ap kind_of_access (sym ok.0)

move_kind : (k : EventKind) (now : Moment) (m : EventMove) → IsReached now → now.event.kind ≡ k → IsAllowed now m → IsOfKind k m
move_kind k now (begin p c) reached is ok = tt
move_kind k now (step p a b) reached is ok = step_kind k now p a b (now.running p) reached is refl ok
move_kind k now (expire p) reached is ok = tt
move_kind k now (abandon p) reached is ok = tt
move_kind k now release_listener reached is ok = tt
move_kind k now (notifiers n) reached is ok = tt
move_kind k now elsewhere reached is ok = tt

run_kinds : (k : EventKind) (name : List ℕ) (max : ℕ) (l : PartyName) (ms : List EventMove) → IsRun (listened k name max l) ms → AreOfKind k ms
run_kinds k name max l [] ok = tt
run_kinds k name max l (m ∷ ms) ok =
    let now : Moment = run_to (listened k name max l) ms in
    let reached : IsReached now = record { kind = k; name = name; max = max; listener = l; moves = ms; run = ok.0; is = refl } in
    (move_kind k now m reached (run_kind (listened k name max l) ms) ok.1, run_kinds k name max l ms ok.0)

reached_kinds : (ms : List EventMove) (now : Moment) → IsReachedBy ms now → AreOfKind now.event.kind ms
reached_kinds ms now by =
    let w = by.reached in
    let same : now.event.kind ≡ w.kind = ap (λ (x : Moment). x.event.kind) w.is ∙ run_kind (listened w.kind w.name w.max w.listener) w.moves in
    subst (λ (k : EventKind). AreOfKind k ms) (sym same) (subst (AreOfKind w.kind) by.moves_are (run_kinds w.kind w.name w.max w.listener w.moves w.run))

-- all accesses of a session to an event are of the event's kind
pub session_kinds : (pairs : Session) → IsLawful pairs → (n : ℕ) (st : StandingEvent) → (state_met pairs).events.session.stands n ≡ Some st → AreOfKind st.event.kind (moves_in n pairs)
session_kinds pairs ok n st stands = reached_kinds (moves_in n pairs) (view (state_met pairs).events.session n st) ((events_law_holds pairs ok).runs n st stands)
