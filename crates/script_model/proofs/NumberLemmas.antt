-- The ids in a queue, and those that a call was told, are numbers of 64 bits.
use Rattle.std.proofs.Common.{◌≡◌, ℕ, zero, suc, ◌+◌, ◌-◌, ◌*◌, ◌/◌, ◌<◌, ◌≤◌, ◌^◌, Bool, true, false, List, [], ◌∷◌, ◌++◌, drop, length, arith, sym, ap, subst, Option, Some, None}
use Rattle.std.specs.Prelude.{if◌then◌else◌, ◌==◌, ◌&&◌, ◌||◌, not, nat_lt}
use Rattle.std.specs.Int.{bit_at}
use Rattle.std.specs.Str.{bytes_eq}
use Rattle.board_event_model.specs.declared.access.EventAccess.{EventAccess}
use Rattle.board_event_model.specs.declared.access.EventAccess.TheVariants as access
use Rattle.board_event_model.specs.declared.access.EventAnswer.{EventAnswer}
use Rattle.board_event_model.specs.declared.access.EventAnswer.TheVariants as answer
use Rattle.board_event_model.specs.declared.call.EventProgress.{EventProgress}
use Rattle.board_event_model.specs.declared.call.EventProgress.TheVariants as progress
use Rattle.board_event_model.specs.declared.call.NotifyStage.{NotifyStage}
use Rattle.board_event_model.specs.declared.call.NotifyStage.TheVariants as notify
use Rattle.board_event_model.specs.declared.call.WaitStage.{WaitStage}
use Rattle.board_event_model.specs.declared.call.WaitStage.TheVariants as wait
use Rattle.board_event_model.specs.Ids.{has, ids_where}
use Rattle.board_event_model.specs.EventMemory.{CanPerform, Event, IsRight, after, is_bits, pop_answer}
use Rattle.board_names.specs.declared.errors.event.NotifierNotifyError.TheVariants as error
use Rattle.board_event_model.specs.NotifyCalls.{Notify, is_yes, notify_owed, notify_turn, pushed}
use Rattle.board_event_model.specs.WaitCalls.{Wait, is_try, nothing, popped, scanned, swapped, wait_owed, wait_turn, word_in}
use Rattle.board_event_model.specs.EventCalls.{EventCall, RunningCall, a_notify, a_wait, call_of, is_last, is_waiting, owed, reported, turn, went_on}
use Rattle.board_event_model.specs.EventSessions.{PartyCall, StandingEvent, change_at, do_at, doing_on}
use Rattle.board_model.specs.LineGrammar.{IsNumber}
use Rattle.script_model.specs.SoundEvents.{AreNumbers, IsNumbered, IsNumberedCall}
use Rattle.script_model.proofs.EachLemmas.{each_was, one_changed}

pub numbers_both : (xs ys : List ℕ) → AreNumbers xs → AreNumbers ys → AreNumbers (xs ++ ys)
numbers_both [] ys h k = k
numbers_both (x ∷ xs) ys h k = (h.0, numbers_both xs ys h.1 k)

numbers_drop : (xs : List ℕ) → AreNumbers xs → AreNumbers (drop 1 xs)
numbers_drop [] h = tt
numbers_drop (x ∷ xs) h = h.1

ids_numbers : (p : ℕ → Bool) (at n : ℕ) → at + n ≤ 66000 → AreNumbers (ids_where p at n)
ids_numbers p at zero h = tt
ids_numbers p at (suc n) h = cut (p at) (ids_numbers p (at + 1) n (omega arith))
  where
    small : at < 2 ^ 64
    small = omega arith

    cut : (b : Bool) → AreNumbers (ids_where p (at + 1) n) → AreNumbers (if b then at ∷ ids_where p (at + 1) n else ids_where p (at + 1) n)
    cut true k = (small, k)
    cut false k = k

-- ---- accesses with small numbers

abbrev pub IsSmall : EventAccess → Type 0
IsSmall access.Listener = Unit {0}
IsSmall (access.Set id) = IsNumber id
IsSmall access.Post = Unit {0}
IsSmall (access.Push id) = IsNumber id
IsSmall access.Signal = Unit {0}
IsSmall (access.Scan k) = k ≤ 1023
IsSmall (access.Clear id) = id ≤ 65535
IsSmall (access.Swap k) = k ≤ 1023
IsSmall access.Pop = Unit {0}

notify_small : (e : Event) (n : Notify) (stage : NotifyStage) → IsNumber n.id → IsSmall (notify_owed n.id stage)
notify_small e n notify.Look h = tt
notify_small e n notify.Set h = h
notify_small e n notify.Post h = tt
notify_small e n notify.Push h = h
notify_small e n notify.Finished h = tt

wait_small : (e : Event) (stage : WaitStage) → CanPerform e (wait_owed stage) → e.max ≤ 65535 → (is_bits e.kind ≡ true → (id : ℕ) → has e.pending id ≡ true → id ≤ e.max) → IsSmall (wait_owed stage)
wait_small e wait.Drain h m b = tt
wait_small e (wait.Scan k) h m b = (let i : k < e.max / 64 + 1 = h.inside in omega arith)
wait_small e (wait.Clear id) h m b = (let l : id ≤ e.max = b (ap is_bits h.kind) id h.inside in omega arith)
wait_small e (wait.Swap k some) h m b = (let i : k < e.max / 64 + 1 = h.inside in omega arith)
wait_small e wait.Look h m b = tt
wait_small e (wait.Pop n) h m b = tt
wait_small e wait.Finished h m b = tt

pub owed_small : (e : Event) (c : EventCall) → IsNumberedCall c → CanPerform e (owed c) → e.max ≤ 65535 → (is_bits e.kind ≡ true → (id : ℕ) → has e.pending id ≡ true → id ≤ e.max) → IsSmall (owed c)
owed_small e (a_notify n) h p m b = notify_small e n n.stage h
owed_small e (a_wait w) h p m b = wait_small e w.stage p m b

-- ---- what is reported

Outcome : Type 0
Outcome = EventProgress × WaitStage

abbrev Says : EventProgress × WaitStage → Type 0
Says x = AreNumbers (reported x.0)

says_if : (b : Bool) (x y : EventProgress × WaitStage) → Says x → Says y → Says (if b then x else y)
says_if true x y h k = h
says_if false x y h k = k

reported_if : (b : Bool) (p q : EventProgress) → AreNumbers (reported p) → AreNumbers (reported q) → AreNumbers (reported (if b then p else q))
reported_if true p q h k = h
reported_if false p q h k = k

took_numbers : (k v : ℕ) (last : Bool) → k ≤ 1023 → AreNumbers (reported (progress.Took (64 * k) v last))
took_numbers k v last h = ids_numbers (λ i. bit_at v (i - 64 * k) == 1) (64 * k) 64 (omega arith)

nothing_says : (w : Wait) → Says (nothing w)
nothing_says w = says_if (is_try w.mode) (progress.Nothing, wait.Finished) (progress.More, wait.Look) tt tt

scanned_says : (w : Wait) (k v : ℕ) → Says (scanned w k v)
scanned_says w k v = says_if (v == 0) (if k + 1 == w.words then nothing w else (progress.More, wait.Scan (k + 1))) _ (says_if (k + 1 == w.words) (nothing w) (progress.More, wait.Scan (k + 1)) (nothing_says w) tt) tt

swapped_says : (w : Wait) (k : ℕ) (some : Bool) (v : ℕ) → k ≤ 1023 → Says (swapped w k some v)
swapped_says w k some v h =
    says_if (k + 1 == w.words) (if some || not (v == 0) then (progress.Took (64 * k) v true, wait.Finished) else nothing w) ((if v == 0 then progress.More else progress.Took (64 * k) v false), wait.Swap (k + 1) (some || not (v == 0)))
    (says_if (some || not (v == 0)) (progress.Took (64 * k) v true, wait.Finished) (nothing w) (took_numbers k v true h) (nothing_says w))
    (reported_if (v == 0) progress.More (progress.Took (64 * k) v false) tt (took_numbers k v false h))

-- a pop of this id, or of none
popped_id : (w : Wait) (n x : ℕ) → IsNumber x → Says (popped w n (answer.Id x))
popped_id w n x h = says_if (w.many && not (n + 1 == 513)) (progress.Id x false, wait.Pop (n + 1)) (progress.Id x true, wait.Finished) (h, tt) (h, tt)

popped_none : (w : Wait) (n : ℕ) → Says (popped w n answer.Empty)
popped_none w n =
    says_if (n == 0) (if is_try w.mode then (progress.Nothing, wait.Finished) else (progress.Waiting, wait.Pop 0)) (progress.Took 0 0 true, wait.Finished)
    (says_if (is_try w.mode) (progress.Nothing, wait.Finished) (progress.Waiting, wait.Pop 0) tt tt)
    (ids_numbers (λ i. bit_at 0 (i - 0) == 1) 0 64 (omega arith))

popped_says : (w : Wait) (n : ℕ) (queue : List ℕ) → AreNumbers queue → Says (popped w n (pop_answer queue))
popped_says w n [] h = popped_none w n
popped_says w n (x ∷ xs) h = popped_id w n x h.0

-- what a wait reports at a right answer
wait_says : (e : Event) (w : Wait) (stage : WaitStage) (a : EventAnswer) → IsRight e (wait_owed stage) a → IsSmall (wait_owed stage) → AreNumbers e.queue → Says (wait_turn w stage a)
wait_says e w wait.Drain a r h q = tt
wait_says e w (wait.Scan k) a r h q = scanned_says w k (word_in a)
wait_says e w (wait.Clear id) a r h q = (omega arith, tt)
wait_says e w (wait.Swap k some) a r h q = swapped_says w k some (word_in a) h
wait_says e w wait.Look a r h q = says_if (is_yes a) (progress.More, wait.Drain) (progress.Waiting, wait.Look) tt tt
wait_says e w (wait.Pop n) a r h q = subst (λ (b : EventAnswer). Says (popped w n b)) (sym r) (popped_says w n e.queue q)
wait_says e w wait.Finished a r h q = tt

notify_if : (b : Bool) (x y : EventProgress × NotifyStage) → AreNumbers (reported x.0) → AreNumbers (reported y.0) → AreNumbers (reported (if b then x else y).0)
notify_if true x y h k = h
notify_if false x y h k = k

pushed_says : (a : EventAnswer) → AreNumbers (reported (pushed a))
pushed_says answer.Done = tt
pushed_says answer.Full = tt
pushed_says a = tt

notify_says : (n : Notify) (stage : NotifyStage) (a : EventAnswer) → AreNumbers (reported (notify_turn n stage a).0)
notify_says n notify.Look a =
    notify_if (is_yes a) (if nat_lt n.max n.id then (progress.Refused error.TriggerIdOutOfBounds, notify.Finished) else (progress.More, notify.Set)) (progress.Refused error.Disconnected, notify.Finished)
    (notify_if (nat_lt n.max n.id) (progress.Refused error.TriggerIdOutOfBounds, notify.Finished) (progress.More, notify.Set) tt tt) tt
notify_says n notify.Set a = tt
notify_says n notify.Post a = tt
notify_says n notify.Push a = pushed_says a
notify_says n notify.Finished a = tt

pub turn_says : (e : Event) (c : EventCall) (a : EventAnswer) → IsRight e (owed c) a → IsSmall (owed c) → AreNumbers e.queue → AreNumbers (reported (turn c a).0)
turn_says e (a_notify n) a r h q = notify_says n n.stage a
turn_says e (a_wait w) a r h q = wait_says e w w.stage a r h q

-- ---- a session of events

-- one party's call changed
pub doing_numbers : (doing : List ℕ → Option PartyCall) (p : List ℕ) (x : Option PartyCall) → ((d : PartyCall) → x ≡ Some d → IsNumbered d.call) → ((q : List ℕ) (d : PartyCall) → doing q ≡ Some d → IsNumbered d.call)
    → (q : List ℕ) (d : PartyCall) → do_at doing p x q ≡ Some d → IsNumbered d.call
doing_numbers doing p x h k q d e = at (bytes_eq q p) e
  where
    at : (b : Bool) → (if b then x else doing q) ≡ Some d → IsNumbered d.call
    at true f = h d f
    at false f = k q d f

-- one event changed
pub change_numbers : (stands : ℕ → Option StandingEvent) (n : ℕ) (f : Event → Event) → ((e : Event) → AreNumbers e.queue → AreNumbers (f e).queue) → ((m : ℕ) (st : StandingEvent) → stands m ≡ Some st → AreNumbers st.event.queue)
    → (m : ℕ) (st : StandingEvent) → change_at stands n f m ≡ Some st → AreNumbers st.event.queue
change_numbers stands n f g h m st e =
    let w = each_was (one_changed n f m) (stands m) st e in
    subst (λ (z : StandingEvent). AreNumbers z.event.queue) (sym w.is) (at (m == n) w.old (h m w.old w.was))
  where
    at : (b : Bool) (old : StandingEvent) → AreNumbers old.event.queue → AreNumbers (if b then f old.event else old.event).queue
    at true old k = g old.event k
    at false old k = k

pushes : (e : Event) (id : ℕ) → IsNumber id → AreNumbers e.queue → AreNumbers (after e (access.Push id)).queue
pushes e id h k = at (not e.held || e.gone) (nat_lt (length e.queue) 512)
  where
    at : (x y : Bool) → AreNumbers (if x then e else if y then record e { queue = e.queue ++ id ∷ [] } else e).queue
    at true y = k
    at false true = numbers_both e.queue (id ∷ []) k (h, tt)
    at false false = k

pub after_numbers : (e : Event) (a : EventAccess) → IsSmall a → AreNumbers e.queue → AreNumbers (after e a).queue
after_numbers e access.Listener h k = k
after_numbers e (access.Set id) h k = k
after_numbers e access.Post h k = k
after_numbers e (access.Push id) h k = pushes e id h k
after_numbers e access.Signal h k = k
after_numbers e (access.Scan n) h k = k
after_numbers e (access.Clear id) h k = k
after_numbers e (access.Swap n) h k = k
after_numbers e access.Pop h k = numbers_drop e.queue k

turned_call : (c : EventCall) (a : EventAnswer) → IsNumberedCall c → IsNumberedCall (turn c a).1
turned_call (a_notify n) a h = h
turned_call (a_wait w) a h = tt

pub went_numbers : (r : RunningCall) (e : Event) (x : EventAccess) (a : EventAnswer) (on : ℕ) → IsNumbered r → AreNumbers (reported (turn (call_of r) a).0) → (d : PartyCall) → doing_on on (went_on r e x a) ≡ Some d → IsNumbered d.call
went_numbers r e x a on h k d f = at (is_last (turn (call_of r) a).0) f
  where
    next : RunningCall
    next = record { number = r.number; first = r.first; answers = a ∷ r.answers; told = r.told ++ reported (turn (call_of r) a).0; steps = record { met = e; access = x } ∷ r.steps; waited = is_waiting (turn (call_of r) a).0 }

    good : IsNumbered (record { number = r.number; first = r.first; answers = a ∷ r.answers; told = r.told ++ reported (turn (call_of r) a).0; steps = record { met = e; access = x } ∷ r.steps; waited = is_waiting (turn (call_of r) a).0 })
    good = record { call = turned_call (call_of r) a h.call; told = numbers_both r.told (reported (turn (call_of r) a).0) h.told k }

    same : (y z : PartyCall) → Some y ≡ Some z → y ≡ z
    same y z q = cc

    at : (b : Bool) → doing_on on (if b then None else Some (record { number = r.number; first = r.first; answers = a ∷ r.answers; told = r.told ++ reported (turn (call_of r) a).0; steps = record { met = e; access = x } ∷ r.steps; waited = is_waiting (turn (call_of r) a).0 })) ≡ Some d → IsNumbered d.call
    at true q = absurd cc
    at false q = subst (λ (z : PartyCall). IsNumbered z.call) (same _ d q) good
