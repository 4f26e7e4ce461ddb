-- What waits come to, and that a wait for one takes one id.
use Rattle.std.proofs.Common.{arith, ◌≡◌, ℕ, ◌+◌, ◌*◌, ◌/◌, ◌≤◌, Bool, true, false, eqb, refl, sym, inl, inr, subst, Some, None, Option, List, [], ◌∷◌, length}
use Rattle.std.specs.Prelude.{if◌then◌else◌, ◌==◌, ◌&&◌, ◌||◌, not, ⊤}
use Rattle.board_event_model.specs.declared.access.EventAccess.{EventAccess}
use Rattle.board_event_model.specs.declared.access.EventAnswer.{EventAnswer}
use Rattle.board_event_model.specs.declared.access.EventAnswer.TheVariants as answer
use Rattle.board_event_model.specs.declared.call.EventProgress.{EventProgress}
use Rattle.board_event_model.specs.declared.call.EventProgress.TheVariants as progress
use Rattle.board_event_model.specs.declared.call.WaitStage.{WaitStage}
use Rattle.board_event_model.specs.declared.call.WaitStage.TheVariants as wait
use Rattle.board_event_model.specs.EventMemory.{Event, is_bits}
use Rattle.board_event_model.specs.NotifyCalls.{is_yes}
use Rattle.board_event_model.specs.WaitCalls.{Wait, is_try, nothing, popped, scanned, swapped, wait_bits, wait_queue, wait_turn, word_in}
use Rattle.board_event_model.specs.EventCalls.{EventCall, a_notify, a_wait, reported, turn, PartyName, RunningCall, call_of, new_call, went_on}
use Rattle.board_event_model.specs.EventRuns.{EventMove, IsAllowed, IsCallOf, IsReached, IsRun, Moment, abandon, begin, elsewhere, expire, listened, moved, notifiers, put, release_listener, run_to, step, stepped}
use Rattle.board_event_model.proofs.SetLemmas.{either}
use Rattle.board_event_model.proofs.SoundLemmas.{gone_on, none_some, put_each, some_same}

-- ---- a wait for one

-- where a wait for one stands: it takes no whole word, and pops until it has an id
abbrev pub OneStage : WaitStage → Type 0
OneStage wait.Drain = ⊤
OneStage (wait.Scan k) = ⊤
OneStage (wait.Clear id) = ⊤
OneStage (wait.Swap k some) = ⊥
OneStage wait.Look = ⊤
OneStage (wait.Pop n) = n ≡ 0
OneStage wait.Finished = ⊤

-- it goes on so, and reports one id at most
pub record OneTurn (t : EventProgress × WaitStage) : Type 0 where
  pub stage : OneStage t.1
  pub few : length (reported t.0) ≤ 1

nothing_one : (w : Wait) → OneTurn (nothing w)
nothing_one w = elim (is_try w.mode) as (λ b. OneTurn (if b then (progress.Nothing, wait.Finished) else (progress.More, wait.Look))) [
  | true ↦ record { stage = tt; few = omega arith }
  | false ↦ record { stage = tt; few = omega arith }
]

scan_one : (w : Wait) (k v : ℕ) → OneTurn (scanned w k v)
scan_one w k v =
    elim (either (eqb v 0)) [
      | inl z ↦ rw z (elim (either (eqb (k + 1) w.words)) [ inl end ↦ rw end (nothing_one w) | inr on ↦ rw on (record { stage = tt; few = omega arith }) ])
      | inr s ↦ rw s (record { stage = tt; few = omega arith })
    ]

id_one : (w : Wait) (n x : ℕ) → w.many ≡ false → OneTurn (popped w n (answer.Id x))
id_one w n x one = rw one (record { stage = tt; few = omega arith })

empty_one : (w : Wait) (n : ℕ) → n ≡ 0 → OneTurn (if n == 0 then (if is_try w.mode then (progress.Nothing, wait.Finished) else (progress.Waiting, wait.Pop 0)) else (progress.Took 0 0 true, wait.Finished))
empty_one w n zero = rw zero (elim (is_try w.mode) as (λ b. OneTurn (if b then (progress.Nothing, wait.Finished) else (progress.Waiting, wait.Pop 0))) [
  | true ↦ record { stage = tt; few = omega arith }
  | false ↦ record { stage = refl; few = omega arith }
])

pop_one : (w : Wait) (n : ℕ) (a : EventAnswer) → w.many ≡ false → n ≡ 0 → OneTurn (popped w n a)
pop_one w n (answer.Id x) one zero = id_one w n x one
pop_one w n answer.Done one zero = empty_one w n zero
pop_one w n answer.Yes one zero = empty_one w n zero
pop_one w n answer.No one zero = empty_one w n zero
pop_one w n (answer.Word v) one zero = empty_one w n zero
pop_one w n answer.Empty one zero = empty_one w n zero
pop_one w n answer.Full one zero = empty_one w n zero
pop_one w n answer.Gone one zero = empty_one w n zero

pub one_turn : (w : Wait) (stage : WaitStage) (a : EventAnswer) → w.many ≡ false → OneStage stage → OneTurn (wait_turn w stage a)
one_turn w wait.Drain a one h = rw one (elim (is_yes a) as (λ b. OneTurn (progress.More, if b then wait.Drain else wait.Scan 0)) [ true ↦ record { stage = tt; few = omega arith } | false ↦ record { stage = tt; few = omega arith } ])
one_turn w (wait.Scan k) a one h = scan_one w k (word_in a)
one_turn w (wait.Clear id) a one h = record { stage = tt; few = omega arith }
one_turn w (wait.Swap k some) a one h = absurd h
one_turn w wait.Look a one h = elim (is_yes a) as (λ b. OneTurn (if b then (progress.More, wait.Drain) else (progress.Waiting, wait.Look))) [ true ↦ record { stage = tt; few = omega arith } | false ↦ record { stage = tt; few = omega arith } ]
one_turn w (wait.Pop n) a one h = pop_one w n a one h
one_turn w wait.Finished a one h = record { stage = tt; few = omega arith }

-- ---- so stands every wait for one that runs

abbrev pub CallOne : EventCall → Type 0
CallOne (a_notify n) = ⊤
CallOne (a_wait w) = w.many ≡ false → OneStage w.stage

call_one : (c : EventCall) (a : EventAnswer) → CallOne c → CallOne (turn c a).1
call_one (a_notify n) a h = tt
call_one (a_wait w) a h = λ one. (one_turn w w.stage a one (h one)).stage

new_one : (e : Event) (l p : PartyName) (c : EventCall) → IsCallOf e l p c → CallOne c
new_one e l p (a_notify n) is = tt
new_one e l p (a_wait w) is = λ one. subst (λ (x : Wait). OneStage x.stage) (sym is.1) (elim (is_bits e.kind) as (λ b. OneStage (if b then wait_bits (e.max / 64 + 1) w.many w.mode else wait_queue w.many w.mode).stage) [ true ↦ tt | false ↦ refl ])

abbrev AllOne : (PartyName → Option RunningCall) → Type 0
AllOne running = (p : PartyName) (r : RunningCall) → running p ≡ Some r → CallOne (call_of r)

step_one : (now : Moment) (p : PartyName) (a : EventAccess) (b : EventAnswer) (x : Option RunningCall) → AllOne now.running → now.running p ≡ x → AllOne (stepped now p a b x).running
step_one now p a b None all e = all
step_one now p a b (Some r) all e =
    put_each now.running p (went_on r now.event a b) (λ q s. CallOne (call_of s))
    (λ s g. subst CallOne (sym (gone_on r s now.event a b g).2) (call_one (call_of r) b (all p r e)))
    (λ q s d g. all q s g)

end_one : (running : PartyName → Option RunningCall) (p : PartyName) → AllOne running → AllOne (put running p None)
end_one running p all = put_each running p None (λ q s. CallOne (call_of s)) (λ s n. absurd (none_some _ n)) (λ q s d g. all q s g)

move_one : (now : Moment) (m : EventMove) → AllOne now.running → IsAllowed now m → AllOne (moved now m).running
move_one now (begin p c) all ok = put_each now.running p (Some (new_call now.begun c)) (λ q s. CallOne (call_of s))
    (λ s n. subst (λ (x : RunningCall). CallOne (call_of x)) (some_same _ _ n) (new_one now.event now.listener p c ok.1))
    (λ q s d g. all q s g)
move_one now (step p a b) all ok = step_one now p a b (now.running p) all refl
move_one now (expire p) all ok = end_one now.running p all
move_one now (abandon p) all ok = end_one now.running p all
move_one now release_listener all ok = all
move_one now elsewhere all ok = all
move_one now (notifiers n) all ok = all

run_one : (start : Moment) (ms : List EventMove) → AllOne start.running → IsRun start ms → AllOne (run_to start ms).running
run_one start [] h r = h
run_one start (m ∷ ms) h r = move_one (run_to start ms) m (run_one start ms h r.0) r.1

pub one_reached : (now : Moment) → IsReached now → (p : PartyName) (r : RunningCall) → now.running p ≡ Some r → CallOne (call_of r)
one_reached now w =
    subst (λ (x : Moment). AllOne x.running) (sym w.is) (run_one (listened w.kind w.name w.max w.listener) w.moves (λ p r e. absurd (none_some _ e)) w.run)

-- ---- what a wait comes to

-- a wait is neither refused nor a notify that ended
abbrev pub IsWaitProgress : EventProgress → Type 0
IsWaitProgress progress.Notified = ⊥
IsWaitProgress (progress.Refused why) = ⊥
IsWaitProgress _ = ⊤

abbrev Comes : EventProgress × WaitStage → Type 0
Comes t = IsWaitProgress t.0

nothing_waits : (w : Wait) → Comes (nothing w)
nothing_waits w = elim (is_try w.mode) as (λ b. Comes (if b then (progress.Nothing, wait.Finished) else (progress.More, wait.Look))) [ true ↦ tt | false ↦ tt ]

scan_waits : (w : Wait) (k v : ℕ) → Comes (scanned w k v)
scan_waits w k v =
    elim (either (eqb v 0)) [
      | inl z ↦ rw z (elim (either (eqb (k + 1) w.words)) [ inl end ↦ rw end (nothing_waits w) | inr on ↦ rw on tt ])
      | inr s ↦ rw s tt
    ]

swap_waits : (w : Wait) (k : ℕ) (some : Bool) (v : ℕ) → Comes (swapped w k some v)
swap_waits w k some v =
    elim (either (eqb (k + 1) w.words)) [
      | inl end ↦ rw end (elim (some || not (v == 0)) as (λ b. Comes (if b then (progress.Took (64 * k) v true, wait.Finished) else nothing w)) [ true ↦ tt | false ↦ nothing_waits w ])
      | inr on ↦ rw on (elim (v == 0) as (λ b. IsWaitProgress (if b then progress.More else progress.Took (64 * k) v false)) [ true ↦ tt | false ↦ tt ])
    ]

empty_waits : (w : Wait) (n : ℕ) → Comes (if n == 0 then (if is_try w.mode then (progress.Nothing, wait.Finished) else (progress.Waiting, wait.Pop 0)) else (progress.Took 0 0 true, wait.Finished))
empty_waits w n =
    elim (either (eqb n 0)) [
      | inl z ↦ rw z (elim (is_try w.mode) as (λ b. Comes (if b then (progress.Nothing, wait.Finished) else (progress.Waiting, wait.Pop 0))) [ true ↦ tt | false ↦ tt ])
      | inr s ↦ rw s tt
    ]

pop_waits : (w : Wait) (n : ℕ) (a : EventAnswer) → Comes (popped w n a)
pop_waits w n (answer.Id x) = elim (w.many && not (n + 1 == 513)) as (λ b. Comes (if b then (progress.Id x false, wait.Pop (n + 1)) else (progress.Id x true, wait.Finished))) [ true ↦ tt | false ↦ tt ]
pop_waits w n answer.Done = empty_waits w n
pop_waits w n answer.Yes = empty_waits w n
pop_waits w n answer.No = empty_waits w n
pop_waits w n (answer.Word v) = empty_waits w n
pop_waits w n answer.Empty = empty_waits w n
pop_waits w n answer.Full = empty_waits w n
pop_waits w n answer.Gone = empty_waits w n

pub turn_waits : (w : Wait) (stage : WaitStage) (a : EventAnswer) → Comes (wait_turn w stage a)
turn_waits w wait.Drain a = tt
turn_waits w (wait.Scan k) a = scan_waits w k (word_in a)
turn_waits w (wait.Clear id) a = tt
turn_waits w (wait.Swap k some) a = swap_waits w k some (word_in a)
turn_waits w wait.Look a = elim (is_yes a) as (λ b. Comes (if b then (progress.More, wait.Drain) else (progress.Waiting, wait.Look))) [ true ↦ tt | false ↦ tt ]
turn_waits w (wait.Pop n) a = pop_waits w n a
turn_waits w wait.Finished a = tt
