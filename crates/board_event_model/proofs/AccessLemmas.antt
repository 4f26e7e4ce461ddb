-- A running call can take the access that it owes.
use Rattle.std.proofs.Common.{◌≡◌, ℕ, ◌+◌, ◌-◌, ◌*◌, ◌/◌, ◌<◌, ◌≤◌, ◌^◌, Bool, true, false, eqb, refl, sym, ◌∙◌, ap, inl, inr, arith, subst, Some, None, Option, List, [], ◌∷◌, length}
use Rattle.std.specs.Prelude.{◌||◌, not, if◌then◌else◌, ◌==◌, IsSomeAnd, nat_lt}
use Rattle.std.proofs.lemmas.Bool.{false≢true}
use Rattle.board_event_model.specs.declared.kind.EventKind.{EventKind}
use Rattle.board_event_model.specs.declared.kind.EventKind.TheVariants as kind
use Rattle.board_event_model.specs.declared.access.EventAccess.{EventAccess}
use Rattle.board_event_model.specs.declared.access.EventAccess.TheVariants as access
use Rattle.board_event_model.specs.declared.access.EventAnswer.{EventAnswer}
use Rattle.board_event_model.specs.declared.call.EventProgress.{EventProgress}
use Rattle.board_event_model.specs.declared.call.EventProgress.TheVariants as progress
use Rattle.board_event_model.specs.declared.call.NotifyStage.{NotifyStage}
use Rattle.board_event_model.specs.declared.call.NotifyStage.TheVariants as notify
use Rattle.board_event_model.specs.declared.call.WaitStage.{WaitStage}
use Rattle.board_event_model.specs.declared.call.WaitStage.TheVariants as wait
use Rattle.board_event_model.specs.Ids.{Ids, IsWord, has}
use Rattle.board_event_model.specs.EventMemory.{CanPerform, Event, IsRight, after, is_bits}
use Rattle.board_event_model.specs.NotifyCalls.{Notify, is_yes, notify_owed}
use Rattle.board_event_model.specs.WaitCalls.{Wait, first_word, is_try, least_id, nothing, scanned, swapped, wait_bits, wait_owed, wait_turn, word_in}
use Rattle.board_event_model.specs.EventCalls.{EventCall, a_notify, a_wait, is_last, owed, turn, PartyName, RunningCall, call_of, new_call}
use Rattle.board_event_model.specs.EventRuns.{EventMove, IsAllowed, IsCallOf, IsReached, IsRun, Moment, abandon, begin, elsewhere, expire, listened, moved, notifiers, put, release_listener, run_to, step, stepped}
use Rattle.board_event_model.specs.LawsOfAccesses.{PerformLaw}
use Rattle.board_event_model.proofs.SetLemmas.{either}
use Rattle.board_event_model.proofs.QuietLemmas.{StageFits, NotifyFits}
use Rattle.board_event_model.proofs.SoundLemmas.{put_each, some_same, none_some, Sound, sound_reached, sound_run, sound_start, run_kind, CallFits}
use Rattle.board_event_model.proofs.WholeLemmas.{notify_grows}
use Rattle.board_event_model.proofs.EndLemmas.{QueueCall, queue_reached}
use Rattle.std.proofs.lemmas.Nat.Bits.{bit_at-trailing_zeros}
use Rattle.std.specs.Int.{trailing_zeros, w64}

-- the id that a wait is to clear is pending
abbrev pub StageClears : Event → WaitStage → Type 0
StageClears e wait.Drain = Unit {0}
StageClears e (wait.Scan k) = Unit {0}
StageClears e (wait.Clear id) = has e.pending id ≡ true
StageClears e (wait.Swap k some) = Unit {0}
StageClears e wait.Look = Unit {0}
StageClears e (wait.Pop n) = Unit {0}
StageClears e wait.Finished = Unit {0}

abbrev CallClears : Event → EventCall → Type 0
CallClears e (a_notify n) = Unit {0}
CallClears e (a_wait w) = StageClears e w.stage

clears_grows : (e f : Event) (stage : WaitStage) → ((id : ℕ) → has e.pending id ≡ true → has f.pending id ≡ true) → StageClears e stage → StageClears f stage
clears_grows e f wait.Drain more h = tt
clears_grows e f (wait.Scan k) more h = tt
clears_grows e f (wait.Clear id) more h = more id h
clears_grows e f (wait.Swap k some) more h = tt
clears_grows e f wait.Look more h = tt
clears_grows e f (wait.Pop n) more h = tt
clears_grows e f wait.Finished more h = tt

one_flag : (b : Bool) → ◌≡◌ {A = ℕ} (if b then 1 else 0) 1 → b ≡ true
one_flag true h = refl
one_flag false h = absurd (omega arith)

-- the least bit of a word is an id of it
least_pending : (ids : Ids) (k v : ℕ) → IsWord ids k v → eqb v 0 ≡ false → has ids (least_id k v) ≡ true
least_pending ids k v w some =
    let d : (v ≡ 0 → ⊥) = (λ s. false≢true (sym some ∙ ap (λ (x : ℕ). eqb x 0) s)) in
    let t = bit_at-trailing_zeros w64 v (omega arith) w.small in
    one_flag _ (sym (w.bits (trailing_zeros w64 v) t.0) ∙ t.1)

nothing_clears : (e : Event) (w : Wait) → StageClears e (nothing w).1
nothing_clears e w = elim (is_try w.mode) as (λ b. StageClears e (if◌then◌else◌ {A = EventProgress × WaitStage} b (progress.Nothing, wait.Finished) (progress.More, wait.Look)).1) [ true ↦ tt | false ↦ tt ]

scan_clears : (e : Event) (w : Wait) (k v : ℕ) → IsWord e.pending k v → StageClears e (scanned w k v).1
scan_clears e w k v is =
    elim (either (eqb v 0)) [
      | inl z ↦ rw z (elim (either (eqb (k + 1) w.words)) [ inl end ↦ rw end (nothing_clears e w) | inr on ↦ rw on tt ])
      | inr s ↦ rw s (least_pending e.pending k v is s)
    ]

swap_clears : (e : Event) (w : Wait) (k : ℕ) (some : Bool) (v : ℕ) → StageClears e (swapped w k some v).1
swap_clears e w k some v =
    elim (either (eqb (k + 1) w.words)) [
      | inl end ↦ rw end (elim (some || not (v == 0)) as (λ b. StageClears e (if◌then◌else◌ {A = EventProgress × WaitStage} b (progress.Took (64 * k) v true, wait.Finished) (nothing w)).1) [ true ↦ tt | false ↦ nothing_clears e w ])
      | inr on ↦ rw on tt
    ]

first_clears : (e : Event) (many : Bool) → StageClears e (first_word many)
first_clears e true = tt
first_clears e false = tt

wait_clears : (e : Event) (w : Wait) (stage : WaitStage) (a : EventAnswer) → IsRight e (wait_owed stage) a → StageFits w stage → is_last (wait_turn w stage a).0 ≡ false → StageClears (after e (wait_owed stage)) (wait_turn w stage a).1
wait_clears e w wait.Drain a right fits goes = elim (is_yes a) as (λ b. StageClears (after e access.Signal) (if b then wait.Drain else first_word w.many)) [ true ↦ tt | false ↦ first_clears (after e access.Signal) w.many ]
wait_clears e w (wait.Scan k) a right fits goes = subst (λ (b : EventAnswer). StageClears e (scanned w k (word_in b)).1) (sym right.1) (scan_clears e w k right.0 right.2)
wait_clears e w (wait.Clear id) a right fits goes = tt
wait_clears e w (wait.Swap k some) a right fits goes = swap_clears (after e (access.Swap k)) w k some (word_in a)
wait_clears e w wait.Look a right fits goes = elim (is_yes a) as (λ b. StageClears (after e access.Signal) (if◌then◌else◌ {A = EventProgress × WaitStage} b (progress.More, wait.Drain) (progress.Waiting, wait.Look)).1) [ true ↦ tt | false ↦ tt ]
wait_clears e w (wait.Pop n) a right fits goes = absurd fits
wait_clears e w wait.Finished a right fits goes = absurd fits

clears_own : (e : Event) (l p : PartyName) (c : EventCall) (a : EventAnswer) → CallFits e l p c → IsRight e (owed c) a → is_last (turn c a).0 ≡ false → CallClears (after e (owed c)) (turn c a).1
clears_own e l p (a_notify n) a fits right goes = tt
clears_own e l p (a_wait w) a fits right goes = wait_clears e w w.stage a right fits.2 goes

clears_other : (e : Event) (l p q : PartyName) (c d : EventCall) → CallFits e l p c → CallFits e l q d → (q ≡ p → ⊥) → CallClears e d → CallClears (after e (owed c)) d
clears_other e l p q c (a_notify n) f g apart h = tt
clears_other e l p q (a_notify n) (a_wait w) f g apart h = clears_grows e (after e (notify_owed n.id n.stage)) w.stage (λ id b. notify_grows e n n.stage id b) h
clears_other e l p q (a_wait v) (a_wait w) f g apart h = absurd (apart (g.0 ∙ sym f.0))

same_clears : (e f : Event) (c : EventCall) → f.pending ≡ e.pending → CallClears e c → CallClears f c
same_clears e f (a_notify n) same h = tt
same_clears e f (a_wait w) same h = clears_grows e f w.stage (λ id b. ap (λ (x : Ids). has x id) same ∙ b) h

-- a signal for each access at most
after_signals : (e : Event) (a : EventAccess) → (after e a).signals ≤ e.signals + 1
after_signals e access.Listener = omega arith
after_signals e (access.Set id) = omega arith
after_signals e access.Post = omega arith
after_signals e (access.Push id) =
    elim (either (not e.held || e.gone)) [
      | inl y ↦ rw y (omega arith)
      | inr f ↦ rw f (elim (either (nat_lt (length e.queue) 512)) [ inl room ↦ rw room (omega arith) | inr full ↦ rw full (omega arith) ])
    ]
after_signals e access.Signal = omega arith
after_signals e (access.Scan k) = omega arith
after_signals e (access.Clear id) = omega arith
after_signals e (access.Swap k) = omega arith
after_signals e access.Pop = omega arith

record Ready (now : Moment) : Type 0 where
  signals : now.event.signals ≤ length now.history
  clears : (p : PartyName) (r : RunningCall) → now.running p ≡ Some r → CallClears now.event (call_of r)

step_ready : (now : Moment) (p : PartyName) (r : RunningCall) (a : EventAnswer) → Sound now → Ready now → now.running p ≡ Some r → IsRight now.event (owed (call_of r)) a → Ready (stepped now p (owed (call_of r)) a (Some r))
step_ready now p r a sound ready runs right =
    let fits = (sound.each p r runs).fits in
    record {
      signals = (let s = after_signals now.event (owed (call_of r)) in let o = ready.signals in omega arith);
      clears = put_each now.running p _ (λ q s. CallClears (after now.event (owed (call_of r))) (call_of s))
          (λ s g. elim (either (is_last (turn (call_of r) a).0)) [
            | inl y ↦ absurd (none_some s (rw y at g))
            | inr f ↦ subst (λ (x : RunningCall). CallClears (after now.event (owed (call_of r))) (call_of x)) (some_same _ s (rw f at g)) (clears_own now.event now.listener p (call_of r) a fits right f)
          ])
          (λ q s d g. clears_other now.event now.listener p q (call_of r) (call_of s) fits (sound.each q s g).fits d (ready.clears q s g));
    }

some_ready : (now : Moment) (p : PartyName) (a : EventAccess) (b : EventAnswer) → Sound now → Ready now → (x : Option RunningCall) → now.running p ≡ x → IsSomeAnd x (λ r. (a ≡ owed (call_of r)) × IsRight now.event a b) → Ready (stepped now p a b x)
some_ready now p a b sound all None e h = absurd h
some_ready now p a b sound all (Some r) e h = subst (λ (z : EventAccess). IsRight now.event z b → Ready (stepped now p z b (Some r))) (sym h.0) (step_ready now p r b sound all e) h.1

new_clears : (e : Event) (l p : PartyName) (c : EventCall) → is_bits e.kind ≡ true → IsCallOf e l p c → CallClears e c
new_clears e l p (a_notify n) bits is = tt
new_clears e l p (a_wait w) bits is =
    let same : w ≡ wait_bits (e.max / 64 + 1) w.many w.mode = rw bits at is.1 in
    subst (λ (x : Wait). StageClears e x.stage) (sym same) tt

gone_ready : (now : Moment) (p : PartyName) (b : Bool) → Ready now → Ready (record now { running = put now.running p None; event = record now.event { gone = b } })
gone_ready now p b ready = record {
  signals = ready.signals;
  clears = put_each now.running p None (λ q s. CallClears (record now.event { gone = b }) (call_of s)) (λ s n. absurd (none_some _ n)) (λ q s d g. same_clears now.event (record now.event { gone = b }) (call_of s) refl (ready.clears q s g));
}

ready_move : (now : Moment) (m : EventMove) → Sound now → Ready now → IsAllowed now m → Ready (moved now m)
ready_move now (begin p c) sound ready ok = record {
  signals = ready.signals;
  clears = put_each now.running p (Some (new_call now.begun c)) (λ q s. CallClears now.event (call_of s))
      (λ s n. subst (λ (x : RunningCall). CallClears now.event (call_of x)) (some_same _ _ n) (new_clears now.event now.listener p c sound.bits ok.1))
      (λ q s d g. ready.clears q s g);
}
ready_move now (step p a b) sound ready ok = some_ready now p a b sound ready (now.running p) refl ok
ready_move now (expire p) sound ready ok = gone_ready now p now.event.gone ready
ready_move now (abandon p) sound ready ok = gone_ready now p _ ready
ready_move now release_listener sound ready ok = record { signals = ready.signals; clears = λ p r g. same_clears now.event (record now.event { held = false }) (call_of r) refl (ready.clears p r g) }
ready_move now elsewhere sound ready ok = record { signals = ready.signals; clears = ready.clears }
ready_move now (notifiers n) sound ready ok = record { signals = ready.signals; clears = λ p r g. same_clears now.event (record now.event { notifiers = n }) (call_of r) refl (ready.clears p r g) }

ready_run : (start : Moment) (ms : List EventMove) → Sound start → Ready start → IsRun start ms → Ready (run_to start ms)
ready_run start [] sound s r = s
ready_run start (m ∷ ms) sound s r = ready_move (run_to start ms) m (sound_run start ms sound r.0) (ready_run start ms sound s r.0) r.1

ready_reached : (now : Moment) → IsReached now → is_bits now.event.kind ≡ true → Ready now
ready_reached now w bits =
    let start = listened w.kind w.name w.max w.listener in
    let k : is_bits w.kind ≡ true = ap is_bits (sym (ap (λ (x : Moment). x.event.kind) w.is ∙ run_kind start w.moves)) ∙ bits in
    subst Ready (sym w.is) (ready_run start w.moves (sound_start w.kind w.name w.max w.listener k) (record { signals = omega arith; clears = λ p r e. absurd (none_some _ e) }) w.run)

is_bits_kind : (k : EventKind) → is_bits k ≡ true → k ≡ kind.Bits
is_bits_kind kind.Bits h = refl
is_bits_kind kind.Queue h = absurd (false≢true h)

is_queue_kind : (k : EventKind) → is_bits k ≡ false → k ≡ kind.Queue
is_queue_kind kind.Bits h = absurd (false≢true (sym h))
is_queue_kind kind.Queue h = refl

notify_can : (e : Event) (n : Notify) (stage : NotifyStage) → e.kind ≡ kind.Bits → NotifyFits e.max n stage → e.signals < 2 ^ 64 - 1 → CanPerform e (notify_owed n.id stage)
notify_can e n notify.Look b f few = record { kind = b; inside = tt }
notify_can e n notify.Set b f few = record { kind = b; inside = f }
notify_can e n notify.Post b f few = record { kind = b; inside = few }
notify_can e n notify.Push b f few = absurd f
notify_can e n notify.Finished b f few = absurd f

wait_can : (e : Event) (w : Wait) (stage : WaitStage) → e.kind ≡ kind.Bits → w.words ≡ e.max / 64 + 1 → StageFits w stage → StageClears e stage → CanPerform e (wait_owed stage)
wait_can e w wait.Drain b same f c = record { kind = b; inside = tt }
wait_can e w (wait.Scan k) b same f c = record { kind = b; inside = let l = f.0 in omega arith }
wait_can e w (wait.Clear id) b same f c = record { kind = b; inside = c }
wait_can e w (wait.Swap k some) b same f c = record { kind = b; inside = let l = f.0 in omega arith }
wait_can e w wait.Look b same f c = record { kind = b; inside = tt }
wait_can e w (wait.Pop n) b same f c = absurd f
wait_can e w wait.Finished b same f c = absurd f

call_can : (e : Event) (l p : PartyName) (c : EventCall) → e.kind ≡ kind.Bits → CallFits e l p c → CallClears e c → e.signals < 2 ^ 64 - 1 → CanPerform e (owed c)
call_can e l p (a_notify n) b f h few = notify_can e n n.stage b f few
call_can e l p (a_wait w) b f h few = wait_can e w w.stage b f.1 f.2 h

queue_can : (e : Event) (c : EventCall) → is_bits e.kind ≡ false → QueueCall c → CanPerform e (owed c)
queue_can e (a_notify n) bits q = subst (λ (s : NotifyStage). CanPerform e (notify_owed n.id s)) (sym q) (record { kind = is_queue_kind e.kind bits; inside = tt })
queue_can e (a_wait w) bits q = subst (λ (s : WaitStage). CanPerform e (wait_owed s)) (sym q.1) (record { kind = is_queue_kind e.kind bits; inside = tt })

pub perform_law_holds : PerformLaw
perform_law_holds now reached few p r runs =
    elim (either (is_bits now.event.kind)) [
      | inl y ↦ (
          let ready = ready_reached now reached y in
          let s = ready.signals in
          call_can now.event now.listener p (call_of r) (is_bits_kind now.event.kind y) ((sound_reached now reached y).each p r runs).fits (ready.clears p r runs) (omega arith))
      | inr n ↦ queue_can now.event (call_of r) n (queue_reached now reached n p r runs).queue
    ]
