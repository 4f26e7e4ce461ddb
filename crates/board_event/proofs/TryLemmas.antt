-- A wait that doesn't wait comes nearer to its end with each access.
use Rattle.std.specs.Prelude.{◌≡◌, ◌≢◌, ◌<◌, ◌≤◌, ℕ, ◌+◌, ◌-◌, ◌^◌, Bool, true, false, not, ◌&&◌, ◌||◌, nat_lt, if◌then◌else◌, List, [], ◌∷◌, Option, Some, None, IsSomeAnd, refl}
use Rattle.std.proofs.Common.{arith, inl, inr, eqb}
use Rattle.board_event_model.specs.declared.access.EventAnswer.{EventAnswer}
use Rattle.board_event_model.specs.declared.access.EventAnswer.TheVariants as answer
use Rattle.board_event_model.specs.declared.call.EventProgress.{EventProgress}
use Rattle.board_event_model.specs.declared.call.WaitMode.TheVariants as mode
use Rattle.board_event_model.specs.declared.call.WaitStage.{WaitStage}
use Rattle.board_event_model.specs.declared.call.WaitStage.TheVariants as wait
use Rattle.board_event_model.specs.EventMemory.{Event, IsRight, after, pop_answer, yes_or_no}
use Rattle.board_event_model.specs.NotifyCalls.{is_yes}
use Rattle.board_event_model.specs.WaitCalls.{Wait, first_word, nothing, popped, scanned, swapped, wait_owed, wait_turn, word_in}
use Rattle.board_event_model.proofs.SetLemmas.{either}
use Rattle.board_event_model.proofs.QuietLemmas.{ltb_true}
use Rattle.board_event_core.specs.EventTable.{CanPerformAt, EventTable, event_at}
use Rattle.board_event_core.specs.Turns.{wait_went_on}
use Rattle.board_event.specs.Accesses.{IsInRange, IsWaitAccess, WaitMade}
use Rattle.board_event.specs.Taking.{TryStage, TryWait, signals_of, steps_left}
use Rattle.board_event.proofs.TableLemmas.{Became-first, Became-next}
use Rattle.board_event.proofs.WordLemmas.{differ}

-- it stands where such a wait may, and owes fewer accesses than before
abbrev pub Nearer : ℕ → ℕ → WaitStage → ℕ → WaitStage → Type 0
Nearer words before stage after next = TryStage words next × (steps_left after words next < steps_left before words stage)

-- where all words were empty it ends
pub nothing_ends : (w : Wait) → w.mode ≡ mode.Try → (nothing w).1 ≡ wait.Finished
nothing_ends w try = rw try refl

-- from one word it goes to the next
pub next_low : (k n : ℕ) → k < n → eqb (k + 1) n ≡ false → k + 1 < n
next_low k n low on = let apart = differ (k + 1) n on in omega arith

scan_nearer : (w : Wait) (k v s : ℕ) → w.mode ≡ mode.Try → k < w.words → Nearer w.words s (wait.Scan k) s (scanned w k v).1
scan_nearer w k v s try low =
    elim (either (eqb v 0)) [
      | inl z ↦ rw z (elim (either (eqb (k + 1) w.words)) [
        | inl end ↦ rw end (rw (nothing_ends w try) (tt, omega arith))
        | inr on ↦ rw on (next_low k w.words low on, omega arith)
      ])
      | inr some ↦ rw some (tt, omega arith)
    ]

swap_nearer : (w : Wait) (k v s : ℕ) (some : Bool) → w.mode ≡ mode.Try → k < w.words → Nearer w.words s (wait.Swap k some) s (swapped w k some v).1
swap_nearer w k v s some try low =
    elim (either (eqb (k + 1) w.words)) [
      | inl end ↦ rw end (elim (either (some || not (eqb v 0))) [
        | inl y ↦ rw y (tt, omega arith)
        | inr f ↦ rw f (rw (nothing_ends w try) (tt, omega arith))
      ])
      | inr on ↦ rw on (next_low k w.words low on, omega arith)
    ]

none_nearer : (w : Wait) (n s t : ℕ) → w.mode ≡ mode.Try → n < 513 → Nearer w.words s (wait.Pop n) t (popped w n answer.Empty).1
none_nearer w n s t try low =
    elim (either (eqb n 0)) [
      | inl z ↦ rw z (rw try (tt, omega arith))
      | inr some ↦ rw some (tt, omega arith)
    ]

id_nearer : (w : Wait) (n x s t : ℕ) → n < 513 → Nearer w.words s (wait.Pop n) t (popped w n (answer.Id x)).1
id_nearer w n x s t low =
    elim (either (w.many && not (eqb (n + 1) 513))) [
      | inl y ↦ rw y (few w.many y, omega arith)
      | inr f ↦ rw f (tt, omega arith)
    ]
  where
    few : (many : Bool) → (many && not (eqb (n + 1) 513)) ≡ true → n + 1 < 513
    few false y = absurd (cc y)
    few true y = by (eqb (n + 1) 513) refl y
      where
        by : (b : Bool) → eqb (n + 1) 513 ≡ b → not b ≡ true → n + 1 < 513
        by true e f = absurd (cc f)
        by false e f = let apart = differ (n + 1) 513 e in omega arith

pop_nearer : (w : Wait) (n s t : ℕ) (queue : List ℕ) → w.mode ≡ mode.Try → n < 513 → Nearer w.words s (wait.Pop n) t (popped w n (pop_answer queue)).1
pop_nearer w n s t [] try low = none_nearer w n s t try low
pop_nearer w n s t (x ∷ xs) try low = id_nearer w n x s t low

-- after the drain
first_nearer : (words s t : ℕ) (many : Bool) → 0 < words → Nearer words s wait.Drain t (first_word many)
first_nearer words s t true some = (some, omega arith)
first_nearer words s t false some = (some, omega arith)

drain_nearer : (words s : ℕ) (many : Bool) (b : Bool) → nat_lt 0 s ≡ b → 0 < words → Nearer words s wait.Drain (s - 1) (if is_yes (yes_or_no b) then wait.Drain else first_word many)
drain_nearer words s many true h some = let one = ltb_true 0 s h in (tt, omega arith)
drain_nearer words s many false h some = first_nearer words s (s - 1) many some

-- each access
pub wait_nearer : (now : Event) (w : Wait) (stage : WaitStage) (a : EventAnswer) → w.mode ≡ mode.Try → 0 < w.words → TryStage w.words stage → stage ≢ wait.Finished →
    IsRight now (wait_owed stage) a → Nearer w.words now.signals stage (after now (wait_owed stage)).signals (wait_turn w stage a).1
wait_nearer now w wait.Drain a try some at on right = rw right (drain_nearer w.words now.signals w.many (nat_lt 0 now.signals) refl some)
wait_nearer now w (wait.Scan k) a try some at on right = scan_nearer w k (word_in a) now.signals try at
wait_nearer now w (wait.Clear id) a try some at on right = (tt, omega arith)
wait_nearer now w (wait.Swap k b) a try some at on right = swap_nearer w k (word_in a) now.signals b try at
wait_nearer now w wait.Look a try some at on right = absurd at
wait_nearer now w (wait.Pop n) a try some at on right = rw right (pop_nearer w n now.signals now.signals now.queue try at)
wait_nearer now w wait.Finished a try some at on right = absurd (on refl)

-- a wait that doesn't wait goes on so
pub TryWait-next : (now : Event) (w next : Wait) (many : Bool) (a : EventAnswer) → TryWait w many → w.stage ≢ wait.Finished → IsRight now (wait_owed w.stage) a →
    next ≡ wait_went_on w a → TryWait next many
TryWait-next now w next many a try on right is = rw is (record {
  mode = try.mode;
  all = try.all;
  some = try.some;
  few = try.few;
  stage = (wait_nearer now w w.stage a try.mode try.some try.stage on right).0;
})

-- what an access of it has left to do
pub wait_fewer : (t u : EventTable) (n : ℕ) (w next : Wait) (many : Bool) (p : EventProgress) (a : EventAnswer) → TryWait w many → w.stage ≢ wait.Finished → WaitMade t u n w next p a →
    steps_left (signals_of (event_at u n)) next.words next.stage < steps_left (signals_of (event_at t n)) w.words w.stage
wait_fewer t u n w next many p a try on made = by (event_at t n) refl made.right
  where
    by : (o : Option Event) → event_at t n ≡ o → IsSomeAnd o (λ e. IsRight e (wait_owed w.stage) a) →
        steps_left (signals_of (event_at u n)) next.words next.stage < steps_left (signals_of (event_at t n)) w.words w.stage
    by None h right = absurd right
    by (Some now) h right =
        let there : event_at u n ≡ Some (after now (wait_owed w.stage)) = (Became-next t t u n now (λ e. after e (wait_owed w.stage)) (Became-first t n now h) made.memory).stands in
        rw (there, h, made.goes_on) (wait_nearer now w w.stage a try.mode try.some try.stage on right).1

-- and how it goes on, where the event is not told
pub TryWait-made : (t u : EventTable) (n : ℕ) (w next : Wait) (many : Bool) (p : EventProgress) (a : EventAnswer) → TryWait w many → w.stage ≢ wait.Finished → WaitMade t u n w next p a → TryWait next many
TryWait-made t u n w next many p a try on made = by (event_at t n) made.right
  where
    by : (o : Option Event) → IsSomeAnd o (λ e. IsRight e (wait_owed w.stage) a) → TryWait next many
    by None right = absurd right
    by (Some now) right = TryWait-next now w next many a try on right made.goes_on

-- where no access was made, the event couldn't take it, and all stays
pub not_taken : (t u : EventTable) (n : ℕ) (w next : Wait) (r : Option EventProgress) → IsWaitAccess t u n w next r → ((p : EventProgress) → r ≡ Some p → ⊥) → (¬ CanPerformAt t n (wait_owed w.stage)) × (u ≡ t)
not_taken t u n w next None is none = is
not_taken t u n w next (Some p) is none = absurd (none p refl)

-- ---- the ids that it reports are numbers of 64 bits

swap_range : (w : Wait) (k v : ℕ) (some : Bool) → w.mode ≡ mode.Try → k < w.words → w.words ≤ 2 ^ 58 → IsInRange (swapped w k some v).0
swap_range w k v some try low few =
    elim (either (eqb (k + 1) w.words)) [
      | inl end ↦ rw end (elim (either (some || not (eqb v 0))) [
        | inl y ↦ rw y (omega arith)
        | inr f ↦ rw f (rw try tt)
      ])
      | inr on ↦ rw on (elim (either (eqb v 0)) [
        | inl z ↦ rw z tt
        | inr y ↦ rw y (omega arith)
      ])
    ]

scan_range : (w : Wait) (k v : ℕ) → w.mode ≡ mode.Try → IsInRange (scanned w k v).0
scan_range w k v try =
    elim (either (eqb v 0)) [
      | inl z ↦ rw z (elim (either (eqb (k + 1) w.words)) [ inl end ↦ rw end (rw try tt) | inr on ↦ rw on tt ])
      | inr some ↦ rw some tt
    ]

pop_range : (w : Wait) (n : ℕ) (queue : List ℕ) → w.mode ≡ mode.Try → IsInRange (popped w n (pop_answer queue)).0
pop_range w n [] try =
    elim (either (eqb n 0)) [
      | inl z ↦ rw z (rw try tt)
      | inr some ↦ rw some (omega arith)
    ]
pop_range w n (x ∷ xs) try =
    elim (either (w.many && not (eqb (n + 1) 513))) [
      | inl y ↦ rw y tt
      | inr f ↦ rw f tt
    ]

turn_range : (now : Event) (w : Wait) (stage : WaitStage) (a : EventAnswer) → w.mode ≡ mode.Try → w.words ≤ 2 ^ 58 → TryStage w.words stage → IsRight now (wait_owed stage) a → IsInRange (wait_turn w stage a).0
turn_range now w wait.Drain a try few at right = tt
turn_range now w (wait.Scan k) a try few at right = scan_range w k (word_in a) try
turn_range now w (wait.Clear id) a try few at right = tt
turn_range now w (wait.Swap k b) a try few at right = swap_range w k (word_in a) b try at few
turn_range now w wait.Look a try few at right = absurd at
turn_range now w (wait.Pop n) a try few at right = rw right (pop_range w n now.queue try)
turn_range now w wait.Finished a try few at right = tt

pub made_in_range : (t u : EventTable) (n : ℕ) (w next : Wait) (many : Bool) (p : EventProgress) (a : EventAnswer) → TryWait w many → WaitMade t u n w next p a → IsInRange p
made_in_range t u n w next many p a try made = by (event_at t n) made.right
  where
    by : (o : Option Event) → IsSomeAnd o (λ e. IsRight e (wait_owed w.stage) a) → IsInRange p
    by None right = absurd right
    by (Some now) right = rw made.progress (turn_range now w w.stage a try.mode try.few try.stage right)
