-- A typed wait, one hold of the lock after another, whatever the events are under each: what it gives and hands over.
use Rattle.std.specs.Prelude.{◌≡◌, ◌<◌, ◌≤◌, ℕ, ◌+◌, ◌*◌, ◌/◌, ◌^◌, Bool, true, false, not, ◌&&◌, ◌||◌, nat_lt, if◌then◌else◌, List, [], ◌∷◌, ◌++◌, Option, Some, None, IfSome, IsSomeAnd, refl}
use Rattle.std.proofs.Common.{sym, subst, arith, inl, inr, eqb}
use Rattle.std.specs.List.{FoldsTo}
use Rattle.std.specs.Ordering.{nat_cmp}
use Rattle.std.specs.BTreeMap.{is_at}
use Rattle.std.proofs.lemmas.Map.Views.{IfSome-lookup_from_All}
use Rattle.board_event_model.specs.declared.access.EventAnswer.{EventAnswer}
use Rattle.board_event_model.specs.declared.access.EventAnswer.TheVariants as answer
use Rattle.board_event_model.specs.declared.call.EventProgress.{EventProgress}
use Rattle.board_event_model.specs.declared.call.EventProgress.TheVariants as progress
use Rattle.board_event_model.specs.declared.call.WaitMode.{WaitMode}
use Rattle.board_event_model.specs.declared.call.WaitStage.{WaitStage}
use Rattle.board_event_model.specs.declared.call.WaitStage.TheVariants as wait
use Rattle.board_event_model.specs.declared.kind.EventKind.{EventKind}
use Rattle.board_event_model.specs.declared.kind.EventKind.TheVariants as kind
use Rattle.board_event_model.specs.EventMemory.{CanPerform, Event, IsRight, pop_answer, yes_or_no}
use Rattle.board_event_model.specs.NotifyCalls.{is_yes}
use Rattle.board_event_model.specs.WaitCalls.{Wait, is_try, nothing, popped, scanned, swapped, wait_owed, wait_turn, word_in}
use Rattle.board_event_model.proofs.SetLemmas.{either}
use Rattle.board_event_core.specs.EventTable.{EventTable, IsEvent, IsEventTable, event_at}
use Rattle.board_event_core.specs.Turns.{wait_went_on}
use Rattle.board_event.specs.Accesses.{IsHoldBehind, IsInRange, IsWaitHold}
use Rattle.board_event.specs.Taking.{wait_begun}

-- the hold without the looks that were left out
pub hold_behind : (n : ℕ) (call next : Wait) (p : EventProgress) → (behind : IsHoldBehind n call next p) → IsWaitHold n behind.0 next p
hold_behind n call next p behind = (behind.1, behind.2, behind.3, behind.5)

-- ---- the ids that it reports are numbers of 64 bits

nothing_range : (w : Wait) → IsInRange (nothing w).0
nothing_range w = by (is_try w.mode)
  where
    by : (b : Bool) → IsInRange (if◌then◌else◌ {A = EventProgress × WaitStage} b (progress.Nothing, wait.Finished) (progress.More, wait.Look)).0
    by true = tt
    by false = tt

swap_range : (w : Wait) (k v : ℕ) (some : Bool) → 64 * k + 64 ≤ 2 ^ 64 → IsInRange (swapped w k some v).0
swap_range w k v some low =
    elim (either (eqb (k + 1) w.words)) [
      | inl end ↦ rw end (elim (either (some || not (eqb v 0))) [
        | inl y ↦ rw y low
        | inr f ↦ rw f (nothing_range w)
      ])
      | inr on ↦ rw on (elim (either (eqb v 0)) [
        | inl z ↦ rw z tt
        | inr y ↦ rw y low
      ])
    ]

scan_range : (w : Wait) (k v : ℕ) → IsInRange (scanned w k v).0
scan_range w k v =
    elim (either (eqb v 0)) [
      | inl z ↦ rw z (elim (either (eqb (k + 1) w.words)) [ inl end ↦ rw end (nothing_range w) | inr on ↦ rw on tt ])
      | inr some ↦ rw some tt
    ]

none_range : (w : Wait) (n : ℕ) → IsInRange (popped w n answer.Empty).0
none_range w n =
    elim (either (eqb n 0)) [
      | inl z ↦ rw z (by (is_try w.mode))
      | inr some ↦ rw some (omega arith)
    ]
  where
    by : (b : Bool) → IsInRange (if◌then◌else◌ {A = EventProgress × WaitStage} b (progress.Nothing, wait.Finished) (progress.Waiting, wait.Pop 0)).0
    by true = tt
    by false = tt

id_range : (w : Wait) (n x : ℕ) → IsInRange (popped w n (answer.Id x)).0
id_range w n x =
    elim (either (w.many && not (eqb (n + 1) 513))) [
      | inl y ↦ rw y tt
      | inr f ↦ rw f tt
    ]

pop_range : (w : Wait) (n : ℕ) (a : EventAnswer) → IsInRange (popped w n a).0
pop_range w n (answer.Id x) = id_range w n x
pop_range w n answer.Done = none_range w n
pop_range w n answer.Yes = none_range w n
pop_range w n answer.No = none_range w n
pop_range w n (answer.Word v) = none_range w n
pop_range w n answer.Empty = none_range w n
pop_range w n answer.Full = none_range w n
pop_range w n answer.Gone = none_range w n

turn_range : (e : Event) (w : Wait) (stage : WaitStage) (a : EventAnswer) → IsEvent e → CanPerform e (wait_owed stage) → IsInRange (wait_turn w stage a).0
turn_range e w wait.Drain a sound can = tt
turn_range e w (wait.Scan k) a sound can = scan_range w k (word_in a)
turn_range e w (wait.Clear id) a sound can = tt
turn_range e w (wait.Swap k some) a sound can = swap_range w k (word_in a) some (let low = can.inside in let sized = sound.sized in omega (arith, low, sized))
turn_range e w wait.Look a sound can = by (is_yes a)
  where
    by : (b : Bool) → IsInRange (if◌then◌else◌ {A = EventProgress × WaitStage} b (progress.More, wait.Drain) (progress.Waiting, wait.Look)).0
    by true = tt
    by false = tt
turn_range e w (wait.Pop n) a sound can = pop_range w n a
turn_range e w wait.Finished a sound can = tt

-- an event of a table is as it may be
sound_in : (t : EventTable) (n : ℕ) (e : Event) → event_at t n ≡ Some e → IsEventTable t → IsEvent e
sound_in t n e is table =
    let sound : IfSome (event_at t n) IsEvent = IfSome-lookup_from_All IsEvent (is_at (nat_cmp n)) t.events table.kept.sound in
    (rw is at sound)

pub hold_in_range : (n : ℕ) (call next : Wait) (p : EventProgress) → IsWaitHold n call next p → IsInRange p
hold_in_range n call next p hold = by (event_at hold.0 n) refl hold.3.made.can
  where
    by : (o : Option Event) → event_at hold.0 n ≡ o → IsSomeAnd o (λ e. CanPerform e (wait_owed call.stage)) → IsInRange p
    by None h can = absurd can
    by (Some e) h can = rw hold.3.made.progress (turn_range e call call.stage hold.2 (sound_in hold.0 n e h hold.3.table) can)

-- ---- the calls so far

-- calls on two lists are calls on the one after the other
calls_after : {F : Type 0} (R : F → ℕ → F → Type 0) (f g last : F) (xs ys : List ℕ) → FoldsTo R f xs g → FoldsTo R g ys last → FoldsTo R f (xs ++ ys) last
calls_after R f g last [] ys first second = subst (λ h. FoldsTo R h ys last) (sym first) second
calls_after R f g last (x ∷ xs) ys first second = (first.0, first.1, calls_after R first.0 g last xs ys first.2 second)

-- ---- what stays of a wait

-- a wait on an event of this kind, by an end up to this id
pub record IsWaitOn (k : EventKind) (max : ℕ) (for_all : Bool) (w : Wait) : Type 0 where
  pub words : k ≡ kind.Bits → w.words ≡ max / 64 + 1
  pub some : 0 < w.words
  pub many : w.many ≡ for_all

pub IsWaitOn-begun : (k : EventKind) (max : ℕ) (many : Bool) (m : WaitMode) (w : Wait) → w ≡ wait_begun k max many m → IsWaitOn k max many w
IsWaitOn-begun kind.Bits max many m w is = rw is (record { words = λ bits. refl; some = omega arith; many = refl })
IsWaitOn-begun kind.Queue max many m w is = rw is (record { words = λ bits. absurd (cc bits); some = omega arith; many = refl })

pub IsWaitOn-next : (k : EventKind) (max : ℕ) (many : Bool) (w next : Wait) (a : EventAnswer) → IsWaitOn k max many w → next ≡ wait_went_on w a → IsWaitOn k max many next
IsWaitOn-next k max many w next a on is = rw is (record { words = on.words; some = on.some; many = on.many })

-- the word of a right answer has 64 bits
pub none_small : 0 < 2 ^ 64
none_small = omega arith

word_small : (e : Event) (stage : WaitStage) (a : EventAnswer) → IsRight e (wait_owed stage) a → word_in a < 2 ^ 64
word_small e wait.Drain a right = rw right (by (nat_lt 0 e.signals))
  where
    by : (b : Bool) → word_in (yes_or_no b) < 2 ^ 64
    by true = none_small
    by false = none_small
word_small e (wait.Scan word) a right = rw right.1 right.2.small
word_small e (wait.Clear id) a right = rw right.0 none_small
word_small e (wait.Swap word some) a right = rw right.1 right.2.small
word_small e wait.Look a right = rw right (by (nat_lt 0 e.signals))
  where
    by : (b : Bool) → word_in (yes_or_no b) < 2 ^ 64
    by true = none_small
    by false = none_small
word_small e (wait.Pop n) a right = rw right (by e.queue)
  where
    by : (queue : List ℕ) → word_in (pop_answer queue) < 2 ^ 64
    by [] = none_small
    by (x ∷ xs) = none_small
word_small e wait.Finished a right = rw right (by e.held)
  where
    by : (b : Bool) → word_in (yes_or_no b) < 2 ^ 64
    by true = none_small
    by false = none_small

pub held_small : (n : ℕ) (call next : Wait) (p : EventProgress) → (hold : IsWaitHold n call next p) → word_in hold.2 < 2 ^ 64
held_small n call next p hold = by (event_at hold.0 n) hold.3.made.right
  where
    by : (o : Option Event) → IsSomeAnd o (λ e. IsRight e (wait_owed call.stage) hold.2) → word_in hold.2 < 2 ^ 64
    by None right = absurd right
    by (Some e) right = word_small e call.stage hold.2 right
