-- A typed wait for all: what it hands over ascends, of a set, and is of its words, and of a queue it is 513 ids at most.
use Rattle.std.specs.Prelude.{◌≡◌, ◌<◌, ◌≤◌, ℕ, zero, suc, ◌+◌, ◌-◌, ◌*◌, ◌/◌, Bool, true, false, not, ◌||◌, ◌==◌, if◌then◌else◌, List, [], ◌∷◌, ◌++◌, length, refl}
use Rattle.std.proofs.Common.{ap, sym, ◌∙◌, subst, arith, inl, inr, eqb}
use Rattle.std.proofs.lemmas.Bool.{false≢true}
use Rattle.std.proofs.lemmas.List.{append-nil, length-append}
use Rattle.std.proofs.lemmas.Nat.Bits.{bit_at-zero}
use Rattle.std.specs.Int.{bit_at}
use Rattle.std.specs.List.{FoldsTo}
use Rattle.board_event_model.specs.declared.access.EventAnswer.{EventAnswer}
use Rattle.board_event_model.specs.declared.access.EventAnswer.TheVariants as answer
use Rattle.board_event_model.specs.declared.call.EventProgress.{EventProgress}
use Rattle.board_event_model.specs.declared.call.EventProgress.TheVariants as progress
use Rattle.board_event_model.specs.declared.call.WaitMode.{WaitMode}
use Rattle.board_event_model.specs.declared.call.WaitStage.{WaitStage}
use Rattle.board_event_model.specs.declared.call.WaitStage.TheVariants as wait
use Rattle.board_event_model.specs.declared.kind.EventKind.{EventKind}
use Rattle.board_event_model.specs.declared.kind.EventKind.TheVariants as kind
use Rattle.board_event_model.specs.Ids.{ids_where}
use Rattle.board_event_model.specs.EventCalls.{reported}
use Rattle.board_event_model.specs.NotifyCalls.{is_yes}
use Rattle.board_event_model.specs.WaitCalls.{Wait, is_try, nothing, popped, swapped, wait_turn, word_in}
use Rattle.board_event_model.proofs.SetLemmas.{either}
use Rattle.board_event_model.proofs.TrackLemmas.{ids_none}
use Rattle.board_event_core.specs.Passing.{passed}
use Rattle.board_event_core.specs.Turns.{wait_went_on}
use Rattle.board_event.specs.Accesses.{IsHoldBehind}
use Rattle.board_event.specs.Taking.{wait_begun}
use Rattle.board_event.specs.TypedCalls.{AreHandedOver, AscendWithin}
use Rattle.board_event.proofs.TryLemmas.{next_low}
use Rattle.board_event.proofs.WordLemmas.{differ, eqb_is}
use Rattle.board_event.proofs.TypedWaits.{IsWaitOn, IsWaitOn-begun, IsWaitOn-next, hold_behind}

-- ---- a wait for all: what it has handed over, by where it stands

abbrev pub AllAt : EventKind → ℕ → WaitStage → List ℕ → Type 0
AllAt kind.Bits words wait.Drain ids = ids ≡ []
AllAt kind.Bits words (wait.Scan word) ids = ⊥
AllAt kind.Bits words (wait.Clear id) ids = ⊥
AllAt kind.Bits words (wait.Swap word some) ids = (word < words) × AscendWithin 0 (64 * word) ids × (some ≡ false → ids ≡ [])
AllAt kind.Bits words wait.Look ids = ids ≡ []
AllAt kind.Bits words (wait.Pop n) ids = ⊥
AllAt kind.Bits words wait.Finished ids = AscendWithin 0 (64 * words) ids
AllAt kind.Queue words wait.Drain ids = ⊥
AllAt kind.Queue words (wait.Scan word) ids = ⊥
AllAt kind.Queue words (wait.Clear id) ids = ⊥
AllAt kind.Queue words (wait.Swap word some) ids = ⊥
AllAt kind.Queue words wait.Look ids = ⊥
AllAt kind.Queue words (wait.Pop n) ids = (length ids ≡ n) × (n < 513)
AllAt kind.Queue words wait.Finished ids = length ids ≤ 513

-- a later beginning and an earlier end
AscendWithin-wide : (from from' below below' : ℕ) (ids : List ℕ) → from' ≤ from → below ≤ below' → AscendWithin from below ids → AscendWithin from' below' ids
AscendWithin-wide from from' below below' [] low high up = tt
AscendWithin-wide from from' below below' (x ∷ xs) low high up = (
  (let l = up.0 in omega (arith, l, low)),
  (let h = up.1 in omega (arith, h, high)),
  AscendWithin-wide (x + 1) (x + 1) below below' xs (omega arith) high up.2,
)

AscendWithin-after : (from mid below : ℕ) (xs ys : List ℕ) → from ≤ mid → mid ≤ below → AscendWithin from mid xs → AscendWithin mid below ys → AscendWithin from below (xs ++ ys)
AscendWithin-after from mid below [] ys low high first second = AscendWithin-wide mid from below below ys low (omega arith) second
AscendWithin-after from mid below (x ∷ xs) ys low high first second = (
  first.0,
  (let h = first.1 in omega (arith, h, high)),
  AscendWithin-after (x + 1) mid below xs ys (let h = first.1 in omega (arith, h)) high first.2 second,
)

ids_where-within : (p : ℕ → Bool) (at n below : ℕ) → at + n ≤ below → AscendWithin at below (ids_where p at n)
ids_where-within p at zero below high = tt
ids_where-within p at (suc n) below high = by (p at) (ids_where-within p (at + 1) n below (omega (arith, high)))
  where
    by : (b : Bool) → AscendWithin (at + 1) below (ids_where p (at + 1) n) → AscendWithin at below (if b then at ∷ ids_where p (at + 1) n else ids_where p (at + 1) n)
    by true later = (omega arith, omega (arith, high), later)
    by false later = AscendWithin-wide (at + 1) at below below (ids_where p (at + 1) n) (omega arith) (omega arith) later

-- the end of a wait on a queue tells none
no_ids : reported (progress.Took 0 0 true) ≡ []
no_ids = ids_none (λ i. eqb (bit_at 0 (i - 0)) 1) 0 64 (λ i low high. ap (λ (b : ℕ). eqb b 1) (bit_at-zero (i - 0)))

-- no more ids than were there
same_ids : (P : List ℕ → Type 0) (ids : List ℕ) → P ids → P (ids ++ [])
same_ids P ids h = subst P (sym (append-nil ids)) h

none_then : (ids : List ℕ) → ids ≡ [] → ids ++ [] ≡ []
none_then ids is = rw is refl

-- all words were without ids
nothing_all : (w : Wait) (ids : List ℕ) → ids ≡ [] → AllAt kind.Bits w.words (nothing w).1 (ids ++ reported (nothing w).0)
nothing_all w ids none = rw none (by (is_try w.mode))
  where
    by : (b : Bool) → AllAt kind.Bits w.words (if◌then◌else◌ {A = EventProgress × WaitStage} b (progress.Nothing, wait.Finished) (progress.More, wait.Look)).1
        (reported (if◌then◌else◌ {A = EventProgress × WaitStage} b (progress.Nothing, wait.Finished) (progress.More, wait.Look)).0)
    by true = tt
    by false = refl

-- one more word was taken
word_after : (ids : List ℕ) (word bits below : ℕ) → 64 * word + 64 ≤ below → AscendWithin 0 (64 * word) ids → AscendWithin 0 below (ids ++ ids_where (λ i. bit_at bits (i - 64 * word) == 1) (64 * word) 64)
word_after ids word bits below high up =
    AscendWithin-after 0 (64 * word) below ids (ids_where (λ i. bit_at bits (i - 64 * word) == 1) (64 * word) 64) (omega arith) (omega (arith, high)) up
    (ids_where-within (λ i. bit_at bits (i - 64 * word) == 1) (64 * word) 64 below high)

not_some : (some b : Bool) → (some || b) ≡ false → some ≡ false
not_some true b h = absurd (false≢true (sym h))
not_some false b h = refl

or_true : (some : Bool) → (some || true) ≡ false → ⊥
or_true true h = false≢true (sym h)
or_true false h = false≢true (sym h)

swap_all : (w : Wait) (word v : ℕ) (some : Bool) (ids : List ℕ) → word < w.words → AscendWithin 0 (64 * word) ids → (some ≡ false → ids ≡ []) →
    AllAt kind.Bits w.words (swapped w word some v).1 (ids ++ reported (swapped w word some v).0)
swap_all w word v some ids low up none =
    elim (either (eqb (word + 1) w.words)) [
      | inl end ↦ (
          let all = eqb_is (word + 1) w.words end in
          rw end (elim (either (some || not (eqb v 0))) [
            | inl y ↦ rw y (word_after ids word v (64 * w.words) (omega (arith, all)) up)
            | inr f ↦ rw f (nothing_all w ids (none (not_some some _ f)))
          ]))
      | inr on ↦ (
          let later = next_low word w.words low on in
          rw on (elim (either (eqb v 0)) [
            | inl z ↦ rw z (later, same_ids (AscendWithin 0 (64 * (word + 1))) ids (AscendWithin-wide 0 0 (64 * word) (64 * (word + 1)) ids (omega arith) (omega arith) up), (λ f. none_then ids (none (not_some some false f))))
            | inr y ↦ rw y (later, word_after ids word v (64 * (word + 1)) (omega arith) up, (λ f. absurd (or_true some f)))
          ]))
    ]

-- n ids were taken, and one more or none
pop_none : (w : Wait) (n : ℕ) (ids : List ℕ) → length ids ≡ n → n < 513 → AllAt kind.Queue w.words (popped w n answer.Empty).1 (ids ++ reported (popped w n answer.Empty).0)
pop_none w n ids many few =
    elim (either (eqb n 0)) [
      | inl z ↦ rw z (by (is_try w.mode) (ap length (append-nil ids) ∙ many) (eqb_is n 0 z))
      | inr some ↦ rw some (subst (λ (l : List ℕ). length (ids ++ l) ≤ 513) (sym no_ids) (same_ids (λ (l : List ℕ). length l ≤ 513) ids (omega (arith, many, few))))
    ]
  where
    by : (b : Bool) → length (ids ++ []) ≡ n → n ≡ 0 → AllAt kind.Queue w.words (if◌then◌else◌ {A = EventProgress × WaitStage} b (progress.Nothing, wait.Finished) (progress.Waiting, wait.Pop 0)).1
        (ids ++ reported (if◌then◌else◌ {A = EventProgress × WaitStage} b (progress.Nothing, wait.Finished) (progress.Waiting, wait.Pop 0)).0)
    by true l z = omega (arith, l, z)
    by false l z = (l ∙ z, omega arith)

pop_one : (w : Wait) (n x : ℕ) (ids : List ℕ) → w.many ≡ true → length ids ≡ n → n < 513 → AllAt kind.Queue w.words (popped w n (answer.Id x)).1 (ids ++ reported (popped w n (answer.Id x)).0)
pop_one w n x ids all many few =
    let one : length (ids ++ x ∷ []) ≡ n + 1 = length-append ids (x ∷ []) ∙ omega (arith, many) in
    elim (either (eqb (n + 1) 513)) [
      | inl end ↦ rw (all, end) (omega (arith, one, few))
      | inr on ↦ rw (all, on) (one, (let apart = differ (n + 1) 513 on in omega (arith, few)))
    ]

pop_all : (w : Wait) (n : ℕ) (a : EventAnswer) (ids : List ℕ) → w.many ≡ true → length ids ≡ n → n < 513 → AllAt kind.Queue w.words (popped w n a).1 (ids ++ reported (popped w n a).0)
pop_all w n (answer.Id x) ids all many few = pop_one w n x ids all many few
pop_all w n answer.Done ids all many few = pop_none w n ids many few
pop_all w n answer.Yes ids all many few = pop_none w n ids many few
pop_all w n answer.No ids all many few = pop_none w n ids many few
pop_all w n (answer.Word v) ids all many few = pop_none w n ids many few
pop_all w n answer.Empty ids all many few = pop_none w n ids many few
pop_all w n answer.Full ids all many few = pop_none w n ids many few
pop_all w n answer.Gone ids all many few = pop_none w n ids many few

-- each access
all_turn : (k : EventKind) (w : Wait) (stage : WaitStage) (a : EventAnswer) (ids : List ℕ) → w.many ≡ true → 0 < w.words → AllAt k w.words stage ids →
    AllAt k w.words (wait_turn w stage a).1 (ids ++ reported (wait_turn w stage a).0)
all_turn kind.Bits w wait.Drain a ids many some at = rw (many, at) (by (is_yes a))
  where
    by : (b : Bool) → AllAt kind.Bits w.words (if b then wait.Drain else wait.Swap 0 false) []
    by true = refl
    by false = (some, tt, λ f. refl)
all_turn kind.Bits w (wait.Scan word) a ids many some at = absurd at
all_turn kind.Bits w (wait.Clear id) a ids many some at = absurd at
all_turn kind.Bits w (wait.Swap word b) a ids many some at = swap_all w word (word_in a) b ids at.0 at.1 at.2
all_turn kind.Bits w wait.Look a ids many some at = rw at (by (is_yes a))
  where
    by : (b : Bool) → AllAt kind.Bits w.words (if◌then◌else◌ {A = EventProgress × WaitStage} b (progress.More, wait.Drain) (progress.Waiting, wait.Look)).1
        (reported (if◌then◌else◌ {A = EventProgress × WaitStage} b (progress.More, wait.Drain) (progress.Waiting, wait.Look)).0)
    by true = refl
    by false = refl
all_turn kind.Bits w (wait.Pop n) a ids many some at = absurd at
all_turn kind.Bits w wait.Finished a ids many some at = same_ids (AscendWithin 0 (64 * w.words)) ids at
all_turn kind.Queue w wait.Drain a ids many some at = absurd at
all_turn kind.Queue w (wait.Scan word) a ids many some at = absurd at
all_turn kind.Queue w (wait.Clear id) a ids many some at = absurd at
all_turn kind.Queue w (wait.Swap word b) a ids many some at = absurd at
all_turn kind.Queue w wait.Look a ids many some at = absurd at
all_turn kind.Queue w (wait.Pop n) a ids many some at = pop_all w n a ids many at.0 at.1
all_turn kind.Queue w wait.Finished a ids many some at = same_ids (λ (l : List ℕ). length l ≤ 513) ids at

-- a look at a word without ids that is left out hands over none
nothing_more : (w : Wait) → reported (nothing w).0 ≡ []
nothing_more w = by (is_try w.mode)
  where
    by : (b : Bool) → reported (if◌then◌else◌ {A = EventProgress × WaitStage} b (progress.Nothing, wait.Finished) (progress.More, wait.Look)).0 ≡ []
    by true = refl
    by false = refl

no_bits : (word : ℕ) → ids_where (λ i. bit_at 0 (i - 64 * word) == 1) (64 * word) 64 ≡ []
no_bits word = ids_none (λ i. eqb (bit_at 0 (i - 64 * word)) 1) (64 * word) 64 (λ i low high. ap (λ (b : ℕ). eqb b 1) (bit_at-zero (i - 64 * word)))

passed_none : (k : EventKind) (w : Wait) (stage : WaitStage) (ids : List ℕ) → AllAt k w.words stage ids → reported (wait_turn w stage (answer.Word 0)).0 ≡ []
passed_none kind.Bits w wait.Drain ids at = refl
passed_none kind.Bits w (wait.Scan word) ids at = absurd at
passed_none kind.Bits w (wait.Clear id) ids at = absurd at
passed_none kind.Bits w (wait.Swap word some) ids at =
    elim (either (eqb (word + 1) w.words)) [
      | inl end ↦ rw end (by some)
      | inr on ↦ rw on refl
    ]
  where
    by : (b : Bool) → reported (if◌then◌else◌ {A = EventProgress × WaitStage} (b || false) (progress.Took (64 * word) 0 true, wait.Finished) (nothing w)).0 ≡ []
    by true = no_bits word
    by false = nothing_more w
passed_none kind.Bits w wait.Look ids at = refl
passed_none kind.Bits w (wait.Pop n) ids at = absurd at
passed_none kind.Bits w wait.Finished ids at = refl
passed_none kind.Queue w wait.Drain ids at = absurd at
passed_none kind.Queue w (wait.Scan word) ids at = absurd at
passed_none kind.Queue w (wait.Clear id) ids at = absurd at
passed_none kind.Queue w (wait.Swap word some) ids at = absurd at
passed_none kind.Queue w wait.Look ids at = absurd at
passed_none kind.Queue w (wait.Pop n) ids at =
    elim (either (eqb n 0)) [
      | inl z ↦ rw z (by (is_try w.mode))
      | inr some ↦ rw some no_ids
    ]
  where
    by : (b : Bool) → reported (if◌then◌else◌ {A = EventProgress × WaitStage} b (progress.Nothing, wait.Finished) (progress.Waiting, wait.Pop 0)).0 ≡ []
    by true = refl
    by false = refl
passed_none kind.Queue w wait.Finished ids at = refl

-- a wait for all, of which that is known
pub record AllGoes (k : EventKind) (max : ℕ) (w : Wait) (ids : List ℕ) : Type 0 where
  pub on : IsWaitOn k max true w
  pub at : AllAt k w.words w.stage ids

AllGoes-begun : (k : EventKind) (max : ℕ) (m : WaitMode) (w : Wait) → w ≡ wait_begun k max true m → AllGoes k max w []
AllGoes-begun kind.Bits max m w is = record { on = IsWaitOn-begun kind.Bits max true m w is; at = (rw is refl) }
AllGoes-begun kind.Queue max m w is = record { on = IsWaitOn-begun kind.Queue max true m w is; at = (rw is (refl, omega arith)) }

AllGoes-next : (k : EventKind) (max : ℕ) (w next : Wait) (a : EventAnswer) (ids : List ℕ) → AllGoes k max w ids → next ≡ wait_went_on w a → AllGoes k max next (ids ++ reported (wait_turn w w.stage a).0)
AllGoes-next k max w next a ids goes is = record {
  on = IsWaitOn-next k max true w next a goes.on is;
  at = (rw is (all_turn k w w.stage a ids goes.on.many goes.on.some goes.at));
}

AllGoes-passed : (k : EventKind) (max n : ℕ) (w : Wait) (ids : List ℕ) → AllGoes k max w ids → AllGoes k max (passed n w) ids
AllGoes-passed k max zero w ids goes = goes
AllGoes-passed k max (suc n) w ids goes =
    AllGoes-passed k max n (wait_went_on w (answer.Word 0)) ids
    (subst (AllGoes k max (wait_went_on w (answer.Word 0))) (ap (λ (l : List ℕ). ids ++ l) (passed_none k w w.stage ids goes.at) ∙ append-nil ids) (AllGoes-next k max w (wait_went_on w (answer.Word 0)) (answer.Word 0) ids goes refl))

-- wherever it stops, what it has handed over is so
AllGoes-stops : (k : EventKind) (max : ℕ) (w : Wait) (stage : WaitStage) (ids : List ℕ) → IsWaitOn k max true w → AllAt k w.words stage ids → AreHandedOver k max ids
AllGoes-stops kind.Bits max w wait.Drain ids on at = rw at tt
AllGoes-stops kind.Bits max w (wait.Scan word) ids on at = absurd at
AllGoes-stops kind.Bits max w (wait.Clear id) ids on at = absurd at
AllGoes-stops kind.Bits max w (wait.Swap word some) ids on at =
    let words : w.words ≡ max / 64 + 1 = on.words refl in
    let low = at.0 in
    AscendWithin-wide 0 0 (64 * word) (64 * (max / 64 + 1)) ids (omega arith) (omega (arith, words, low)) at.1
AllGoes-stops kind.Bits max w wait.Look ids on at = rw at tt
AllGoes-stops kind.Bits max w (wait.Pop n) ids on at = absurd at
AllGoes-stops kind.Bits max w wait.Finished ids on at = let words : w.words ≡ max / 64 + 1 = on.words refl in subst (λ (n : ℕ). AscendWithin 0 (64 * n) ids) words at
AllGoes-stops kind.Queue max w wait.Drain ids on at = absurd at
AllGoes-stops kind.Queue max w (wait.Scan word) ids on at = absurd at
AllGoes-stops kind.Queue max w (wait.Clear id) ids on at = absurd at
AllGoes-stops kind.Queue max w (wait.Swap word some) ids on at = absurd at
AllGoes-stops kind.Queue max w wait.Look ids on at = absurd at
AllGoes-stops kind.Queue max w (wait.Pop n) ids on at = let same = at.0 in let few = at.1 in omega (arith, same, few)
AllGoes-stops kind.Queue max w wait.Finished ids on at = at

-- ---- the calls so far

-- calls on two lists are calls on the one after the other
calls_after : {F : Type 0} (R : F → ℕ → F → Type 0) (f g last : F) (xs ys : List ℕ) → FoldsTo R f xs g → FoldsTo R g ys last → FoldsTo R f (xs ++ ys) last
calls_after R f g last [] ys first second = subst (λ h. FoldsTo R h ys last) (sym first) second
calls_after R f g last (x ∷ xs) ys first second = (first.0, first.1, calls_after R first.0 g last xs ys first.2 second)

-- the calls that led from the callback as it was to what it is now
pub record SoFar {F : Type 0} (R : F → ℕ → F → Type 0) (k : EventKind) (max : ℕ) (w : Wait) (begun now : F) : Type 0 where
  pub ids : List ℕ
  pub goes : AllGoes k max w ids
  pub calls : FoldsTo R begun ids now

pub calls_begin : {F : Type 0} (R : F → ℕ → F → Type 0) (f : F) (k : EventKind) (max : ℕ) (m : WaitMode) (w : Wait) → w ≡ wait_begun k max true m → SoFar R k max w f f
calls_begin R f k max m w is = record { ids = []; goes = AllGoes-begun k max m w is; calls = refl }

pub calls_go_on : {F : Type 0} (R : F → ℕ → F → Type 0) (begun f g : F) (k : EventKind) (max n : ℕ) (w next : Wait) (p : EventProgress) →
    SoFar R k max w begun f → IsHoldBehind n w next p → FoldsTo R f (reported p) g → SoFar R k max next begun g
calls_go_on R begun f g k max n w next p far behind calls =
    let hold = hold_behind n w next p behind in
    let to = subst (λ (mid : Wait). AllGoes k max mid far.ids) (sym behind.4.after) (AllGoes-passed k max behind.4.count w far.ids far.goes) in
    record {
      ids = far.ids ++ reported p;
      goes = subst (λ (q : EventProgress). AllGoes k max next (far.ids ++ reported q)) (sym hold.3.made.progress) (AllGoes-next k max behind.0 next hold.2 far.ids to hold.3.made.goes_on);
      calls = calls_after R begun f g far.ids (reported p) far.calls calls;
    }

-- as a contract has it
pub calls_end : {F : Type 0} (R : F → ℕ → F → Type 0) (begun now : F) (k : EventKind) (max : ℕ) (w : Wait) → SoFar R k max w begun now → (ids : List ℕ) × AreHandedOver k max ids × FoldsTo R begun ids now
calls_end R begun now k max w far = (far.ids, AllGoes-stops k max w w.stage far.ids far.goes.on far.goes.at, far.calls)
