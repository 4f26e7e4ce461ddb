-- A typed wait for one: the id that it gives is one of the words that hold the ids up to the greatest.
use Rattle.std.specs.Prelude.{◌≡◌, ◌<◌, ℕ, zero, suc, ◌+◌, ◌*◌, ◌/◌, ◌^◌, Bool, true, false, if◌then◌else◌, ⊤, refl}
use Rattle.std.proofs.Common.{sym, ◌∙◌, subst, arith, inl, inr, eqb, w64}
use Rattle.std.proofs.lemmas.Nat.Bits.{bit_at-trailing_zeros}
use Rattle.board_event_model.specs.declared.access.EventAnswer.{EventAnswer}
use Rattle.board_event_model.specs.declared.access.EventAnswer.TheVariants as answer
use Rattle.board_event_model.specs.declared.call.EventProgress.{EventProgress}
use Rattle.board_event_model.specs.declared.call.EventProgress.TheVariants as progress
use Rattle.board_event_model.specs.declared.call.WaitMode.{WaitMode}
use Rattle.board_event_model.specs.declared.call.WaitStage.{WaitStage}
use Rattle.board_event_model.specs.declared.call.WaitStage.TheVariants as wait
use Rattle.board_event_model.specs.declared.kind.EventKind.{EventKind}
use Rattle.board_event_model.specs.declared.kind.EventKind.TheVariants as kind
use Rattle.board_event_model.specs.NotifyCalls.{is_yes}
use Rattle.board_event_model.specs.WaitCalls.{Wait, is_try, least_id, nothing, scanned, wait_turn, word_in}
use Rattle.board_event_model.proofs.SetLemmas.{either}
use Rattle.board_event_core.specs.Passing.{passed}
use Rattle.board_event_core.specs.Turns.{wait_went_on}
use Rattle.board_event.specs.Accesses.{IsHoldBehind}
use Rattle.board_event.specs.Taking.{wait_begun}
use Rattle.board_event.specs.TypedCalls.{IsOfWords}
use Rattle.board_event.proofs.TryLemmas.{next_low}
use Rattle.board_event.proofs.WordLemmas.{differ}
use Rattle.board_event.proofs.TypedWaits.{IsWaitOn, IsWaitOn-begun, IsWaitOn-next, held_small, hold_behind, none_small}

-- ---- a wait for one: the word that it looks at is one of the set's, and so is the id that it is to take

abbrev pub OneAt : EventKind → ℕ → WaitStage → Type 0
OneAt kind.Queue words stage = ⊤
OneAt kind.Bits words wait.Drain = ⊤
OneAt kind.Bits words (wait.Scan word) = word < words
OneAt kind.Bits words (wait.Clear id) = id < 64 * words
OneAt kind.Bits words (wait.Swap word some) = ⊥
OneAt kind.Bits words wait.Look = ⊤
OneAt kind.Bits words (wait.Pop n) = ⊥
OneAt kind.Bits words wait.Finished = ⊤

nothing_one : (w : Wait) → OneAt kind.Bits w.words (nothing w).1
nothing_one w = by (is_try w.mode)
  where
    by : (b : Bool) → OneAt kind.Bits w.words (if◌then◌else◌ {A = EventProgress × WaitStage} b (progress.Nothing, wait.Finished) (progress.More, wait.Look)).1
    by true = tt
    by false = tt

scanned_one : (w : Wait) (word v : ℕ) → word < w.words → v < 2 ^ 64 → OneAt kind.Bits w.words (scanned w word v).1
scanned_one w word v low small =
    elim (either (eqb v 0)) [
      | inl z ↦ rw z (elim (either (eqb (word + 1) w.words)) [
        | inl end ↦ rw end (nothing_one w)
        | inr on ↦ rw on (next_low word w.words low on)
      ])
      | inr some ↦ rw some (let t = (bit_at-trailing_zeros w64 v (above v some) small).0 in omega (arith, t, low))
    ]
  where
    above : (x : ℕ) → eqb x 0 ≡ false → 0 < x
    above x h = let apart = differ x 0 h in omega arith

one_turn : (w : Wait) (stage : WaitStage) (a : EventAnswer) → w.many ≡ false → 0 < w.words → word_in a < 2 ^ 64 → OneAt kind.Bits w.words stage → OneAt kind.Bits w.words (wait_turn w stage a).1
one_turn w wait.Drain a many some small at = rw many (by (is_yes a))
  where
    by : (b : Bool) → OneAt kind.Bits w.words (if b then wait.Drain else wait.Scan 0)
    by true = tt
    by false = some
one_turn w (wait.Scan word) a many some small at = scanned_one w word (word_in a) at small
one_turn w (wait.Clear id) a many some small at = tt
one_turn w (wait.Swap word b) a many some small at = absurd at
one_turn w wait.Look a many some small at = by (is_yes a)
  where
    by : (b : Bool) → OneAt kind.Bits w.words (if◌then◌else◌ {A = EventProgress × WaitStage} b (progress.More, wait.Drain) (progress.Waiting, wait.Look)).1
    by true = tt
    by false = tt
one_turn w (wait.Pop n) a many some small at = absurd at
one_turn w wait.Finished a many some small at = tt

-- a wait for one, of which that is known
pub record OneGoes (k : EventKind) (max : ℕ) (w : Wait) : Type 0 where
  pub on : IsWaitOn k max false w
  pub at : OneAt k w.words w.stage

pub OneGoes-begun : (k : EventKind) (max : ℕ) (m : WaitMode) (w : Wait) → w ≡ wait_begun k max false m → OneGoes k max w
OneGoes-begun kind.Bits max m w is = record { on = IsWaitOn-begun kind.Bits max false m w is; at = (rw is tt) }
OneGoes-begun kind.Queue max m w is = record { on = IsWaitOn-begun kind.Queue max false m w is; at = tt }

OneGoes-next : (k : EventKind) (max : ℕ) (w next : Wait) (a : EventAnswer) → OneGoes k max w → word_in a < 2 ^ 64 → next ≡ wait_went_on w a → OneGoes k max next
OneGoes-next kind.Bits max w next a goes small is = record {
  on = IsWaitOn-next kind.Bits max false w next a goes.on is;
  at = (rw is (one_turn w w.stage a goes.on.many goes.on.some small goes.at));
}
OneGoes-next kind.Queue max w next a goes small is = record { on = IsWaitOn-next kind.Queue max false w next a goes.on is; at = tt }

OneGoes-passed : (k : EventKind) (max n : ℕ) (w : Wait) → OneGoes k max w → OneGoes k max (passed n w)
OneGoes-passed k max zero w goes = goes
OneGoes-passed k max (suc n) w goes = OneGoes-passed k max n (wait_went_on w (answer.Word 0)) (OneGoes-next k max w (wait_went_on w (answer.Word 0)) (answer.Word 0) goes none_small refl)

-- it goes on so after a hold of the lock
pub OneGoes-held : (k : EventKind) (max n : ℕ) (w next : Wait) (p : EventProgress) → OneGoes k max w → IsHoldBehind n w next p → OneGoes k max next
OneGoes-held k max n w next p goes behind =
    let hold = hold_behind n w next p behind in
    let to = subst (OneGoes k max) (sym behind.4.after) (OneGoes-passed k max behind.4.count w goes) in
    OneGoes-next k max behind.0 next hold.2 to (held_small n behind.0 next p hold) hold.3.made.goes_on

-- an id that it takes is one of the words
id_of_words : (k : EventKind) (max : ℕ) (w : Wait) (stage : WaitStage) (a : EventAnswer) (id : ℕ) (last : Bool) → IsWaitOn k max false w → OneAt k w.words stage →
    (wait_turn w stage a).0 ≡ progress.Id id last → IsOfWords k max id
id_of_words kind.Queue max w stage a id last on at is = tt
id_of_words kind.Bits max w wait.Drain a id last on at is = absurd (cc is)
id_of_words kind.Bits max w (wait.Scan word) a id last on at is = absurd (by (eqb (word_in a) 0) (eqb (word + 1) w.words) (is_try w.mode) is)
  where
    by : (b c d : Bool) →
        (if◌then◌else◌ {A = EventProgress × WaitStage} b (if◌then◌else◌ {A = EventProgress × WaitStage} c (if◌then◌else◌ {A = EventProgress × WaitStage} d (progress.Nothing, wait.Finished) (progress.More, wait.Look)) (progress.More, wait.Scan (word + 1))) (progress.More, wait.Clear (least_id word (word_in a)))).0 ≡ progress.Id id last → ⊥
    by true true true h = cc h
    by true true false h = cc h
    by true false d h = cc h
    by false c d h = cc h
id_of_words kind.Bits max w (wait.Clear i) a id last on at is =
    let same : i ≡ id = cc is in
    let words : w.words ≡ max / 64 + 1 = on.words refl in
    subst (λ (x : ℕ). x < 64 * (max / 64 + 1)) same (subst (λ (n : ℕ). i < 64 * n) words at)
id_of_words kind.Bits max w (wait.Swap word some) a id last on at is = absurd at
id_of_words kind.Bits max w wait.Look a id last on at is = absurd (by (is_yes a) is)
  where
    by : (b : Bool) → (if◌then◌else◌ {A = EventProgress × WaitStage} b (progress.More, wait.Drain) (progress.Waiting, wait.Look)).0 ≡ progress.Id id last → ⊥
    by true h = cc h
    by false h = cc h
id_of_words kind.Bits max w (wait.Pop n) a id last on at is = absurd at
id_of_words kind.Bits max w wait.Finished a id last on at is = absurd (cc is)

pub one_gives : (k : EventKind) (max n : ℕ) (w next : Wait) (p : EventProgress) (id : ℕ) (last : Bool) → OneGoes k max w → IsHoldBehind n w next p → p ≡ progress.Id id last → IsOfWords k max id
one_gives k max n w next p id last goes behind is =
    let hold = hold_behind n w next p behind in
    let to = subst (OneGoes k max) (sym behind.4.after) (OneGoes-passed k max behind.4.count w goes) in
    id_of_words k max behind.0 behind.0.stage hold.2 id last to.on to.at (sym hold.3.made.progress ∙ is)
