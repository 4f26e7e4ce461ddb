-- What a running call's own steps have come to, and the laws that follow from them.
use Rattle.std.proofs.Common.{◌≡◌, ℕ, zero, suc, ◌+◌, ◌-◌, ◌*◌, ◌<◌, ◌≤◌, Bool, true, false, eqb, refl, sym, ◌∙◌, ap, inl, inr, arith, subst, List, [], ◌∷◌}
use Rattle.std.specs.Prelude.{◌&&◌, not, if◌then◌else◌, ◌==◌}
use Rattle.std.proofs.lemmas.Nat.Bits.{bit_at-zero}
use Rattle.std.specs.Int.{bit_at}
use Rattle.board_event_model.specs.declared.access.EventAnswer.{EventAnswer}
use Rattle.board_event_model.specs.declared.call.EventProgress.{EventProgress}
use Rattle.board_event_model.specs.declared.call.EventProgress.TheVariants as progress
use Rattle.board_event_model.specs.declared.call.WaitStage.{WaitStage}
use Rattle.board_event_model.specs.declared.call.WaitStage.TheVariants as wait
use Rattle.board_event_model.specs.Ids.{Ids, IsWord, has, ids_where}
use Rattle.board_event_model.specs.EventMemory.{Event, IsRight, oldest, pop_answer, taken}
use Rattle.board_event_model.specs.NotifyCalls.{is_yes}
use Rattle.board_event_model.specs.WaitCalls.{Wait, is_try, nothing, popped, scanned, swapped, wait_owed, wait_turn, word_in}
use Rattle.board_event_model.specs.EventCalls.{reported}
use Rattle.board_event_model.proofs.SetLemmas.{is_false, either}
use Rattle.board_event_model.proofs.QuietLemmas.{eqb_true, word_empty}

-- ---- the ids of a word

pub ids_same : (p q : ℕ → Bool) (at n : ℕ) → ((i : ℕ) → at ≤ i → i < at + n → p i ≡ q i) → ids_where p at n ≡ ids_where q at n
ids_same p q at zero h = refl
ids_same p q at (suc n) h =
    let rest = ids_same p q (at + 1) n (λ i low high. h i (omega arith) (omega arith)) in
    rw (h at (omega arith) (omega arith)) (rw rest refl)

pub ids_none : (p : ℕ → Bool) (at n : ℕ) → ((i : ℕ) → at ≤ i → i < at + n → p i ≡ false) → ids_where p at n ≡ []
ids_none p at zero h = refl
ids_none p at (suc n) h = rw (h at (omega arith) (omega arith)) (ids_none p (at + 1) n (λ i low high. h i (omega arith) (omega arith)))

flag_test : (b : Bool) → eqb (if b then 1 else 0) 1 ≡ b
flag_test true = refl
flag_test false = refl

pub bit_test : (ids : Ids) (k v i : ℕ) → IsWord ids k v → 64 * k ≤ i → i < 64 * k + 64 → eqb (bit_at v (i - 64 * k)) 1 ≡ has ids i
bit_test ids k v i w low high =
    let at : 64 * k + (i - 64 * k) ≡ i = omega arith in
    ap (λ (b : ℕ). eqb b 1) (w.bits (i - 64 * k) (omega arith)) ∙ flag_test _ ∙ ap (has ids) at

pub word_ids : (ids : Ids) (k v : ℕ) → IsWord ids k v → ids_where (λ i. bit_at v (i - 64 * k) == 1) (64 * k) 64 ≡ ids_where (has ids) (64 * k) 64
word_ids ids k v w = ids_same _ (has ids) (64 * k) 64 (λ i low high. bit_test ids k v i w low high)

pub empty_ids : (ids : Ids) (k : ℕ) → IsWord ids k 0 → ids_where (has ids) (64 * k) 64 ≡ []
empty_ids ids k w = ids_none (has ids) (64 * k) 64 (λ i low high. is_false _ (λ h. word_empty ids k i w h (omega arith)))

zero_bit : (i : ℕ) → eqb (bit_at 0 (i - 0)) 1 ≡ false
zero_bit i = ap (λ (b : ℕ). eqb b 1) (bit_at-zero (i - 0))

no_ids : reported (progress.Took 0 0 true) ≡ []
no_ids = ids_none (λ i. eqb (bit_at 0 (i - 0)) 1) 0 64 (λ i low high. zero_bit i)

-- ---- each step of a wait reports what it takes

nothing_told : (w : Wait) → reported (nothing w).0 ≡ []
nothing_told w = elim (is_try w.mode) as (λ b. reported (if◌then◌else◌ {A = EventProgress × WaitStage} b (progress.Nothing, wait.Finished) (progress.More, wait.Look)).0 ≡ []) [ true ↦ refl | false ↦ refl ]

scan_told : (w : Wait) (k v : ℕ) → reported (scanned w k v).0 ≡ []
scan_told w k v =
    elim (either (eqb v 0)) [
      | inl z ↦ rw z (elim (either (eqb (k + 1) w.words)) [ inl end ↦ rw end (nothing_told w) | inr on ↦ rw on refl ])
      | inr s ↦ rw s refl
    ]

pub swap_told : (w : Wait) (ids : Ids) (k : ℕ) (some : Bool) (v : ℕ) → IsWord ids k v → reported (swapped w k some v).0 ≡ ids_where (has ids) (64 * k) 64
swap_told w ids k some v is =
    elim (either (eqb v 0)) [
      | inl z ↦ (
          let none = empty_ids ids k (subst (IsWord ids k) (eqb_true v 0 z) is) in
          elim (either (eqb (k + 1) w.words)) [
            | inl end ↦ rw (end, z) (elim (either some) [
              | inl y ↦ rw y (word_ids ids k v is)
              | inr f ↦ rw f (nothing_told w ∙ sym none)
            ])
            | inr on ↦ rw (on, z) (sym none)
          ])
      | inr s ↦ elim (either (eqb (k + 1) w.words)) [
        | inl end ↦ rw (end, s) (elim (either some) [
          | inl y ↦ rw y (word_ids ids k v is)
          | inr f ↦ rw f (word_ids ids k v is)
        ])
        | inr on ↦ rw (on, s) (word_ids ids k v is)
      ]
    ]

pop_told : (w : Wait) (n : ℕ) (queue : List ℕ) → reported (popped w n (pop_answer queue)).0 ≡ oldest queue
pop_told w n (x ∷ xs) = elim (w.many && not (n + 1 == 513)) as (λ b. reported (if◌then◌else◌ {A = EventProgress × WaitStage} b (progress.Id x false, wait.Pop (n + 1)) (progress.Id x true, wait.Finished)).0 ≡ x ∷ []) [ true ↦ refl | false ↦ refl ]
pop_told w n [] =
    elim (either (eqb n 0)) [
      | inl z ↦ rw z (elim (is_try w.mode) as (λ b. reported (if◌then◌else◌ {A = EventProgress × WaitStage} b (progress.Nothing, wait.Finished) (progress.Waiting, wait.Pop 0)).0 ≡ []) [ true ↦ refl | false ↦ refl ])
      | inr s ↦ rw s no_ids
    ]

pub wait_told : (e : Event) (w : Wait) (stage : WaitStage) (a : EventAnswer) → IsRight e (wait_owed stage) a → reported (wait_turn w stage a).0 ≡ taken e (wait_owed stage)
wait_told e w wait.Drain a right = refl
wait_told e w (wait.Scan k) a right = scan_told w k (word_in a)
wait_told e w (wait.Clear id) a right = refl
wait_told e w (wait.Swap k some) a right =
    ap (λ (b : EventAnswer). reported (swapped w k some (word_in b)).0) right.1 ∙ swap_told w e.pending k some right.0 right.2
wait_told e w wait.Look a right = elim (is_yes a) as (λ b. reported (if◌then◌else◌ {A = EventProgress × WaitStage} b (progress.More, wait.Drain) (progress.Waiting, wait.Look)).0 ≡ []) [ true ↦ refl | false ↦ refl ]
wait_told e w (wait.Pop n) a right = ap (λ (b : EventAnswer). reported (popped w n b).0) right ∙ pop_told w n e.queue
wait_told e w wait.Finished a right = refl
