-- The runs that were worked out by hand.
use Rattle.std.proofs.Common.{◌≡◌, ℕ, ◌+◌, ◌*◌, ◌<◌, ◌⊎◌, Bool, true, refl, sym, ◌∙◌, ap, arith, inl, inr, lit<}
use Rattle.std.specs.Prelude.{if◌then◌else◌}
use Rattle.std.proofs.lemmas.Bool.{false≢true}
use Rattle.std.proofs.lemmas.Nat.Bits.{bit_at-zero}
use Rattle.std.specs.FinSet as set
use Rattle.board_event_model.specs.declared.access.EventAnswer.TheVariants as answer
use Rattle.board_event_model.specs.Ids.{has, IsWord}
use Rattle.board_event_model.specs.WorkedRuns.{RunsOnBits, RunsOnQueue, RunsOnTwoWords, a_look_before_the_post, a_made_up_id, a_post_before_the_set, a_wait_between_words, an_expire_after_a_look, an_expire_after_a_pop, an_expire_for_all_after_a_pop, an_expire_after_a_signal, an_expire_after_an_id, an_expire_after_the_drain, an_expire_between_words, an_expire_of_a_blocking_wait, an_expire_of_a_wait_for_all, an_expire_that_drops_an_id, an_expire_that_leaves_an_id, an_expire_that_misses_an_id}
use Rattle.board_event_model.proofs.SetLemmas.{is_false, has_empty, has_inserted, has_itself}

no_word : (k : ℕ) → IsWord set.empty k 0
no_word k = record {
  small = lit< tt;
  bits = λ i low. bit_at-zero i ∙ ap (λ (b : Bool). if b then 1 else 0) (sym (is_false (has set.empty (64 * k + i)) (has_empty (64 * k + i))));
}

pub look_runs : RunsOnBits a_look_before_the_post
look_runs = ((((((((tt, (refl, (refl, refl))), (refl, refl)), (refl, (0, refl, no_word 0))), (refl, refl)), (refl, refl)), (refl, refl)), (refl, refl)), (refl, refl))

pub expire_runs : RunsOnBits an_expire_after_a_look
expire_runs = (((((tt, (refl, (refl, refl))), (refl, refl)), (refl, (0, refl, no_word 0))), (refl, refl)), (refl, refl))

pub all_runs : RunsOnBits an_expire_of_a_wait_for_all
all_runs = (((((tt, (refl, (refl, refl))), (refl, refl)), (refl, (0, refl, no_word 0))), (refl, refl)), (refl, refl))

pub queue_runs : RunsOnQueue an_expire_after_a_pop
queue_runs = (((tt, (refl, (refl, refl))), (refl, refl)), (refl, refl))

pub queue_all_runs : RunsOnQueue an_expire_for_all_after_a_pop
queue_all_runs = (((tt, (refl, (refl, refl))), (refl, refl)), (refl, refl))

pub post_is_wrong : RunsOnBits a_post_before_the_set → ⊥
post_is_wrong h = let owed = h.1.0 in cc

some_word : (v : ℕ) → answer.Word 1 ≡ answer.Word v → IsWord set.empty 0 v → ⊥
some_word v e w =
    let v_is : 1 ≡ v = cc in
    let none = is_false (has set.empty 0) (has_empty 0) in
    let bit = w.bits 0 (lit< tt) in
    absurd cc

pub id_is_wrong : RunsOnBits a_made_up_id → ⊥
id_is_wrong h = some_word h.1.1.0 h.1.1.1 h.1.1.2

pub timed_is_wrong : RunsOnBits an_expire_after_the_drain → ⊥
timed_is_wrong h = false≢true h.1.1

pub blocking_is_wrong : RunsOnBits an_expire_of_a_blocking_wait → ⊥
blocking_is_wrong h = false≢true h.1.0

pub signal_is_wrong : RunsOnBits an_expire_after_a_signal → ⊥
signal_is_wrong h = false≢true h.1.1

pub all_is_wrong : RunsOnBits an_expire_that_leaves_an_id → ⊥
all_is_wrong h = false≢true h.1.1

pub taken_is_wrong : RunsOnBits an_expire_that_drops_an_id → ⊥
taken_is_wrong h = h.1

pub popped_is_wrong : RunsOnQueue an_expire_after_an_id → ⊥
popped_is_wrong h = false≢true h.1.1

-- a word in which an id is pending isn't empty
pending_word : (v : ℕ) → answer.Word 0 ≡ answer.Word v → IsWord (set.insert set.empty 32) 0 v → ⊥
pending_word v e w =
    let v_is : 0 ≡ v = cc in
    let some = has_itself set.empty 32 in
    let bit = w.bits 32 (lit< tt) in
    let none = bit_at-zero 32 in
    absurd cc

pub missed_is_wrong : RunsOnBits an_expire_that_misses_an_id → ⊥
missed_is_wrong h = pending_word h.0.0.1.1.0 h.0.0.1.1.1 h.0.0.1.1.2

-- an id of the second word leaves the first one empty
first_word_is_empty : IsWord (set.insert set.empty 96) 0 0
first_word_is_empty = record {
  small = lit< tt;
  bits = λ i low. bit_at-zero i ∙ ap (λ (b : Bool). if b then 1 else 0) (sym (is_false (has (set.insert set.empty 96) (64 * 0 + i)) (λ h. none i low (has_inserted set.empty 96 (64 * 0 + i) h))));
}
  where
    none : (i : ℕ) → i < 64 → (64 * 0 + i ≡ 96) ⊎ (has set.empty (64 * 0 + i) ≡ true) → ⊥
    none i low (inl same) = absurd (omega (arith, low, same))
    none i low (inr old) = has_empty (64 * 0 + i) old

pub between_runs : RunsOnTwoWords a_wait_between_words
between_runs = ((((((tt, (refl, refl)), (refl, refl)), (refl, refl)), (refl, (refl, refl))), (refl, refl)), (refl, (0, refl, first_word_is_empty)))

pub early_is_wrong : RunsOnTwoWords an_expire_between_words → ⊥
early_is_wrong h = false≢true h.1.1
