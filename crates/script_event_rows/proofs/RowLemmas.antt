-- Rows of events after a change, and what they answer.
use Rattle.std.proofs.Common.{◌≡◌, ℕ, zero, suc, ◌+◌, ◌-◌, ◌/◌, ◌%◌, ◌<◌, ◌≤◌, ◌^◌, Bool, true, false, refl, sym, ◌∙◌, ap, subst, arith, List, [], ◌∷◌, length, get_or}
use Rattle.std.specs.Prelude.{◌||◌, ◌==◌, not, nat_lt}
use Rattle.std.proofs.lemmas.Bool.{false≢true}
use Rattle.std.proofs.lemmas.Nat.Bits.{bit_at-zero}
use Rattle.std.specs.Global.{Vec}
use Rattle.std.specs.Int.{bit_at}
use Rattle.board_event_model.specs.Ids.{Ids, IsWord, is_set}
use Rattle.board_event_model.specs.declared.access.EventAccess.{EventAccess}
use Rattle.board_event_model.specs.declared.access.EventAccess.TheVariants as access
use Rattle.board_event_model.specs.declared.access.EventAnswer.TheVariants as answer
use Rattle.board_event_model.specs.EventMemory.{CanPerform, Event, after, push_answer}
use Rattle.script_event_rows.specs.declared.event_row.EventRow.{EventRow}
use Rattle.script_event_rows.specs.EventRows.{AnswersRight, Becomes, OfSome, StandsFor}
use Rattle.script_event_rows.specs.IdWords.{Become, HaveIds}

-- ---- the words that an access needs are there

past_is : (ws : List ℕ) (i : ℕ) → length ws ≤ i → get_or ws i 0 ≡ 0
past_is [] i h = refl
past_is (w ∷ ws) zero h = absurd (omega arith)
past_is (w ∷ ws) (suc i) h = past_is ws i (omega arith)

past_not : (ws : List ℕ) (q : ℕ) → length ws ≤ q / 64 → is_set ws q ≡ false
past_not ws q h = ap (λ (w : ℕ). bit_at w (q % 64) == 1) (past_is ws (q / 64) h) ∙ ap (λ (b : ℕ). b == 1) (bit_at-zero (q % 64))

set_low : (ws : List ℕ) (q : ℕ) → is_set ws q ≡ true → q / 64 < length ws
set_low ws q h =
    let f : (length ws ≤ q / 64 → ⊥) = (λ l. false≢true (sym (past_not ws q l) ∙ h)) in
    omega arith

pub set_room : (row : EventRow) (id : ℕ) → OfSome row (λ e. CanPerform e (access.Set id)) → id / 64 < length row.pending.items
set_room row id h =
    let n = h.1.words h.2.kind in
    let low : id ≤ h.0.max = h.2.inside in
    let d : id / 64 ≤ h.0.max / 64 = omega arith in
    omega (arith, n, d)

pub scan_room : (row : EventRow) (k : ℕ) → OfSome row (λ e. CanPerform e (access.Scan k)) → k < length row.pending.items
scan_room row k h =
    let n = h.1.words h.2.kind in
    let low : k < h.0.max / 64 + 1 = h.2.inside in
    omega (arith, n, low)

pub swap_room : (row : EventRow) (k : ℕ) → OfSome row (λ e. CanPerform e (access.Swap k)) → k < length row.pending.items
swap_room row k h =
    let n = h.1.words h.2.kind in
    let low : k < h.0.max / 64 + 1 = h.2.inside in
    omega (arith, n, low)

pub clear_set : (row : EventRow) (id : ℕ) → OfSome row (λ e. CanPerform e (access.Clear id)) → is_set row.pending.items id ≡ true
clear_set row id h = sym (h.1.ids id) ∙ h.2.inside

pub clear_room : (row : EventRow) (id : ℕ) → OfSome row (λ e. CanPerform e (access.Clear id)) → id / 64 < length row.pending.items
clear_room row id h = set_low row.pending.items id (clear_set row id h)

pub post_room : (row : EventRow) → OfSome row (λ e. CanPerform e access.Post) → row.signals < 2 ^ 64 - 1
post_room row h =
    let low : h.0.signals < 2 ^ 64 - 1 = h.2.inside in
    let same = h.1.signals in
    omega (arith, low, same)

-- ---- changes

pub becomes_ids : (row : EventRow) (words : Vec ℕ) (change : Ids → Ids) → Become row.pending.items words.items change → Becomes row (record row { pending = words }) (λ e. record e { pending = change e.pending })
becomes_ids row words change become e h = record {
  kind = h.kind;
  name = h.name;
  max = h.max;
  ids = become.ids e.pending h.ids;
  words = λ bits. become.count ∙ h.words bits;
  queue = h.queue;
  signals = h.signals;
  held = h.held;
  gone = h.gone;
  notifiers = h.notifiers;
}

pub becomes_signals : (row : EventRow) (n : ℕ) (change : ℕ → ℕ) → n ≡ change row.signals → Becomes row (record row { signals = n }) (λ e. record e { signals = change e.signals })
becomes_signals row n change is e h = record {
  kind = h.kind;
  name = h.name;
  max = h.max;
  ids = h.ids;
  words = h.words;
  queue = h.queue;
  signals = is ∙ ap change h.signals;
  held = h.held;
  gone = h.gone;
  notifiers = h.notifiers;
}

-- ---- answers

pub scans_right : (row : EventRow) (k v : ℕ) → ((ids : Ids) → HaveIds row.pending.items ids → IsWord ids k v) → AnswersRight row (access.Scan k) (answer.Word v)
scans_right row k v h e stands = (v, refl, h e.pending stands.ids)

pub swaps_right : (row : EventRow) (k v : ℕ) → ((ids : Ids) → HaveIds row.pending.items ids → IsWord ids k v) → AnswersRight row (access.Swap k) (answer.Word v)
swaps_right row k v h e stands = (v, refl, h e.pending stands.ids)

pub clears_right : (row : EventRow) (id : ℕ) → OfSome row (λ e. CanPerform e (access.Clear id)) → AnswersRight row (access.Clear id) answer.Done
clears_right row id can e stands = (refl, stands.ids id ∙ clear_set row id can)

-- ---- pushes

pub gone_push : (row : EventRow) (e : Event) → StandsFor row e → (not row.held || row.gone) ≡ true → answer.Gone ≡ push_answer e
gone_push row e h b =
    let c : (not e.held || e.gone) ≡ true = rw (sym h.held, sym h.gone) b in
    rw c refl

pub done_push : (row : EventRow) (e : Event) → StandsFor row e → (not row.held || row.gone) ≡ false → nat_lt (length row.queue.items) 512 ≡ true → answer.Done ≡ push_answer e
done_push row e h b few =
    let c : (not e.held || e.gone) ≡ false = rw (sym h.held, sym h.gone) b in
    let d : nat_lt (length e.queue) 512 ≡ true = rw (sym h.queue) few in
    rw (c, d) refl

pub full_push : (row : EventRow) (e : Event) → StandsFor row e → (not row.held || row.gone) ≡ false → nat_lt (length row.queue.items) 512 ≡ false → answer.Full ≡ push_answer e
full_push row e h b few =
    let c : (not e.held || e.gone) ≡ false = rw (sym h.held, sym h.gone) b in
    let d : nat_lt (length e.queue) 512 ≡ false = rw (sym h.queue) few in
    rw (c, d) refl
