-- The step-invariants on which the quiet law rests, over plain variables.
use Rattle.std.proofs.Common.{◌≡◌, ℕ, ◌+◌, ◌*◌, ◌/◌, ◌%◌, ◌<◌, ◌≤◌, ◌^◌, Bool, true, false, eqb, ltb, refl, sym, ◌∙◌, ap, inl, inr, arith, subst, Some, List, ◌∷◌}
use Rattle.std.specs.Prelude.{◌||◌, not, if◌then◌else◌, ◌==◌}
use Rattle.std.proofs.lemmas.Bool.{false≢true}
use Rattle.std.proofs.lemmas.Bool.Decides.{Decides-eqb, Decides-ltb}
use Rattle.std.proofs.lemmas.Nat.Bits.{bit_at-trailing_zeros, bit_at-zero}
use Rattle.std.specs.Int.{bit_at, trailing_zeros, w64}
use Rattle.board_event_model.specs.declared.access.EventAccess.{EventAccess}
use Rattle.board_event_model.specs.declared.access.EventAccess.TheVariants as access
use Rattle.board_event_model.specs.declared.access.EventAnswer.{EventAnswer}
use Rattle.board_event_model.specs.declared.call.EventProgress.{EventProgress}
use Rattle.board_event_model.specs.declared.call.EventProgress.TheVariants as progress
use Rattle.board_event_model.specs.declared.call.NotifyStage.{NotifyStage}
use Rattle.board_event_model.specs.declared.call.NotifyStage.TheVariants as notify
use Rattle.board_event_model.specs.declared.call.WaitStage.{WaitStage}
use Rattle.board_event_model.specs.declared.call.WaitStage.TheVariants as wait
use Rattle.board_event_model.specs.Ids.{Ids, IsWord, has, in_word}
use Rattle.board_event_model.specs.EventMemory.{Event, IsRight, after, yes_or_no}
use Rattle.board_event_model.specs.NotifyCalls.{Notify, is_yes, notify_owed, notify_turn}
use Rattle.board_event_model.specs.WaitCalls.{Wait, first_word, is_try, least_id, nothing, scanned, swapped, wait_owed, wait_turn, word_in}
use Rattle.board_event_model.specs.EventCalls.{is_last, TakenAccess}
use Rattle.board_event_model.specs.LawsOfQuiet.{IsOpen, IsQuiet, has_ended, sets, last_setter, words_seen}
use Rattle.board_event_model.proofs.SetLemmas.{or_split, and_split, not_true, is_false, either, has_inserted, has_retained}

pub eqb_true : (a b : ℕ) → eqb a b ≡ true → a ≡ b
eqb_true a b h = (Decides-eqb a b).0 h

pub ltb_false : (a b : ℕ) → ltb a b ≡ false → b ≤ a
ltb_false a b h = let f : (a < b → ⊥) = (λ l. false≢true (sym h ∙ (Decides-ltb a b).1 l)) in omega arith

pub ltb_true : (a b : ℕ) → ltb a b ≡ true → a < b
ltb_true a b h = (Decides-ltb a b).0 h

pub eqb_self : (a : ℕ) → eqb a a ≡ true
eqb_self a = (Decides-eqb a a).1 refl

-- the stage at which a notify posts
abbrev pub is_posting : NotifyStage → Bool
is_posting notify.Look = false
is_posting notify.Set = false
is_posting notify.Post = true
is_posting notify.Push = false
is_posting notify.Finished = false

-- what a running notify on bits knows
abbrev pub NotifyFits : ℕ → Notify → NotifyStage → Type 0
NotifyFits max n notify.Look = n.max ≡ max
NotifyFits max n notify.Set = n.id ≤ max
NotifyFits max n notify.Post = n.id ≤ max
NotifyFits max n notify.Push = ⊥
NotifyFits max n notify.Finished = ⊥

abbrev pub StageFits : Wait → WaitStage → Type 0
StageFits w wait.Drain = Unit {0}
StageFits w (wait.Scan k) = (k < w.words) × (w.many ≡ false)
StageFits w (wait.Clear id) = w.many ≡ false
StageFits w (wait.Swap k some) = (k < w.words) × (w.many ≡ true)
StageFits w wait.Look = Unit {0}
StageFits w (wait.Pop n) = ⊥
StageFits w wait.Finished = ⊥

pub open_after : (id : ℕ) (t : TakenAccess) (h : List TakenAccess) → IsOpen id h → sets t.access id ≡ false → (last_setter id h ≡ Some t.call → t.last ≡ false) → IsOpen id (t ∷ h)
open_after id t h o other goes_on = record {
  setter = o.setter;
  last = rw other o.last;
  unfinished = is_false _ (λ f. elim (or_split _ _ f) [
    | inl g ↦ (let w = and_split _ _ g in
        false≢true (sym (goes_on (o.last ∙ ap Some (sym (eqb_true _ _ w.0)))) ∙ w.1))
    | inr g ↦ false≢true (sym o.unfinished ∙ g)
  ]);
}

-- the notify that set an id, and hasn't finished
pub open_set : (id m : ℕ) (h : List TakenAccess) → has_ended m h ≡ false → IsOpen id (record { call = m; access = access.Set id; last = false } ∷ h)
open_set id m h f = record {
  setter = m;
  last = rw (eqb_self id) refl;
  unfinished = is_false _ (λ g. elim (or_split _ _ g) [
    | inl k ↦ false≢true (and_split _ _ k).1
    | inr k ↦ false≢true (sym f ∙ k)
  ]);
}

pub notify_keeps :
    (e : Event) (h : List TakenAccess) (c m : ℕ) (n : Notify) (stage : NotifyStage) (a : EventAnswer) → NotifyFits e.max n stage
    → ((i : ℕ) → last_setter i h ≡ Some m → is_posting stage ≡ true) → has_ended m h ≡ false → IsQuiet e h c
    → IsQuiet (after e (notify_owed n.id stage)) (record { call = m; access = notify_owed n.id stage; last = is_last (notify_turn n stage a).0 } ∷ h) c
notify_keeps e h c m n notify.Look a fits unset running q = λ z i p b. open_after i _ h (q z i p b) refl (λ s. absurd (false≢true (unset i s)))
notify_keeps e h c m n notify.Set a fits unset running q = λ z i p b.
    elim (has_inserted e.pending n.id i p) [
      | inl same ↦ subst (λ (x : ℕ). IsOpen i (record { call = m; access = access.Set x; last = false } ∷ h)) same (open_set i m h running)
      | inr o ↦ elim (either (eqb n.id i)) [
        | inl same ↦ subst (λ (x : ℕ). IsOpen i (record { call = m; access = access.Set x; last = false } ∷ h)) (sym (eqb_true _ _ same)) (open_set i m h running)
        | inr apart ↦ open_after i _ h (q z i o b) apart (λ _. refl)
      ]
    ]
notify_keeps e h c m n notify.Post a fits unset running q = λ z i p b. absurd (omega arith)
notify_keeps e h c m n notify.Push a fits unset running q = absurd fits
notify_keeps e h c m n notify.Finished a fits unset running q = absurd fits

-- ---- a wait's own step

pub bit_one : (ids : Ids) (k v id : ℕ) → IsWord ids k v → has ids id ≡ true → id / 64 ≡ k → bit_at v (id % 64) ≡ 1
bit_one ids k v id w h same =
    let at : id ≡ 64 * k + id % 64 = omega arith in
    w.bits (id % 64) (omega arith) ∙ ap (λ (b : Bool). if b then 1 else 0) (ap (has ids) (sym at) ∙ h)

both_ways : (a : ℕ) → a ≡ 0 → a ≡ 1 → ⊥
both_ways a e f = omega arith

pub word_empty : (ids : Ids) (k id : ℕ) → IsWord ids k 0 → has ids id ≡ true → id / 64 ≡ k → ⊥
word_empty ids k id w h same =
    both_ways (bit_at 0 (id % 64)) (bit_at-zero (id % 64)) (bit_one ids k 0 id w h same)

-- what its steps keep: it sets nothing, and goes on
pub wait_open : (id m : ℕ) (a : EventAccess) (h : List TakenAccess) → sets a id ≡ false → IsOpen id h → IsOpen id (record { call = m; access = a; last = false } ∷ h)
wait_open id m a h other o = open_after id _ h o other (λ _. refl)

-- a turn that goes on, and keeps the words before it quiet
abbrev pub Goes : Event → List TakenAccess → ℕ → ℕ → EventAccess → EventProgress × WaitStage → Type 0
Goes e h m words a t = is_last t.0 ≡ false → IsQuiet (after e a) (record { call = m; access = a; last = is_last t.0 } ∷ h) (words_seen words t.1)

none_covered : (e : Event) (h : List TakenAccess) → IsQuiet e h 0
none_covered e h = λ z i p b. absurd (omega arith)

nothing_goes : (e : Event) (h : List TakenAccess) (m : ℕ) (w : Wait) (a : EventAccess) → IsQuiet (after e a) (record { call = m; access = a; last = false } ∷ h) w.words → Goes e h m w.words a (nothing w)
nothing_goes e h m w a q =
    elim (is_try w.mode) as (λ b. Goes e h m w.words a (if b then (progress.Nothing, wait.Finished) else (progress.More, wait.Look))) [
      | true ↦ λ l. absurd (false≢true (sym l))
      | false ↦ λ _. q
    ]

-- the least id of a word is one of its own
least_word : (k v : ℕ) → v < 2 ^ 64 → eqb v 0 ≡ false → least_id k v / 64 ≡ k
least_word k v low some =
    let apart : (v ≡ 0 → ⊥) = (λ e. false≢true (sym some ∙ (Decides-eqb v 0).1 e)) in
    let t = bit_at-trailing_zeros w64 v (omega arith) low in
    let inside : trailing_zeros w64 v < 64 = t.0 in
    omega arith

scan_goes : (e : Event) (h : List TakenAccess) (m : ℕ) (w : Wait) (k v : ℕ) → IsWord e.pending k v → k < w.words → IsQuiet e h k → Goes e h m w.words (access.Scan k) (scanned w k v)
scan_goes e h m w k v is low q =
    elim (either (eqb v 0)) [
      | inl zero ↦ (
          let more : IsQuiet e (record { call = m; access = access.Scan k; last = false } ∷ h) (k + 1) =
          λ z i p b. wait_open i m _ h refl (q z i p (
          let apart : (i / 64 ≡ k → ⊥) = word_empty e.pending k i (subst (IsWord e.pending k) (eqb_true v 0 zero) is) p in omega arith)) in
          rw zero (elim (either (eqb (k + 1) w.words)) [
            | inl end ↦ rw end (nothing_goes e h m w _ (subst (IsQuiet e (record { call = m; access = access.Scan k; last = false } ∷ h)) (eqb_true _ _ end) more))
            | inr on ↦ rw on (λ _. more)
          ]))
      | inr some ↦ rw some (λ _ z i p b. wait_open i m _ h refl (q z i p (
          let found = least_word k v is.small some in omega arith)))
    ]

swap_goes : (e : Event) (h : List TakenAccess) (m : ℕ) (w : Wait) (k : ℕ) (some : Bool) (v : ℕ) → IsWord e.pending k v → k < w.words → IsQuiet e h k → Goes e h m w.words (access.Swap k) (swapped w k some v)
swap_goes e h m w k some v is low q =
    let more : IsQuiet (after e (access.Swap k)) (record { call = m; access = access.Swap k; last = false } ∷ h) (k + 1) =
    λ z i p b. (
    let r = has_retained e.pending (λ j. not (in_word k j)) i p in
    let apart : (i / 64 ≡ k → ⊥) = (λ s. false≢true (sym (not_true _ r.1) ∙ (Decides-eqb _ _).1 s)) in
    wait_open i m _ h refl (q z i r.0 (omega arith))) in
    elim (either (eqb (k + 1) w.words)) [
      | inl end ↦ rw end (
          elim (some || not (v == 0)) as (λ b. Goes e h m w.words (access.Swap k) (if b then (progress.Took (64 * k) v true, wait.Finished) else nothing w)) [
            | true ↦ λ l. absurd (false≢true (sym l))
            | false ↦ nothing_goes e h m w _ (subst (IsQuiet (after e (access.Swap k)) (record { call = m; access = access.Swap k; last = false } ∷ h)) (eqb_true _ _ end) more)
          ])
      | inr on ↦ rw on (
          elim (v == 0) as (λ b. Goes e h m w.words (access.Swap k) ((if b then progress.More else progress.Took (64 * k) v false), wait.Swap (k + 1) (some || not b))) [
            | true ↦ λ _. more
            | false ↦ λ _. more
          ])
    ]

first_goes : (e : Event) (h : List TakenAccess) (words : ℕ) (many : Bool) → IsQuiet e h (words_seen words (first_word many))
first_goes e h words true = none_covered e h
first_goes e h words false = none_covered e h

no_signal : (b : Bool) (a : EventAnswer) → a ≡ yes_or_no b → is_yes a ≡ false → b ≡ false
no_signal true a e f = absurd (false≢true (sym f ∙ ap is_yes e))
no_signal false a e f = refl

pub wait_goes : (e : Event) (h : List TakenAccess) (m : ℕ) (w : Wait) (stage : WaitStage) (a : EventAnswer) → IsRight e (wait_owed stage) a → StageFits w stage → IsQuiet e h (words_seen w.words stage) → Goes e h m w.words (wait_owed stage) (wait_turn w stage a)
wait_goes e h m w wait.Drain a right fits q =
    elim (is_yes a) as (λ b. Goes e h m w.words access.Signal (progress.More, if b then wait.Drain else first_word w.many)) [
      | true ↦ λ _ z i p b. absurd (omega arith)
      | false ↦ λ _. first_goes (after e access.Signal) (record { call = m; access = access.Signal; last = false } ∷ h) w.words w.many
    ]
wait_goes e h m w (wait.Scan k) a right fits q =
    subst (λ (b : EventAnswer). Goes e h m w.words (access.Scan k) (scanned w k (word_in b))) (sym right.1) (scan_goes e h m w k right.0 right.2 fits.0 q)
wait_goes e h m w (wait.Clear id) a right fits q = λ l. absurd (false≢true (sym l))
wait_goes e h m w (wait.Swap k some) a right fits q =
    subst (λ (b : EventAnswer). Goes e h m w.words (access.Swap k) (swapped w k some (word_in b))) (sym right.1) (swap_goes e h m w k some right.0 right.2 fits.0 q)
wait_goes e h m w wait.Look a right fits q =
    elim (either (is_yes a)) [
      | inl y ↦ rw y (λ _ z i p b. absurd (omega arith))
      | inr n ↦ rw n (λ _ z i p b. wait_open i m _ h refl (q (
          let s : e.signals ≤ 0 = ltb_false 0 e.signals (no_signal _ a right n) in omega arith) i p b))
    ]
wait_goes e h m w (wait.Pop n) a right fits q = absurd fits
wait_goes e h m w wait.Finished a right fits q = absurd fits
