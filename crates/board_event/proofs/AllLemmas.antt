-- A wait for all that doesn't wait, on an event that nobody else has.
use Rattle.std.specs.Prelude.{◌≡◌, ◌≢◌, ◌<◌, ◌≤◌, ℕ, ◌+◌, ◌-◌, ◌*◌, ◌/◌, ◌^◌, Bool, true, false, not, ◌||◌, nat_lt, if◌then◌else◌, List, [], ◌∷◌, ◌++◌, length, drop, refl}
use Rattle.std.proofs.Common.{ap, sym, ◌∙◌, subst, arith, inl, inr, eqb}
use Rattle.std.proofs.lemmas.Bool.{false≢true}
use Rattle.std.proofs.lemmas.List.{append-nil}
use Rattle.std.specs.FinSet as set
use Rattle.std.specs.List.{FoldsTo}
use Rattle.board_event_model.specs.declared.access.EventAnswer.{EventAnswer}
use Rattle.board_event_model.specs.declared.access.EventAnswer.TheVariants as answer
use Rattle.board_event_model.specs.declared.call.EventProgress.{EventProgress}
use Rattle.board_event_model.specs.declared.call.WaitMode.TheVariants as mode
use Rattle.board_event_model.specs.declared.call.WaitStage.{WaitStage}
use Rattle.board_event_model.specs.declared.call.WaitStage.TheVariants as wait
use Rattle.board_event_model.specs.declared.kind.EventKind.{EventKind}
use Rattle.board_event_model.specs.declared.kind.EventKind.TheVariants as kind
use Rattle.board_event_model.specs.Ids.{Ids, has, ids_where, in_word}
use Rattle.board_event_model.specs.EventMemory.{CanPerform, Event, IsRight, after, kind_of_access, oldest, pop_answer, taken, yes_or_no}
use Rattle.board_event_model.specs.EventCalls.{reported}
use Rattle.board_event_model.specs.NotifyCalls.{is_yes}
use Rattle.board_event_model.specs.WaitCalls.{Wait, first_word, popped, swapped, wait_owed, wait_turn, word_in}
use Rattle.board_event_model.proofs.SetLemmas.{either, has_retain, has_retained, is_false, not_true}
use Rattle.board_event_model.proofs.QuietLemmas.{ltb_false, ltb_true}
use Rattle.board_event_model.proofs.TrackLemmas.{ids_none, ids_same, wait_told}
use Rattle.board_event_core.specs.EventTable.{EventTable, IsEventTable, with_event, CanPerformAt}
use Rattle.board_event_core.specs.IdSets.{IsListOf}
use Rattle.board_event_core.proofs.BitLemmas.{empty_is, same_ids}
use Rattle.board_event.specs.Accesses.{WaitMade}
use Rattle.board_event.specs.Ends.{NoneOfKind}
use Rattle.board_event.specs.LentForms.{AreWaiting, KeepsRestAt, OnEventAt, OnKindAt, StandsAs, all_taken, reached_taken, within, words_taken}
use Rattle.board_event.specs.Taking.{AllSoFar, NoneBelow, SameFrom, TryWait, to_come, wait_begun, with_pending, with_queue, with_signals}
use Rattle.board_event.proofs.OneLemmas.{begun_kind, not_made, wait_begins}
use Rattle.board_event.proofs.ReachLemmas.{IsListOf-first, IsOfKind, is_of_kind, stands_as, taken_all, within_all}
use Rattle.board_event.proofs.TableLemmas.{Became, Became-first, Became-next, at_event, event_here}
use Rattle.board_event.proofs.RestLemmas.{rest_first, rest_next}
use Rattle.board_event.proofs.TryLemmas.{TryWait-made}
use Rattle.board_event.proofs.WordLemmas.{differ, eqb_is, ids_where-parts}

-- ---- a word that is taken

-- the ids without those of a word
abbrev without_word : Ids → ℕ → Ids
without_word ids k = set.retain ids (λ i. not (in_word k i))

-- they have none of that word, and no other less
swap_below : (ids : Ids) (k : ℕ) → NoneBelow ids k → NoneBelow (without_word ids k) (k + 1)
swap_below ids k none i low = is_false _ found
  where
    found : has (without_word ids k) i ≡ true → ⊥
    found h =
        let kept = has_retained ids (λ j. not (in_word k j)) i h in
        elim (either (eqb (i / 64) k)) [
          | inl same ↦ false≢true (sym (ap not same) ∙ kept.1)
          | inr apart ↦ (let d = differ (i / 64) k apart in false≢true (sym (none i (omega arith)) ∙ kept.0))
        ]

same_bool : (a b : Bool) → (a ≡ true → b ≡ true) → (b ≡ true → a ≡ true) → a ≡ b
same_bool true b f g = sym (f refl)
same_bool false true f g = g refl
same_bool false false f g = refl

swap_kept : (ids : Ids) (k i : ℕ) → 64 * (k + 1) ≤ i → has (without_word ids k) i ≡ has ids i
swap_kept ids k i high = same_bool _ _
    (λ h. (has_retained ids (λ j. not (in_word k j)) i h).0)
    (λ h. has_retain ids (λ j. not (in_word k j)) i h (ap not (apart (i / 64) refl)))
  where
    apart : (j : ℕ) → i / 64 ≡ j → eqb j k ≡ false
    apart j is = is_false _ (λ h. (let same = eqb_is j k h in not_here (omega (arith, is, same))))
      where
        not_here : i < 64 * (k + 1) → ⊥
        not_here low = omega arith

-- once the last word was taken all others are left
swap_last : (e : Event) (now : Event) (k words : ℕ) → k + 1 ≡ words → NoneBelow now.pending k → SameFrom e.pending now.pending k → without_word now.pending k ≡ (words_taken kind.Bits words e).pending
swap_last e now k words end none same = same_ids (without_word now.pending k) (words_taken kind.Bits words e).pending there back
  where
    there : (i : ℕ) → has (without_word now.pending k) i ≡ true → has (words_taken kind.Bits words e).pending i ≡ true
    there i h = elim (either (nat_lt i (64 * words))) [
      | inl low ↦ (let under = ltb_true i (64 * words) low in absurd (false≢true (sym (swap_below now.pending k none i (omega arith)) ∙ h)))
      | inr high ↦ (
          let over = ltb_false i (64 * words) high in
          let kept = (has_retained now.pending (λ j. not (in_word k j)) i h).0 in
          has_retain e.pending (λ j. not (nat_lt j (64 * words))) i (sym (same i (omega arith)) ∙ kept) (ap not high))
    ]

    back : (i : ℕ) → has (words_taken kind.Bits words e).pending i ≡ true → has (without_word now.pending k) i ≡ true
    back i h =
        let kept = has_retained e.pending (λ j. not (nat_lt j (64 * words))) i h in
        let over = ltb_false i (64 * words) (not_true _ kept.1) in
        swap_kept now.pending k i (omega arith) ∙ same i (omega arith) ∙ kept.0

-- ---- what is to come

-- a word, and what comes after it
swap_comes : (ids : Ids) (k words : ℕ) → k < words → ids_where (has ids) (64 * k) (64 * (words - k)) ≡ ids_where (has ids) (64 * k) 64 ++ ids_where (has (without_word ids k)) (64 * (k + 1)) (64 * (words - (k + 1)))
swap_comes ids k words low =
    ids_where-parts (has ids) (64 * k) 64 (64 * (words - (k + 1))) (64 * (words - k)) (64 * (k + 1)) (omega arith) (omega arith)
    ∙ ap (λ (l : List ℕ). ids_where (has ids) (64 * k) 64 ++ l) (ids_same (has ids) (has (without_word ids k)) (64 * (k + 1)) (64 * (words - (k + 1))) (λ i from to. sym (swap_kept ids k i from)))

-- the last word is all
swap_comes_last : (ids : Ids) (k words : ℕ) → k + 1 ≡ words → ids_where (has ids) (64 * k) (64 * (words - k)) ≡ ids_where (has ids) (64 * k) 64 ++ []
swap_comes_last ids k words end = let one : 64 * (words - k) ≡ 64 = omega (arith, end) in ap (λ (n : ℕ). ids_where (has ids) (64 * k) n) one ∙ sym (append-nil (ids_where (has ids) (64 * k) 64))

-- ---- each access: how it goes on, and what was taken with what is to come
pub record AllStepped (k : EventKind) (e now next : Event) (words : ℕ) (was stage : WaitStage) (took : List ℕ) : Type 0 where
  pub far : AllSoFar k e next words stage
  pub ids : took ++ to_come next words stage ≡ to_come now words was

popped_ends : (w : Wait) (n : ℕ) → w.mode ≡ mode.Try → (popped w n answer.Empty).1 ≡ wait.Finished
popped_ends w n try =
    elim (either (eqb n 0)) [
      | inl z ↦ rw z (rw try refl)
      | inr some ↦ rw some refl
    ]

popped_more : (w : Wait) (n x : ℕ) → w.many ≡ true → n + 1 ≤ 512 → (popped w n (answer.Id x)).1 ≡ wait.Pop (n + 1)
popped_more w n x many low =
    let other : eqb (n + 1) 513 ≡ false = is_false _ (λ h. (let same = eqb_is (n + 1) 513 h in too_many (n + 1) low same)) in
    rw (many, other) refl
  where
    too_many : (m : ℕ) → m ≤ 512 → m ≡ 513 → ⊥
    too_many m low same = omega arith

pop_step : (e now : Event) (w : Wait) (n : ℕ) (queue : List ℕ) → w.mode ≡ mode.Try → w.many ≡ true → now ≡ with_queue e now.queue → now.queue ≡ queue → n + length queue ≤ 512 →
    AllStepped kind.Queue e now (with_queue now (drop 1 now.queue)) w.words (wait.Pop n) (popped w n (pop_answer queue)).1 (oldest queue)
pop_step e now w n [] try many is empty low = rw (popped_ends w n try) (record { far = left; ids = sym empty })
  where
    left : with_queue now (drop 1 now.queue) ≡ with_queue e []
    left = ap (λ (x : Event). with_queue x (drop 1 now.queue)) is ∙ ap (λ (q : List ℕ). with_queue e (drop 1 q)) empty
pop_step e now w n (x ∷ xs) try many is some low = rw (popped_more w n x many (omega arith)) (record {
  far = (refl, ap (λ (y : Event). with_queue y (drop 1 now.queue)) is, (rw some (omega arith)));
  ids = (rw some refl);
})

swap_step : (e now : Event) (w : Wait) (k v : ℕ) (some : Bool) → w.mode ≡ mode.Try → now ≡ with_pending e now.pending → k < w.words → NoneBelow now.pending k → SameFrom e.pending now.pending k →
    AllStepped kind.Bits e now (with_pending now (without_word now.pending k)) w.words (wait.Swap k some) (swapped w k some v).1 (ids_where (has now.pending) (64 * k) 64)
swap_step e now w k v some try whole low none same = elim (either (eqb (k + 1) w.words)) [
  | inl end ↦ rw end (elim (either (some || not (eqb v 0))) [
    | inl y ↦ rw y (ended (eqb_is (k + 1) w.words end))
    | inr f ↦ rw f (rw try (ended (eqb_is (k + 1) w.words end)))
  ])
  | inr on ↦ rw on (record {
    far = (
      refl,
      ap (λ (x : Event). with_pending x (without_word now.pending k)) whole,
      (let apart = differ (k + 1) w.words on in omega arith),
      swap_below now.pending k none,
      λ i high. swap_kept now.pending k i high ∙ same i (omega arith),
    );
    ids = sym (swap_comes now.pending k w.words low);
  })
]
  where
    ended : k + 1 ≡ w.words → AllStepped kind.Bits e now (with_pending now (without_word now.pending k)) w.words (wait.Swap k some) wait.Finished (ids_where (has now.pending) (64 * k) 64)
    ended last = record {
      far = ap (λ (x : Event). with_pending x (without_word now.pending k)) whole ∙ ap (with_pending e) (swap_last e now k w.words last none same);
      ids = sym (swap_comes_last now.pending k w.words last);
    }

drain_step : (e now : Event) (w : Wait) (b : Bool) → w.many ≡ true → 0 < w.words → now ≡ with_signals e now.signals → nat_lt 0 now.signals ≡ b →
    AllStepped kind.Bits e now (with_signals now (now.signals - 1)) w.words wait.Drain (if is_yes (yes_or_no b) then wait.Drain else first_word w.many) []
drain_step e now w true many some is h = record { far = (refl, ap (λ (x : Event). with_signals x (now.signals - 1)) is); ids = refl }
drain_step e now w false many some is h = rw many (record {
  far = (
    refl,
    ap (λ (x : Event). with_signals x (now.signals - 1)) is ∙ ap (with_signals e) (gone now.signals h) ∙ ap (λ (ids : Ids). with_pending e ids) (sym (ap (λ (x : Event). x.pending) is)),
    some,
    λ i low. absurd (omega arith),
    λ i high. ap (λ (x : Event). has x.pending i) is,
  );
  ids = refl;
})
  where
    gone : (s : ℕ) → nat_lt 0 s ≡ false → s - 1 ≡ 0
    gone s h = grind arith

-- each access of a wait for all
pub all_step : (k : EventKind) (e now : Event) (w : Wait) (stage : WaitStage) (a : EventAnswer) → w.mode ≡ mode.Try → w.many ≡ true → 0 < w.words →
    stage ≢ wait.Finished → AllSoFar k e now w.words stage → IsRight now (wait_owed stage) a → AllStepped k e now (after now (wait_owed stage)) w.words stage (wait_turn w stage a).1 (taken now (wait_owed stage))
all_step k e now w wait.Drain a try many some on far right = rw (far.0, right) (drain_step e now w (nat_lt 0 now.signals) many some far.1 refl)
all_step k e now w (wait.Scan n) a try many some on far right = absurd far
all_step k e now w (wait.Clear id) a try many some on far right = absurd far
all_step k e now w (wait.Swap n b) a try many some on far right =
    let quiet : with_pending now (without_word now.pending n) ≡ after now (wait_owed (wait.Swap n b)) = ap (λ (s : ℕ). record now { pending = without_word now.pending n; signals = s }) (sym (ap (λ (x : Event). x.signals) far.1)) in
    rw far.0 (subst (λ (x : Event). AllStepped kind.Bits e now x w.words (wait.Swap n b) (swapped w n b (word_in a)).1 (ids_where (has now.pending) (64 * n) 64)) quiet
    (swap_step e now w n (word_in a) b try far.1 far.2 far.3 far.4))
all_step k e now w wait.Look a try many some on far right = absurd far
all_step k e now w (wait.Pop n) a try many some on far right = rw (far.0, right) (pop_step e now w n now.queue try many far.1 refl far.2)
all_step k e now w wait.Finished a try many some on far right = absurd (on refl)

-- where it is kept from an access, it is past the last word of the set: what it reaches is taken, and nothing is to come
pub record AllCut (k : EventKind) (e now : Event) (words : ℕ) (stage : WaitStage) : Type 0 where
  pub left : now ≡ words_taken k words e
  pub none : to_come now words stage ≡ []

pub all_cut : (k : EventKind) (e now : Event) (words : ℕ) (stage : WaitStage) → IsOfKind k e → stage ≢ wait.Finished → AllSoFar k e now words stage → ¬ CanPerform now (wait_owed stage) → AllCut k e now words stage
all_cut k e now words wait.Drain is on far cannot = absurd (cannot (record { kind = rw far.1 (is.of_kind ∙ far.0); inside = tt }))
all_cut k e now words (wait.Scan n) is on far cannot = absurd far
all_cut k e now words (wait.Clear id) is on far cannot = absurd far
all_cut k e now words (wait.Swap n b) is on far cannot = rw far.0 (record {
  left = far.1 ∙ ap (with_pending e) (empty_is now.pending (λ i. is_false _ (none i)) ∙ sym (empty_is (words_taken kind.Bits words e).pending (λ i. is_false _ (none_past i))));
  none = ids_none (has now.pending) (64 * n) (64 * (words - n)) (λ i from to. is_false _ (none i));
})
  where
    past : (i : ℕ) → has e.pending i ≡ true → 64 * n ≤ i → ⊥
    past i h high = elim (either (nat_lt n (e.max / 64 + 1))) [
      | inl in_set ↦ (let low = ltb_true n (e.max / 64 + 1) in_set in cannot (record { kind = rw far.1 (is.of_kind ∙ far.0); inside = rw far.1 low }))
      | inr out ↦ (
          let over = ltb_false n (e.max / 64 + 1) out in
          let top = is.ids.low i h in
          too_high (omega arith))
    ]
      where
        too_high : i < 64 * n → ⊥
        too_high low = omega arith

    none : (i : ℕ) → has now.pending i ≡ true → ⊥
    none i h = elim (either (nat_lt i (64 * n))) [
      | inl low ↦ false≢true (sym (far.3 i (ltb_true i (64 * n) low)) ∙ h)
      | inr high ↦ (let over = ltb_false i (64 * n) high in past i (sym (far.4 i over) ∙ h) over)
    ]

    none_past : (i : ℕ) → has (words_taken kind.Bits words e).pending i ≡ true → ⊥
    none_past i h =
        let kept = has_retained e.pending (λ j. not (nat_lt j (64 * words))) i h in
        let over = ltb_false i (64 * words) (not_true _ kept.1) in
        let few = far.2 in
        past i kept.0 (omega arith)
all_cut k e now words wait.Look is on far cannot = absurd far
all_cut k e now words (wait.Pop n) is on far cannot = absurd (cannot (record { kind = rw far.1 (is.of_kind ∙ far.0); inside = tt }))
all_cut k e now words wait.Finished is on far cannot = absurd (on refl)

-- ---- the loop

-- calls on two lists are calls on the one after the other
FoldsTo-append : {F : Type 0} (R : F → ℕ → F → Type 0) (f g last : F) (xs ys : List ℕ) → FoldsTo R f xs g → FoldsTo R g ys last → FoldsTo R f (xs ++ ys) last
FoldsTo-append R f g last [] ys first second = subst (λ h. FoldsTo R h ys last) (sym first) second
FoldsTo-append R f g last (x ∷ xs) ys first second = (first.0, first.1, FoldsTo-append R first.0 g last xs ys first.2 second)

-- what holds of the loop: of the table at first and as it is, and of the calls that are still to come
pub record TakingAll {F : Type 0} (R : F → ℕ → F → Type 0) (begun f : F) (k : EventKind) (max n : ℕ) (t u : EventTable) (w : Wait) : Type 0 where
  pub table : IsEventTable t
  pub try : TryWait w true
  pub words : k ≡ kind.Bits → w.words ≡ max / 64 + 1
  pub far : OnKindAt k n t (λ e. (now : Event) × Became t u n now × AllSoFar k e now w.words w.stage
      × ((last : F) → FoldsTo R f (to_come now w.words w.stage) last → (ids : List ℕ) × AreWaiting k (within max e) ids × FoldsTo R begun ids last))
  pub gone : NoneOfKind k n t → (u ≡ t) × (kind_of_access (wait_owed w.stage) ≡ k)
  pub uncalled : NoneOfKind k n t → f ≡ begun
  pub rest : KeepsRestAt n t u

all_at_first : (k : EventKind) (e : Event) (max : ℕ) → IsOfKind k e → AllSoFar k e e (wait_begun k max true mode.Try).words (wait_begun k max true mode.Try).stage
all_at_first kind.Bits e max is = (refl, refl)
all_at_first kind.Queue e max is = (refl, refl, (let few = is.ids.few in omega arith))

waiting_at_first : (k : EventKind) (e : Event) (max : ℕ) → AreWaiting k (within max e) (to_come e (wait_begun k max true mode.Try).words (wait_begun k max true mode.Try).stage)
waiting_at_first kind.Bits e max = subst (λ (n : ℕ). IsListOf (ids_where (has e.pending) 0 n) (within max e).pending) words (IsListOf-first e.pending (64 * (max / 64 + 1)))
  where
    words : 64 * (max / 64 + 1) ≡ 64 * (max / 64 + 1 - 0)
    words = omega arith
waiting_at_first kind.Queue e max = refl

pub all_begins : {F : Type 0} (R : F → ℕ → F → Type 0) (f : F) (k : EventKind) (max n : ℕ) (t : EventTable) (w : Wait) → max < 2 ^ 64 → IsEventTable t → w ≡ wait_begun k max true mode.Try → TakingAll R f f k max n t t w
all_begins R f k max n t w fits table is = record {
  table = table;
  try = (wait_begins k max true w fits is).0;
  words = (wait_begins k max true w fits is).1;
  far = λ e here. (
    e,
    Became-first t n e here.stands,
    (rw is (all_at_first k e max (is_of_kind k n t e table here))),
    λ last folds. (to_come e w.words w.stage, (rw is (waiting_at_first k e max)), folds),
  );
  gone = λ _. (refl, (rw is (begun_kind k max true)));
  uncalled = λ _. refl;
  rest = rest_first n t;
}

-- it goes on, and the ids that were taken are handed over
pub all_goes_on : {F : Type 0} (R : F → ℕ → F → Type 0) (begun f g : F) (k : EventKind) (max n : ℕ) (t u v : EventTable) (w next : Wait) (p : EventProgress) (a : EventAnswer) →
    TakingAll R begun f k max n t u w → w.stage ≢ wait.Finished → WaitMade u v n w next p a → FoldsTo R f (reported p) g → TakingAll R begun g k max n t v next
all_goes_on R begun f g k max n t u v w next p a taking on made calls = record {
  table = taking.table;
  try = TryWait-made u v n w next true p a taking.try on made;
  words = λ bits. (rw made.goes_on (taking.words bits));
  far = far;
  gone = λ none. absurd (not_made k u v t n w next p a (taking.gone none) none made);
  uncalled = λ none. absurd (not_made k u v t n w next p a (taking.gone none) none made);
  rest = rest_next n t u v w.stage taking.rest made.memory;
}
  where
    far : OnKindAt k n t (λ e. (now : Event) × Became t v n now × AllSoFar k e now next.words next.stage × ((last : _) → FoldsTo R g (to_come now next.words next.stage) last → (ids : List ℕ) × AreWaiting k (within max e) ids × FoldsTo R begun ids last))
    far e here =
        let before = taking.far e here in
        let now = before.0 in
        let right = at_event u n now (λ x. IsRight x (wait_owed w.stage) a) before.1.stands made.right in
        let step : AllStepped k e now (after now (wait_owed w.stage)) w.words w.stage (wait_turn w w.stage a).1 (taken now (wait_owed w.stage)) =
        all_step k e now w w.stage a taking.try.mode taking.try.all taking.try.some on before.2 right in
        let told : reported p ≡ taken now (wait_owed w.stage) = (rw made.progress (wait_told now w w.stage a right)) in (
          after now (wait_owed w.stage),
          Became-next t u v n now (λ x. after x (wait_owed w.stage)) before.1 made.memory,
          (rw made.goes_on step.far),
          λ last folds. before.3 last (subst (λ (ids : List ℕ). FoldsTo R f ids last) (ap (λ (l : List ℕ). l ++ to_come (after now (wait_owed w.stage)) next.words next.stage) told ∙ (rw made.goes_on step.ids))
              (FoldsTo-append R f g last (reported p) (to_come (after now (wait_owed w.stage)) next.words next.stage) calls folds)),
        )

-- what it has come to, where nothing is to come: it called on what it reaches, and took that
pub record AllReached {F : Type 0} (R : F → ℕ → F → Type 0) (begun f : F) (k : EventKind) (max n : ℕ) (t u : EventTable) (e : Event) : Type 0 where
  pub calls : (ids : List ℕ) × AreWaiting k (within max e) ids × FoldsTo R begun ids f
  pub left : u ≡ with_event t n (reached_taken k max e)

reached : {F : Type 0} (R : F → ℕ → F → Type 0) (begun f : F) (k : EventKind) (max n : ℕ) (t u : EventTable) (w : Wait) (e : Event) → (taking : TakingAll R begun f k max n t u w) → (here : StandsAs k n t e) →
    AllCut k e (taking.far e here).0 w.words w.stage → AllReached R begun f k max n t u e
reached R begun f k max n t u w e taking here cut = record {
  calls = (taking.far e here).3 f (subst (λ (ids : List ℕ). FoldsTo R f ids f) (sym cut.none) refl);
  left = (taking.far e here).1.table ∙ ap (with_event t n) (cut.left ∙ by_words k w.words taking.words);
}
  where
    by_words : (j : EventKind) (words : ℕ) → (j ≡ kind.Bits → words ≡ max / 64 + 1) → words_taken j words e ≡ reached_taken j max e
    by_words kind.Bits words size = ap (λ (m : ℕ). words_taken kind.Bits m e) (size refl)
    by_words kind.Queue words size = refl

-- it ends
pub all_ends : {F : Type 0} (R : F → ℕ → F → Type 0) (begun f : F) (k : EventKind) (max n : ℕ) (t u : EventTable) (w : Wait) → TakingAll R begun f k max n t u w → w.stage ≡ wait.Finished → OnKindAt k n t (AllReached R begun f k max n t u)
all_ends R begun f k max n t u w taking ended e here = reached R begun f k max n t u w e taking here (record {
  left = subst (λ (s : WaitStage). AllSoFar k e (taking.far e here).0 w.words s) ended (taking.far e here).2;
  none = ap (to_come (taking.far e here).0 w.words) ended;
})

-- it is kept from an access, and all stays
pub all_stops : {F : Type 0} (R : F → ℕ → F → Type 0) (begun f : F) (k : EventKind) (max n : ℕ) (t u v : EventTable) (w : Wait) → TakingAll R begun f k max n t u w → w.stage ≢ wait.Finished → ¬ CanPerformAt u n (wait_owed w.stage) →
    v ≡ u → OnKindAt k n t (AllReached R begun f k max n t v)
all_stops R begun f k max n t u v w taking on cannot stays e here =
    let far = taking.far e here in
    subst (λ (x : EventTable). AllReached R begun f k max n t x e) (sym stays) (reached R begun f k max n t u w e taking here
    (all_cut k e far.0 w.words w.stage (is_of_kind k n t e taking.table here) on far.2 (λ can. cannot (event_here u n far.0 (λ x. CanPerform x (wait_owed w.stage)) far.1.stands can))))

-- on a set of the same greatest id it calls on all that wait
pub all_called : {F : Type 0} (R : F → ℕ → F → Type 0) (begun f : F) (k : EventKind) (max n : ℕ) (t u : EventTable) → IsEventTable t → OnKindAt k n t (AllReached R begun f k max n t u) →
    OnEventAt k max n t (λ e. (ids : List ℕ) × AreWaiting k e ids × FoldsTo R begun ids f)
all_called R begun f k max n t u table end e here =
    let stands = stands_as k max n t e here in
    let calls = (end e stands).calls in
    (calls.0, subst (λ (x : Event). AreWaiting k x calls.0) (within_all k max e (is_of_kind k n t e table stands) here.greatest) calls.1, calls.2)

-- and takes them all
pub all_is_taken : {F : Type 0} (R : F → ℕ → F → Type 0) (begun f : F) (k : EventKind) (max n : ℕ) (t u : EventTable) → IsEventTable t → OnKindAt k n t (AllReached R begun f k max n t u) →
    OnEventAt k max n t (λ e. u ≡ with_event t n (all_taken k e))
all_is_taken R begun f k max n t u table end e here =
    let stands = stands_as k max n t e here in
    (end e stands).left ∙ ap (with_event t n) (taken_all k max e (is_of_kind k n t e table stands) here.greatest)
