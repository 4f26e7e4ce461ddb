-- The event law, from what a running call's own steps have come to.
use Rattle.std.proofs.Common.{◌≡◌, ℕ, ◌+◌, ◌*◌, ◌/◌, ◌<◌, Bool, true, false, eqb, ltb, refl, sym, ◌∙◌, ap, ◌⊎◌, inl, inr, arith, subst, Some, None, Option, List, [], ◌∷◌, ◌++◌, length, length-append}
use Rattle.std.specs.Prelude.{◌&&◌, ◌||◌, not, if◌then◌else◌, ◌==◌, IsSomeAnd}
use Rattle.std.proofs.lemmas.Bool.{false≢true}
use Rattle.board_event_model.specs.declared.access.EventAccess.{EventAccess}
use Rattle.board_event_model.specs.declared.access.EventAccess.TheVariants as access
use Rattle.board_event_model.specs.declared.access.EventAnswer.{EventAnswer}
use Rattle.board_event_model.specs.declared.call.EventProgress.{EventProgress}
use Rattle.board_event_model.specs.declared.call.EventProgress.TheVariants as progress
use Rattle.board_event_model.specs.declared.call.NotifyStage.{NotifyStage}
use Rattle.board_event_model.specs.declared.call.NotifyStage.TheVariants as notify
use Rattle.board_event_model.specs.declared.call.WaitStage.{WaitStage}
use Rattle.board_event_model.specs.declared.call.WaitStage.TheVariants as wait
use Rattle.board_event_model.specs.declared.call.WaitMode.TheVariants as mode
use Rattle.board_event_model.specs.Ids.{IsWord}
use Rattle.board_event_model.specs.EventMemory.{Event, IsRight, is_bits, pop_answer, taken}
use Rattle.board_event_model.specs.NotifyCalls.{Notify, is_yes, notify_bits, notify_owed, notify_queue, notify_turn}
use Rattle.board_event_model.specs.WaitCalls.{Wait, first_word, is_try, nothing, popped, scanned, swapped, wait_bits, wait_owed, wait_queue, wait_turn, word_in}
use Rattle.board_event_model.specs.EventCalls.{EventCall, a_notify, a_wait, is_last, is_waiting, owed, reported, turn, MetAccess, PartyName, RunningCall, call_of, new_call, went_on}
use Rattle.board_event_model.specs.EventRuns.{EventMove, IsAllowed, IsCallOf, IsReached, IsRun, Moment, abandon, begin, elsewhere, expire, listened, moved, notifiers, put, release_listener, run_to, step, stepped}
use Rattle.board_event_model.specs.LawsOfCalls.{IsNotifyOk, IsOneOf, ReplyLaw, SeesEmptyWord, taken_by}
use Rattle.board_event_model.proofs.SetLemmas.{or_left, is_false, either, has_itself}
use Rattle.board_event_model.proofs.QuietLemmas.{eqb_true, eqb_self, word_empty}
use Rattle.board_event_model.proofs.SoundLemmas.{put_each, some_same, none_some}
use Rattle.board_event_model.proofs.TrackLemmas.{wait_told}

-- ---- what a wait has told, at each stage

abbrev pub StageTold : List ℕ → WaitStage → Type 0
StageTold told wait.Drain = told ≡ []
StageTold told (wait.Scan k) = told ≡ []
StageTold told (wait.Clear id) = told ≡ []
StageTold told (wait.Swap k some) = some ≡ false → told ≡ []
StageTold told wait.Look = told ≡ []
StageTold told (wait.Pop n) = n ≡ length told
StageTold told wait.Finished = Unit {0}

abbrev Tells : List ℕ → EventProgress × WaitStage → Type 0
Tells told t = is_last t.0 ≡ false → StageTold (told ++ reported t.0) t.1

nothing_tells : (told : List ℕ) (w : Wait) → told ≡ [] → Tells told (nothing w)
nothing_tells told w h = rw h (elim (is_try w.mode) as (λ b. Tells [] (if b then (progress.Nothing, wait.Finished) else (progress.More, wait.Look))) [
  | true ↦ λ l. absurd (false≢true (sym l))
  | false ↦ λ l. refl
])

scan_tells : (told : List ℕ) (w : Wait) (k v : ℕ) → told ≡ [] → Tells told (scanned w k v)
scan_tells told w k v h =
    elim (either (eqb v 0)) [
      | inl z ↦ rw z (elim (either (eqb (k + 1) w.words)) [ inl end ↦ rw end (nothing_tells told w h) | inr on ↦ rw on (λ l. rw h refl) ])
      | inr s ↦ rw s (λ l. rw h refl)
    ]

swap_tells : (told : List ℕ) (w : Wait) (k : ℕ) (some : Bool) (v : ℕ) → (some ≡ false → told ≡ []) → Tells told (swapped w k some v)
swap_tells told w k true v h =
    elim (either (eqb (k + 1) w.words)) [ inl end ↦ rw end (λ l. absurd (false≢true (sym l))) | inr on ↦ rw on (λ l f. absurd (false≢true (sym f))) ]
swap_tells told w k false v h =
    elim (either (eqb (k + 1) w.words)) [
      | inl end ↦ rw end (elim (either (eqb v 0)) [
        | inl z ↦ rw z (nothing_tells told w (h refl))
        | inr s ↦ rw s (λ l. absurd (false≢true (sym l)))
      ])
      | inr on ↦ rw on (elim (either (eqb v 0)) [
        | inl z ↦ rw z (λ l f. rw (h refl) refl)
        | inr s ↦ rw s (λ l f. absurd (false≢true (sym f)))
      ])
    ]

pop_tells : (told : List ℕ) (w : Wait) (n : ℕ) (queue : List ℕ) → n ≡ length told → Tells told (popped w n (pop_answer queue))
pop_tells told w n (x ∷ xs) h = elim (w.many && not (n + 1 == 513)) as (λ b. Tells told (if b then (progress.Id x false, wait.Pop (n + 1)) else (progress.Id x true, wait.Finished))) [
  | true ↦ λ l. let e = length-append told (x ∷ []) in omega arith
  | false ↦ λ l. absurd (false≢true (sym l))
]
pop_tells told w n [] h =
    elim (either (eqb n 0)) [
      | inl z ↦ rw z (elim (is_try w.mode) as (λ b. Tells told (if b then (progress.Nothing, wait.Finished) else (progress.Waiting, wait.Pop 0))) [
        | true ↦ λ l. absurd (false≢true (sym l))
        | false ↦ λ l. let e = length-append told [] in let m = eqb_true n 0 z in omega arith
      ])
      | inr s ↦ rw s (λ l. absurd (false≢true (sym l)))
    ]

wait_tells : (e : Event) (told : List ℕ) (w : Wait) (stage : WaitStage) (a : EventAnswer) → IsRight e (wait_owed stage) a → StageTold told stage → Tells told (wait_turn w stage a)
wait_tells e told w wait.Drain a right h = rw h (elim (is_yes a) as (λ b. Tells [] (progress.More, if b then wait.Drain else first_word w.many)) [
  | true ↦ λ l. refl
  | false ↦ λ l. elim w.many as (λ b. StageTold [] (first_word b)) [ true ↦ λ f. refl | false ↦ refl ]
])
wait_tells e told w (wait.Scan k) a right h = scan_tells told w k (word_in a) h
wait_tells e told w (wait.Clear id) a right h = λ l. absurd (false≢true (sym l))
wait_tells e told w (wait.Swap k some) a right h = swap_tells told w k some (word_in a) h
wait_tells e told w wait.Look a right h = rw h (elim (is_yes a) as (λ b. Tells [] (if b then (progress.More, wait.Drain) else (progress.Waiting, wait.Look))) [ true ↦ λ l. refl | false ↦ λ l. refl ])
wait_tells e told w (wait.Pop n) a right h = subst (λ (b : EventAnswer). Tells told (popped w n b)) (sym right) (pop_tells told w n e.queue h)
wait_tells e told w wait.Finished a right h = λ l. tt

-- a waiting look has told nothing
abbrev Waits : List ℕ → EventProgress × WaitStage → Type 0
Waits told t = is_waiting t.0 ≡ true → told ++ reported t.0 ≡ []

nothing_waits : (told : List ℕ) (w : Wait) → Waits told (nothing w)
nothing_waits told w = elim (is_try w.mode) as (λ b. Waits told (if b then (progress.Nothing, wait.Finished) else (progress.More, wait.Look))) [ true ↦ λ f. absurd (false≢true f) | false ↦ λ f. absurd (false≢true f) ]

scan_waits : (told : List ℕ) (w : Wait) (k v : ℕ) → Waits told (scanned w k v)
scan_waits told w k v =
    elim (either (eqb v 0)) [
      | inl z ↦ rw z (elim (either (eqb (k + 1) w.words)) [ inl end ↦ rw end (nothing_waits told w) | inr on ↦ rw on (λ f. absurd (false≢true f)) ])
      | inr s ↦ rw s (λ f. absurd (false≢true f))
    ]

swap_waits : (told : List ℕ) (w : Wait) (k : ℕ) (some : Bool) (v : ℕ) → Waits told (swapped w k some v)
swap_waits told w k some v =
    elim (either (eqb (k + 1) w.words)) [
      | inl end ↦ rw end (elim (some || not (v == 0)) as (λ b. Waits told (if b then (progress.Took (64 * k) v true, wait.Finished) else nothing w)) [ true ↦ λ f. absurd (false≢true f) | false ↦ nothing_waits told w ])
      | inr on ↦ rw on (elim (v == 0) as (λ b. Waits told ((if b then progress.More else progress.Took (64 * k) v false), wait.Swap (k + 1) (some || not b))) [ true ↦ λ f. absurd (false≢true f) | false ↦ λ f. absurd (false≢true f) ])
    ]

pub no_length : (told : List ℕ) → 0 ≡ length told → told ≡ []
no_length [] h = refl
no_length (x ∷ xs) h = absurd (omega arith)

pop_waits : (told : List ℕ) (w : Wait) (n : ℕ) (queue : List ℕ) → n ≡ length told → Waits told (popped w n (pop_answer queue))
pop_waits told w n (x ∷ xs) h = elim (w.many && not (n + 1 == 513)) as (λ b. Waits told (if b then (progress.Id x false, wait.Pop (n + 1)) else (progress.Id x true, wait.Finished))) [ true ↦ λ f. absurd (false≢true f) | false ↦ λ f. absurd (false≢true f) ]
pop_waits told w n [] h =
    elim (either (eqb n 0)) [
      | inl z ↦ rw z (elim (is_try w.mode) as (λ b. Waits told (if b then (progress.Nothing, wait.Finished) else (progress.Waiting, wait.Pop 0))) [
        | true ↦ λ f. absurd (false≢true f)
        | false ↦ λ f. (let m = eqb_true n 0 z in rw (no_length told (omega arith)) refl)
      ])
      | inr s ↦ rw s (λ f. absurd (false≢true f))
    ]

wait_waits : (e : Event) (told : List ℕ) (w : Wait) (stage : WaitStage) (a : EventAnswer) → IsRight e (wait_owed stage) a → StageTold told stage → Waits told (wait_turn w stage a)
wait_waits e told w wait.Drain a right h = λ f. absurd (false≢true f)
wait_waits e told w (wait.Scan k) a right h = scan_waits told w k (word_in a)
wait_waits e told w (wait.Clear id) a right h = λ f. absurd (false≢true f)
wait_waits e told w (wait.Swap k some) a right h = swap_waits told w k some (word_in a)
wait_waits e told w wait.Look a right h = rw h (elim (is_yes a) as (λ b. Waits [] (if b then (progress.More, wait.Drain) else (progress.Waiting, wait.Look))) [ true ↦ λ f. absurd (false≢true f) | false ↦ λ f. refl ])
wait_waits e told w (wait.Pop n) a right h = subst (λ (b : EventAnswer). Waits told (popped w n b)) (sym right) (pop_waits told w n e.queue h)
wait_waits e told w wait.Finished a right h = λ f. absurd (false≢true f)

-- a waiting look is made where a wait looks or pops
abbrev pub WaitsAt : WaitStage → Type 0
WaitsAt wait.Drain = ⊥
WaitsAt (wait.Scan k) = ⊥
WaitsAt (wait.Clear id) = ⊥
WaitsAt (wait.Swap k some) = ⊥
WaitsAt wait.Look = Unit {0}
WaitsAt (wait.Pop n) = Unit {0}
WaitsAt wait.Finished = ⊥

abbrev Looks : EventProgress × WaitStage → Type 0
Looks t = is_waiting t.0 ≡ true → WaitsAt t.1

looks_if : (b : Bool) (x y : EventProgress × WaitStage) → Looks x → Looks y → Looks (if b then x else y)
looks_if true x y h k = h
looks_if false x y h k = k

nothing_looks : (w : Wait) → Looks (nothing w)
nothing_looks w = looks_if (is_try w.mode) (progress.Nothing, wait.Finished) (progress.More, wait.Look) (λ f. absurd (false≢true f)) (λ f. tt)

scan_looks : (w : Wait) (k v : ℕ) → Looks (scanned w k v)
scan_looks w k v =
    looks_if (v == 0) (if k + 1 == w.words then nothing w else (progress.More, wait.Scan (k + 1))) _
    (looks_if (k + 1 == w.words) (nothing w) (progress.More, wait.Scan (k + 1)) (nothing_looks w) (λ f. absurd (false≢true f))) (λ f. absurd (false≢true f))

swap_looks : (w : Wait) (k : ℕ) (some : Bool) (v : ℕ) → Looks (swapped w k some v)
swap_looks w k some v =
    looks_if (k + 1 == w.words) (if some || not (v == 0) then (progress.Took (64 * k) v true, wait.Finished) else nothing w) ((if v == 0 then progress.More else progress.Took (64 * k) v false), wait.Swap (k + 1) (some || not (v == 0)))
    (looks_if (some || not (v == 0)) (progress.Took (64 * k) v true, wait.Finished) (nothing w) (λ f. absurd (false≢true f)) (nothing_looks w))
    (goes_on (v == 0))
  where
    goes_on : (b : Bool) → is_waiting (if b then progress.More else progress.Took (64 * k) v false) ≡ true → ⊥
    goes_on true f = false≢true f
    goes_on false f = false≢true f

pop_looks : (w : Wait) (n : ℕ) (queue : List ℕ) → Looks (popped w n (pop_answer queue))
pop_looks w n (x ∷ xs) = looks_if (w.many && not (n + 1 == 513)) (progress.Id x false, wait.Pop (n + 1)) (progress.Id x true, wait.Finished) (λ f. tt) (λ f. absurd (false≢true f))
pop_looks w n [] =
    looks_if (n == 0) (if is_try w.mode then (progress.Nothing, wait.Finished) else (progress.Waiting, wait.Pop 0)) (progress.Took 0 0 true, wait.Finished)
    (looks_if (is_try w.mode) (progress.Nothing, wait.Finished) (progress.Waiting, wait.Pop 0) (λ f. absurd (false≢true f)) (λ f. tt))
    (λ f. absurd (false≢true f))

wait_looks : (e : Event) (w : Wait) (stage : WaitStage) (a : EventAnswer) → IsRight e (wait_owed stage) a → Looks (wait_turn w stage a)
wait_looks e w wait.Drain a right = λ f. absurd (false≢true f)
wait_looks e w (wait.Scan k) a right = scan_looks w k (word_in a)
wait_looks e w (wait.Clear id) a right = λ f. absurd (false≢true f)
wait_looks e w (wait.Swap k some) a right = swap_looks w k some (word_in a)
wait_looks e w wait.Look a right = looks_if (is_yes a) (progress.More, wait.Drain) (progress.Waiting, wait.Look) (λ f. absurd (false≢true f)) (λ f. tt)
wait_looks e w (wait.Pop n) a right = subst (λ (b : EventAnswer). Looks (popped w n b)) (sym right) (pop_looks w n e.queue)
wait_looks e w wait.Finished a right = λ f. absurd (false≢true f)

-- ---- the words that a wait has seen empty since its drain

pub record Sees (steps : List MetAccess) (k : ℕ) : Type 0 where
  pub look : MetAccess
  pub own : IsOneOf steps look
  pub empty : SeesEmptyWord look k

abbrev pub SeenTo : List MetAccess → ℕ → Type 0
SeenTo steps k = (j : ℕ) → j < k → Sees steps j

abbrev pub StageSeen : List MetAccess → WaitStage → Type 0
StageSeen steps wait.Drain = Unit {0}
StageSeen steps (wait.Scan k) = SeenTo steps k
StageSeen steps (wait.Clear id) = Unit {0}
StageSeen steps (wait.Swap k some) = some ≡ false → SeenTo steps k
StageSeen steps wait.Look = Unit {0}
StageSeen steps (wait.Pop n) = Unit {0}
StageSeen steps wait.Finished = Unit {0}

-- an empty word more
sees_more : (e : Event) (a : EventAccess) (k : ℕ) (steps : List MetAccess) → (a ≡ access.Scan k) ⊎ (a ≡ access.Swap k) → IsWord e.pending k 0 → SeenTo steps k → SeenTo (record { met = e; access = a } ∷ steps) (k + 1)
sees_more e a k steps looks is seen = λ j low. elim (either (eqb j k)) [
  | inl same ↦ record {
    look = record { met = e; access = a };
    own = inl refl;
    empty = subst (λ (i : ℕ). SeesEmptyWord (record { met = e; access = a }) i) (sym (eqb_true j k same)) (record {
      looks = looks;
      empty = λ id h. is_false _ (λ f. word_empty e.pending k id is h (eqb_true (id / 64) k f));
    });
  }
  | inr apart ↦ (
      let d : (j ≡ k → ⊥) = (λ s. false≢true (sym apart ∙ ap (eqb j) (sym s) ∙ eqb_self j)) in
      let o = seen j (omega arith) in
      record { look = o.look; own = inr o.own; empty = o.empty })
]

-- what a turn has seen: the words before its stage, or all where it ends with nothing
pub record Saw (steps : List MetAccess) (w : Wait) (t : EventProgress × WaitStage) : Type 0 where
  pub stage : StageSeen steps t.1
  pub nothing : t.0 ≡ progress.Nothing → (w.mode ≡ mode.Try) × SeenTo steps w.words

nothing_saw : (steps : List MetAccess) (w : Wait) → SeenTo steps w.words → Saw steps w (nothing w)
nothing_saw steps w seen = elim w.mode as (λ m. w.mode ≡ m → Saw steps w (if is_try m then (progress.Nothing, wait.Finished) else (progress.More, wait.Look))) [
  | mode.Try ↦ λ s. record { stage = tt; nothing = λ _. (s, seen) }
  | mode.Timed ↦ λ s. record { stage = tt; nothing = λ f. absurd cc }
  | mode.Block ↦ λ s. record { stage = tt; nothing = λ f. absurd cc }
] refl

scan_saw : (e : Event) (steps : List MetAccess) (w : Wait) (k v : ℕ) → IsWord e.pending k v → SeenTo steps k → Saw (record { met = e; access = access.Scan k } ∷ steps) w (scanned w k v)
scan_saw e steps w k v is seen =
    elim (either (eqb v 0)) [
      | inl z ↦ (
          let more = sees_more e (access.Scan k) k steps (inl refl) (subst (IsWord e.pending k) (eqb_true v 0 z) is) seen in
          rw z (elim (either (eqb (k + 1) w.words)) [
            | inl end ↦ rw end (nothing_saw _ w (subst (SeenTo (record { met = e; access = access.Scan k } ∷ steps)) (eqb_true _ _ end) more))
            | inr on ↦ rw on (record { stage = more; nothing = λ f. absurd cc })
          ]))
      | inr s ↦ rw s (record { stage = tt; nothing = λ f. absurd cc })
    ]

swap_saw : (e : Event) (steps : List MetAccess) (w : Wait) (k : ℕ) (some : Bool) (v : ℕ) → IsWord e.pending k v → (some ≡ false → SeenTo steps k) → Saw (record { met = e; access = access.Swap k } ∷ steps) w (swapped w k some v)
swap_saw e steps w k true v is seen =
    elim (either (eqb (k + 1) w.words)) [
      | inl end ↦ rw end (record { stage = tt; nothing = λ f. absurd cc })
      | inr on ↦ rw on (elim (v == 0) as (λ b. Saw (record { met = e; access = access.Swap k } ∷ steps) w ((if b then progress.More else progress.Took (64 * k) v false), wait.Swap (k + 1) true)) [
        | true ↦ record { stage = λ f. absurd (false≢true (sym f)); nothing = λ f. absurd cc }
        | false ↦ record { stage = λ f. absurd (false≢true (sym f)); nothing = λ f. absurd cc }
      ])
    ]
swap_saw e steps w k false v is seen =
    elim (either (eqb v 0)) [
      | inl z ↦ (
          let more = sees_more e (access.Swap k) k steps (inr refl) (subst (IsWord e.pending k) (eqb_true v 0 z) is) (seen refl) in
          rw z (elim (either (eqb (k + 1) w.words)) [
            | inl end ↦ rw end (nothing_saw _ w (subst (SeenTo (record { met = e; access = access.Swap k } ∷ steps)) (eqb_true _ _ end) more))
            | inr on ↦ rw on (record { stage = λ f. more; nothing = λ f. absurd cc })
          ]))
      | inr s ↦ rw s (elim (either (eqb (k + 1) w.words)) [
        | inl end ↦ rw end (record { stage = tt; nothing = λ f. absurd cc })
        | inr on ↦ rw on (record { stage = λ f. absurd (false≢true (sym f)); nothing = λ f. absurd cc })
      ])
    ]

first_saw : (steps : List MetAccess) (w : Wait) (many : Bool) → StageSeen steps (first_word many)
first_saw steps w true = λ f j low. absurd (omega arith)
first_saw steps w false = λ j low. absurd (omega arith)

abbrev pub OnBits : WaitStage → Type 0
OnBits wait.Drain = Unit {0}
OnBits (wait.Scan k) = Unit {0}
OnBits (wait.Clear id) = Unit {0}
OnBits (wait.Swap k some) = Unit {0}
OnBits wait.Look = Unit {0}
OnBits (wait.Pop n) = ⊥
OnBits wait.Finished = ⊥

pub bits_saw : (e : Event) (steps : List MetAccess) (w : Wait) (stage : WaitStage) (a : EventAnswer) → IsRight e (wait_owed stage) a → OnBits stage → StageSeen steps stage → Saw (record { met = e; access = wait_owed stage } ∷ steps) w (wait_turn w stage a)
bits_saw e steps w wait.Drain a right bits seen = record {
  stage = elim (is_yes a) as (λ b. StageSeen (record { met = e; access = access.Signal } ∷ steps) (if b then wait.Drain else first_word w.many)) [ true ↦ tt | false ↦ first_saw (record { met = e; access = access.Signal } ∷ steps) w w.many ];
  nothing = λ f. absurd cc;
}
bits_saw e steps w (wait.Scan k) a right bits seen =
    subst (λ (b : EventAnswer). Saw (record { met = e; access = access.Scan k } ∷ steps) w (scanned w k (word_in b))) (sym right.1) (scan_saw e steps w k right.0 right.2 seen)
bits_saw e steps w (wait.Clear id) a right bits seen = record { stage = tt; nothing = λ f. absurd cc }
bits_saw e steps w (wait.Swap k some) a right bits seen =
    subst (λ (b : EventAnswer). Saw (record { met = e; access = access.Swap k } ∷ steps) w (swapped w k some (word_in b))) (sym right.1) (swap_saw e steps w k some right.0 right.2 seen)
bits_saw e steps w wait.Look a right bits seen = elim (is_yes a) as (λ b. Saw (record { met = e; access = access.Signal } ∷ steps) w (if b then (progress.More, wait.Drain) else (progress.Waiting, wait.Look))) [
  | true ↦ record { stage = tt; nothing = λ f. absurd cc }
  | false ↦ record { stage = tt; nothing = λ f. absurd cc }
]
bits_saw e steps w (wait.Pop n) a right bits seen = absurd bits
bits_saw e steps w wait.Finished a right bits seen = absurd bits

-- ---- pops

-- what a pop comes to
pub record Popped (w : Wait) (told queue : List ℕ) (t : EventProgress × WaitStage) : Type 0 where
  pub seen : (steps : List MetAccess) → StageSeen steps t.1
  pub nothing : t.0 ≡ progress.Nothing → (w.mode ≡ mode.Try) × (queue ≡ [])
  pub last : w.many ≡ true → is_last t.0 ≡ true → (queue ≡ []) ⊎ (length (told ++ reported t.0) ≡ 513)
  pub goes : is_last t.0 ≡ false → (n : ℕ) × (t.1 ≡ wait.Pop n)

pub pop_comes : (w : Wait) (told : List ℕ) (n : ℕ) (queue : List ℕ) → n ≡ length told → Popped w told queue (popped w n (pop_answer queue))
pop_comes w told n (x ∷ xs) h =
    elim (either w.many) [
      | inl many ↦ rw many (elim (either (eqb (n + 1) 513)) [
        | inl end ↦ rw end (record {
          seen = λ s. tt;
          nothing = λ f. absurd cc;
          last = λ m l. inr (let e = length-append told (x ∷ []) in let f = eqb_true (n + 1) 513 end in omega arith);
          goes = λ l. absurd (false≢true (sym l));
        })
        | inr on ↦ rw on (record {
          seen = λ s. tt;
          nothing = λ f. absurd cc;
          last = λ m l. absurd (false≢true l);
          goes = λ l. (n + 1, refl);
        })
      ])
      | inr one ↦ rw one (record {
        seen = λ s. tt;
        nothing = λ f. absurd cc;
        last = λ m l. absurd (false≢true m);
        goes = λ l. absurd (false≢true (sym l));
      })
    ]
pop_comes w told n [] h =
    elim (either (eqb n 0)) [
      | inl z ↦ rw z (elim w.mode as (λ m. w.mode ≡ m → Popped w told [] (if is_try m then (progress.Nothing, wait.Finished) else (progress.Waiting, wait.Pop 0))) [
        | mode.Try ↦ λ s. record { seen = λ s. tt; nothing = λ f. (s, refl); last = λ m l. inl refl; goes = λ l. absurd (false≢true (sym l)) }
        | mode.Timed ↦ λ s. record { seen = λ s. tt; nothing = λ f. absurd cc; last = λ m l. inl refl; goes = λ l. (0, refl) }
        | mode.Block ↦ λ s. record { seen = λ s. tt; nothing = λ f. absurd cc; last = λ m l. inl refl; goes = λ l. (0, refl) }
      ] refl)
      | inr s ↦ rw s (record { seen = λ s. tt; nothing = λ f. absurd cc; last = λ m l. inl refl; goes = λ l. absurd (false≢true (sym l)) })
    ]

wait_seen : (e : Event) (told : List ℕ) (steps : List MetAccess) (w : Wait) (stage : WaitStage) (a : EventAnswer) → IsRight e (wait_owed stage) a → StageTold told stage → StageSeen steps stage → StageSeen (record { met = e; access = wait_owed stage } ∷ steps) (wait_turn w stage a).1
wait_seen e told steps w wait.Drain a right t seen = (bits_saw e steps w wait.Drain a right tt seen).stage
wait_seen e told steps w (wait.Scan k) a right t seen = (bits_saw e steps w (wait.Scan k) a right tt seen).stage
wait_seen e told steps w (wait.Clear id) a right t seen = tt
wait_seen e told steps w (wait.Swap k some) a right t seen = (bits_saw e steps w (wait.Swap k some) a right tt seen).stage
wait_seen e told steps w wait.Look a right t seen = (bits_saw e steps w wait.Look a right tt seen).stage
wait_seen e told steps w (wait.Pop n) a right t seen =
    subst (λ (b : EventAnswer). StageSeen (record { met = e; access = access.Pop } ∷ steps) (popped w n b).1) (sym right) ((pop_comes w told n e.queue t).seen _)
wait_seen e told steps w wait.Finished a right t seen = tt

-- ---- what every running call knows of its own steps

abbrev pub NotifyTracked : ℕ → List MetAccess → NotifyStage → Type 0
NotifyTracked id steps notify.Look = Unit {0}
NotifyTracked id steps notify.Set = Unit {0}
NotifyTracked id steps notify.Post = IsNotifyOk id steps
NotifyTracked id steps notify.Push = Unit {0}
NotifyTracked id steps notify.Finished = Unit {0}

pub record WaitTracked (told : List ℕ) (waited : Bool) (steps : List MetAccess) (w : Wait) : Type 0 where
  pub reply : told ≡ taken_by steps
  pub none : waited ≡ true → told ≡ []
  pub looks : waited ≡ true → WaitsAt w.stage
  pub stage : StageTold told w.stage
  pub seen : StageSeen steps w.stage

abbrev pub CallTracked : List ℕ → Bool → List MetAccess → EventCall → Type 0
CallTracked told waited steps (a_notify n) = NotifyTracked n.id steps n.stage
CallTracked told waited steps (a_wait w) = WaitTracked told waited steps w

notify_tracked : (e : Event) (steps : List MetAccess) (n : Notify) (stage : NotifyStage) (a : EventAnswer) → NotifyTracked n.id steps stage → NotifyTracked n.id (record { met = e; access = notify_owed n.id stage } ∷ steps) (notify_turn n stage a).1
notify_tracked e steps n notify.Look a h =
    elim (either (is_yes a)) [
      | inl y ↦ rw y (elim (either (ltb n.max n.id)) [ inl big ↦ rw big tt | inr small ↦ rw small tt ])
      | inr f ↦ rw f tt
    ]
notify_tracked e steps n notify.Set a h = record { made = record { met = e; access = access.Set n.id }; own = inl refl; pending = or_left _ _ (has_itself e.pending n.id) }
notify_tracked e steps n notify.Post a h = tt
notify_tracked e steps n notify.Push a h = tt
notify_tracked e steps n notify.Finished a h = tt

pub told_more : (e : Event) (told : List ℕ) (steps : List MetAccess) (w : Wait) (a : EventAnswer) → IsRight e (wait_owed w.stage) a → told ≡ taken_by steps → told ++ reported (wait_turn w w.stage a).0 ≡ taken_by steps ++ taken e (wait_owed w.stage)
told_more e told steps w a right h = rw h (ap (λ (x : List ℕ). taken_by steps ++ x) (wait_told e w w.stage a right))

pub call_tracked : (e : Event) (told : List ℕ) (waited : Bool) (steps : List MetAccess) (c : EventCall) (a : EventAnswer) → CallTracked told waited steps c → IsRight e (owed c) a → is_last (turn c a).0 ≡ false → CallTracked (told ++ reported (turn c a).0) (is_waiting (turn c a).0) (record { met = e; access = owed c } ∷ steps) (turn c a).1
call_tracked e told waited steps (a_notify n) a h right goes = notify_tracked e steps n n.stage a h
call_tracked e told waited steps (a_wait w) a h right goes = record {
  reply = told_more e told steps w a right h.reply;
  none = wait_waits e told w w.stage a right h.stage;
  looks = wait_looks e w w.stage a right;
  stage = wait_tells e told w w.stage a right h.stage goes;
  seen = wait_seen e told steps w w.stage a right h.stage h.seen;
}

pub new_tracked : (e : Event) (l p : PartyName) (c : EventCall) → IsCallOf e l p c → CallTracked [] false [] c
new_tracked e l p (a_notify n) is = subst (λ (x : Notify). NotifyTracked n.id [] x.stage) (sym is) (elim (is_bits e.kind) as (λ b. NotifyTracked n.id [] (if b then notify_bits n.id e.max else notify_queue n.id).stage) [ true ↦ tt | false ↦ tt ])
new_tracked e l p (a_wait w) is = subst (WaitTracked [] false []) (sym is.1) (elim (is_bits e.kind) as (λ b. WaitTracked [] false [] (if b then wait_bits (e.max / 64 + 1) w.many w.mode else wait_queue w.many w.mode)) [
  | true ↦ record { reply = refl; none = λ f. refl; looks = λ f. absurd (false≢true f); stage = refl; seen = tt }
  | false ↦ record { reply = refl; none = λ f. refl; looks = λ f. absurd (false≢true f); stage = refl; seen = tt }
])

abbrev pub AllTracked : (PartyName → Option RunningCall) → Type 0
AllTracked running = (p : PartyName) (r : RunningCall) → running p ≡ Some r → CallTracked r.told r.waited r.steps (call_of r)

step_tracked : (now : Moment) (p : PartyName) (r : RunningCall) (a : EventAnswer) → AllTracked now.running → now.running p ≡ Some r → IsRight now.event (owed (call_of r)) a → AllTracked (put now.running p (went_on r now.event (owed (call_of r)) a))
step_tracked now p r a all runs right =
    put_each now.running p _ (λ q s. CallTracked s.told s.waited s.steps (call_of s))
    (λ s g. elim (either (is_last (turn (call_of r) a).0)) [
      | inl y ↦ absurd (none_some s (rw y at g))
      | inr f ↦ subst (λ (x : RunningCall). CallTracked x.told x.waited x.steps (call_of x)) (some_same _ s (rw f at g)) (call_tracked now.event r.told r.waited r.steps (call_of r) a (all p r runs) right f)
    ])
    (λ q s d g. all q s g)

some_tracked : (now : Moment) (p : PartyName) (a : EventAccess) (b : EventAnswer) → AllTracked now.running → (x : Option RunningCall) → now.running p ≡ x → IsSomeAnd x (λ r. (a ≡ owed (call_of r)) × IsRight now.event a b) → AllTracked (stepped now p a b x).running
some_tracked now p a b all None e h = absurd h
some_tracked now p a b all (Some r) e h = subst (λ (z : EventAccess). IsRight now.event z b → AllTracked (stepped now p z b (Some r)).running) (sym h.0) (step_tracked now p r b all e) h.1

gone_tracked : (running : PartyName → Option RunningCall) (p : PartyName) → AllTracked running → AllTracked (put running p None)
gone_tracked running p all = put_each running p None (λ q s. CallTracked s.told s.waited s.steps (call_of s)) (λ s n. absurd (none_some _ n)) (λ q s d g. all q s g)

tracked_move : (now : Moment) (m : EventMove) → AllTracked now.running → IsAllowed now m → AllTracked (moved now m).running
tracked_move now (begin p c) all ok = put_each now.running p (Some (new_call now.begun c)) (λ q s. CallTracked s.told s.waited s.steps (call_of s))
    (λ s n. subst (λ (x : RunningCall). CallTracked x.told x.waited x.steps (call_of x)) (some_same _ _ n) (new_tracked now.event now.listener p c ok.1))
    (λ q s d g. all q s g)
tracked_move now (step p a b) all ok = some_tracked now p a b all (now.running p) refl ok
tracked_move now (expire p) all ok = gone_tracked now.running p all
tracked_move now (abandon p) all ok = gone_tracked now.running p all
tracked_move now release_listener all ok = all
tracked_move now elsewhere all ok = all
tracked_move now (notifiers n) all ok = all

pub tracked_run : (start : Moment) (ms : List EventMove) → AllTracked start.running → IsRun start ms → AllTracked (run_to start ms).running
tracked_run start [] s r = s
tracked_run start (m ∷ ms) s r = tracked_move (run_to start ms) m (tracked_run start ms s r.0) r.1

pub tracked_reached : (now : Moment) → IsReached now → AllTracked now.running
tracked_reached now w =
    subst (λ (x : Moment). AllTracked x.running) (sym w.is) (tracked_run (listened w.kind w.name w.max w.listener) w.moves (λ p r e. absurd (none_some _ e)) w.run)

-- ---- the laws

pub wait_of : (told : List ℕ) (waited : Bool) (steps : List MetAccess) (c : EventCall) (w : Wait) → c ≡ a_wait w → CallTracked told waited steps c → WaitTracked told waited steps w
wait_of told waited steps c w same h = subst (CallTracked told waited steps) same h

pub reply_law_holds : ReplyLaw
reply_law_holds now reached p r w a b takes call last =
    let t = wait_of r.told r.waited r.steps (call_of r) w call (tracked_reached now reached p r takes.runs) in
    let own : a ≡ wait_owed w.stage = takes.owes ∙ ap owed call in
    let right : IsRight now.event (wait_owed w.stage) b = subst (λ (x : EventAccess). IsRight now.event x b) own takes.right in
    ap (λ (c : EventCall). r.told ++ reported (turn c b).0) call
    ∙ told_more now.event r.told r.steps w b right t.reply
    ∙ ap (λ (x : EventAccess). taken_by r.steps ++ taken now.event x) (sym own)
