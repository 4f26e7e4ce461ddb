-- A finished wait that took nothing ends with no id.
use Rattle.std.proofs.Common.{◌≡◌, ℕ, zero, suc, ◌+◌, ◌-◌, ◌*◌, ◌/◌, ◌<◌, ◌≤◌, Bool, true, false, eqb, refl, sym, ◌∙◌, ap, inl, inr, arith, subst, Some, None, Option, List, [], ◌∷◌, ◌++◌, length}
use Rattle.std.specs.Prelude.{◌&&◌, not, if◌then◌else◌, ◌==◌, IsSomeAnd}
use Rattle.std.specs.Int.{bit_at, trailing_zeros, w64}
use Rattle.std.proofs.lemmas.Bool.{false≢true}
use Rattle.std.proofs.lemmas.Nat.Bits.{bit_at-trailing_zeros}
use Rattle.board_event_model.specs.declared.access.EventAccess.{EventAccess}
use Rattle.board_event_model.specs.declared.access.EventAnswer.{EventAnswer}
use Rattle.board_event_model.specs.declared.call.EventProgress.{EventProgress}
use Rattle.board_event_model.specs.declared.call.EventProgress.TheVariants as progress
use Rattle.board_event_model.specs.declared.call.WaitStage.{WaitStage}
use Rattle.board_event_model.specs.declared.call.WaitStage.TheVariants as wait
use Rattle.board_event_model.specs.Ids.{Ids, IsWord, ids_where}
use Rattle.board_event_model.specs.EventMemory.{Event, IsRight, is_bits, pop_answer}
use Rattle.board_event_model.specs.NotifyCalls.{is_yes}
use Rattle.board_event_model.specs.WaitCalls.{Wait, first_word, is_try, nothing, popped, scanned, swapped, wait_bits, wait_owed, wait_queue, wait_turn, word_in}
use Rattle.board_event_model.specs.EventCalls.{EventCall, a_notify, a_wait, is_last, owed, reported, turn, PartyName, RunningCall, call_of, new_call}
use Rattle.board_event_model.specs.EventRuns.{EventMove, IsAllowed, IsCallOf, IsReached, IsRun, Moment, abandon, begin, elsewhere, expire, listened, moved, notifiers, put, release_listener, run_to, step, stepped}
use Rattle.board_event_model.specs.LawsOfCalls.{NothingLaw}
use Rattle.board_event_model.proofs.SetLemmas.{either}
use Rattle.board_event_model.proofs.QuietLemmas.{eqb_self, eqb_true}
use Rattle.board_event_model.proofs.SoundLemmas.{none_some, put_each, some_same}
use Rattle.board_event_model.proofs.ReplyLemmas.{AllTracked, CallTracked, StageTold, reply_law_holds, tracked_reached, tracked_run, wait_of}

front_none : (xs ys : List ℕ) → xs ++ ys ≡ [] → xs ≡ []
front_none [] ys e = refl
front_none (x ∷ xs) ys e = absurd cc

back_none : (xs ys : List ℕ) → xs ++ ys ≡ [] → ys ≡ []
back_none [] ys e = e
back_none (x ∷ xs) ys e = absurd cc

-- a range with an id that passes isn't empty
some_ids : (p : ℕ → Bool) (at n i : ℕ) → p i ≡ true → at ≤ i → i < at + n → ids_where p at n ≡ [] → ⊥
some_ids p at zero i h low high e = absurd (omega arith)
some_ids p at (suc n) i h low high e =
    elim (either (p at)) [
      | inl y ↦ (let f = (rw y at e) in cc)
      | inr f ↦ elim (either (eqb i at)) [
        | inl same ↦ false≢true (sym f ∙ ap p (sym (eqb_true i at same)) ∙ h)
        | inr apart ↦ (
            let d : (i ≡ at → ⊥) = (λ s. false≢true (sym apart ∙ subst (λ (x : ℕ). eqb x at ≡ true) (sym s) (eqb_self at))) in
            some_ids p (at + 1) n i h (omega arith) (omega arith) (rw f at e))
      ]
    ]

-- a word that isn't 0 has an id
took_some : (ids : Ids) (k v : ℕ) (last : Bool) → IsWord ids k v → eqb v 0 ≡ false → reported (progress.Took (64 * k) v last) ≡ [] → ⊥
took_some ids k v last w some =
    let d : (v ≡ 0 → ⊥) = (λ s. false≢true (sym some ∙ ap (λ (x : ℕ). eqb x 0) s)) in
    let t = bit_at-trailing_zeros w64 v (omega arith) w.small in
    let at : 64 * k + trailing_zeros w64 v - 64 * k ≡ trailing_zeros w64 v = omega arith in
    let low : trailing_zeros w64 v < 64 = t.0 in
    some_ids (λ i. bit_at v (i - 64 * k) == 1) (64 * k) 64 (64 * k + trailing_zeros w64 v)
    (ap (λ (i : ℕ). eqb (bit_at v i) 1) at ∙ ap (λ (b : ℕ). eqb b 1) t.1 ∙ eqb_self 1) (omega arith) (omega arith)

-- a wait that notes that an id was taken has told one
abbrev pub StageSome : List ℕ → WaitStage → Type 0
StageSome told wait.Drain = Unit {0}
StageSome told (wait.Scan k) = Unit {0}
StageSome told (wait.Clear id) = Unit {0}
StageSome told (wait.Swap k some) = some ≡ true → told ≡ [] → ⊥
StageSome told wait.Look = Unit {0}
StageSome told (wait.Pop n) = Unit {0}
StageSome told wait.Finished = Unit {0}

-- what a turn keeps, and how it ends
record Ends (told : List ℕ) (t : EventProgress × WaitStage) : Type 0 where
  goes : is_last t.0 ≡ false → StageSome (told ++ reported t.0) t.1
  ends : is_last t.0 ≡ true → told ++ reported t.0 ≡ [] → t.0 ≡ progress.Nothing

nothing_ends : (told : List ℕ) (w : Wait) → Ends told (nothing w)
nothing_ends told w = elim (is_try w.mode) as (λ b. Ends told (if b then (progress.Nothing, wait.Finished) else (progress.More, wait.Look))) [
  | true ↦ record { goes = λ l. absurd (false≢true (sym l)); ends = λ l e. refl }
  | false ↦ record { goes = λ l. tt; ends = λ l e. absurd (false≢true l) }
]

scan_ends : (told : List ℕ) (w : Wait) (k v : ℕ) → Ends told (scanned w k v)
scan_ends told w k v =
    elim (either (eqb v 0)) [
      | inl z ↦ rw z (elim (either (eqb (k + 1) w.words)) [
        | inl end ↦ rw end (nothing_ends told w)
        | inr on ↦ rw on (record { goes = λ l. tt; ends = λ l e. absurd (false≢true l) })
      ])
      | inr s ↦ rw s (record { goes = λ l. tt; ends = λ l e. absurd (false≢true l) })
    ]

swap_ends : (ids : Ids) (told : List ℕ) (w : Wait) (k : ℕ) (some : Bool) (v : ℕ) → IsWord ids k v → (some ≡ true → told ≡ [] → ⊥) → Ends told (swapped w k some v)
swap_ends ids told w k true v is h =
    elim (either (eqb (k + 1) w.words)) [
      | inl end ↦ rw end (record { goes = λ l. absurd (false≢true (sym l)); ends = λ l e. absurd (h refl (front_none told _ e)) })
      | inr on ↦ rw on (elim (v == 0) as (λ b. Ends told ((if b then progress.More else progress.Took (64 * k) v false), wait.Swap (k + 1) true)) [
        | true ↦ record { goes = λ l s e. h refl (front_none told _ e); ends = λ l e. absurd (false≢true l) }
        | false ↦ record { goes = λ l s e. h refl (front_none told _ e); ends = λ l e. absurd (false≢true l) }
      ])
    ]
swap_ends ids told w k false v is h =
    elim (either (eqb v 0)) [
      | inl z ↦ rw z (elim (either (eqb (k + 1) w.words)) [
        | inl end ↦ rw end (nothing_ends told w)
        | inr on ↦ rw on (record { goes = λ l s. absurd (false≢true s); ends = λ l e. absurd (false≢true l) })
      ])
      | inr s ↦ rw s (elim (either (eqb (k + 1) w.words)) [
        | inl end ↦ rw end (record { goes = λ l. absurd (false≢true (sym l)); ends = λ l e. absurd (took_some ids k v true is s (back_none told _ e)) })
        | inr on ↦ rw on (record { goes = λ l t e. took_some ids k v false is s (back_none told _ e); ends = λ l e. absurd (false≢true l) })
      ])
    ]

one_told : (told : List ℕ) (x : ℕ) → told ++ x ∷ [] ≡ [] → ⊥
one_told told x e = let f = back_none told (x ∷ []) e in cc

pop_ends : (told : List ℕ) (w : Wait) (n : ℕ) (queue : List ℕ) → n ≡ length told → Ends told (popped w n (pop_answer queue))
pop_ends told w n (x ∷ xs) h = elim (w.many && not (n + 1 == 513)) as (λ b. Ends told (if b then (progress.Id x false, wait.Pop (n + 1)) else (progress.Id x true, wait.Finished))) [
  | true ↦ record { goes = λ l. tt; ends = λ l e. absurd (false≢true l) }
  | false ↦ record { goes = λ l. tt; ends = λ l e. absurd (one_told told x e) }
]
pop_ends told w n [] h =
    elim (either (eqb n 0)) [
      | inl z ↦ rw z (elim (is_try w.mode) as (λ b. Ends told (if b then (progress.Nothing, wait.Finished) else (progress.Waiting, wait.Pop 0))) [
        | true ↦ record { goes = λ l. tt; ends = λ l e. refl }
        | false ↦ record { goes = λ l. tt; ends = λ l e. absurd (false≢true l) }
      ])
      | inr s ↦ rw s (record {
        goes = λ l. tt;
        ends = λ l e. absurd (false≢true (sym s ∙ ap (λ (m : ℕ). eqb m 0) (h ∙ ap length (front_none told _ e)) ∙ eqb_self 0));
      })
    ]

first_some : (told : List ℕ) (many : Bool) → StageSome told (first_word many)
first_some told true = λ s. absurd (false≢true s)
first_some told false = tt

wait_ends : (e : Event) (told : List ℕ) (w : Wait) (stage : WaitStage) (a : EventAnswer) → IsRight e (wait_owed stage) a → StageTold told stage → StageSome told stage → Ends told (wait_turn w stage a)
wait_ends e told w wait.Drain a right t h = record {
  goes = λ l. elim (is_yes a) as (λ b. StageSome (told ++ []) (if b then wait.Drain else first_word w.many)) [ true ↦ tt | false ↦ first_some (told ++ []) w.many ];
  ends = λ l e. absurd (false≢true l);
}
wait_ends e told w (wait.Scan k) a right t h = scan_ends told w k (word_in a)
wait_ends e told w (wait.Clear id) a right t h = record { goes = λ l. tt; ends = λ l e. absurd (one_told told id e) }
wait_ends e told w (wait.Swap k some) a right t h =
    subst (λ (b : EventAnswer). Ends told (swapped w k some (word_in b))) (sym right.1) (swap_ends e.pending told w k some right.0 right.2 h)
wait_ends e told w wait.Look a right t h = elim (is_yes a) as (λ b. Ends told (if b then (progress.More, wait.Drain) else (progress.Waiting, wait.Look))) [
  | true ↦ record { goes = λ l. tt; ends = λ l e. absurd (false≢true l) }
  | false ↦ record { goes = λ l. tt; ends = λ l e. absurd (false≢true l) }
]
wait_ends e told w (wait.Pop n) a right t h = subst (λ (b : EventAnswer). Ends told (popped w n b)) (sym right) (pop_ends told w n e.queue t)
wait_ends e told w wait.Finished a right t h = record { goes = λ l. tt; ends = λ l e. absurd (false≢true l) }

-- ---- over runs

abbrev CallSome : List ℕ → EventCall → Type 0
CallSome told (a_notify n) = Unit {0}
CallSome told (a_wait w) = StageSome told w.stage

call_some : (e : Event) (told : List ℕ) (waited : Bool) (steps : _) (c : EventCall) (a : EventAnswer) → CallTracked told waited steps c → CallSome told c → IsRight e (owed c) a → is_last (turn c a).0 ≡ false → CallSome (told ++ reported (turn c a).0) (turn c a).1
call_some e told waited steps (a_notify n) a t h right goes = tt
call_some e told waited steps (a_wait w) a t h right goes = (wait_ends e told w w.stage a right t.stage h).goes goes

abbrev AllSome : (PartyName → Option RunningCall) → Type 0
AllSome running = (p : PartyName) (r : RunningCall) → running p ≡ Some r → CallSome r.told (call_of r)

step_some : (now : Moment) (p : PartyName) (r : RunningCall) (a : EventAnswer) → AllTracked now.running → AllSome now.running → now.running p ≡ Some r → IsRight now.event (owed (call_of r)) a → AllSome (stepped now p (owed (call_of r)) a (Some r)).running
step_some now p r a tracked all runs right =
    put_each now.running p _ (λ q s. CallSome s.told (call_of s))
    (λ s g. elim (either (is_last (turn (call_of r) a).0)) [
      | inl y ↦ absurd (none_some s (rw y at g))
      | inr f ↦ subst (λ (x : RunningCall). CallSome x.told (call_of x)) (some_same _ s (rw f at g)) (call_some now.event r.told r.waited r.steps (call_of r) a (tracked p r runs) (all p r runs) right f)
    ])
    (λ q s d g. all q s g)

some_some : (now : Moment) (p : PartyName) (a : EventAccess) (b : EventAnswer) → AllTracked now.running → AllSome now.running → (x : Option RunningCall) → now.running p ≡ x → IsSomeAnd x (λ r. (a ≡ owed (call_of r)) × IsRight now.event a b) → AllSome (stepped now p a b x).running
some_some now p a b tracked all None e h = absurd h
some_some now p a b tracked all (Some r) e h = subst (λ (z : EventAccess). IsRight now.event z b → AllSome (stepped now p z b (Some r)).running) (sym h.0) (step_some now p r b tracked all e) h.1

gone_some : (running : PartyName → Option RunningCall) (p : PartyName) → AllSome running → AllSome (put running p None)
gone_some running p all = put_each running p None (λ q s. CallSome s.told (call_of s)) (λ s n. absurd (none_some _ n)) (λ q s d g. all q s g)

new_some : (e : Event) (l p : PartyName) (c : EventCall) → IsCallOf e l p c → CallSome [] c
new_some e l p (a_notify n) is = tt
new_some e l p (a_wait w) is = subst (λ (x : Wait). StageSome [] x.stage) (sym is.1) (elim (is_bits e.kind) as (λ b. StageSome [] (if b then wait_bits (e.max / 64 + 1) w.many w.mode else wait_queue w.many w.mode).stage) [ true ↦ tt | false ↦ tt ])

some_move : (now : Moment) (m : EventMove) → AllTracked now.running → AllSome now.running → IsAllowed now m → AllSome (moved now m).running
some_move now (begin p c) tracked all ok = put_each now.running p (Some (new_call now.begun c)) (λ q s. CallSome s.told (call_of s))
    (λ s n. subst (λ (x : RunningCall). CallSome x.told (call_of x)) (some_same _ _ n) (new_some now.event now.listener p c ok.1))
    (λ q s d g. all q s g)
some_move now (step p a b) tracked all ok = some_some now p a b tracked all (now.running p) refl ok
some_move now (expire p) tracked all ok = gone_some now.running p all
some_move now (abandon p) tracked all ok = gone_some now.running p all
some_move now release_listener tracked all ok = all
some_move now elsewhere tracked all ok = all
some_move now (notifiers n) tracked all ok = all

some_run : (start : Moment) (ms : List EventMove) → AllTracked start.running → AllSome start.running → IsRun start ms → AllSome (run_to start ms).running
some_run start [] tracked s r = s
some_run start (m ∷ ms) tracked s r = some_move (run_to start ms) m (tracked_run start ms tracked r.0) (some_run start ms tracked s r.0) r.1

some_reached : (now : Moment) → IsReached now → AllSome now.running
some_reached now w =
    subst (λ (x : Moment). AllSome x.running) (sym w.is) (some_run (listened w.kind w.name w.max w.listener) w.moves (λ p r e. absurd (none_some _ e)) (λ p r e. absurd (none_some _ e)) w.run)

pub nothing_law_holds : NothingLaw
nothing_law_holds now reached p r w a b takes call last none =
    let t = wait_of r.told r.waited r.steps (call_of r) w call (tracked_reached now reached p r takes.runs) in
    let own : a ≡ wait_owed w.stage = takes.owes ∙ ap owed call in
    let right : IsRight now.event (wait_owed w.stage) b = subst (λ (x : EventAccess). IsRight now.event x b) own takes.right in
    let h : StageSome r.told w.stage = subst (CallSome r.told) call (some_reached now reached p r takes.runs) in
    let said = reply_law_holds now reached p r w a b takes call last ∙ none in
    let turned : (turn (call_of r) b).0 ≡ (wait_turn w w.stage b).0 = ap (λ (c : EventCall). (turn c b).0) call in
    turned ∙ (wait_ends now.event r.told w w.stage b right t.stage h).ends
    (subst (λ (x : EventProgress). is_last x ≡ true) turned last)
    (subst (λ (x : EventProgress). r.told ++ reported x ≡ []) turned said)
