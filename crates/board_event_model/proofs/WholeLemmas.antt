-- A wait for all on bits reports every id that was pending at its first step.
use Rattle.std.proofs.Common.{◌≡◌, ℕ, zero, suc, ◌+◌, ◌*◌, ◌/◌, ◌<◌, ◌≤◌, Bool, true, false, eqb, refl, sym, ◌∙◌, ap, ◌⊎◌, inl, inr, arith, subst, Some, None, Option, List, [], ◌∷◌, ◌++◌, length}
use Rattle.std.specs.Prelude.{◌||◌, not, if◌then◌else◌, ◌==◌, IsSomeAnd, nat_lt}
use Rattle.std.specs.List.{list_any}
use Rattle.std.proofs.lemmas.Bool.{false≢true}
use Rattle.board_event_model.specs.declared.access.EventAccess.{EventAccess}
use Rattle.board_event_model.specs.declared.access.EventAccess.TheVariants as access
use Rattle.board_event_model.specs.declared.access.EventAnswer.{EventAnswer}
use Rattle.board_event_model.specs.declared.call.EventProgress.{EventProgress}
use Rattle.board_event_model.specs.declared.call.EventProgress.TheVariants as progress
use Rattle.board_event_model.specs.declared.call.NotifyStage.{NotifyStage}
use Rattle.board_event_model.specs.declared.call.NotifyStage.TheVariants as notify
use Rattle.board_event_model.specs.declared.call.WaitStage.{WaitStage}
use Rattle.board_event_model.specs.declared.call.WaitStage.TheVariants as wait
use Rattle.board_event_model.specs.Ids.{Ids, IsWord, has, ids_where, in_word}
use Rattle.board_event_model.specs.EventMemory.{Event, IsRight, after, is_bits}
use Rattle.board_event_model.specs.NotifyCalls.{Notify, is_yes, notify_owed}
use Rattle.board_event_model.specs.WaitCalls.{Wait, first_word, swapped, wait_bits, wait_owed, wait_turn, word_in}
use Rattle.board_event_model.specs.EventCalls.{EventCall, a_notify, a_wait, is_last, is_timed, owed, reported, turn, MetAccess, PartyName, RunningCall, call_of, new_call, went_on}
use Rattle.board_event_model.specs.EventRuns.{EventMove, IsAllowed, IsCallOf, IsReached, IsRun, Moment, abandon, begin, elsewhere, expire, listened, moved, notifiers, put, release_listener, run_to, step, stepped}
use Rattle.board_event_model.specs.LawsOfCalls.{AllLaw, ExpireLaw, MetNonePending, first_step, taken_by}
use Rattle.board_event_model.proofs.SetLemmas.{or_split, or_left, or_right, either, has_kept, has_retain, is_false}
use Rattle.board_event_model.proofs.QuietLemmas.{eqb_true, eqb_self, StageFits}
use Rattle.board_event_model.proofs.SoundLemmas.{put_each, some_same, none_some, Sound, sound_reached, sound_run, sound_start, run_kind, CallFits}
use Rattle.board_event_model.proofs.EndLemmas.{queue_reached}
use Rattle.board_event_model.proofs.ReplyLemmas.{CallTracked, WaitsAt, tracked_reached, wait_of}
use Rattle.board_event_model.proofs.TrackLemmas.{swap_told}

abbrev pub Told : List ℕ → ℕ → Type 0
Told told id = list_any (λ x. x == id) told ≡ true

told_left : (xs ys : List ℕ) (id : ℕ) → Told xs id → Told (xs ++ ys) id
told_left [] ys id h = absurd (false≢true h)
told_left (x ∷ xs) ys id h = elim (or_split (eqb x id) (list_any (λ y. y == id) xs) h) [ inl e ↦ or_left (eqb x id) _ e | inr o ↦ or_right (eqb x id) _ (told_left xs ys id o) ]

told_right : (xs ys : List ℕ) (id : ℕ) → Told ys id → Told (xs ++ ys) id
told_right [] ys id h = h
told_right (x ∷ xs) ys id h = or_right (eqb x id) _ (told_right xs ys id h)

ids_has : (p : ℕ → Bool) (at n id : ℕ) → p id ≡ true → at ≤ id → id < at + n → Told (ids_where p at n) id
ids_has p at zero id h low high = absurd (omega arith)
ids_has p at (suc n) id h low high =
    elim (either (eqb at id)) [
      | inl same ↦ rw (ap p (eqb_true at id same) ∙ h) (or_left _ _ same)
      | inr apart ↦ (
          let d : (at ≡ id → ⊥) = (λ s. false≢true (sym apart ∙ ap (eqb at) (sym s) ∙ eqb_self at)) in
          let rest = ids_has p (at + 1) n id h (omega arith) (omega arith) in
          elim (p at) as (λ b. Told (if b then at ∷ ids_where p (at + 1) n else ids_where p (at + 1) n) id) [ true ↦ or_right _ _ rest | false ↦ rest ])
    ]

-- the memory that a call's first access met, or meets if it comes now
abbrev pub first_met : Event → List MetAccess → Event
first_met e [] = e
first_met e (s ∷ ss) = first_met s.met ss

first_is : (e : Event) (a : EventAccess) (steps : List MetAccess) (s : MetAccess) → first_step (record { met = e; access = a } ∷ steps) ≡ Some s → s.met ≡ first_met e steps
first_is e a [] s h = ap (λ (x : MetAccess). x.met) (sym (some_same _ s h))
first_is e a (t ∷ ts) s h = first_is t.met t.access ts s h

-- where an id that was pending at the first access is now
abbrev pub AllAt : Event → List ℕ → WaitStage → ℕ → Type 0
AllAt e told wait.Drain id = (has e.pending id ≡ true) ⊎ Told told id
AllAt e told (wait.Scan k) id = Unit {0}
AllAt e told (wait.Clear i) id = Unit {0}
AllAt e told (wait.Swap k some) id = ((has e.pending id ≡ true) × (k ≤ id / 64)) ⊎ Told told id
AllAt e told wait.Look id = Told told id
AllAt e told (wait.Pop n) id = Unit {0}
AllAt e told wait.Finished id = Unit {0}

-- nothing is taken: more ids may be pending
all_grows : (e f : Event) (told : List ℕ) (stage : WaitStage) (id : ℕ) → (has e.pending id ≡ true → has f.pending id ≡ true) → AllAt e told stage id → AllAt f told stage id
all_grows e f told wait.Drain id more h = elim h [ inl y ↦ inl (more y) | inr t ↦ inr t ]
all_grows e f told (wait.Scan k) id more h = tt
all_grows e f told (wait.Clear i) id more h = tt
all_grows e f told (wait.Swap k some) id more h = elim h [ inl y ↦ inl (more y.0, y.1) | inr t ↦ inr t ]
all_grows e f told wait.Look id more h = h
all_grows e f told (wait.Pop n) id more h = tt
all_grows e f told wait.Finished id more h = tt

pub notify_grows : (e : Event) (n : Notify) (stage : NotifyStage) (id : ℕ) → has e.pending id ≡ true → has (after e (notify_owed n.id stage)).pending id ≡ true
notify_grows e n notify.Look id h = h
notify_grows e n notify.Set id h = has_kept e.pending n.id id h
notify_grows e n notify.Post id h = h
notify_grows e n notify.Push id h =
    elim (either (not e.held || e.gone)) [
      | inl y ↦ rw y h
      | inr f ↦ rw f (elim (either (nat_lt (length e.queue) 512)) [ inl room ↦ rw room h | inr full ↦ rw full h ])
    ]
notify_grows e n notify.Finished id h = h

-- ---- its own steps

record Keeps (e : Event) (told : List ℕ) (id : ℕ) (t : EventProgress × WaitStage) : Type 0 where
  goes : is_last t.0 ≡ false → AllAt e (told ++ reported t.0) t.1 id
  ends : is_last t.0 ≡ true → Told (told ++ reported t.0) id

told_at : (e : Event) (told : List ℕ) (stage : WaitStage) (id : ℕ) → Told told id → AllAt e told stage id
told_at e told wait.Drain id h = inr h
told_at e told (wait.Scan k) id h = tt
told_at e told (wait.Clear i) id h = tt
told_at e told (wait.Swap k some) id h = inr h
told_at e told wait.Look id h = h
told_at e told (wait.Pop n) id h = tt
told_at e told wait.Finished id h = tt

told_keeps : (e : Event) (told : List ℕ) (id : ℕ) (t : EventProgress × WaitStage) → Told (told ++ reported t.0) id → Keeps e told id t
told_keeps e told id t h = record { goes = λ l. told_at e _ t.1 id h; ends = λ l. h }

swap_keeps : (e : Event) (told : List ℕ) (w : Wait) (k : ℕ) (some : Bool) (v id : ℕ) → IsWord e.pending k v → id / 64 < w.words → AllAt e told (wait.Swap k some) id → Keeps (after e (access.Swap k)) told id (swapped w k some v)
swap_keeps e told w k some v id is low h =
    elim h [
      | inr t ↦ told_keeps _ told id (swapped w k some v) (told_left told _ id t)
      | inl y ↦ elim (either (eqb (id / 64) k)) [
        | inl same ↦ told_keeps _ told id (swapped w k some v) (told_right told _ id (
            let m = eqb_true (id / 64) k same in
            subst (λ (x : List ℕ). Told x id) (sym (swap_told w e.pending k some v is)) (ids_has (has e.pending) (64 * k) 64 id y.0 (omega arith) (omega arith))))
        | inr apart ↦ (
            let d : (id / 64 ≡ k → ⊥) = (λ s. false≢true (sym apart ∙ ap (eqb (id / 64)) (sym s) ∙ eqb_self (id / 64))) in
            let left = has_retain e.pending (λ j. not (in_word k j)) id y.0 (rw apart refl) in
            elim (either (eqb (k + 1) w.words)) [
              | inl end ↦ absurd (let m = eqb_true (k + 1) w.words end in let b = y.1 in omega arith)
              | inr on ↦ rw on (record {
                goes = λ l. inl (left, (let b = y.1 in omega arith));
                ends = elim (v == 0) as (λ b. is_last (if b then progress.More else progress.Took (64 * k) v false) ≡ true → Told (told ++ reported (if b then progress.More else progress.Took (64 * k) v false)) id) [ true ↦ λ l. absurd (false≢true l) | false ↦ λ l. absurd (false≢true l) ];
              })
            ])
      ]
    ]

first_keeps : (e : Event) (told : List ℕ) (many : Bool) (id : ℕ) → many ≡ true → AllAt e told wait.Drain id → AllAt e told (first_word many) id
first_keeps e told true id m h = elim h [ inl y ↦ inl (y, omega arith) | inr t ↦ inr t ]
first_keeps e told false id m h = absurd (false≢true m)

append_none : (xs : List ℕ) (id : ℕ) → Told xs id → Told (xs ++ []) id
append_none xs id h = told_left xs [] id h

drain_more : (e : Event) (told : List ℕ) (id : ℕ) → AllAt e told wait.Drain id → AllAt (after e access.Signal) (told ++ []) wait.Drain id
drain_more e told id h = elim h [ inl y ↦ inl y | inr t ↦ inr (append_none told id t) ]

wait_keeps : (e : Event) (told : List ℕ) (w : Wait) (stage : WaitStage) (a : EventAnswer) (id : ℕ) → IsRight e (wait_owed stage) a → StageFits w stage → w.many ≡ true → (has e.pending id ≡ true → id / 64 < w.words) → AllAt e told stage id → Keeps (after e (wait_owed stage)) told id (wait_turn w stage a)
wait_keeps e told w wait.Drain a id right fits many low h = record {
  goes = λ l. elim (is_yes a) as (λ b. AllAt (after e access.Signal) (told ++ []) (if b then wait.Drain else first_word w.many) id) [
    | true ↦ drain_more e told id h
    | false ↦ first_keeps (after e access.Signal) (told ++ []) w.many id many (drain_more e told id h)
  ];
  ends = λ l. absurd (false≢true l);
}
wait_keeps e told w (wait.Scan k) a id right fits many low h = absurd (false≢true (sym fits.1 ∙ many))
wait_keeps e told w (wait.Clear i) a id right fits many low h = absurd (false≢true (sym fits ∙ many))
wait_keeps e told w (wait.Swap k some) a id right fits many low h =
    subst (λ (b : EventAnswer). Keeps (after e (access.Swap k)) told id (swapped w k some (word_in b))) (sym right.1)
    (elim h [
      | inl y ↦ swap_keeps e told w k some right.0 id right.2 (low y.0) (inl y)
      | inr t ↦ told_keeps _ told id (swapped w k some right.0) (told_left told _ id t)
    ])
wait_keeps e told w wait.Look a id right fits many low h = told_keeps _ told id (wait_turn w wait.Look a) (told_left told _ id h)
wait_keeps e told w (wait.Pop n) a id right fits many low h = absurd fits
wait_keeps e told w wait.Finished a id right fits many low h = absurd fits

-- ---- every running call

abbrev StartsAt : List MetAccess → WaitStage → Type 0
StartsAt [] stage = stage ≡ wait.Drain
StartsAt (s ∷ ss) stage = Unit {0}

abbrev pub FirstKept : Event → List ℕ → List MetAccess → WaitStage → Type 0
FirstKept e told steps stage = (id : ℕ) → has (first_met e steps).pending id ≡ true → AllAt e told stage id

record WaitWhole (e : Event) (told : List ℕ) (steps : List MetAccess) (w : Wait) : Type 0 where
  starts : StartsAt steps w.stage
  kept : w.many ≡ true → FirstKept e told steps w.stage

abbrev CallWhole : Event → List ℕ → List MetAccess → EventCall → Type 0
CallWhole e told steps (a_notify n) = Unit {0}
CallWhole e told steps (a_wait w) = WaitWhole e told steps w

-- more ids are pending, by another call's access
kept_grows : (e f : Event) (told : List ℕ) (steps : List MetAccess) (stage : WaitStage) → StartsAt steps stage → ((id : ℕ) → has e.pending id ≡ true → has f.pending id ≡ true) → FirstKept e told steps stage → FirstKept f told steps stage
kept_grows e f told [] stage starts more h = λ id p. subst (λ (s : WaitStage). AllAt f told s id) (sym starts) (inl p)
kept_grows e f told (s ∷ ss) stage starts more h = λ id p. all_grows e f told stage id (more id) (h id p)

whole_grows : (e f : Event) (told : List ℕ) (steps : List MetAccess) (c : EventCall) → ((id : ℕ) → has e.pending id ≡ true → has f.pending id ≡ true) → CallWhole e told steps c → CallWhole f told steps c
whole_grows e f told steps (a_notify n) more h = tt
whole_grows e f told steps (a_wait w) more h = record { starts = h.starts; kept = λ m. kept_grows e f told steps w.stage h.starts more (h.kept m) }

-- another call's access
whole_other : (e : Event) (l p q : PartyName) (c d : EventCall) (told : List ℕ) (steps : List MetAccess) → CallFits e l p c → CallFits e l q d → (q ≡ p → ⊥) → CallWhole e told steps d → CallWhole (after e (owed c)) told steps d
whole_other e l p q c (a_notify n) told steps f g apart h = tt
whole_other e l p q (a_notify n) (a_wait w) told steps f g apart h = whole_grows e _ told steps (a_wait w) (λ id b. notify_grows e n n.stage id b) h
whole_other e l p q (a_wait v) (a_wait w) told steps f g apart h = absurd (apart (g.0 ∙ sym f.0))

pub wait_bound : (e : Event) (w : Wait) (id : ℕ) → w.words ≡ e.max / 64 + 1 → id ≤ e.max → id / 64 < w.words
wait_bound e w id same low = let d : id / 64 ≤ e.max / 64 = omega arith in omega arith

whole_own : (e : Event) (l p : PartyName) (c : EventCall) (a : EventAnswer) (told : List ℕ) (steps : List MetAccess) → CallFits e l p c → ((id : ℕ) → has e.pending id ≡ true → id ≤ e.max) → IsRight e (owed c) a → is_last (turn c a).0 ≡ false → CallWhole e told steps c → CallWhole (after e (owed c)) (told ++ reported (turn c a).0) (record { met = e; access = owed c } ∷ steps) (turn c a).1
whole_own e l p (a_notify n) a told steps fits bounded right goes h = tt
whole_own e l p (a_wait w) a told steps fits bounded right goes h = record {
  starts = tt;
  kept = λ m id b. (wait_keeps e told w w.stage a id right fits.2 m (λ y. wait_bound e w id fits.1 (bounded id y)) (h.kept m id b)).goes goes;
}

abbrev AllWhole : Event → (PartyName → Option RunningCall) → Type 0
AllWhole e running = (p : PartyName) (r : RunningCall) → running p ≡ Some r → CallWhole e r.told r.steps (call_of r)

step_whole : (now : Moment) (p : PartyName) (r : RunningCall) (a : EventAnswer) → Sound now → AllWhole now.event now.running → now.running p ≡ Some r → IsRight now.event (owed (call_of r)) a → AllWhole (after now.event (owed (call_of r))) (put now.running p (went_on r now.event (owed (call_of r)) a))
step_whole now p r a sound all runs right =
    let fits = (sound.each p r runs).fits in
    put_each now.running p _ (λ q s. CallWhole (after now.event (owed (call_of r))) s.told s.steps (call_of s))
    (λ s g. elim (either (is_last (turn (call_of r) a).0)) [
      | inl y ↦ absurd (none_some s (rw y at g))
      | inr f ↦ subst (λ (x : RunningCall). CallWhole (after now.event (owed (call_of r))) x.told x.steps (call_of x)) (some_same _ s (rw f at g)) (whole_own now.event now.listener p (call_of r) a r.told r.steps fits sound.bounded right f (all p r runs))
    ])
    (λ q s d g. whole_other now.event now.listener p q (call_of r) (call_of s) s.told s.steps fits (sound.each q s g).fits d (all q s g))

some_whole : (now : Moment) (p : PartyName) (a : EventAccess) (b : EventAnswer) → Sound now → AllWhole now.event now.running → (x : Option RunningCall) → now.running p ≡ x → IsSomeAnd x (λ r. (a ≡ owed (call_of r)) × IsRight now.event a b) → AllWhole (stepped now p a b x).event (stepped now p a b x).running
some_whole now p a b sound all None e h = absurd h
some_whole now p a b sound all (Some r) e h = subst (λ (z : EventAccess). IsRight now.event z b → AllWhole (stepped now p z b (Some r)).event (stepped now p z b (Some r)).running) (sym h.0) (step_whole now p r b sound all e) h.1

new_whole : (e : Event) (l p : PartyName) (c : EventCall) → is_bits e.kind ≡ true → IsCallOf e l p c → CallWhole e [] [] c
new_whole e l p (a_notify n) bits is = tt
new_whole e l p (a_wait w) bits is =
    let same : w ≡ wait_bits (e.max / 64 + 1) w.many w.mode = rw bits at is.1 in
    subst (WaitWhole e [] []) (sym same) (record { starts = refl; kept = λ m id b. inl b })

-- the same ids are pending
same_whole : (e f : Event) (running : PartyName → Option RunningCall) → f.pending ≡ e.pending → AllWhole e running → AllWhole f running
same_whole e f running same all = λ p r g. whole_grows e f r.told r.steps (call_of r) (λ id b. ap (λ (x : Ids). has x id) same ∙ b) (all p r g)

gone_whole : (e : Event) (running : PartyName → Option RunningCall) (p : PartyName) → AllWhole e running → AllWhole e (put running p None)
gone_whole e running p all = put_each running p None (λ q s. CallWhole e s.told s.steps (call_of s)) (λ s n. absurd (none_some _ n)) (λ q s d g. all q s g)

whole_move : (now : Moment) (m : EventMove) → Sound now → AllWhole now.event now.running → IsAllowed now m → AllWhole (moved now m).event (moved now m).running
whole_move now (begin p c) sound all ok = put_each now.running p (Some (new_call now.begun c)) (λ q s. CallWhole now.event s.told s.steps (call_of s))
    (λ s n. subst (λ (x : RunningCall). CallWhole now.event x.told x.steps (call_of x)) (some_same _ _ n) (new_whole now.event now.listener p c sound.bits ok.1))
    (λ q s d g. all q s g)
whole_move now (step p a b) sound all ok = some_whole now p a b sound all (now.running p) refl ok
whole_move now (expire p) sound all ok = gone_whole now.event now.running p all
whole_move now (abandon p) sound all ok = same_whole now.event _ (put now.running p None) refl (gone_whole now.event now.running p all)
whole_move now release_listener sound all ok = same_whole now.event _ now.running refl all
whole_move now elsewhere sound all ok = all
whole_move now (notifiers n) sound all ok = same_whole now.event _ now.running refl all

whole_run : (start : Moment) (ms : List EventMove) → Sound start → AllWhole start.event start.running → IsRun start ms → AllWhole (run_to start ms).event (run_to start ms).running
whole_run start [] sound s r = s
whole_run start (m ∷ ms) sound s r = whole_move (run_to start ms) m (sound_run start ms sound r.0) (whole_run start ms sound s r.0) r.1

whole_reached : (now : Moment) → IsReached now → is_bits now.event.kind ≡ true → AllWhole now.event now.running
whole_reached now w bits =
    let start = listened w.kind w.name w.max w.listener in
    let k : is_bits w.kind ≡ true = ap is_bits (sym (ap (λ (x : Moment). x.event.kind) w.is ∙ run_kind start w.moves)) ∙ bits in
    subst (λ (x : Moment). AllWhole x.event x.running) (sym w.is) (whole_run start w.moves (sound_start w.kind w.name w.max w.listener k) (λ p r e. absurd (none_some _ e)) w.run)

pub all_law_holds : AllLaw
all_law_holds now reached bits p r w a b takes call many last s first id pending =
    let sound = sound_reached now reached bits in
    let own : a ≡ wait_owed w.stage = takes.owes ∙ ap owed call in
    let right : IsRight now.event (wait_owed w.stage) b = subst (λ (x : EventAccess). IsRight now.event x b) own takes.right in
    let f : CallFits now.event now.listener p (a_wait w) = subst (CallFits now.event now.listener p) call (sound.each p r takes.runs).fits in
    let h : CallWhole now.event r.told r.steps (a_wait w) = subst (CallWhole now.event r.told r.steps) call (whole_reached now reached bits p r takes.runs) in
    let met = first_is now.event a r.steps s first in
    let start : has (first_met now.event r.steps).pending id ≡ true = ap (λ (x : Event). has x.pending id) (sym met) ∙ pending in
    let done : is_last (wait_turn w w.stage b).0 ≡ true = ap (λ (c : EventCall). is_last (turn c b).0) (sym call) ∙ last in
    ap (λ (c : EventCall). list_any (λ x. x == id) (r.told ++ reported (turn c b).0)) call
    ∙ (wait_keeps now.event r.told w w.stage b id right f.2 many (λ y. wait_bound now.event w id f.1 (sound.bounded id y)) (h.kept many id start)).ends done

-- ---- a wait that expires

-- the first of some accesses
first_there : (e : Event) (s : MetAccess) (ss : List MetAccess) → IsSomeAnd (first_step (s ∷ ss)) (λ x. x.met ≡ first_met e (s ∷ ss))
first_there e s [] = refl
first_there e s (t ∷ ts) = first_there s.met t ts

met_none : (o : Option MetAccess) (f : Event) → IsSomeAnd o (λ x. x.met ≡ f) → ((id : ℕ) → has f.pending id ≡ false) → IsSomeAnd o MetNonePending
met_none None f h none = absurd h
met_none (Some s) f h none = λ id. ap (λ (x : Event). has x.pending id) h ∙ none id

-- a wait that looks has told each id that was pending at its first access, and where it has told nothing there was none
none_pending : (e : Event) (told : List ℕ) (w : Wait) (steps : List MetAccess) (stage : WaitStage) → StageFits w stage → WaitsAt stage → StartsAt steps stage → told ≡ [] → FirstKept e told steps stage → IsSomeAnd (first_step steps) MetNonePending
none_pending e told w steps wait.Drain fits at starts none kept = absurd at
none_pending e told w steps (wait.Scan k) fits at starts none kept = absurd at
none_pending e told w steps (wait.Clear id) fits at starts none kept = absurd at
none_pending e told w steps (wait.Swap k some) fits at starts none kept = absurd at
none_pending e told w [] wait.Look fits at starts none kept = absurd (let x = starts in cc)
none_pending e told w (s ∷ ss) wait.Look fits at starts none kept =
    met_none (first_step (s ∷ ss)) (first_met e (s ∷ ss)) (first_there e s ss)
    (λ id. is_false _ (λ h. false≢true (subst (λ (x : List ℕ). Told x id) none (kept id h))))
none_pending e told w steps (wait.Pop n) fits at starts none kept = absurd fits
none_pending e told w steps wait.Finished fits at starts none kept = absurd fits

expired_none : (told : List ℕ) (waited : Bool) (steps : List MetAccess) (c : EventCall) → CallTracked told waited steps c → is_timed c ≡ true → waited ≡ true → taken_by steps ≡ []
expired_none told waited steps (a_notify n) h timed w = absurd (false≢true timed)
expired_none told waited steps (a_wait v) h timed w = sym h.reply ∙ h.none w

expired_all : (now : Moment) (p : PartyName) (r : RunningCall) (w : Wait) → IsReached now → is_bits now.event.kind ≡ true → now.running p ≡ Some r → r.waited ≡ true → call_of r ≡ a_wait w → w.many ≡ true → IsSomeAnd (first_step r.steps) MetNonePending
expired_all now p r w reached bits runs waited call many =
    let t = wait_of r.told r.waited r.steps (call_of r) w call (tracked_reached now reached p r runs) in
    let f : CallFits now.event now.listener p (a_wait w) = subst (CallFits now.event now.listener p) call ((sound_reached now reached bits).each p r runs).fits in
    let h : CallWhole now.event r.told r.steps (a_wait w) = subst (CallWhole now.event r.told r.steps) call (whole_reached now reached bits p r runs) in
    none_pending now.event r.told w r.steps w.stage f.2 (t.looks waited) h.starts (t.none waited) (h.kept many)

pub expire_law_holds : ExpireLaw
expire_law_holds now reached p r runs ok =
    let e : IsSomeAnd (Some r) (λ r. (is_timed (call_of r) ≡ true) × (r.waited ≡ true)) = subst (λ (x : Option RunningCall). IsSomeAnd x (λ r. (is_timed (call_of r) ≡ true) × (r.waited ≡ true))) runs ok in
    record {
      none = expired_none r.told r.waited r.steps (call_of r) (tracked_reached now reached p r runs) e.0 e.1;
      all = λ bits w call many. expired_all now p r w reached bits runs e.1 call many;
      list = λ bits. (queue_reached now reached bits p r runs).found e.1;
    }
