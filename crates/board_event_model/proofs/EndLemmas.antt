-- How notifies and waits end.
use Rattle.std.proofs.Common.{◌≡◌, ℕ, ◌+◌, ◌*◌, ◌/◌, Bool, true, false, eqb, ltb, refl, sym, ◌∙◌, ap, inl, inr, arith, subst, Some, None, Option, List, [], ◌∷◌, ◌++◌, length}
use Rattle.std.specs.Prelude.{◌&&◌, ◌||◌, not, if◌then◌else◌, ◌==◌, IsSomeAnd, nat_lt}
use Rattle.std.specs.List.{list_any}
use Rattle.std.proofs.lemmas.Bool.{false≢true}
use Rattle.board_event_model.specs.declared.access.EventAccess.{EventAccess}
use Rattle.board_event_model.specs.declared.access.EventAccess.TheVariants as access
use Rattle.board_event_model.specs.declared.access.EventAnswer.{EventAnswer}
use Rattle.board_event_model.specs.declared.access.EventAnswer.TheVariants as answer
use Rattle.board_event_model.specs.declared.call.EventProgress.{EventProgress}
use Rattle.board_event_model.specs.declared.call.EventProgress.TheVariants as progress
use Rattle.board_event_model.specs.declared.call.NotifyStage.{NotifyStage}
use Rattle.board_event_model.specs.declared.call.NotifyStage.TheVariants as notify
use Rattle.board_event_model.specs.declared.call.WaitStage.{WaitStage}
use Rattle.board_event_model.specs.declared.call.WaitStage.TheVariants as wait
use Rattle.board_event_model.specs.EventMemory.{Event, IsRight, after, is_bits, is_pending, pop_answer, push_answer, taken}
use Rattle.board_event_model.specs.NotifyCalls.{Notify, is_yes, notify_owed, notify_queue, notify_turn, pushed}
use Rattle.board_event_model.specs.WaitCalls.{Wait, nothing, popped, swapped, wait_owed, wait_queue, wait_turn, word_in}
use Rattle.board_event_model.specs.EventCalls.{EventCall, a_notify, a_wait, is_last, is_waiting, owed, reported, turn, MetAccess, PartyName, RunningCall, call_of, new_call, went_on}
use Rattle.board_event_model.specs.EventRuns.{EventMove, IsAllowed, IsCallOf, IsReached, IsRun, Moment, Takes, abandon, begin, elsewhere, expire, listened, moved, notifiers, put, release_listener, run_to, step, stepped}
use Rattle.board_event_model.specs.LawsOfCalls.{FoundListEmpty, IsNotifyOk, IsOneOf, NoneLaw, NotifyLaw, QueueLaw, SeesEmptyWord, taken_by}
use Rattle.board_event_model.proofs.SetLemmas.{or_left, or_right, either}
use Rattle.board_event_model.proofs.QuietLemmas.{eqb_true, eqb_self, StageFits}
use Rattle.board_event_model.proofs.SoundLemmas.{put_each, some_same, none_some, sound_reached, run_kind, CallFits}
use Rattle.board_event_model.proofs.ReplyLemmas.{StageTold, Sees, OnBits, Saw, bits_saw, Popped, pop_comes, told_more, no_length, NotifyTracked, CallTracked, tracked_reached, wait_of, call_tracked, new_tracked}

-- ---- a notify that ends with ok

any_last : (id : ℕ) (xs : List ℕ) → list_any (λ x. x == id) (xs ++ id ∷ []) ≡ true
any_last id [] = or_left _ _ (eqb_self id)
any_last id (x ∷ xs) = or_right _ _ (any_last id xs)

push_ok : (e : Event) (id : ℕ) (steps : List MetAccess) → pushed (push_answer e) ≡ progress.Notified → IsNotifyOk id (record { met = e; access = access.Push id } ∷ steps)
push_ok e id steps ok =
    let pending : is_pending (after e (access.Push id)) id ≡ true =
    elim (either (not e.held || e.gone)) [
      | inl y ↦ absurd (let f = rw y at ok in cc)
      | inr f ↦ elim (either (nat_lt (length e.queue) 512)) [
        | inl room ↦ rw (f, room) (or_right _ _ (any_last id e.queue))
        | inr full ↦ absurd (let g = rw (f, full) at ok in cc)
      ]
    ] in
    record { made = record { met = e; access = access.Push id }; own = inl refl; pending = pending }

notify_ok : (e : Event) (steps : List MetAccess) (n : Notify) (stage : NotifyStage) (a : EventAnswer) → IsRight e (notify_owed n.id stage) a → NotifyTracked n.id steps stage → (notify_turn n stage a).0 ≡ progress.Notified → IsNotifyOk n.id (record { met = e; access = notify_owed n.id stage } ∷ steps)
notify_ok e steps n notify.Look a right h ok =
    elim (either (is_yes a)) [
      | inl y ↦ elim (either (ltb n.max n.id)) [ inl big ↦ absurd (let g = rw (y, big) at ok in cc) | inr small ↦ absurd (let g = rw (y, small) at ok in cc) ]
      | inr f ↦ absurd (let g = rw f at ok in cc)
    ]
notify_ok e steps n notify.Set a right h ok = absurd cc
notify_ok e steps n notify.Post a right h ok = record { made = h.made; own = inr h.own; pending = h.pending }
notify_ok e steps n notify.Push a right h ok = push_ok e n.id steps (ap pushed (sym right) ∙ ok)
notify_ok e steps n notify.Finished a right h ok = absurd cc

pub notify_law_holds : NotifyLaw
notify_law_holds now reached p r n a b takes call ok =
    let t : NotifyTracked n.id r.steps n.stage = subst (CallTracked r.told r.waited r.steps) call (tracked_reached now reached p r takes.runs) in
    let own : a ≡ notify_owed n.id n.stage = takes.owes ∙ ap owed call in
    let right : IsRight now.event (notify_owed n.id n.stage) b = subst (λ (x : EventAccess). IsRight now.event x b) own takes.right in
    let done : (notify_turn n n.stage b).0 ≡ progress.Notified = ap (λ (c : EventCall). (turn c b).0) (sym call) ∙ ok in
    subst (λ (x : EventAccess). IsNotifyOk n.id (record { met = now.event; access = x } ∷ r.steps)) (sym own) (notify_ok now.event r.steps n n.stage b right t done)

-- ---- calls on a queue

abbrev pub QueueCall : EventCall → Type 0
QueueCall (a_notify n) = n.stage ≡ notify.Push
QueueCall (a_wait w) = (k : ℕ) × (w.stage ≡ wait.Pop k)

notify_on : (n : Notify) (stage : NotifyStage) (a : EventAnswer) → stage ≡ notify.Push → is_last (notify_turn n stage a).0 ≡ false → ⊥
notify_on n notify.Look a s l = absurd cc
notify_on n notify.Set a s l = absurd cc
notify_on n notify.Post a s l = absurd cc
notify_on n notify.Push answer.Done s l = false≢true (sym l)
notify_on n notify.Push answer.Yes s l = false≢true (sym l)
notify_on n notify.Push answer.No s l = false≢true (sym l)
notify_on n notify.Push (answer.Word v) s l = false≢true (sym l)
notify_on n notify.Push (answer.Id v) s l = false≢true (sym l)
notify_on n notify.Push answer.Empty s l = false≢true (sym l)
notify_on n notify.Push answer.Full s l = false≢true (sym l)
notify_on n notify.Push answer.Gone s l = false≢true (sym l)
notify_on n notify.Finished a s l = absurd cc

pop_on : (e : Event) (told : List ℕ) (w : Wait) (k : ℕ) (stage : WaitStage) (a : EventAnswer) → stage ≡ wait.Pop k → IsRight e (wait_owed stage) a → StageTold told stage → Popped w told e.queue (wait_turn w stage a)
pop_on e told w k stage a s right t =
    let same : wait.Pop k ≡ stage = sym s in
    subst (λ (x : WaitStage). IsRight e (wait_owed x) a → StageTold told x → Popped w told e.queue (wait_turn w x a)) same
    (λ r u. subst (λ (b : EventAnswer). Popped w told e.queue (popped w k b)) (sym r) (pop_comes w told k e.queue u)) right t

queue_goes : (e : Event) (told : List ℕ) (waited : Bool) (steps : List MetAccess) (c : EventCall) (a : EventAnswer) → CallTracked told waited steps c → QueueCall c → IsRight e (owed c) a → is_last (turn c a).0 ≡ false → QueueCall (turn c a).1
queue_goes e told waited steps (a_notify n) a t q right goes = absurd (notify_on n n.stage a q goes)
queue_goes e told waited steps (a_wait w) a t q right goes = (pop_on e told w q.0 w.stage a q.1 right t.stage).goes goes

new_queue : (e : Event) (l p : PartyName) (c : EventCall) → is_bits e.kind ≡ false → IsCallOf e l p c → QueueCall c
new_queue e l p (a_notify n) bits is =
    let same : n ≡ notify_queue n.id = rw bits at is in
    ap (λ (x : Notify). x.stage) same
new_queue e l p (a_wait w) bits is =
    let same : w ≡ wait_queue w.many w.mode = rw bits at is.1 in
    (0, ap (λ (x : Wait). x.stage) same)

abbrev StillWaits : EventProgress × WaitStage → Type 0
StillWaits t = is_waiting t.0 ≡ true

-- a pop after which a call waits found the list empty
pop_found : (w : Wait) (k : ℕ) (queue : List ℕ) → is_waiting (popped w k (pop_answer queue)).0 ≡ true → queue ≡ []
pop_found w k [] h = refl
pop_found w k (x ∷ xs) h = absurd (of (w.many && not (k + 1 == 513)) h)
  where
    of : (b : Bool) → StillWaits (if b then (progress.Id x false, wait.Pop (k + 1)) else (progress.Id x true, wait.Finished)) → ⊥
    of true f = false≢true f
    of false f = false≢true f

wait_found : (e : Event) (w : Wait) (k : ℕ) (stage : WaitStage) (a : EventAnswer) → stage ≡ wait.Pop k → IsRight e (wait_owed stage) a → is_waiting (wait_turn w stage a).0 ≡ true → (wait_owed stage ≡ access.Pop) × (e.queue ≡ [])
wait_found e w k stage a is =
    subst (λ (x : WaitStage). IsRight e (wait_owed x) a → is_waiting (wait_turn w x a).0 ≡ true → (wait_owed x ≡ access.Pop) × (e.queue ≡ [])) (sym is)
    (λ right h. (refl, pop_found w k e.queue (subst (λ (b : EventAnswer). is_waiting (popped w k b).0 ≡ true) right h)))

queue_found : (e : Event) (c : EventCall) (a : EventAnswer) → QueueCall c → IsRight e (owed c) a → is_last (turn c a).0 ≡ false → is_waiting (turn c a).0 ≡ true → (owed c ≡ access.Pop) × (e.queue ≡ [])
queue_found e (a_notify n) a q right goes h = absurd (notify_on n n.stage a q goes)
queue_found e (a_wait w) a q right goes h = wait_found e w q.0 w.stage a q.1 right h

-- on a queue, every running call is of a queue
pub record QueueTracked (r : RunningCall) : Type 0 where
  pub own : CallTracked r.told r.waited r.steps (call_of r)
  pub queue : QueueCall (call_of r)
  pub found : r.waited ≡ true → FoundListEmpty r.steps

abbrev pub AllQueue : (PartyName → Option RunningCall) → Type 0
AllQueue running = (p : PartyName) (r : RunningCall) → running p ≡ Some r → QueueTracked r

step_queue : (now : Moment) (p : PartyName) (r : RunningCall) (a : EventAnswer) → AllQueue now.running → now.running p ≡ Some r → IsRight now.event (owed (call_of r)) a → AllQueue (put now.running p (went_on r now.event (owed (call_of r)) a))
step_queue now p r a all runs right =
    put_each now.running p _ (λ q s. QueueTracked s)
    (λ s g. elim (either (is_last (turn (call_of r) a).0)) [
      | inl y ↦ absurd (none_some s (rw y at g))
      | inr f ↦ subst QueueTracked (some_same _ s (rw f at g)) (record {
        own = call_tracked now.event r.told r.waited r.steps (call_of r) a (all p r runs).own right f;
        queue = queue_goes now.event r.told r.waited r.steps (call_of r) a (all p r runs).own (all p r runs).queue right f;
        found = queue_found now.event (call_of r) a (all p r runs).queue right f;
      })
    ])
    (λ q s d g. all q s g)

some_queue : (now : Moment) (p : PartyName) (a : EventAccess) (b : EventAnswer) → AllQueue now.running → (x : Option RunningCall) → now.running p ≡ x → IsSomeAnd x (λ r. (a ≡ owed (call_of r)) × IsRight now.event a b) → AllQueue (stepped now p a b x).running
some_queue now p a b all None e h = absurd h
some_queue now p a b all (Some r) e h = subst (λ (z : EventAccess). IsRight now.event z b → AllQueue (stepped now p z b (Some r)).running) (sym h.0) (step_queue now p r b all e) h.1

gone_queue : (running : PartyName → Option RunningCall) (p : PartyName) → AllQueue running → AllQueue (put running p None)
gone_queue running p all = put_each running p None (λ q s. QueueTracked s) (λ s n. absurd (none_some _ n)) (λ q s d g. all q s g)

queue_move : (now : Moment) (m : EventMove) → is_bits now.event.kind ≡ false → AllQueue now.running → IsAllowed now m → AllQueue (moved now m).running
queue_move now (begin p c) bits all ok = put_each now.running p (Some (new_call now.begun c)) (λ q s. QueueTracked s)
    (λ s n. subst QueueTracked (some_same _ _ n) (record { own = new_tracked now.event now.listener p c ok.1; queue = new_queue now.event now.listener p c bits ok.1; found = λ f. absurd (false≢true f) }))
    (λ q s d g. all q s g)
queue_move now (step p a b) bits all ok = some_queue now p a b all (now.running p) refl ok
queue_move now (expire p) bits all ok = gone_queue now.running p all
queue_move now (abandon p) bits all ok = gone_queue now.running p all
queue_move now release_listener bits all ok = all
queue_move now elsewhere bits all ok = all
queue_move now (notifiers n) bits all ok = all

queue_run : (start : Moment) (ms : List EventMove) → is_bits start.event.kind ≡ false → AllQueue start.running → IsRun start ms → AllQueue (run_to start ms).running
queue_run start [] bits s r = s
queue_run start (m ∷ ms) bits s r = queue_move (run_to start ms) m (ap is_bits (run_kind start ms) ∙ bits) (queue_run start ms bits s r.0) r.1

pub queue_reached : (now : Moment) → IsReached now → is_bits now.event.kind ≡ false → AllQueue now.running
queue_reached now w bits =
    let start = listened w.kind w.name w.max w.listener in
    let k : is_bits w.kind ≡ false = ap is_bits (sym (ap (λ (x : Moment). x.event.kind) w.is ∙ run_kind start w.moves)) ∙ bits in
    subst (λ (x : Moment). AllQueue x.running) (sym w.is) (queue_run start w.moves k (λ p r e. absurd (none_some _ e)) w.run)

-- what a turn of a wait on a queue comes to
queue_turn : (now : Moment) (p : PartyName) (r : RunningCall) (w : Wait) (a : EventAccess) (b : EventAnswer) → IsReached now → is_bits now.event.kind ≡ false → Takes now p r a b → (call_of r) ≡ a_wait w → (a ≡ access.Pop) × Popped w r.told now.event.queue (wait_turn w w.stage b)
queue_turn now p r w a b reached bits takes call =
    let t = queue_reached now reached bits p r takes.runs in
    let own : a ≡ wait_owed w.stage = takes.owes ∙ ap owed call in
    let right : IsRight now.event (wait_owed w.stage) b = subst (λ (x : EventAccess). IsRight now.event x b) own takes.right in
    let q : QueueCall (a_wait w) = subst QueueCall call t.queue in
    (own ∙ ap wait_owed q.1, pop_on now.event r.told w q.0 w.stage b q.1 right (wait_of r.told r.waited r.steps (call_of r) w call t.own).stage)

pub queue_law_holds : QueueLaw
queue_law_holds now reached bits p r w a b takes call many last =
    let t = queue_turn now p r w a b reached bits takes call in
    let done : is_last (wait_turn w w.stage b).0 ≡ true = ap (λ (c : EventCall). is_last (turn c b).0) (sym call) ∙ last in
    elim (t.1.last many done) [
      | inl e ↦ inl e
      | inr n ↦ inr (ap (λ (c : EventCall). length (r.told ++ reported (turn c b).0)) call ∙ n)
    ]

-- ---- a wait that ends with none

abbrev Nones : List ℕ → EventProgress × WaitStage → Type 0
Nones told t = t.0 ≡ progress.Nothing → told ≡ []

nothing_nones : (told : List ℕ) (w : Wait) → told ≡ [] → Nones told (nothing w)
nothing_nones told w h = λ f. h

swap_nones : (told : List ℕ) (w : Wait) (k : ℕ) (some : Bool) (v : ℕ) → (some ≡ false → told ≡ []) → Nones told (swapped w k some v)
swap_nones told w k false v h = λ f. h refl
swap_nones told w k true v h =
    elim (either (eqb (k + 1) w.words)) [
      | inl end ↦ rw end (λ f. absurd cc)
      | inr on ↦ rw on (elim (v == 0) as (λ b. Nones told ((if b then progress.More else progress.Took (64 * k) v false), wait.Swap (k + 1) true)) [ true ↦ λ f. absurd cc | false ↦ λ f. absurd cc ])
    ]

pop_nones : (told : List ℕ) (w : Wait) (n : ℕ) (queue : List ℕ) → n ≡ length told → Nones told (popped w n (pop_answer queue))
pop_nones told w n (x ∷ xs) h = elim (w.many && not (n + 1 == 513)) as (λ b. Nones told (if b then (progress.Id x false, wait.Pop (n + 1)) else (progress.Id x true, wait.Finished))) [ true ↦ λ f. absurd cc | false ↦ λ f. absurd cc ]
pop_nones told w n [] h =
    elim (either (eqb n 0)) [
      | inl z ↦ λ f. (let m = eqb_true n 0 z in no_length told (omega arith))
      | inr s ↦ rw s (λ f. absurd cc)
    ]

wait_nones : (e : Event) (told : List ℕ) (w : Wait) (stage : WaitStage) (a : EventAnswer) → IsRight e (wait_owed stage) a → StageTold told stage → Nones told (wait_turn w stage a)
wait_nones e told w wait.Drain a right h = λ f. absurd cc
wait_nones e told w (wait.Scan k) a right h = λ f. h
wait_nones e told w (wait.Clear id) a right h = λ f. h
wait_nones e told w (wait.Swap k some) a right h = swap_nones told w k some (word_in a) h
wait_nones e told w wait.Look a right h = λ f. h
wait_nones e told w (wait.Pop n) a right h = subst (λ (b : EventAnswer). Nones told (popped w n b)) (sym right) (pop_nones told w n e.queue h)
wait_nones e told w wait.Finished a right h = λ f. absurd cc

on_bits : (w : Wait) (stage : WaitStage) → StageFits w stage → OnBits stage
on_bits w wait.Drain h = tt
on_bits w (wait.Scan k) h = tt
on_bits w (wait.Clear id) h = tt
on_bits w (wait.Swap k some) h = tt
on_bits w wait.Look h = tt
on_bits w (wait.Pop n) h = absurd h
on_bits w wait.Finished h = absurd h

-- what a turn of a wait on bits has seen
bits_turn : (now : Moment) (p : PartyName) (r : RunningCall) (w : Wait) (a : EventAccess) (b : EventAnswer) → IsReached now → is_bits now.event.kind ≡ true → Takes now p r a b → (call_of r) ≡ a_wait w → (w.words ≡ now.event.max / 64 + 1) × Saw (record { met = now.event; access = a } ∷ r.steps) w (wait_turn w w.stage b)
bits_turn now p r w a b reached bits takes call =
    let sane = (sound_reached now reached bits).each p r takes.runs in
    let own : a ≡ wait_owed w.stage = takes.owes ∙ ap owed call in
    let right : IsRight now.event (wait_owed w.stage) b = subst (λ (x : EventAccess). IsRight now.event x b) own takes.right in
    let f : CallFits now.event now.listener p (a_wait w) = subst (CallFits now.event now.listener p) call sane.fits in
    let t = wait_of r.told r.waited r.steps (call_of r) w call (tracked_reached now reached p r takes.runs) in
    (f.1, subst (λ (x : EventAccess). Saw (record { met = now.event; access = x } ∷ r.steps) w (wait_turn w w.stage b)) (sym own) (bits_saw now.event r.steps w w.stage b right (on_bits w w.stage f.2) t.seen))

seen_word : (steps : List MetAccess) (k : ℕ) → Sees steps k → (s : MetAccess) × IsOneOf steps s × SeesEmptyWord s k
seen_word steps k o = (o.look, o.own, o.empty)

nothing_reported : (g : EventProgress) → g ≡ progress.Nothing → reported g ≡ []
nothing_reported g h = ap reported h

pub none_law_holds : NoneLaw
none_law_holds now reached p r w a b takes call none =
    let own : a ≡ wait_owed w.stage = takes.owes ∙ ap owed call in
    let right : IsRight now.event (wait_owed w.stage) b = subst (λ (x : EventAccess). IsRight now.event x b) own takes.right in
    let t = wait_of r.told r.waited r.steps (call_of r) w call (tracked_reached now reached p r takes.runs) in
    let done : (wait_turn w w.stage b).0 ≡ progress.Nothing = ap (λ (c : EventCall). (turn c b).0) (sym call) ∙ none in
    let empty = wait_nones now.event r.told w w.stage b right t.stage done in
    record {
      mode = elim (either (is_bits now.event.kind)) [
        | inl y ↦ ((bits_turn now p r w a b reached y takes call).1.nothing done).0
        | inr n ↦ ((queue_turn now p r w a b reached n takes call).1.nothing done).0
      ];
      none = ap (λ (x : EventAccess). taken_by r.steps ++ taken now.event x) own ∙ sym (told_more now.event r.told r.steps w b right t.reply) ∙ ap (λ (x : List ℕ). x ++ reported (wait_turn w w.stage b).0) empty ∙ nothing_reported _ done;
      words = λ bits k low. (
          let u = bits_turn now p r w a b reached bits takes call in
          seen_word _ k ((u.1.nothing done).1 k (let m = u.0 in omega arith)));
      list = λ n. (let u = queue_turn now p r w a b reached n takes call in (u.0, (u.1.nothing done).1));
    }
