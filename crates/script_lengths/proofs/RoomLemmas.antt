-- The ids that a call was told take few bytes.
use Rattle.std.proofs.Common.{◌≡◌, ℕ, zero, suc, ◌+◌, ◌-◌, ◌*◌, ◌≤◌, Bool, true, false, List, [], ◌∷◌, ◌++◌, length, length-append, arith, refl, sym, ap, subst, ◌∙◌}
use Rattle.std.specs.Prelude.{if◌then◌else◌, ◌==◌, ◌&&◌, ◌||◌, not, nat_lt}
use Rattle.std.specs.Int.{bit_at}
use Rattle.std.specs.List.{flat_map}
use Rattle.std.proofs.lemmas.Bool.{eqb-true, eqb-false}
use Rattle.std.proofs.lemmas.Fmt.{length-decimal-le}
use Rattle.std.proofs.lemmas.Grind.{flat_map-append}
use Rattle.board_event_model.specs.declared.access.EventAnswer.{EventAnswer}
use Rattle.board_event_model.specs.declared.access.EventAnswer.TheVariants as answer
use Rattle.board_event_model.specs.declared.call.EventProgress.{EventProgress}
use Rattle.board_event_model.specs.declared.call.EventProgress.TheVariants as progress
use Rattle.board_event_model.specs.declared.call.NotifyStage.{NotifyStage}
use Rattle.board_event_model.specs.declared.call.NotifyStage.TheVariants as notify
use Rattle.board_event_model.specs.declared.call.WaitStage.{WaitStage}
use Rattle.board_event_model.specs.declared.call.WaitStage.TheVariants as wait
use Rattle.board_names.specs.declared.errors.event.NotifierNotifyError.TheVariants as error
use Rattle.board_event_model.specs.Ids.{ids_where}
use Rattle.board_event_model.specs.EventMemory.{Event, IsRight, pop_answer}
use Rattle.board_event_model.specs.NotifyCalls.{Notify, is_yes, notify_turn, pushed}
use Rattle.board_event_model.specs.WaitCalls.{Wait, first_word, is_try, least_id, nothing, popped, scanned, wait_owed, wait_turn, word_in}
use Rattle.board_event_model.specs.EventCalls.{EventCall, a_notify, a_wait, owed, reported, turn}
use Rattle.board_model.specs.LineGrammar.{IsNumber}
use Rattle.board_model.specs.AnswerGrammar.{number_text}
use Rattle.script_model.specs.SoundEvents.{AreNumbers}
use Rattle.script_model.proofs.NumberLemmas.{IsSmall}
use Rattle.script_lengths.proofs.CallLemmas.{KeepsCalls}
use Rattle.script_lengths.specs.EventRooms.{HasRoom, HasRoomAt, ids_bytes}
use Rattle.script_lengths.proofs.TextLemmas.{item_few, joined}

-- ---- bytes

bytes_both : (xs ys : List ℕ) → ids_bytes (xs ++ ys) ≡ ids_bytes xs + ids_bytes ys
bytes_both xs ys = ap length (flat_map-append number_text xs ys) ∙ length-append (flat_map number_text xs) (flat_map number_text ys)

grown : (told ids : List ℕ) (m n : ℕ) → ids_bytes told ≤ m → ids_bytes ids ≤ n → ids_bytes (told ++ ids) ≤ m + n
grown told ids m n h k = omega (arith, bytes_both told ids, h, k)

same : (told : List ℕ) (m : ℕ) → ids_bytes told ≤ m → ids_bytes (told ++ []) ≤ m
same told m h =
    let k = grown told [] m 0 h (omega arith) in
    omega (arith, k)

small_item : (n : ℕ) → n ≤ 65535 → length (number_text n) ≤ 6
small_item n h =
    let d = length-decimal-le 5 n (omega arith) (omega (arith, h)) (omega (arith, h)) in
    omega (arith, d)

word_bytes : (p : ℕ → Bool) (at n : ℕ) → at + n ≤ 65536 → ids_bytes (ids_where p at n) ≤ 6 * n
word_bytes p at zero h = omega arith
word_bytes p at (suc n) h = cut (p at) (word_bytes p (at + 1) n (omega (arith, h)))
  where
    cut : (b : Bool) → ids_bytes (ids_where p (at + 1) n) ≤ 6 * n → ids_bytes (if b then at ∷ ids_where p (at + 1) n else ids_where p (at + 1) n) ≤ 6 * suc n
    cut true k =
        let t = joined (number_text at) (flat_map number_text (ids_where p (at + 1) n)) 6 (6 * n) (small_item at (omega (arith, h))) k in
        omega (arith, t)
    cut false k = omega (arith, k)

took_bytes : (k v : ℕ) (last : Bool) → k ≤ 1023 → ids_bytes (reported (progress.Took (64 * k) v last)) ≤ 384
took_bytes k v last h = word_bytes (λ i. bit_at v (i - 64 * k) == 1) (64 * k) 64 (omega (arith, h))

one_bytes : (id : ℕ) (last : Bool) → IsNumber id → ids_bytes (reported (progress.Id id last)) ≤ 21
one_bytes id last h = joined (number_text id) [] 21 0 (item_few id h) (omega arith)

-- ---- a step

-- what a step reports leaves room, where it goes on and where it ends
abbrev Keeps : List ℕ → EventProgress × WaitStage → Type 0
Keeps told x = HasRoomAt x.1 (told ++ reported x.0) × (ids_bytes (told ++ reported x.0) ≤ 393600)

keeps_if : (told : List ℕ) (b : Bool) (x y : EventProgress × WaitStage) → Keeps told x → Keeps told y → Keeps told (if b then x else y)
keeps_if told true x y h k = h
keeps_if told false x y h k = k

-- nothing was told before, and nothing is reported
none_keeps : (told : List ℕ) (stage : WaitStage) → ids_bytes told ≤ 0 → HasRoomAt stage (told ++ []) → Keeps told (progress.More, stage)
none_keeps told stage h k = (k, omega (arith, same told 0 h))

nothing_keeps : (told : List ℕ) (w : Wait) → ids_bytes told ≤ 0 → Keeps told (nothing w)
nothing_keeps told w h =
    let k = same told 0 h in
    keeps_if told (is_try w.mode) (progress.Nothing, wait.Finished) (progress.More, wait.Look) (omega (arith, k), omega (arith, k)) (k, omega (arith, k))

drain_keeps : (told : List ℕ) (w : Wait) (b : Bool) → ids_bytes told ≤ 0 → Keeps told (progress.More, if b then wait.Drain else first_word w.many)
drain_keeps told w true h = (same told 0 h, omega (arith, same told 0 h))
drain_keeps told w false h = by_count w.many
  where
    by_count : (many : Bool) → Keeps told (progress.More, first_word many)
    by_count true = (same told 0 h, omega (arith, same told 0 h))
    by_count false = (same told 0 h, omega (arith, same told 0 h))

scanned_keeps : (told : List ℕ) (w : Wait) (k v : ℕ) → ids_bytes told ≤ 0 → Keeps told (scanned w k v)
scanned_keeps told w k v h =
    let e = same told 0 h in
    keeps_if told (v == 0) (if k + 1 == w.words then nothing w else (progress.More, wait.Scan (k + 1))) (progress.More, wait.Clear (least_id k v))
    (keeps_if told (k + 1 == w.words) (nothing w) (progress.More, wait.Scan (k + 1)) (nothing_keeps told w h) (e, omega (arith, e)))
    (e, omega (arith, e))

-- word k was taken: whether it was the last one, whether ids were taken before, and whether it was empty
swapped_by : (told : List ℕ) (w : Wait) (k v : ℕ) (last some empty : Bool) → k ≤ 1023 → ids_bytes told ≤ (if some then 384 * k else 0)
    → Keeps told (if last then (if some || not empty then (progress.Took (64 * k) v true, wait.Finished) else nothing w) else ((if empty then progress.More else progress.Took (64 * k) v false), wait.Swap (k + 1) (some || not empty)))
swapped_by told w k v true true empty le h =
    let t = grown told (reported (progress.Took (64 * k) v true)) (384 * k) 384 h (took_bytes k v true le) in
    (omega (arith, t, le), omega (arith, t, le))
swapped_by told w k v true false true le h = nothing_keeps told w h
swapped_by told w k v true false false le h =
    let t = grown told (reported (progress.Took (64 * k) v true)) 0 384 h (took_bytes k v true le) in
    (omega (arith, t), omega (arith, t))
swapped_by told w k v false true true le h =
    let t = same told (384 * k) h in
    (omega (arith, t), omega (arith, t, le))
swapped_by told w k v false true false le h =
    let t = grown told (reported (progress.Took (64 * k) v false)) (384 * k) 384 h (took_bytes k v false le) in
    (omega (arith, t), omega (arith, t, le))
swapped_by told w k v false false true le h = (same told 0 h, omega (arith, same told 0 h))
swapped_by told w k v false false false le h =
    let t = grown told (reported (progress.Took (64 * k) v false)) 0 384 h (took_bytes k v false le) in
    (omega (arith, t), omega (arith, t))

look_keeps : (told : List ℕ) (b : Bool) → ids_bytes told ≤ 0 → Keeps told (if b then (progress.More, wait.Drain) else (progress.Waiting, wait.Look))
look_keeps told true h = (same told 0 h, omega (arith, same told 0 h))
look_keeps told false h = (same told 0 h, omega (arith, same told 0 h))

popped_id : (told : List ℕ) (w : Wait) (n x : ℕ) → IsNumber x → ids_bytes told ≤ 21 * n → n ≤ 512 → Keeps told (popped w n (answer.Id x))
popped_id told w n x h z le = at w.many (n + 1 == 513) (eqb-false (n + 1) 513)
  where
    at : (many last : Bool) → (last ≡ false → n + 1 ≡ 513 → ⊥) → Keeps told (if many && not last then (progress.Id x false, wait.Pop (n + 1)) else (progress.Id x true, wait.Finished))
    at true false e =
        let t = grown told (reported (progress.Id x false)) (21 * n) 21 z (one_bytes x false h) in
        let f = e refl in
        ((omega (arith, t), omega (arith, le, f)), omega (arith, t, le))
    at true true e =
        let t = grown told (reported (progress.Id x true)) (21 * n) 21 z (one_bytes x true h) in
        (omega (arith, t, le), omega (arith, t, le))
    at false last e =
        let t = grown told (reported (progress.Id x true)) (21 * n) 21 z (one_bytes x true h) in
        (omega (arith, t, le), omega (arith, t, le))

popped_none : (told : List ℕ) (w : Wait) (n : ℕ) → ids_bytes told ≤ 21 * n → n ≤ 512 → Keeps told (popped w n answer.Empty)
popped_none told w n z le = at (n == 0) (is_try w.mode) (eqb-true n 0)
  where
    at : (first tries : Bool) → (first ≡ true → n ≡ 0) → Keeps told (if first then (if tries then (progress.Nothing, wait.Finished) else (progress.Waiting, wait.Pop 0)) else (progress.Took 0 0 true, wait.Finished))
    at true true e =
        let t = same told (21 * n) z in
        (omega (arith, t, le), omega (arith, t, le))
    at true false e =
        let t = same told (21 * n) z in
        let f : n ≡ 0 = e refl in
        ((omega (arith, t, f), omega arith), omega (arith, t, le))
    at false tries e =
        let t = grown told (reported (progress.Took 0 0 true)) (21 * n) 384 z (took_bytes 0 0 true (omega arith)) in
        (omega (arith, t, le), omega (arith, t, le))

popped_keeps : (told : List ℕ) (w : Wait) (n : ℕ) (queue : List ℕ) → AreNumbers queue → ids_bytes told ≤ 21 * n → n ≤ 512 → Keeps told (popped w n (pop_answer queue))
popped_keeps told w n [] h z le = popped_none told w n z le
popped_keeps told w n (x ∷ xs) h z le = popped_id told w n x h.0 z le

-- what a wait reports at a right answer leaves room
wait_keeps : (e : Event) (w : Wait) (stage : WaitStage) (a : EventAnswer) (told : List ℕ) → IsRight e (wait_owed stage) a → IsSmall (wait_owed stage) → AreNumbers e.queue → HasRoomAt stage told → Keeps told (wait_turn w stage a)
wait_keeps e w wait.Drain a told r h q z = drain_keeps told w (is_yes a) z
wait_keeps e w (wait.Scan k) a told r h q z = scanned_keeps told w k (word_in a) z
wait_keeps e w (wait.Clear id) a told r h q z =
    let t = grown told (reported (progress.Id id true)) 0 21 z (one_bytes id true (omega (arith, h))) in
    (omega (arith, t), omega (arith, t))
wait_keeps e w (wait.Swap k some) a told r h q z = swapped_by told w k (word_in a) (k + 1 == w.words) some (word_in a == 0) h z
wait_keeps e w wait.Look a told r h q z = look_keeps told (is_yes a) z
wait_keeps e w (wait.Pop n) a told r h q z = subst (λ (b : EventAnswer). Keeps told (popped w n b)) (sym r) (popped_keeps told w n e.queue q z.0 z.1)
wait_keeps e w wait.Finished a told r h q z = (same told 393600 z, same told 393600 z)

-- ---- a notify reports nothing

reports_if : (b : Bool) (x y : EventProgress × NotifyStage) → reported x.0 ≡ [] → reported y.0 ≡ [] → reported (if b then x else y).0 ≡ []
reports_if true x y h k = h
reports_if false x y h k = k

pushed_none : (a : EventAnswer) → reported (pushed a) ≡ []
pushed_none answer.Done = refl
pushed_none answer.Full = refl
pushed_none a = refl

notify_none : (n : Notify) (stage : NotifyStage) (a : EventAnswer) → reported (notify_turn n stage a).0 ≡ []
notify_none n notify.Look a =
    reports_if (is_yes a) (if nat_lt n.max n.id then (progress.Refused error.TriggerIdOutOfBounds, notify.Finished) else (progress.More, notify.Set)) (progress.Refused error.Disconnected, notify.Finished)
    (reports_if (nat_lt n.max n.id) (progress.Refused error.TriggerIdOutOfBounds, notify.Finished) (progress.More, notify.Set) refl refl) refl
notify_none n notify.Set a = refl
notify_none n notify.Post a = refl
notify_none n notify.Push a = pushed_none a
notify_none n notify.Finished a = refl

-- ---- a call

-- after a right answer a call has room, and whatever it told is short
pub record IsRoomyTurn (c : EventCall) (a : EventAnswer) (told : List ℕ) : Type 0 where
  pub room : HasRoom (turn c a).1 (told ++ reported (turn c a).0)
  pub short : ids_bytes (told ++ reported (turn c a).0) ≤ 393600

pub turn_keeps : (e : Event) (c : EventCall) (a : EventAnswer) (told : List ℕ) → IsRight e (owed c) a → IsSmall (owed c) → AreNumbers e.queue → HasRoom c told → IsRoomyTurn c a told
turn_keeps e (a_notify n) a told r h q z =
    let t : ids_bytes (told ++ reported (notify_turn n n.stage a).0) ≤ 0 = subst (λ (ids : List ℕ). ids_bytes (told ++ ids) ≤ 0) (sym (notify_none n n.stage a)) (same told 0 z) in
    record { room = t; short = omega (arith, t) }
turn_keeps e (a_wait w) a told r h q z =
    let t = wait_keeps e w w.stage a told r h q z in
    record { room = t.0; short = t.1 }

-- each call that runs has room
pub room_keeps : KeepsCalls HasRoom
room_keeps = record {
  notifies = λ c. omega arith;
  on_bits = λ words many m. omega arith;
  on_queue = λ many m. (omega arith, omega arith);
  turns = λ e c a told right small queue h. (turn_keeps e c a told right small queue h).room;
}
