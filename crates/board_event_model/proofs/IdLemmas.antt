-- What a queue holds and a set has, move by move.
use Rattle.std.proofs.Common.{◌≡◌, ℕ, ◌/◌, ◌%◌, Bool, true, false, refl, sym, ◌∙◌, ap, subst, Some, None, Option, List, [], ◌∷◌, ◌++◌, length}
use Rattle.std.specs.Prelude.{◌&&◌, ◌||◌, ◌==◌, not, if◌then◌else◌, IsSomeAnd, drop, nat_lt}
use Rattle.std.specs.Int.{bit_at}
use Rattle.std.specs.Ordering.{nat_cmp}
use Rattle.std.specs.Cmp.{nat_cmp_total}
use Rattle.std.specs.FinMap.{nat_cmp-IsAntisymmetric}
use Rattle.std.specs.FinSet as set
use Rattle.std.proofs.lemmas.Bool.{eq-eqb, eqb-true}
use Rattle.std.proofs.lemmas.List.{append-nil, append_assoc}
use Rattle.board_event_model.specs.declared.access.EventAccess.{EventAccess}
use Rattle.board_event_model.specs.declared.access.EventAccess.TheVariants as access
use Rattle.board_event_model.specs.declared.access.EventAnswer.{EventAnswer}
use Rattle.board_event_model.specs.declared.access.EventAnswer.TheVariants as answer
use Rattle.board_event_model.specs.Ids.{Ids, IsWord, has, in_word}
use Rattle.board_event_model.specs.EventMemory.{Event, IsRight, after, pop_answer}
use Rattle.board_event_model.specs.EventCalls.{PartyName, RunningCall, call_of, owed}
use Rattle.board_event_model.specs.EventRuns.{EventMove, IsAllowed, Moment, abandon, begin, elsewhere, expire, listened, moved, notifiers, release_listener, run_to, step, stepped}
use Rattle.board_event_model.specs.LawsOfIds.{PendingIdsWereSetLast, QueuesKeepOrder, popped_by, popped_in, pushed_by, pushed_in, sets_id, takes_id, was_set_last}
use Rattle.board_event_model.proofs.SetLemmas.{same_id}
use Rattle.board_event_model.proofs.QuietLemmas.{bit_one}

-- ---- queues

-- no id more or fewer
as_before : (front back queue : List ℕ) → front ++ queue ≡ back → (front ++ []) ++ queue ≡ back ++ []
as_before front back queue h = ap (λ (xs : List ℕ). xs ++ queue) (append-nil front) ∙ h ∙ sym (append-nil back)

push_keeps : (e : Event) (p : PartyName) (id : ℕ) (front back : List ℕ) (gone room : Bool) → front ++ e.queue ≡ back
    → (front ++ []) ++ (if gone then e else if room then record e { queue = e.queue ++ id ∷ [] } else e).queue
    ≡ back ++ pushed_by (step p (access.Push id) (if gone then answer.Gone else if room then answer.Done else answer.Full))
push_keeps e p id front back true room h = as_before front back e.queue h
push_keeps e p id front back false false h = as_before front back e.queue h
push_keeps e p id front back false true h =
    ap (λ (xs : List ℕ). xs ++ (e.queue ++ id ∷ [])) (append-nil front) ∙ sym (append_assoc front e.queue (id ∷ [])) ∙ ap (λ (xs : List ℕ). xs ++ id ∷ []) h

pop_keeps : (p : PartyName) (queue front back : List ℕ) → front ++ queue ≡ back
    → (front ++ popped_by (step p access.Pop (pop_answer queue))) ++ drop 1 queue ≡ back ++ []
pop_keeps p [] front back h = as_before front back [] h
pop_keeps p (id ∷ queue) front back h = append_assoc front (id ∷ []) queue ∙ h ∙ sym (append-nil back)

step_keeps : (e : Event) (p : PartyName) (a : EventAccess) (b : EventAnswer) (front back : List ℕ) → IsRight e a b → front ++ e.queue ≡ back
    → (front ++ popped_by (step p a b)) ++ (after e a).queue ≡ back ++ pushed_by (step p a b)
step_keeps e p access.Listener b front back right h = as_before front back e.queue h
step_keeps e p (access.Set id) b front back right h = as_before front back e.queue h
step_keeps e p access.Post b front back right h = as_before front back e.queue h
step_keeps e p (access.Push id) b front back right h =
    subst (λ (x : EventAnswer). (front ++ []) ++ (after e (access.Push id)).queue ≡ back ++ pushed_by (step p (access.Push id) x)) (sym right)
    (push_keeps e p id front back (not e.held || e.gone) (nat_lt (length e.queue) 512) h)
step_keeps e p access.Signal b front back right h = as_before front back e.queue h
step_keeps e p (access.Scan k) b front back right h = as_before front back e.queue h
step_keeps e p (access.Clear id) b front back right h = as_before front back e.queue h
step_keeps e p (access.Swap k) b front back right h = as_before front back e.queue h
step_keeps e p access.Pop b front back right h =
    subst (λ (x : EventAnswer). (front ++ popped_by (step p access.Pop x)) ++ drop 1 e.queue ≡ back ++ []) (sym right) (pop_keeps p e.queue front back h)

move_keeps : (now : Moment) (m : EventMove) (front back : List ℕ) → IsAllowed now m → front ++ now.event.queue ≡ back
    → (front ++ popped_by m) ++ (moved now m).event.queue ≡ back ++ pushed_by m
move_keeps now (begin p call) front back ok h = as_before front back now.event.queue h
move_keeps now (step p a b) front back ok h = at (now.running p) ok
  where
    at : (x : Option RunningCall) → IsSomeAnd x (λ r. (a ≡ owed (call_of r)) × IsRight now.event a b)
        → (front ++ popped_by (step p a b)) ++ (stepped now p a b x).event.queue ≡ back ++ pushed_by (step p a b)
    at None k = absurd k
    at (Some r) k = step_keeps now.event p a b front back k.1 h
move_keeps now (expire p) front back ok h = as_before front back now.event.queue h
move_keeps now (abandon p) front back ok h = as_before front back now.event.queue h
move_keeps now release_listener front back ok h = as_before front back now.event.queue h
move_keeps now (notifiers n) front back ok h = as_before front back now.event.queue h
move_keeps now elsewhere front back ok h = as_before front back now.event.queue h

pub queues_ordered : QueuesKeepOrder
queues_ordered k name max listener [] h = refl
queues_ordered k name max listener (m ∷ ms) h =
    move_keeps (run_to (listened k name max listener) ms) m (popped_in ms) (pushed_in ms) h.1 (queues_ordered k name max listener ms h.0)

-- ---- sets

and_false : (b : Bool) → (b && false) ≡ false
and_false true = refl
and_false false = refl

and_true : (b : Bool) → (b && true) ≡ b
and_true true = refl
and_true false = refl

-- a swap leaves the ids of other words, and takes those of its own that its answer has
swap_leaves : (ids : Ids) (k v id : ℕ) (was : Bool) → IsWord ids k v → has ids id ≡ was
    → has (set.retain ids (λ i. not (in_word k i))) id ≡ (not (in_word k id && (bit_at v (id % 64) == 1)) && was)
swap_leaves ids k v id was word h =
    set.contains-retain ids (λ i. not (in_word k i)) id (λ x e. ap (λ i. not (in_word k i)) (sym (nat_cmp-IsAntisymmetric id x e)))
    ∙ ap (λ (b : Bool). b && not (in_word k id)) h
    ∙ at (in_word k id) refl was h
  where
    at : (in_it : Bool) → in_word k id ≡ in_it → (had : Bool) → has ids id ≡ had
        → (had && not in_it) ≡ (not (in_it && (bit_at v (id % 64) == 1)) && had)
    at false e had f = and_true had
    at true e false f = sym (and_false (not (bit_at v (id % 64) == 1)))
    at true e true f =
        let one : bit_at v (id % 64) ≡ 1 = bit_one ids k v id word f (eqb-true (id / 64) k e) in
        let is : (bit_at v (id % 64) == 1) ≡ true = eq-eqb (bit_at v (id % 64)) 1 one in
        sym (ap (λ (b : Bool). not b && true) is)

step_pending : (e : Event) (p : PartyName) (a : EventAccess) (b : EventAnswer) (id : ℕ) (was : Bool) → IsRight e a b → has e.pending id ≡ was
    → has (after e a).pending id ≡ (sets_id (step p a b) id || (not (takes_id (step p a b) id) && was))
step_pending e p access.Listener b id was right h = h
step_pending e p (access.Set i) b id was right h = set.contains-insert nat_cmp_total e.pending i id ∙ ap (λ (x : Bool). x || has e.pending id) (same_id i id) ∙ ap (λ (x : Bool). (i == id) || x) h
step_pending e p access.Post b id was right h = h
step_pending e p (access.Push i) b id was right h = at (not e.held || e.gone) (nat_lt (length e.queue) 512)
  where
    at : (gone room : Bool) → has (if gone then e else if room then record e { queue = e.queue ++ i ∷ [] } else e).pending id ≡ was
    at true room = h
    at false true = h
    at false false = h
step_pending e p access.Signal b id was right h = h
step_pending e p (access.Scan k) b id was right h = h
step_pending e p (access.Clear i) b id was right h =
    set.contains-remove nat_cmp_total e.pending i id ∙ ap (λ (x : Bool). not x && has e.pending id) (same_id i id) ∙ ap (λ (x : Bool). not (i == id) && x) h
step_pending e p (access.Swap k) b id was right h =
    subst (λ (x : EventAnswer). has (after e (access.Swap k)).pending id ≡ (not (takes_id (step p (access.Swap k) x) id) && was)) (sym right.1)
    (swap_leaves e.pending k right.0 id was right.2 h)
step_pending e p access.Pop b id was right h = h

move_pending : (now : Moment) (m : EventMove) (id : ℕ) (was : Bool) → IsAllowed now m → has now.event.pending id ≡ was
    → has (moved now m).event.pending id ≡ (sets_id m id || (not (takes_id m id) && was))
move_pending now (begin p call) id was ok h = h
move_pending now (step p a b) id was ok h = at (now.running p) ok
  where
    at : (x : Option RunningCall) → IsSomeAnd x (λ r. (a ≡ owed (call_of r)) × IsRight now.event a b)
        → has (stepped now p a b x).event.pending id ≡ (sets_id (step p a b) id || (not (takes_id (step p a b) id) && was))
    at None k = absurd k
    at (Some r) k = step_pending now.event p a b id was k.1 h
move_pending now (expire p) id was ok h = h
move_pending now (abandon p) id was ok h = h
move_pending now release_listener id was ok h = h
move_pending now (notifiers n) id was ok h = h
move_pending now elsewhere id was ok h = h

pub pending_set_last : PendingIdsWereSetLast
pending_set_last k name max listener [] h id = set.contains-empty nat_cmp id
pending_set_last k name max listener (m ∷ ms) h id =
    move_pending (run_to (listened k name max listener) ms) m id (was_set_last id ms) h.1 (pending_set_last k name max listener ms h.0 id)
