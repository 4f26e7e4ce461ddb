-- Each signal was posted by a call that had set its id before.
use Rattle.std.proofs.Common.{◌≡◌, Bool, true, false, ltb, refl, sym, ◌∙◌, inl, inr, subst, Some, None, Option, List, [], ◌∷◌}
use Rattle.std.specs.Prelude.{if◌then◌else◌, IsSomeAnd}
use Rattle.std.proofs.lemmas.Bool.{false≢true}
use Rattle.board_event_model.specs.declared.access.EventAccess.{EventAccess}
use Rattle.board_event_model.specs.declared.access.EventAccess.TheVariants as access
use Rattle.board_event_model.specs.declared.access.EventAnswer.{EventAnswer}
use Rattle.board_event_model.specs.declared.call.EventProgress.{EventProgress}
use Rattle.board_event_model.specs.declared.call.EventProgress.TheVariants as progress
use Rattle.board_names.specs.declared.errors.event.NotifierNotifyError.TheVariants as error
use Rattle.board_event_model.specs.declared.call.NotifyStage.{NotifyStage}
use Rattle.board_event_model.specs.declared.call.NotifyStage.TheVariants as notify
use Rattle.board_event_model.specs.declared.call.WaitStage.{WaitStage}
use Rattle.board_event_model.specs.declared.call.WaitStage.TheVariants as wait
use Rattle.board_event_model.specs.EventMemory.{is_bits, IsRight}
use Rattle.board_event_model.specs.NotifyCalls.{Notify, is_yes, notify_bits, notify_owed, notify_queue, notify_turn}
use Rattle.board_event_model.specs.WaitCalls.{wait_owed}
use Rattle.board_event_model.specs.EventCalls.{EventCall, a_notify, a_wait, is_last, owed, turn, PartyName, RunningCall, call_of, new_call}
use Rattle.board_event_model.specs.EventRuns.{EventMove, IsAllowed, IsCallOf, IsRun, Moment, abandon, begin, elsewhere, expire, listened, moved, notifiers, put, release_listener, run_to, step, stepped}
use Rattle.board_event_model.specs.LawsOfQuiet.{PostLaw, PostsFollowSets, has_set, is_a_set}
use Rattle.board_event_model.proofs.SetLemmas.{and_join, either, or_left, or_right}
use Rattle.board_event_model.proofs.QuietLemmas.{eqb_self, is_posting}
use Rattle.board_event_model.proofs.SoundLemmas.{none_some, posting, put_each, some_same}

-- what every moment of a run knows
record Posted (now : Moment) : Type 0 where
  follow : PostsFollowSets now.history
  set : (p : PartyName) (r : RunningCall) → now.running p ≡ Some r → posting (call_of r) ≡ true → has_set r.number now.history ≡ true

-- only a notify that posts owes a post
notify_posts : (n : Notify) (stage : NotifyStage) → notify_owed n.id stage ≡ access.Post → is_posting stage ≡ true
notify_posts n notify.Look e = absurd cc
notify_posts n notify.Set e = absurd cc
notify_posts n notify.Post e = refl
notify_posts n notify.Push e = absurd cc
notify_posts n notify.Finished e = absurd cc

wait_posts_none : (stage : WaitStage) → wait_owed stage ≡ access.Post → ⊥
wait_posts_none wait.Drain e = absurd cc
wait_posts_none (wait.Scan k) e = absurd cc
wait_posts_none (wait.Clear id) e = absurd cc
wait_posts_none (wait.Swap k some) e = absurd cc
wait_posts_none wait.Look e = absurd cc
wait_posts_none (wait.Pop n) e = absurd cc
wait_posts_none wait.Finished e = absurd cc

call_posts : (c : EventCall) → owed c ≡ access.Post → posting c ≡ true
call_posts (a_notify n) e = notify_posts n n.stage e
call_posts (a_wait w) e = absurd (wait_posts_none w.stage e)

-- a notify comes to its post by its set
look_posts_none : (n : Notify) (yes : Bool) → is_posting (if◌then◌else◌ {A = EventProgress × NotifyStage} yes (if ltb n.max n.id then (progress.Refused error.TriggerIdOutOfBounds, notify.Finished) else (progress.More, notify.Set)) (progress.Refused error.Disconnected, notify.Finished)).1 ≡ false
look_posts_none n true = elim (ltb n.max n.id) as (λ b. is_posting (if◌then◌else◌ {A = EventProgress × NotifyStage} b (progress.Refused error.TriggerIdOutOfBounds, notify.Finished) (progress.More, notify.Set)).1 ≡ false) [ true ↦ refl | false ↦ refl ]
look_posts_none n false = refl

notify_sets : (n : Notify) (stage : NotifyStage) (a : EventAnswer) → is_posting (notify_turn n stage a).1 ≡ true → is_a_set (notify_owed n.id stage) ≡ true
notify_sets n notify.Look a h = absurd (false≢true (sym (look_posts_none n (is_yes a)) ∙ h))
notify_sets n notify.Set a h = refl
notify_sets n notify.Post a h = absurd (false≢true h)
notify_sets n notify.Push a h = absurd (false≢true h)
notify_sets n notify.Finished a h = absurd (false≢true h)

call_sets : (c : EventCall) (a : EventAnswer) → posting (turn c a).1 ≡ true → is_a_set (owed c) ≡ true
call_sets (a_notify n) a h = notify_sets n n.stage a h
call_sets (a_wait w) a h = absurd (false≢true h)

step_posted : (now : Moment) (p : PartyName) (r : RunningCall) (a : EventAnswer) → Posted now → now.running p ≡ Some r → Posted (stepped now p (owed (call_of r)) a (Some r))
step_posted now p r a posted runs = record {
  follow = ((λ e. posted.set p r runs (call_posts (call_of r) e)), posted.follow);
  set = put_each now.running p _ (λ q s. posting (call_of s) ≡ true → has_set s.number (record { call = r.number; access = owed (call_of r); last = is_last (turn (call_of r) a).0 } ∷ now.history) ≡ true)
      (λ s g. elim (either (is_last (turn (call_of r) a).0)) [
        | inl y ↦ absurd (none_some s (rw y at g))
        | inr f ↦ subst (λ (x : RunningCall). posting (call_of x) ≡ true → has_set x.number (record { call = r.number; access = owed (call_of r); last = is_last (turn (call_of r) a).0 } ∷ now.history) ≡ true) (some_same _ s (rw f at g))
            (λ h. or_left _ _ (and_join _ _ (eqb_self r.number) (call_sets (call_of r) a h)))
      ])
      (λ q s d g h. or_right _ _ (posted.set q s g h));
}

some_posted : (now : Moment) (p : PartyName) (a : EventAccess) (b : EventAnswer) → Posted now → (x : Option RunningCall) → now.running p ≡ x → IsSomeAnd x (λ r. (a ≡ owed (call_of r)) × IsRight now.event a b) → Posted (stepped now p a b x)
some_posted now p a b all None e h = absurd h
some_posted now p a b all (Some r) e h = subst (λ (z : EventAccess). Posted (stepped now p z b (Some r))) (sym h.0) (step_posted now p r b all e)

-- a new call posts nothing yet
new_posts_none : (now : Moment) (p : PartyName) (c : EventCall) → IsCallOf now.event now.listener p c → posting c ≡ true → ⊥
new_posts_none now p (a_notify n) is h =
    elim (either (is_bits now.event.kind)) [
      | inl y ↦ (let same : n ≡ notify_bits n.id now.event.max = rw y at is in false≢true (subst (λ (x : Notify). is_posting x.stage ≡ true) same h))
      | inr f ↦ (let same : n ≡ notify_queue n.id = rw f at is in false≢true (subst (λ (x : Notify). is_posting x.stage ≡ true) same h))
    ]
new_posts_none now p (a_wait w) is h = false≢true h

gone_posted : (now : Moment) (p : PartyName) (b : Bool) → Posted now → Posted (record now { running = put now.running p None; event = record now.event { gone = b } })
gone_posted now p b posted = record {
  follow = posted.follow;
  set = put_each now.running p None (λ q s. posting (call_of s) ≡ true → has_set s.number now.history ≡ true) (λ s n. absurd (none_some _ n)) (λ q s d g. posted.set q s g);
}

posted_move : (now : Moment) (m : EventMove) → Posted now → IsAllowed now m → Posted (moved now m)
posted_move now (begin p c) posted ok = record {
  follow = posted.follow;
  set = put_each now.running p (Some (new_call now.begun c)) (λ q s. posting (call_of s) ≡ true → has_set s.number now.history ≡ true)
      (λ s n. subst (λ (x : RunningCall). posting (call_of x) ≡ true → has_set x.number now.history ≡ true) (some_same _ _ n) (λ h. absurd (new_posts_none now p c ok.1 h)))
      (λ q s d g. posted.set q s g);
}
posted_move now (step p a b) posted ok = some_posted now p a b posted (now.running p) refl ok
posted_move now (expire p) posted ok = gone_posted now p now.event.gone posted
posted_move now (abandon p) posted ok = gone_posted now p _ posted
posted_move now release_listener posted ok = record { follow = posted.follow; set = posted.set }
posted_move now elsewhere posted ok = record { follow = posted.follow; set = posted.set }
posted_move now (notifiers n) posted ok = record { follow = posted.follow; set = posted.set }

posted_run : (start : Moment) (ms : List EventMove) → Posted start → IsRun start ms → Posted (run_to start ms)
posted_run start [] s r = s
posted_run start (m ∷ ms) s r = posted_move (run_to start ms) m (posted_run start ms s r.0) r.1

pub post_law_holds : PostLaw
post_law_holds now w =
    (subst Posted (sym w.is) (posted_run (listened w.kind w.name w.max w.listener) w.moves (record { follow = tt; set = λ p r e h. absurd (none_some _ e) }) w.run)).follow
