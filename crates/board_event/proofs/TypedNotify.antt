-- A typed notify, one hold of the lock after another, whatever becomes of the events between them.
use Rattle.std.specs.Prelude.{◌≡◌, ◌≢◌, ◌≤◌, ℕ, nat_lt, Ok, Err, ◌⊎◌, refl}
use Rattle.std.proofs.Common.{sym, ◌∙◌, subst, arith, inl, inr}
use Rattle.board_names.specs.declared.errors.event.NotifierNotifyError.{NotifierNotifyError}
use Rattle.board_event_model.specs.declared.access.EventAnswer.{EventAnswer}
use Rattle.board_event_model.specs.declared.access.EventAnswer.TheVariants as answer
use Rattle.board_event_model.specs.declared.call.EventProgress.{EventProgress}
use Rattle.board_event_model.specs.declared.call.EventProgress.TheVariants as progress
use Rattle.board_event_model.specs.declared.call.NotifyStage.{NotifyStage}
use Rattle.board_event_model.specs.declared.call.NotifyStage.TheVariants as notify
use Rattle.board_event_model.specs.declared.kind.EventKind.{EventKind}
use Rattle.board_event_model.specs.declared.kind.EventKind.TheVariants as kind
use Rattle.board_event_model.specs.NotifyCalls.{Notify, is_yes, notify_turn, pushed}
use Rattle.board_event_model.proofs.SetLemmas.{either}
use Rattle.board_event_model.proofs.QuietLemmas.{ltb_false, ltb_true}
use Rattle.board_event.specs.Accesses.{IsNotifyHold, IsNotifyMade, NotifyLeft, left_out}
use Rattle.board_event.specs.Ends.{End}
use Rattle.board_event.specs.Taking.{notify_begun}
use Rattle.board_event.specs.TypedCalls.{MayNotify}

-- where a notify of an id may stand: past its look, the id is at most the greatest
abbrev pub Standing : EventKind → End → ℕ → NotifyStage → Type 0
Standing k end id notify.Look = k ≡ kind.Bits
Standing k end id notify.Set = (k ≡ kind.Bits) × (id ≤ end.max)
Standing k end id notify.Post = (k ≡ kind.Bits) × (id ≤ end.max)
Standing k end id notify.Push = k ≡ kind.Queue
Standing k end id notify.Finished = ⊥

-- a notify that goes on
pub record GoesOn (k : EventKind) (end : End) (id : ℕ) (call : Notify) : Type 0 where
  pub id_is : call.id ≡ id
  pub max_is : k ≡ kind.Bits → call.max ≡ end.max
  pub standing : Standing k end id call.stage

-- what it has come to: it goes on, or is at its end with such an answer
abbrev pub Came : EventKind → End → ℕ → EventProgress → NotifyStage → Type 0
Came k end id progress.More stage = Standing k end id stage
Came k end id (progress.Refused why) stage = MayNotify k end id (Err why)
Came k end id _ stage = MayNotify k end id (Ok tt)

-- a call that begins goes on
begun : (k : EventKind) (end : End) (id : ℕ) → GoesOn k end id (notify_begun k end.max id)
begun kind.Bits end id = record { id_is = refl; max_is = λ bits. refl; standing = refl }
begun kind.Queue end id = record { id_is = refl; max_is = λ bits. absurd (cc bits); standing = refl }

pub notify_begins : (k : EventKind) (end : End) (id : ℕ) (call : Notify) → call ≡ notify_begun k end.max id → GoesOn k end id call
notify_begins k end id call is = rw is (begun k end id)

-- it has not ended
pub not_ended : (k : EventKind) (end : End) (id : ℕ) (call : Notify) → GoesOn k end id call → call.stage ≢ notify.Finished
not_ended k end id call on ended = subst (λ (s : NotifyStage). Standing k end id s) ended on.standing

-- a push
push_came : (k : EventKind) (end : End) (id : ℕ) (a : EventAnswer) → k ≡ kind.Queue → Came k end id (pushed a) notify.Finished
push_came k end id answer.Done queue = λ bits. absurd (cc (queue, bits))
push_came k end id answer.Yes queue = tt
push_came k end id answer.No queue = tt
push_came k end id (answer.Word v) queue = tt
push_came k end id (answer.Id x) queue = tt
push_came k end id answer.Empty queue = tt
push_came k end id answer.Full queue = queue
push_came k end id answer.Gone queue = tt

-- an access that was made
turn_came : (k : EventKind) (end : End) (id : ℕ) (call : Notify) (stage : NotifyStage) (a : EventAnswer) → call.id ≡ id → (k ≡ kind.Bits → call.max ≡ end.max) → Standing k end id stage →
    Came k end id (notify_turn call stage a).0 (notify_turn call stage a).1
turn_came k end id call notify.Look a id_is max_is bits =
    elim (either (is_yes a)) [
      | inl y ↦ rw y (elim (either (nat_lt call.max call.id)) [
        | inl over ↦ rw over (bits, (let high = ltb_true call.max call.id over in let max = max_is bits in omega (arith, high, id_is, max)))
        | inr inside ↦ rw inside (bits, (let low = ltb_false call.max call.id inside in let max = max_is bits in omega (arith, low, id_is, max)))
      ])
      | inr n ↦ rw n tt
    ]
turn_came k end id call notify.Set a id_is max_is inside = inside
turn_came k end id call notify.Post a id_is max_is inside = λ bits. inside.1
turn_came k end id call notify.Push a id_is max_is queue = push_came k end id a queue
turn_came k end id call notify.Finished a id_is max_is none = absurd none

-- an access that couldn't be made
left_came : (k : EventKind) (end : End) (id : ℕ) (stage next : NotifyStage) → Standing k end id stage → Came k end id (left_out stage) next
left_came k end id notify.Look next standing = tt
left_came k end id notify.Set next standing = tt
left_came k end id notify.Post next inside = λ bits. inside.1
left_came k end id notify.Push next standing = tt
left_came k end id notify.Finished next none = absurd none

-- what a hold of the lock has come to
pub notify_came : (k : EventKind) (end : End) (id n : ℕ) (call next : Notify) (p : EventProgress) → GoesOn k end id call → IsNotifyHold n call next p → Came k end id p next.stage
notify_came k end id n call next p on hold = by hold.2
  where
    by : IsNotifyMade hold.0 hold.1 n call next p ⊎ NotifyLeft hold.0 hold.1 n call p → Came k end id p next.stage
    by (inl made) = rw (made.1.progress, made.1.goes_on) (turn_came k end id call call.stage made.0 on.id_is on.max_is on.standing)
    by (inr left) = rw left.told (left_came k end id call.stage next.stage on.standing)

-- it goes on
pub notify_goes_on : (k : EventKind) (end : End) (id n : ℕ) (call next : Notify) (p : EventProgress) → GoesOn k end id call → IsNotifyHold n call next p → p ≡ progress.More → GoesOn k end id next
notify_goes_on k end id n call next p on hold more = by hold.2
  where
    never : (s : NotifyStage) → left_out s ≡ progress.More → ⊥
    never notify.Look h = cc h
    never notify.Set h = cc h
    never notify.Post h = cc h
    never notify.Push h = cc h
    never notify.Finished h = cc h

    stands : Standing k end id next.stage
    stands = subst (λ (q : EventProgress). Came k end id q next.stage) more (notify_came k end id n call next p on hold)

    by : IsNotifyMade hold.0 hold.1 n call next p ⊎ NotifyLeft hold.0 hold.1 n call p → GoesOn k end id next
    by (inl made) = record { id_is = (rw made.1.goes_on on.id_is); max_is = λ bits. (rw made.1.goes_on (on.max_is bits)); standing = stands }
    by (inr left) = absurd (never call.stage (sym left.told ∙ more))

-- it is refused
pub notify_refused : (k : EventKind) (end : End) (id n : ℕ) (call next : Notify) (p : EventProgress) (why : NotifierNotifyError) → GoesOn k end id call → IsNotifyHold n call next p → p ≡ progress.Refused why → MayNotify k end id (Err why)
notify_refused k end id n call next p why on hold is = subst (λ (q : EventProgress). Came k end id q next.stage) is (notify_came k end id n call next p on hold)

-- it is done
pub notify_done : (k : EventKind) (end : End) (id n : ℕ) (call next : Notify) (p : EventProgress) → GoesOn k end id call → IsNotifyHold n call next p → (p ≡ progress.More → ⊥) → ((why : NotifierNotifyError) → p ≡ progress.Refused why → ⊥) →
    MayNotify k end id (Ok tt)
notify_done k end id n call next p on hold more refused = by p more refused (notify_came k end id n call next p on hold)
  where
    by : (q : EventProgress) → (q ≡ progress.More → ⊥) → ((why : NotifierNotifyError) → q ≡ progress.Refused why → ⊥) → Came k end id q next.stage → MayNotify k end id (Ok tt)
    by progress.More not_one not_other came = absurd (not_one refl)
    by progress.Waiting not_one not_other came = came
    by (progress.Took base bits last) not_one not_other came = came
    by (progress.Id i last) not_one not_other came = came
    by progress.Notified not_one not_other came = came
    by (progress.Refused why) not_one not_other came = absurd (not_other why refl)
    by progress.Nothing not_one not_other came = came
