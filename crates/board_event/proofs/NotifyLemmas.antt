-- A notify, on an event that nobody else has.
use Rattle.std.specs.Prelude.{◌≡◌, ◌≢◌, ◌<◌, ◌≤◌, ℕ, ◌+◌, ◌-◌, ◌^◌, Bool, true, false, nat_lt, Option, Some, None, Result, Ok, Err, IsSomeAnd, ◌⊎◌, refl}
use Rattle.std.proofs.Common.{ap, sym, ◌∙◌, subst, arith, inl, inr}
use Rattle.std.specs.FinSet as set
use Rattle.board_names.specs.declared.errors.event.NotifierNotifyError.{NotifierNotifyError}
use Rattle.board_names.specs.declared.errors.event.NotifierNotifyError.TheVariants as error
use Rattle.board_event_model.specs.declared.access.EventAnswer.{EventAnswer}
use Rattle.board_event_model.specs.declared.access.EventAnswer.TheVariants as answer
use Rattle.board_event_model.specs.declared.call.EventProgress.{EventProgress}
use Rattle.board_event_model.specs.declared.call.EventProgress.TheVariants as progress
use Rattle.board_event_model.specs.declared.call.NotifyStage.{NotifyStage}
use Rattle.board_event_model.specs.declared.call.NotifyStage.TheVariants as notify
use Rattle.board_event_model.specs.declared.kind.EventKind.{EventKind}
use Rattle.board_event_model.specs.declared.kind.EventKind.TheVariants as kind
use Rattle.board_event_model.specs.EventMemory.{CanPerform, Event, IsRight, after, kind_of_access, push_answer, yes_or_no}
use Rattle.board_event_model.specs.NotifyCalls.{Notify, is_yes, notify_owed, notify_turn, pushed}
use Rattle.board_event_model.proofs.SetLemmas.{either}
use Rattle.board_event_model.proofs.QuietLemmas.{ltb_false, ltb_true}
use Rattle.board_event_core.specs.EventTable.{EventTable, with_event, event_at}
use Rattle.board_event.specs.Accesses.{IsNotifyAccess, IsNotifyMade, NotifyLeft, NotifyMade, left_out}
use Rattle.board_event.specs.Ends.{NoneOfKind}
use Rattle.board_event.specs.LentForms.{OnKindAt, StandsAs, notified, notify_answer}
use Rattle.board_event.specs.Taking.{NotifySoFar, notify_begun, notify_left}
use Rattle.board_event.proofs.TableLemmas.{Became, Became-first, Became-next, at_event, event_here}

-- what a progress that ends a notify answers
abbrev pub told : EventProgress → Result (Unit {0}) NotifierNotifyError
told (progress.Refused why) = Err why
told _ = Ok tt

-- a notify of an id on an event of its kind; on a set, it knows the end's greatest id
pub record IsNotifyOf (k : EventKind) (max : ℕ) (e : Event) (call : Notify) (id : ℕ) : Type 0 where
  pub of_kind : e.kind ≡ k
  pub greatest : k ≡ kind.Bits → call.max ≡ max
  pub id_is : call.id ≡ id

-- it goes on so, or is at its end with this answer and this event
abbrev pub NotifyTold : EventKind → ℕ → Event → Event → ℕ → EventProgress → NotifyStage → Type 0
NotifyTold k max e next id progress.More stage = NotifySoFar k max e next id stage
NotifyTold k max e next id p stage = (told p ≡ notify_answer k max id e) × (next ≡ notified k max id e)

-- ---- each access that is made

pub not_lt : (a b : ℕ) → b ≤ a → nat_lt a b ≡ false
not_lt a b low = by (nat_lt a b) refl
  where
    by : (x : Bool) → nat_lt a b ≡ x → x ≡ false
    by false h = refl
    by true h = absurd (let high = ltb_true a b h in over (omega (arith, low, high)))
      where
        over : b < b → ⊥
        over h = omega arith

pub is_lt : (a b : ℕ) → a < b → nat_lt a b ≡ true
is_lt a b low = by (nat_lt a b) refl
  where
    by : (x : Bool) → nat_lt a b ≡ x → x ≡ true
    by true h = refl
    by false h = absurd (let high = ltb_false a b h in over (omega (arith, low, high)))
      where
        over : a < a → ⊥
        over h = omega arith

-- on bits, a look at the listener
look_step : (e : Event) (call : Notify) (max id : ℕ) (held over : Bool) → call.max ≡ max → call.id ≡ id → e.held ≡ held → nat_lt max id ≡ over →
    NotifyTold kind.Bits max e e id (notify_turn call notify.Look (yes_or_no held)).0 (notify_turn call notify.Look (yes_or_no held)).1
look_step e call max id true true greatest id_is held_is over_is = subst (λ (t : EventProgress × NotifyStage). NotifyTold kind.Bits max e e id t.0 t.1) (sym turned) (rw (held_is, over_is) refl, rw (held_is, over_is) refl)
  where
    turned : notify_turn call notify.Look answer.Yes ≡ (progress.Refused error.TriggerIdOutOfBounds, notify.Finished)
    turned = rw (greatest, id_is, over_is) refl
look_step e call max id true false greatest id_is held_is over_is = subst (λ (t : EventProgress × NotifyStage). NotifyTold kind.Bits max e e id t.0 t.1) (sym turned) (refl, refl, held_is, ltb_false max id over_is)
  where
    turned : notify_turn call notify.Look answer.Yes ≡ (progress.More, notify.Set)
    turned = rw (greatest, id_is, over_is) refl
look_step e call max id false over greatest id_is held_is over_is = (rw held_is refl, rw held_is refl)

-- a post, and what it leaves
post_step : (e : Event) (max id : ℕ) → e.held ≡ true → id ≤ max → id ≤ e.max → e.signals < 2 ^ 64 - 1 →
    (told progress.Notified ≡ notify_answer kind.Bits max id e) × (record e { pending = set.insert e.pending id; signals = e.signals + 1 } ≡ notified kind.Bits max id e)
post_step e max id held low inside room = let first = not_lt max id low in let second = not_lt e.max id inside in let more = is_lt e.signals (2 ^ 64 - 1) room in (rw (held, first, second) refl, rw (held, first, second, more) refl)

-- a post that is left out
full_step : (e : Event) (max id : ℕ) → e.held ≡ true → id ≤ max → id ≤ e.max → nat_lt e.signals (2 ^ 64 - 1) ≡ false →
    (told progress.Notified ≡ notify_answer kind.Bits max id e) × (record e { pending = set.insert e.pending id } ≡ notified kind.Bits max id e)
full_step e max id held low inside full = let first = not_lt max id low in let second = not_lt e.max id inside in (rw (held, first, second) refl, rw (held, first, second, full) refl)

-- a set that can't have the id
high_step : (e : Event) (max id : ℕ) → e.held ≡ true → id ≤ max → nat_lt e.max id ≡ true → (told (progress.Refused error.Disconnected) ≡ notify_answer kind.Bits max id e) × (e ≡ notified kind.Bits max id e)
high_step e max id held low high = let first = not_lt max id low in (rw (held, first, high) refl, rw (held, first, high) refl)

-- a push
push_step : (e next : Event) (max id : ℕ) (a : EventAnswer) (stage : NotifyStage) → push_answer e ≡ a → next ≡ notified kind.Queue max id e → NotifyTold kind.Queue max e next id (pushed a) stage
push_step e next max id answer.Done stage is left = (rw is refl, left)
push_step e next max id answer.Yes stage is left = (rw is refl, left)
push_step e next max id answer.No stage is left = (rw is refl, left)
push_step e next max id (answer.Word v) stage is left = (rw is refl, left)
push_step e next max id (answer.Id x) stage is left = (rw is refl, left)
push_step e next max id answer.Empty stage is left = (rw is refl, left)
push_step e next max id answer.Full stage is left = (rw is refl, left)
push_step e next max id answer.Gone stage is left = (rw is refl, left)

-- each access
notify_step : (k : EventKind) (max : ℕ) (e now : Event) (call : Notify) (id : ℕ) (stage : NotifyStage) (a : EventAnswer) → IsNotifyOf k max e call id → NotifySoFar k max e now id stage →
    CanPerform now (notify_owed call.id stage) → IsRight now (notify_owed call.id stage) a → NotifyTold k max e (after now (notify_owed call.id stage)) id (notify_turn call stage a).0 (notify_turn call stage a).1
notify_step k max e now call id notify.Look a of far can right = rw (far.0, right, far.1) (look_step e call max id e.held (nat_lt max id) (of.greatest far.0) of.id_is refl refl)
notify_step k max e now call id notify.Set a of far can right =
    let inside : id ≤ e.max = subst (λ (i : ℕ). i ≤ e.max) of.id_is (subst (λ (x : Event). call.id ≤ x.max) far.1 can.inside) in
    (far.0, ap (λ (x : Event). record x { pending = set.insert x.pending call.id }) far.1 ∙ ap (λ (i : ℕ). record e { pending = set.insert e.pending i }) of.id_is, far.2, far.3, inside)
notify_step k max e now call id notify.Post a of far can right =
    let room : e.signals < 2 ^ 64 - 1 = subst (λ (x : Event). x.signals < 2 ^ 64 - 1) far.1 can.inside in
    let done = post_step e max id far.2 far.3 far.4 room in
    rw far.0 (done.0, ap (λ (x : Event). record x { signals = x.signals + 1 }) far.1 ∙ done.1)
notify_step k max e now call id notify.Push a of far can right =
    let is : a ≡ push_answer e = subst (λ (x : Event). a ≡ push_answer x) far.1 right in
    let left : after now (notify_owed call.id notify.Push) ≡ notified kind.Queue max id e = ap (λ (x : Event). after x (notify_owed call.id notify.Push)) far.1 ∙ ap (λ (i : ℕ). after e (notify_owed i notify.Push)) of.id_is in
    rw far.0 (push_step e (after now (notify_owed call.id notify.Push)) max id a notify.Finished (sym is) left)
notify_step k max e now call id notify.Finished a of far can right = absurd far

-- an event of its kind can take each but a post, and an id above its greatest
data CanOrNot (e now : Event) (id : ℕ) (call : Notify) (stage : NotifyStage) : Type 0 where
  takes : CanPerform now (notify_owed call.id stage) → CanOrNot e now id call stage
  high : stage ≡ notify.Set → nat_lt e.max id ≡ true → CanOrNot e now id call stage
  full : stage ≡ notify.Post → nat_lt now.signals (2 ^ 64 - 1) ≡ false → CanOrNot e now id call stage

notify_can : (k : EventKind) (max : ℕ) (e now : Event) (call : Notify) (id : ℕ) (stage : NotifyStage) → IsNotifyOf k max e call id → NotifySoFar k max e now id stage → CanOrNot e now id call stage
notify_can k max e now call id notify.Look of far = takes (record { kind = rw far.1 (of.of_kind ∙ far.0); inside = tt })
notify_can k max e now call id notify.Set of far = elim (either (nat_lt e.max id)) [
  | inl y ↦ high refl y
  | inr f ↦ takes (record { kind = rw far.1 (of.of_kind ∙ far.0); inside = rw (of.id_is, far.1) (ltb_false e.max id f) })
]
notify_can k max e now call id notify.Post of far = elim (either (nat_lt now.signals (2 ^ 64 - 1))) [
  | inl y ↦ takes (record { kind = rw far.1 (of.of_kind ∙ far.0); inside = ltb_true now.signals (2 ^ 64 - 1) y })
  | inr f ↦ full refl f
]
notify_can k max e now call id notify.Push of far = takes (record { kind = rw far.1 (of.of_kind ∙ far.0); inside = tt })
notify_can k max e now call id notify.Finished of far = absurd far

-- ---- the loop

-- what holds of the loop: of the table at first, and as it is
pub record Notifying (k : EventKind) (max n id : ℕ) (t u : EventTable) (call : Notify) : Type 0 where
  pub far : OnKindAt k n t (λ e. (now : Event) × Became t u n now × IsNotifyOf k max e call id × NotifySoFar k max e now id call.stage)
  pub gone : NoneOfKind k n t → (u ≡ t) × (call.stage ≢ notify.Post) × (call.stage ≢ notify.Finished) × (kind_of_access (notify_owed call.id call.stage) ≡ k)

of_first : (k : EventKind) (e : Event) (max n id : ℕ) (t : EventTable) → StandsAs k n t e → IsNotifyOf k max e (notify_begun k max id) id
of_first kind.Bits e max n id t here = record { of_kind = here.of_kind; greatest = λ bits. refl; id_is = refl }
of_first kind.Queue e max n id t here = record { of_kind = here.of_kind; greatest = λ bits. absurd (cc bits); id_is = refl }

far_first : (k : EventKind) (e : Event) (max id : ℕ) → NotifySoFar k max e e id (notify_begun k max id).stage
far_first kind.Bits e max id = (refl, refl)
far_first kind.Queue e max id = (refl, refl)

not_post : (k : EventKind) (max id : ℕ) → (notify_begun k max id).stage ≢ notify.Post
not_post kind.Bits max id h = cc h
not_post kind.Queue max id h = cc h

not_ended : (k : EventKind) (max id : ℕ) → (notify_begun k max id).stage ≢ notify.Finished
not_ended kind.Bits max id h = cc h
not_ended kind.Queue max id h = cc h

begun_kind : (k : EventKind) (max id : ℕ) → kind_of_access (notify_owed (notify_begun k max id).id (notify_begun k max id).stage) ≡ k
begun_kind kind.Bits max id = refl
begun_kind kind.Queue max id = refl

pub notify_begins : (k : EventKind) (max n id : ℕ) (t : EventTable) (call : Notify) → call ≡ notify_begun k max id → Notifying k max n id t t call
notify_begins k max n id t call is = record {
  far = λ e here. (e, Became-first t n e here.stands, (rw is (of_first k e max n id t here)), (rw is (far_first k e max id)));
  gone = λ none. (refl, (rw is (not_post k max id)), (rw is (not_ended k max id)), (rw is (begun_kind k max id)));
}

-- what an access has come to on the event
record Came (k : EventKind) (max n id : ℕ) (t v : EventTable) (e : Event) (next : Notify) (p : EventProgress) : Type 0 where
  x : Event
  became : Became t v n x
  of : p ≡ progress.More → IsNotifyOf k max e next id
  told_is : NotifyTold k max e x id p next.stage

came_made : (k : EventKind) (max n id : ℕ) (t u v : EventTable) (e now : Event) (call next : Notify) (p : EventProgress) (a : EventAnswer) → Became t u n now → IsNotifyOf k max e call id → NotifySoFar k max e now id call.stage →
    NotifyMade u v n call next p a → Came k max n id t v e next p
came_made k max n id t u v e now call next p a became of far made = record {
  x = after now (notify_owed call.id call.stage);
  became = Became-next t u v n now (λ x. after x (notify_owed call.id call.stage)) became made.memory;
  of = λ _. (rw made.goes_on (record { of_kind = of.of_kind; greatest = of.greatest; id_is = of.id_is }));
  told_is = (rw (made.progress, made.goes_on) (notify_step k max e now call id call.stage a of far
      (at_event u n now (λ x. CanPerform x (notify_owed call.id call.stage)) became.stands made.can)
      (at_event u n now (λ x. IsRight x (notify_owed call.id call.stage) a) became.stands made.right)));
}

not_more : (p : EventProgress) → p ≡ progress.Notified → p ≡ progress.More → ⊥
not_more p one other = cc (one, other)

not_refused : (p : EventProgress) (why : NotifierNotifyError) → p ≡ progress.Refused why → p ≡ progress.More → ⊥
not_refused p why one other = cc (one, other)

came_left : (k : EventKind) (max n id : ℕ) (t u v : EventTable) (e now : Event) (call next : Notify) (p : EventProgress) → Became t u n now → IsNotifyOf k max e call id → NotifySoFar k max e now id call.stage →
    NotifyLeft u v n call p → CanOrNot e now id call call.stage → Came k max n id t v e next p
came_left k max n id t u v e now call next p became of far left (takes c) = absurd (left.cannot (event_here u n now (λ x. CanPerform x (notify_owed call.id call.stage)) became.stands c))
came_left k max n id t u v e now call next p became of far left (high at_set over) = record {
  x = now;
  became = (rw left.stays became);
  of = λ more. absurd (not_refused p error.Disconnected ended more);
  told_is = (rw ended (rw here.0 (done.0, here.1 ∙ done.1)));
}
  where
    ended : p ≡ progress.Refused error.Disconnected
    ended = left.told ∙ ap left_out at_set

    here : NotifySoFar k max e now id notify.Set
    here = subst (λ (s : NotifyStage). NotifySoFar k max e now id s) at_set far

    done : (told (progress.Refused error.Disconnected) ≡ notify_answer kind.Bits max id e) × (e ≡ notified kind.Bits max id e)
    done = high_step e max id here.2 here.3 over
came_left k max n id t u v e now call next p became of far left (full post signals) = record {
  x = now;
  became = (rw left.stays became);
  of = λ more. absurd (not_more p ended more);
  told_is = (rw ended (rw here.0 (done.0, here.1 ∙ done.1)));
}
  where
    ended : p ≡ progress.Notified
    ended = left.told ∙ ap left_out post

    here : NotifySoFar k max e now id notify.Post
    here = subst (λ (s : NotifyStage). NotifySoFar k max e now id s) post far

    done : (told progress.Notified ≡ notify_answer kind.Bits max id e) × (record e { pending = set.insert e.pending id } ≡ notified kind.Bits max id e)
    done = full_step e max id here.2 here.3 here.4 (subst (λ (x : Event). nat_lt x.signals (2 ^ 64 - 1) ≡ false) here.1 signals)

notify_came : (k : EventKind) (max n id : ℕ) (t u v : EventTable) (call next : Notify) (p : EventProgress) → Notifying k max n id t u call → IsNotifyAccess u v n call next p → (e : Event) → StandsAs k n t e → Came k max n id t v e next p
notify_came k max n id t u v call next p state access e here = by access
  where
    by : IsNotifyMade u v n call next p ⊎ NotifyLeft u v n call p → Came k max n id t v e next p
    by (inl made) = let far = state.far e here in came_made k max n id t u v e far.0 call next p made.0 far.1 far.2 far.3 made.1
    by (inr left) = let far = state.far e here in came_left k max n id t u v e far.0 call next p far.1 far.2 far.3 left (notify_can k max e far.0 call id call.stage far.2 far.3)

-- where no event of its kind stands it is at its end
no_event : (k : EventKind) (max n id : ℕ) (t u v : EventTable) (call next : Notify) (p : EventProgress) → Notifying k max n id t u call → IsNotifyAccess u v n call next p → NoneOfKind k n t → (p ≡ progress.Refused error.Disconnected) × (v ≡ t)
no_event k max n id t u v call next p state access none = by access
  where
    gone : (u ≡ t) × (call.stage ≢ notify.Post) × (call.stage ≢ notify.Finished) × (kind_of_access (notify_owed call.id call.stage) ≡ k)
    gone = state.gone none

    made_none : (o : Option Event) → event_at t n ≡ o → IsSomeAnd o (λ x. CanPerform x (notify_owed call.id call.stage)) → ⊥
    made_none None h made = made
    made_none (Some e) h made = none e h (made.kind ∙ gone.3)

    disconnected : (s : NotifyStage) → s ≢ notify.Post → left_out s ≡ progress.Refused error.Disconnected
    disconnected notify.Look other = refl
    disconnected notify.Set other = refl
    disconnected notify.Post other = absurd (other refl)
    disconnected notify.Push other = refl
    disconnected notify.Finished other = refl

    by : IsNotifyMade u v n call next p ⊎ NotifyLeft u v n call p → (p ≡ progress.Refused error.Disconnected) × (v ≡ t)
    by (inl made) = absurd (made_none (event_at t n) refl (subst (λ (s : EventTable). IsSomeAnd (event_at s n) (λ x. CanPerform x (notify_owed call.id call.stage))) gone.0 made.1.can))
    by (inr left) = (left.told ∙ disconnected call.stage gone.1, left.stays ∙ gone.0)

-- it goes on
pub notify_goes_on : (k : EventKind) (max n id : ℕ) (t u v : EventTable) (call next : Notify) (p : EventProgress) → Notifying k max n id t u call → IsNotifyAccess u v n call next p → p ≡ progress.More → Notifying k max n id t v next
notify_goes_on k max n id t u v call next p state access more = record { far = far; gone = gone }
  where
    far : OnKindAt k n t (λ e. (now : Event) × Became t v n now × IsNotifyOf k max e next id × NotifySoFar k max e now id next.stage)
    far e here =
        let came = notify_came k max n id t u v call next p state access e here in
        let on : NotifyTold k max e came.x id progress.More next.stage = subst (λ (q : EventProgress). NotifyTold k max e came.x id q next.stage) more came.told_is in
        (came.x, came.became, came.of more, on)

    gone : NoneOfKind k n t → (v ≡ t) × (next.stage ≢ notify.Post) × (next.stage ≢ notify.Finished) × (kind_of_access (notify_owed next.id next.stage) ≡ k)
    gone none = absurd (let end = no_event k max n id t u v call next p state access none in let first = end.0 in cc (first, more))

-- it is refused
pub notify_refuses : (k : EventKind) (max n id : ℕ) (t u v : EventTable) (call next : Notify) (why : NotifierNotifyError) → Notifying k max n id t u call → IsNotifyAccess u v n call next (progress.Refused why) →
    OnKindAt k n t (λ e. (Err why ≡ notify_answer k max id e) × (v ≡ with_event t n (notified k max id e)))
notify_refuses k max n id t u v call next why state access e here =
    let came = notify_came k max n id t u v call next (progress.Refused why) state access e here in
    (came.told_is.0, came.became.table ∙ ap (with_event t n) came.told_is.1)

pub notify_refuses_none : (k : EventKind) (max n id : ℕ) (t u v : EventTable) (call next : Notify) (why : NotifierNotifyError) → Notifying k max n id t u call → IsNotifyAccess u v n call next (progress.Refused why) →
    NoneOfKind k n t → (◌≡◌ {A = Result (Unit {0}) NotifierNotifyError} (Err why) (Err error.Disconnected)) × (v ≡ t)
notify_refuses_none k max n id t u v call next why state access none =
    let end = no_event k max n id t u v call next (progress.Refused why) state access none in
    let same : why ≡ error.Disconnected = (let first = end.0 in cc first) in
    (rw same refl, end.1)

-- it is done
pub notify_ends : (k : EventKind) (max n id : ℕ) (t u v : EventTable) (call next : Notify) (p : EventProgress) → Notifying k max n id t u call → IsNotifyAccess u v n call next p →
    (p ≡ progress.More → ⊥) → ((why : NotifierNotifyError) → p ≡ progress.Refused why → ⊥) → OnKindAt k n t (λ e. (Ok tt ≡ notify_answer k max id e) × (v ≡ with_event t n (notified k max id e)))
notify_ends k max n id t u v call next p state access more refused e here =
    let came = notify_came k max n id t u v call next p state access e here in
    let done = by p came.x next.stage more refused came.told_is in
    (done.0, came.became.table ∙ ap (with_event t n) done.1)
  where
    by : (q : EventProgress) (x : Event) (s : NotifyStage) → (q ≡ progress.More → ⊥) → ((why : NotifierNotifyError) → q ≡ progress.Refused why → ⊥) → NotifyTold k max e x id q s → (Ok tt ≡ notify_answer k max id e) × (x ≡ notified k max id e)
    by progress.More x s not_one not_other is = absurd (not_one refl)
    by progress.Waiting x s not_one not_other is = is
    by (progress.Took base bits last) x s not_one not_other is = is
    by (progress.Id i last) x s not_one not_other is = is
    by progress.Notified x s not_one not_other is = is
    by (progress.Refused why) x s not_one not_other is = absurd (not_other why refl)
    by progress.Nothing x s not_one not_other is = is

pub notify_ends_none : (k : EventKind) (max n id : ℕ) (t u v : EventTable) (call next : Notify) (p : EventProgress) → Notifying k max n id t u call → IsNotifyAccess u v n call next p →
    ((why : NotifierNotifyError) → p ≡ progress.Refused why → ⊥) → NoneOfKind k n t → ⊥
notify_ends_none k max n id t u v call next p state access refused none = refused error.Disconnected (no_event k max n id t u v call next p state access none).0

-- it doesn't stand still
pub notify_not_still : (k : EventKind) (max n id : ℕ) (t u : EventTable) (call : Notify) → Notifying k max n id t u call → call.stage ≡ notify.Finished → (e : Event) → StandsAs k n t e → ⊥
notify_not_still k max n id t u call state ended e here =
    let far = state.far e here in
    let none : NotifySoFar k max e far.0 id notify.Finished = subst (λ (s : NotifyStage). NotifySoFar k max e far.0 id s) ended far.3 in
    none

-- and comes nearer to its end
turn_fewer : (call : Notify) (s : NotifyStage) (a : EventAnswer) → (notify_turn call s a).0 ≡ progress.More → s ≢ notify.Finished → notify_left (notify_turn call s a).1 < notify_left s
turn_fewer call notify.Look a more on = elim (either (is_yes a)) [
  | inl y ↦ rw y (elim (either (nat_lt call.max call.id)) [ inl o ↦ rw o (omega arith) | inr f ↦ rw f (omega arith) ])
  | inr n ↦ rw n (omega arith)
]
turn_fewer call notify.Set a more on = omega arith
turn_fewer call notify.Post a more on = omega arith
turn_fewer call notify.Push a more on = omega arith
turn_fewer call notify.Finished a more on = absurd (on refl)

pub notify_fewer : (u v : EventTable) (n : ℕ) (call next : Notify) (p : EventProgress) → IsNotifyAccess u v n call next p → p ≡ progress.More → call.stage ≢ notify.Finished → notify_left next.stage < notify_left call.stage
notify_fewer u v n call next p access more on = by access
  where
    never : (s : NotifyStage) → left_out s ≡ progress.More → ⊥
    never notify.Look h = cc h
    never notify.Set h = cc h
    never notify.Post h = cc h
    never notify.Push h = cc h
    never notify.Finished h = cc h

    by : IsNotifyMade u v n call next p ⊎ NotifyLeft u v n call p → notify_left next.stage < notify_left call.stage
    by (inl made) = rw made.1.goes_on (turn_fewer call call.stage made.0 (sym made.1.progress ∙ more) on)
    by (inr left) = absurd (never call.stage (sym left.told ∙ more))
