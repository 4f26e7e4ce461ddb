-- A wait for one that doesn't wait, on an event that nobody else has.
use Rattle.std.specs.Prelude.{◌≡◌, ◌≢◌, ◌<◌, ℕ, ◌+◌, ◌-◌, ◌*◌, ◌/◌, ◌^◌, Bool, true, false, ◌||◌, nat_lt, if◌then◌else◌, List, [], ◌∷◌, Option, Some, None, Result, Ok, IfSome, IsSomeAnd, drop, refl}
use Rattle.std.proofs.Common.{ap, sym, ◌∙◌, subst, arith, inl, inr, eqb}
use Rattle.std.proofs.lemmas.Bool.{false≢true}
use Rattle.std.specs.List.{list_any}
use Rattle.board_names.specs.declared.errors.event.ListenerWaitError.{ListenerWaitError}
use Rattle.board_event_model.specs.declared.access.EventAnswer.{EventAnswer}
use Rattle.board_event_model.specs.declared.call.EventProgress.{EventProgress}
use Rattle.board_event_model.specs.declared.call.EventProgress.TheVariants as progress
use Rattle.board_event_model.specs.declared.call.WaitMode.TheVariants as mode
use Rattle.board_event_model.specs.declared.call.WaitStage.{WaitStage}
use Rattle.board_event_model.specs.declared.call.WaitStage.TheVariants as wait
use Rattle.board_event_model.specs.declared.kind.EventKind.{EventKind}
use Rattle.board_event_model.specs.declared.kind.EventKind.TheVariants as kind
use Rattle.board_event_model.specs.Ids.{IsWord, has}
use Rattle.board_event_model.specs.EventMemory.{CanPerform, Event, IsRight, after, kind_of_access, pop_answer, yes_or_no}
use Rattle.board_event_model.specs.NotifyCalls.{is_yes}
use Rattle.board_event_model.specs.WaitCalls.{Wait, first_word, nothing, popped, scanned, wait_owed, wait_turn}
use Rattle.board_event_model.proofs.SetLemmas.{either, is_false}
use Rattle.board_event_model.proofs.QuietLemmas.{ltb_false, ltb_true}
use Rattle.board_event_core.specs.EventTable.{CanPerformAt, EventTable, IsEventTable, event_at, with_event}
use Rattle.board_event.specs.Ends.{End, NoneOfKind}
use Rattle.board_event.specs.Accesses.{WaitMade}
use Rattle.board_event.specs.LentForms.{GivesNone, IsNext, KeepsRestAt, NoneWaits, OnEventAt, OnKindAt, one_taken, within}
use Rattle.board_event.specs.Taking.{FoundNone, IsOfFirst, NoneBelow, NoneLeft, OneSoFar, OneTaken, TryWait, wait_begun, with_signals}
use Rattle.board_event.proofs.TableLemmas.{Became, Became-first, Became-next, at_event, event_here}
use Rattle.board_event.proofs.ReachLemmas.{IsOfKind, is_of_kind, left_none, next_within, stands_as, within_all}
use Rattle.board_event.proofs.RestLemmas.{rest_first, rest_next}
use Rattle.board_event.proofs.TryLemmas.{TryWait-made}
use Rattle.board_event.proofs.WordLemmas.{IsLeast-word, NoneBelow-more, differ, eqb_is, least_low}

-- what a wait for one has come to: it gave an id and is at its end, or goes on so
abbrev pub OneTold : EventKind → Event → Event → ℕ → EventProgress → WaitStage → Type 0
OneTold k e next words (progress.Id id last) stage = IsNext k e id × IsOfFirst k words id × (next ≡ one_taken k e (Some id))
OneTold k e next words progress.More stage = OneSoFar k e next words stage
OneTold k e next words progress.Waiting stage = OneSoFar k e next words stage
OneTold k e next words (progress.Took base bits last) stage = OneSoFar k e next words stage
OneTold k e next words progress.Notified stage = OneSoFar k e next words stage
OneTold k e next words (progress.Refused why) stage = OneSoFar k e next words stage
OneTold k e next words progress.Nothing stage = OneSoFar k e next words stage

abbrev pub OneStepped : EventKind → Event → Event → ℕ → EventProgress × WaitStage → Type 0
OneStepped k e next words t = OneTold k e next words t.0 t.1

-- ---- each access

-- where all words were empty
nothing_told : (e : Event) (w : Wait) → w.mode ≡ mode.Try → NoneBelow e.pending w.words → OneStepped kind.Bits e (with_signals e 0) w.words (nothing w)
nothing_told e w try none = rw try (refl, none)

scan_told : (e : Event) (w : Wait) (k v : ℕ) → w.mode ≡ mode.Try → k < w.words → IsWord e.pending k v → NoneBelow e.pending k →
    OneStepped kind.Bits e (with_signals e 0) w.words (scanned w k v)
scan_told e w k v try low word none =
    elim (either (eqb v 0)) [
      | inl z ↦ (
          let more : NoneBelow e.pending (k + 1) = NoneBelow-more e.pending k v word (eqb_is v 0 z) none in
          rw z (elim (either (eqb (k + 1) w.words)) [
            | inl end ↦ rw end (nothing_told e w try (subst (λ (n : ℕ). NoneBelow e.pending n) (eqb_is (k + 1) w.words end) more))
            | inr on ↦ rw on (refl, refl, (let apart = differ (k + 1) w.words on in omega arith), more)
          ]))
      | inr some ↦ rw some (refl, refl, IsLeast-word e.pending k v word (differ v 0 some) none, (let least = least_low v word.small (differ v 0 some) in omega arith))
    ]

drain_told : (e now : Event) (w : Wait) (b : Bool) → w.many ≡ false → 0 < w.words → now ≡ with_signals e now.signals → nat_lt 0 now.signals ≡ b →
    OneSoFar kind.Bits e (with_signals now (now.signals - 1)) w.words (if is_yes (yes_or_no b) then wait.Drain else first_word w.many)
drain_told e now w true one some is h = (refl, ap (λ (x : Event). with_signals x (now.signals - 1)) is)
drain_told e now w false one some is h =
    rw one (refl, ap (λ (x : Event). with_signals x (now.signals - 1)) is ∙ ap (with_signals e) (gone now.signals h), some, λ i low. absurd (omega arith))
  where
    gone : (s : ℕ) → nat_lt 0 s ≡ false → s - 1 ≡ 0
    gone s h = grind arith

-- an id that is cleared
clear_told : (e now : Event) (id : ℕ) → now ≡ with_signals e 0 → after now (wait_owed (wait.Clear id)) ≡ one_taken kind.Bits e (Some id)
clear_told e now id is = ap (λ (x : Event). after x (wait_owed (wait.Clear id))) is

pop_told : (e : Event) (w : Wait) (queue : List ℕ) → w.mode ≡ mode.Try → w.many ≡ false → e.queue ≡ queue →
    OneStepped kind.Queue e (record e { queue = drop 1 e.queue }) w.words (popped w 0 (pop_answer queue))
pop_told e w [] try one empty = rw try (refl, empty)
pop_told e w (x ∷ xs) try one some = rw one (rw some refl, λ bits. absurd (cc bits), refl)

-- each access of a wait for one
pub one_step : (k : EventKind) (e now : Event) (w : Wait) (stage : WaitStage) (a : EventAnswer) → w.mode ≡ mode.Try → w.many ≡ false → 0 < w.words →
    stage ≢ wait.Finished → OneSoFar k e now w.words stage → IsRight now (wait_owed stage) a → OneStepped k e (after now (wait_owed stage)) w.words (wait_turn w stage a)
one_step k e now w wait.Drain a try one some on far right = rw (far.0, right) (drain_told e now w (nat_lt 0 now.signals) one some far.1 refl)
one_step k e now w (wait.Scan n) a try one some on far right =
    let word : IsWord e.pending n right.0 = subst (λ (x : Event). IsWord x.pending n right.0) far.1 right.2 in
    rw (far.0, far.1, right.1) (scan_told e w n right.0 try far.2 word far.3)
one_step k e now w (wait.Clear id) a try one some on far right = rw far.0 (far.2, λ bits. far.3, clear_told e now id far.1)
one_step k e now w (wait.Swap n b) a try one some on far right = absurd far
one_step k e now w wait.Look a try one some on far right = absurd far
one_step k e now w (wait.Pop n) a try one some on far right = rw (far.0, far.2, right, far.1) (pop_told e w e.queue try one refl)
one_step k e now w wait.Finished a try one some on far right = absurd (on refl)

-- where it is kept from an access, it is past the last word of the set, and none is left
pub one_cut : (k : EventKind) (e now : Event) (words : ℕ) (stage : WaitStage) → IsOfKind k e → stage ≢ wait.Finished → OneSoFar k e now words stage → ¬ CanPerform now (wait_owed stage) →
    (now ≡ one_taken k e None) × NoneLeft k e words
one_cut k e now words wait.Drain is on far cannot = absurd (cannot (record { kind = rw far.1 (is.of_kind ∙ far.0); inside = tt }))
one_cut k e now words (wait.Scan n) is on far cannot = rw far.0 (far.1, λ i low. is_false _ (none i))
  where
    none : (i : ℕ) → has e.pending i ≡ true → ⊥
    none i h = elim (either (nat_lt n (e.max / 64 + 1))) [
      | inl in_set ↦ (let low = ltb_true n (e.max / 64 + 1) in_set in cannot (record { kind = rw far.1 (is.of_kind ∙ far.0); inside = rw far.1 low }))
      | inr past ↦ (
          let high = ltb_false n (e.max / 64 + 1) past in
          let top = is.ids.low i h in
          false≢true (sym (far.3 i (omega arith)) ∙ h))
    ]
one_cut k e now words (wait.Clear id) is on far cannot = absurd (cannot (record { kind = rw far.1 (is.of_kind ∙ far.0); inside = rw far.1 far.2.member }))
one_cut k e now words (wait.Swap n b) is on far cannot = absurd far
one_cut k e now words wait.Look is on far cannot = absurd far
one_cut k e now words (wait.Pop n) is on far cannot = absurd (cannot (record { kind = rw far.1 (is.of_kind ∙ far.0); inside = tt }))
one_cut k e now words wait.Finished is on far cannot = absurd (on refl)

-- who gives an id had one that waits
pub next_waits : (k : EventKind) (e : Event) (id : ℕ) → e.kind ≡ k → IsNext k e id → NoneWaits e → ⊥
next_waits kind.Bits e id is next none = left (has e.pending id) (list_any (λ x. eqb x id) e.queue) next.member (none id)
  where
    left : (a b : Bool) → a ≡ true → (a || b) ≡ false → ⊥
    left true b y h = false≢true (sym h)
    left false b y h = false≢true y
next_waits kind.Queue e id is next none = by e.queue refl
  where
    right : (a b : Bool) → b ≡ true → (a || b) ≡ false → ⊥
    right true b y h = false≢true (sym h)
    right false b y h = false≢true (sym h ∙ y)

    first : (x : ℕ) (xs : List ℕ) → x ≡ id → list_any (λ y. eqb y id) (x ∷ xs) ≡ true
    first x xs same = rw same (either_way (list_any (λ y. eqb y id) xs))
      where
        either_way : (b : Bool) → (eqb id id || b) ≡ true
        either_way b = grind arith

    by : (queue : List ℕ) → e.queue ≡ queue → ⊥
    by [] empty = let g = (rw empty at next) in cc g
    by (x ∷ xs) some =
        let here : Some x ≡ Some id = (rw some at next) in
        let same : x ≡ id = cc here in
        right (has e.pending id) (list_any (λ y. eqb y id) e.queue) (rw some (first x xs same)) (none id)

-- ---- the loop

-- what holds of the loop: of the table at first, and as it is
pub record TakingOne (k : EventKind) (max n : ℕ) (t u : EventTable) (w : Wait) : Type 0 where
  pub table : IsEventTable t
  pub try : TryWait w false
  pub words : k ≡ kind.Bits → w.words ≡ max / 64 + 1
  pub far : OnKindAt k n t (λ e. (now : Event) × Became t u n now × OneSoFar k e now w.words w.stage)
  pub rest : KeepsRestAt n t u
  pub gone : NoneOfKind k n t → (u ≡ t) × (kind_of_access (wait_owed w.stage) ≡ k)

-- how it begins
begun_try : (k : EventKind) (max : ℕ) (many : Bool) → max < 2 ^ 64 → TryWait (wait_begun k max many mode.Try) many
begun_try kind.Bits max many fits = record { mode = refl; all = refl; some = omega arith; few = omega arith; stage = tt }
begun_try kind.Queue max many fits = record { mode = refl; all = refl; some = omega arith; few = omega arith; stage = omega arith }

begun_words : (k : EventKind) (max : ℕ) (many : Bool) → k ≡ kind.Bits → (wait_begun k max many mode.Try).words ≡ max / 64 + 1
begun_words kind.Bits max many bits = refl
begun_words kind.Queue max many bits = absurd (cc bits)

pub wait_begins : (k : EventKind) (max : ℕ) (many : Bool) (w : Wait) → max < 2 ^ 64 → w ≡ wait_begun k max many mode.Try → TryWait w many × (k ≡ kind.Bits → w.words ≡ max / 64 + 1)
wait_begins k max many w fits is = (rw is (begun_try k max many fits), λ bits. (rw is (begun_words k max many bits)))

one_at_first : (k : EventKind) (e : Event) (max : ℕ) → OneSoFar k e e (wait_begun k max false mode.Try).words (wait_begun k max false mode.Try).stage
one_at_first kind.Bits e max = (refl, refl)
one_at_first kind.Queue e max = (refl, refl, refl)

-- its first access is one on events of its kind
pub begun_kind : (k : EventKind) (max : ℕ) (many : Bool) → kind_of_access (wait_owed (wait_begun k max many mode.Try).stage) ≡ k
begun_kind kind.Bits max many = refl
begun_kind kind.Queue max many = refl

pub one_begins : (k : EventKind) (max n : ℕ) (t : EventTable) (w : Wait) → max < 2 ^ 64 → IsEventTable t → w ≡ wait_begun k max false mode.Try → TakingOne k max n t t w
one_begins k max n t w fits table is = record {
  table = table;
  try = (wait_begins k max false w fits is).0;
  words = (wait_begins k max false w fits is).1;
  far = λ e here. (e, Became-first t n e here.stands, (rw is (one_at_first k e max)));
  rest = rest_first n t;
  gone = λ _. (refl, (rw is (begun_kind k max false)));
}

-- what an access has come to on the event
one_made : (k : EventKind) (max n : ℕ) (t u v : EventTable) (w next : Wait) (p : EventProgress) (a : EventAnswer) → TakingOne k max n t u w → w.stage ≢ wait.Finished → WaitMade u v n w next p a →
    OnKindAt k n t (λ e. (x : Event) × Became t v n x × OneTold k e x next.words p next.stage)
one_made k max n t u v w next p a taking on made e here =
    let far = taking.far e here in
    let now = far.0 in
    let right = at_event u n now (λ x. IsRight x (wait_owed w.stage) a) far.1.stands made.right in
    let told : OneStepped k e (after now (wait_owed w.stage)) w.words (wait_turn w w.stage a) =
    one_step k e now w w.stage a taking.try.mode taking.try.all taking.try.some on far.2 right in
    (after now (wait_owed w.stage), Became-next t u v n now (λ x. after x (wait_owed w.stage)) far.1 made.memory, (rw (made.progress, made.goes_on) told))

-- it goes on
told_on : (k : EventKind) (e x : Event) (words : ℕ) (p : EventProgress) (stage : WaitStage) → ((id : ℕ) (last : Bool) → p ≡ progress.Id id last → ⊥) → OneTold k e x words p stage → OneSoFar k e x words stage
told_on k e x words progress.More stage other told = told
told_on k e x words progress.Waiting stage other told = told
told_on k e x words (progress.Took base bits last) stage other told = told
told_on k e x words (progress.Id id last) stage other told = absurd (other id last refl)
told_on k e x words progress.Notified stage other told = told
told_on k e x words (progress.Refused why) stage other told = told
told_on k e x words progress.Nothing stage other told = told

-- where no event of its kind stands no access was made
pub not_made : (k : EventKind) (u v t : EventTable) (n : ℕ) (w next : Wait) (p : EventProgress) (a : EventAnswer) → (u ≡ t) × (kind_of_access (wait_owed w.stage) ≡ k) → NoneOfKind k n t → WaitMade u v n w next p a → ⊥
not_made k u v t n w next p a same none made = by (event_at t n) refl (subst (λ (s : EventTable). IsSomeAnd (event_at s n) (λ x. CanPerform x (wait_owed w.stage))) same.0 made.can)
  where
    by : (o : Option Event) → event_at t n ≡ o → IsSomeAnd o (λ x. CanPerform x (wait_owed w.stage)) → ⊥
    by None h can = can
    by (Some e) h can = none e h (can.kind ∙ same.1)

pub one_goes_on : (k : EventKind) (max n : ℕ) (t u v : EventTable) (w next : Wait) (p : EventProgress) (a : EventAnswer) → TakingOne k max n t u w → w.stage ≢ wait.Finished → WaitMade u v n w next p a →
    ((id : ℕ) (last : Bool) → p ≡ progress.Id id last → ⊥) → TakingOne k max n t v next
one_goes_on k max n t u v w next p a taking on made other = record {
  table = taking.table;
  try = TryWait-made u v n w next false p a taking.try on made;
  words = λ bits. (rw made.goes_on (taking.words bits));
  far = λ e here. (let x = one_made k max n t u v w next p a taking on made e here in (x.0, x.1, told_on k e x.0 next.words p next.stage other x.2));
  rest = rest_next n t u v w.stage taking.rest made.memory;
  gone = λ none. absurd (not_made k u v t n w next p a (taking.gone none) none made);
}

-- it gives an id
pub one_gives : (k : EventKind) (max n : ℕ) (t u v : EventTable) (w next : Wait) (id : ℕ) (last : Bool) (a : EventAnswer) → TakingOne k max n t u w → w.stage ≢ wait.Finished → WaitMade u v n w next (progress.Id id last) a →
    OnKindAt k n t (λ e. OneTaken k max e t v n (Some id))
one_gives k max n t u v w next id last a taking on made e here =
    let x = one_made k max n t u v w next (progress.Id id last) a taking on made e here in
    let words : k ≡ kind.Bits → next.words ≡ max / 64 + 1 = λ bits. (rw made.goes_on (taking.words bits)) in
    record {
      id = x.2.0;
      reached = λ bits. subst (λ (m : ℕ). id < 64 * m) (words bits) (x.2.1 bits);
      none = λ none. absurd (cc none);
      left = x.1.table ∙ ap (with_event t n) x.2.2;
    }

pub none_gives : (k : EventKind) (max n : ℕ) (t u v : EventTable) (w next : Wait) (p : EventProgress) (a : EventAnswer) → TakingOne k max n t u w → WaitMade u v n w next p a → NoneOfKind k n t → ⊥
none_gives k max n t u v w next p a taking made none = not_made k u v t n w next p a (taking.gone none) none made

-- no id is left, so none was taken
none_taken : (k : EventKind) (max n : ℕ) (t u : EventTable) (e now : Event) (words : ℕ) → IsOfKind k e → (k ≡ kind.Bits → words ≡ max / 64 + 1) → Became t u n now → (now ≡ one_taken k e None) × NoneLeft k e words →
    OneTaken k max e t u n None
none_taken k max n t u e now words is size became end = record {
  id = tt;
  reached = tt;
  none = λ _. left_none k e words max is size end.1;
  left = became.table ∙ ap (with_event t n) end.0;
}

-- it ends with none
pub one_ends : (k : EventKind) (max n : ℕ) (t u : EventTable) (w : Wait) → TakingOne k max n t u w → w.stage ≡ wait.Finished → OnKindAt k n t (λ e. OneTaken k max e t u n None)
one_ends k max n t u w taking ended e here =
    let far = taking.far e here in
    let end : OneSoFar k e far.0 w.words wait.Finished = subst (λ (s : WaitStage). OneSoFar k e far.0 w.words s) ended far.2 in
    none_taken k max n t u e far.0 w.words (is_of_kind k n t e taking.table here) taking.words far.1 end

-- it is kept from an access, and all stays
pub one_stops : (k : EventKind) (max n : ℕ) (t u v : EventTable) (w : Wait) → TakingOne k max n t u w → w.stage ≢ wait.Finished → ¬ CanPerformAt u n (wait_owed w.stage) → v ≡ u →
    OnKindAt k n t (λ e. OneTaken k max e t v n None)
one_stops k max n t u v w taking on cannot stays e here =
    let far = taking.far e here in
    let kind_is = is_of_kind k n t e taking.table here in
    let cut = one_cut k e far.0 w.words w.stage kind_is on far.2 (λ can. cannot (event_here u n far.0 (λ x. CanPerform x (wait_owed w.stage)) far.1.stands can)) in
    subst (λ (x : EventTable). OneTaken k max e t x n None) (sym stays) (none_taken k max n t u e far.0 w.words kind_is taking.words far.1 cut)

-- ---- what the lent form gives

-- on a set of the same greatest id, where it has found none, none waits
pub found_none : (k : EventKind) (max n : ℕ) (t u : EventTable) (one : Option ℕ) → IsEventTable t → OnKindAt k n t (λ e. OneTaken k max e t u n one) → OnEventAt k max n t (FoundNone one)
found_none k max n t u one table taken e here =
    λ none. subst NoneWaits (within_all k max e (is_of_kind k n t e table (stands_as k max n t e here)) here.greatest) ((taken e (stands_as k max n t e here)).none none)

-- none is given exactly where none waits
pub gives_none : (k : EventKind) (e : Event) (one : Option ℕ) → e.kind ≡ k → IfSome one (IsNext k e) → FoundNone one e → GivesNone (Ok one) e
gives_none k e None is next none = (λ _. none refl, λ _. refl)
gives_none k e (Some id) is next none = (λ h. absurd (some_not_none h), λ waits. absurd (next_waits k e id is next waits))
  where
    some_not_none : ◌≡◌ {A = Result (Option ℕ) ListenerWaitError} (Ok (Some id)) (Ok None) → ⊥
    some_not_none h = cc h

-- and so it is of what an end reaches
pub gives_none_within : (k : EventKind) (max : ℕ) (e : Event) (old new : EventTable) (n : ℕ) (one : Option ℕ) → e.kind ≡ k → OneTaken k max e old new n one → GivesNone (Ok one) (within max e)
gives_none_within k max e old new n one is taken = gives_none k (within max e) one is (next_within k max e one taken.id taken.reached) taken.none

-- the same of an end, a kind and a table that are equal to these
pub moved : (P : EventKind → End → EventTable → Type 0) (j k : EventKind) (seen end : End) (u t : EventTable) → j ≡ k → seen ≡ end → u ≡ t → P j seen u → P k end t
moved P j k seen end u t kinds ends tables holds = subst (λ x. P x end t) kinds (subst (λ x. P j x t) ends (subst (λ x. P j seen x) tables holds))

-- what isn't some is none
pub none_of : (one : Option ℕ) → ((id : ℕ) → one ≡ Some id → ⊥) → one ≡ None
none_of None other = refl
none_of (Some id) other = absurd (other id refl)
