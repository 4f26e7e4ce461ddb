-- What every reached moment of a run on bits knows, and the quiet law.
use Rattle.std.proofs.Common.{◌≡◌, ℕ, ◌+◌, ◌*◌, ◌/◌, ◌<◌, ◌≤◌, Bool, true, false, eqb, ltb, refl, sym, ◌∙◌, ap, ◌⊎◌, inl, inr, arith, subst, Some, None, Option, List, [], ◌∷◌, ◌++◌, length}
use Rattle.std.specs.Prelude.{◌||◌, not, if◌then◌else◌, ◌==◌, IsSomeAnd, nat_lt}
use Rattle.std.proofs.lemmas.Bool.{false≢true}
use Rattle.std.proofs.lemmas.Slice.Eq.{bytes_eq-Decides}
use Rattle.std.specs.Str.{bytes_eq}
use Rattle.board_event_model.specs.declared.kind.EventKind.{EventKind}
use Rattle.board_event_model.specs.declared.access.EventAccess.{EventAccess}
use Rattle.board_event_model.specs.declared.access.EventAccess.TheVariants as access
use Rattle.board_event_model.specs.declared.access.EventAnswer.{EventAnswer}
use Rattle.board_event_model.specs.declared.access.EventAnswer.TheVariants as answer
use Rattle.board_event_model.specs.declared.call.EventProgress.{EventProgress}
use Rattle.board_event_model.specs.declared.call.EventProgress.TheVariants as progress
use Rattle.board_event_model.specs.declared.call.NotifyStage.{NotifyStage}
use Rattle.board_event_model.specs.declared.call.NotifyStage.TheVariants as notify
use Rattle.board_event_model.specs.declared.call.WaitStage.{WaitStage}
use Rattle.board_event_model.specs.declared.call.WaitStage.TheVariants as wait
use Rattle.board_event_model.specs.Ids.{Ids, has, in_word}
use Rattle.board_event_model.specs.EventMemory.{Event, IsRight, after, is_bits, yes_or_no}
use Rattle.board_event_model.specs.NotifyCalls.{Notify, is_yes, notify_bits, notify_owed, notify_turn}
use Rattle.board_event_model.specs.WaitCalls.{Wait, first_word, is_try, nothing, scanned, swapped, wait_bits, wait_owed, wait_turn, word_in}
use Rattle.board_event_model.specs.EventCalls.{EventCall, a_notify, a_wait, is_last, owed, turn, PartyName, RunningCall, TakenAccess, call_of, new_call, went_on}
use Rattle.board_event_model.specs.EventRuns.{EventMove, IsAllowed, IsCallOf, IsReached, IsRun, Moment, abandon, begin, elsewhere, expire, listened, moved, notifiers, put, release_listener, run_to, step, stepped}
use Rattle.board_event_model.specs.LawsOfQuiet.{IsQuiet, QuietLaw, SeenLaw, has_ended, sets, last_setter, words_seen}
use Rattle.board_event_model.proofs.SetLemmas.{or_split, and_split, is_false, either, has_inserted, has_removed, has_retained, has_empty}
use Rattle.board_event_model.proofs.QuietLemmas.{is_posting, NotifyFits, StageFits, notify_keeps, wait_goes, eqb_true, eqb_self, ltb_false}

abbrev pub posting : EventCall → Bool
posting (a_notify n) = is_posting n.stage
posting (a_wait w) = false

abbrev pub CallFits : Event → PartyName → PartyName → EventCall → Type 0
CallFits e l p (a_notify n) = NotifyFits e.max n n.stage
CallFits e l p (a_wait w) = (p ≡ l) × (w.words ≡ e.max / 64 + 1) × StageFits w w.stage

abbrev pub QuietCall : Event → List TakenAccess → EventCall → Type 0
QuietCall e h (a_notify n) = Unit {0}
QuietCall e h (a_wait w) = IsQuiet e h (words_seen w.words w.stage)

-- what is known of a running call
pub record Sane (e : Event) (l : PartyName) (begun : ℕ) (h : List TakenAccess) (p : PartyName) (number : ℕ) (call : EventCall) : Type 0 where
  pub old : number < begun
  pub unfinished : has_ended number h ≡ false
  pub setting : (i : ℕ) → last_setter i h ≡ Some number → posting call ≡ true
  pub fits : CallFits e l p call
  pub quiet : QuietCall e h call

pub record Sound (now : Moment) : Type 0 where
  pub bits : is_bits now.event.kind ≡ true
  pub bounded : (id : ℕ) → has now.event.pending id ≡ true → id ≤ now.event.max
  pub setters : (i n : ℕ) → last_setter i now.history ≡ Some n → n < now.begun
  pub finished : (n : ℕ) → has_ended n now.history ≡ true → n < now.begun
  pub each : (p : PartyName) (r : RunningCall) → now.running p ≡ Some r → Sane now.event now.listener now.begun now.history p r.number (call_of r)
  pub apart : (p q : PartyName) (r s : RunningCall) → now.running p ≡ Some r → now.running q ≡ Some s → r.number ≡ s.number → p ≡ q

-- ---- tables of running calls

pub some_same : {A : Type 0} (x y : A) → Some x ≡ Some y → x ≡ y
some_same x y e = cc

pub none_some : {A : Type 0} (x : A) → None ≡ Some x → ⊥
none_some x e = cc

pub put_each :
    (running : PartyName → Option RunningCall) (p : PartyName) (x : Option RunningCall) (P : PartyName → RunningCall → Type 0)
    → ((s : RunningCall) → x ≡ Some s → P p s) → ((q : PartyName) (s : RunningCall) → (q ≡ p → ⊥) → running q ≡ Some s → P q s)
    → (q : PartyName) (s : RunningCall) → put running p x q ≡ Some s → P q s
put_each running p x P own other q s =
    elim (either (bytes_eq q p)) [
      | inl same ↦ rw same (λ e. subst (λ (z : PartyName). P z s) (sym ((bytes_eq-Decides q p).0 same)) (own s e))
      | inr no_p ↦ rw no_p (λ e. other q s (λ same. false≢true (sym no_p ∙ (bytes_eq-Decides q p).1 same)) e)
    ]

pub put_apart :
    (running : PartyName → Option RunningCall) (p : PartyName) (x : Option RunningCall)
    → ((s t : RunningCall) (q : PartyName) → (q ≡ p → ⊥) → x ≡ Some s → running q ≡ Some t → s.number ≡ t.number → ⊥)
    → ((q q' : PartyName) (s t : RunningCall) → running q ≡ Some s → running q' ≡ Some t → s.number ≡ t.number → q ≡ q')
    → (q q' : PartyName) (s t : RunningCall) → put running p x q ≡ Some s → put running p x q' ≡ Some t → s.number ≡ t.number → q ≡ q'
put_apart running p x new old q q' s t e f =
    put_each running p x (λ z u. (q' : PartyName) (t : RunningCall) → put running p x q' ≡ Some t → u.number ≡ t.number → z ≡ q')
    (λ u g. put_each running p x (λ z v. u.number ≡ v.number → p ≡ z) (λ v i n. refl) (λ z v d i n. absurd (new u v z d g i n)))
    (λ z u d g. put_each running p x (λ y v. u.number ≡ v.number → z ≡ y) (λ v i n. absurd (new v u z d i g (sym n))) (λ y v d' i n. old z y u v g i n))
    q s e q' t f

-- ---- an access keeps the kind and the greatest id

pub after_max : (e : Event) (a : EventAccess) → (after e a).max ≡ e.max
after_max e access.Listener = refl
after_max e (access.Set id) = refl
after_max e access.Post = refl
after_max e (access.Push id) =
    elim (not e.held || e.gone) as (λ b. (if b then e else if nat_lt (length e.queue) 512 then record e { queue = e.queue ++ id ∷ [] } else e).max ≡ e.max) [
      | true ↦ refl
      | false ↦ elim (nat_lt (length e.queue) 512) as (λ b. (if b then record e { queue = e.queue ++ id ∷ [] } else e).max ≡ e.max) [ true ↦ refl | false ↦ refl ]
    ]
after_max e access.Signal = refl
after_max e (access.Scan k) = refl
after_max e (access.Clear id) = refl
after_max e (access.Swap k) = refl
after_max e access.Pop = refl

pub after_kind : (e : Event) (a : EventAccess) → (after e a).kind ≡ e.kind
after_kind e access.Listener = refl
after_kind e (access.Set id) = refl
after_kind e access.Post = refl
after_kind e (access.Push id) =
    elim (not e.held || e.gone) as (λ b. (if b then e else if nat_lt (length e.queue) 512 then record e { queue = e.queue ++ id ∷ [] } else e).kind ≡ e.kind) [
      | true ↦ refl
      | false ↦ elim (nat_lt (length e.queue) 512) as (λ b. (if b then record e { queue = e.queue ++ id ∷ [] } else e).kind ≡ e.kind) [ true ↦ refl | false ↦ refl ]
    ]
after_kind e access.Signal = refl
after_kind e (access.Scan k) = refl
after_kind e (access.Clear id) = refl
after_kind e (access.Swap k) = refl
after_kind e access.Pop = refl

-- ---- how a running call fits after its own step

fits_max : (e f : Event) (l p : PartyName) (c : EventCall) → f.max ≡ e.max → CallFits e l p c → CallFits f l p c
fits_max e f l p (a_notify n) same h = subst (λ (m : ℕ). NotifyFits m n n.stage) (sym same) h
fits_max e f l p (a_wait w) same h = (h.0, h.1 ∙ ap (λ (m : ℕ). m / 64 + 1) (sym same), h.2)

abbrev NotifyGoes : ℕ → Notify → EventProgress × NotifyStage → Type 0
NotifyGoes max n t = is_last t.0 ≡ false → NotifyFits max n t.1

notify_fits : (e : Event) (n : Notify) (stage : NotifyStage) (a : EventAnswer) → NotifyFits e.max n stage → NotifyGoes e.max n (notify_turn n stage a)
notify_fits e n notify.Look a h =
    elim (either (is_yes a)) [
      | inl y ↦ rw y (elim (either (ltb n.max n.id)) [
        | inl big ↦ rw big (λ l. absurd (false≢true (sym l)))
        | inr small ↦ rw small (λ l. let s : n.id ≤ n.max = ltb_false n.max n.id small in omega arith)
      ])
      | inr f ↦ rw f (λ l. absurd (false≢true (sym l)))
    ]
notify_fits e n notify.Set a h = λ l. h
notify_fits e n notify.Post a h = λ l. absurd (false≢true (sym l))
notify_fits e n notify.Push a h = absurd h
notify_fits e n notify.Finished a h = absurd h

abbrev WaitGoes : Wait → EventProgress × WaitStage → Type 0
WaitGoes w t = is_last t.0 ≡ false → StageFits w t.1

nothing_fits : (w : Wait) → WaitGoes w (nothing w)
nothing_fits w = elim (is_try w.mode) as (λ b. WaitGoes w (if b then (progress.Nothing, wait.Finished) else (progress.More, wait.Look))) [
  | true ↦ λ l. absurd (false≢true (sym l))
  | false ↦ λ l. tt
]

apart_from_eqb : (a b : ℕ) → eqb a b ≡ false → a ≡ b → ⊥
apart_from_eqb a b h e = false≢true (sym h ∙ ap (eqb a) (sym e) ∙ eqb_self a)

scan_fits : (w : Wait) (k v : ℕ) → k < w.words → w.many ≡ false → WaitGoes w (scanned w k v)
scan_fits w k v low one =
    elim (either (eqb v 0)) [
      | inl zero ↦ rw zero (elim (either (eqb (k + 1) w.words)) [
        | inl end ↦ rw end (nothing_fits w)
        | inr on ↦ rw on (λ l. ((let d = apart_from_eqb (k + 1) w.words on in omega arith), one))
      ])
      | inr some ↦ rw some (λ l. one)
    ]

swap_fits : (w : Wait) (k : ℕ) (some : Bool) (v : ℕ) → k < w.words → w.many ≡ true → WaitGoes w (swapped w k some v)
swap_fits w k some v low all =
    elim (either (eqb (k + 1) w.words)) [
      | inl end ↦ rw end (
          elim (some || not (v == 0)) as (λ b. WaitGoes w (if b then (progress.Took (64 * k) v true, wait.Finished) else nothing w)) [
            | true ↦ λ l. absurd (false≢true (sym l))
            | false ↦ nothing_fits w
          ])
      | inr on ↦ rw on (λ l. ((let d = apart_from_eqb (k + 1) w.words on in omega arith), all))
    ]

first_fits : (w : Wait) (many : Bool) → w.many ≡ many → 0 < w.words → StageFits w (first_word many)
first_fits w true same low = (low, same)
first_fits w false same low = (low, same)

pub wait_fits : (w : Wait) (stage : WaitStage) (a : EventAnswer) → 0 < w.words → StageFits w stage → WaitGoes w (wait_turn w stage a)
wait_fits w wait.Drain a low h = λ l. elim (is_yes a) as (λ b. StageFits w (if b then wait.Drain else first_word w.many)) [ true ↦ tt | false ↦ first_fits w w.many refl low ]
wait_fits w (wait.Scan k) a low h = scan_fits w k (word_in a) h.0 h.1
wait_fits w (wait.Clear id) a low h = λ l. absurd (false≢true (sym l))
wait_fits w (wait.Swap k some) a low h = swap_fits w k some (word_in a) h.0 h.1
wait_fits w wait.Look a low h = elim (is_yes a) as (λ b. WaitGoes w (if b then (progress.More, wait.Drain) else (progress.Waiting, wait.Look))) [ true ↦ λ l. tt | false ↦ λ l. tt ]
wait_fits w (wait.Pop n) a low h = absurd h
wait_fits w wait.Finished a low h = absurd h

-- ---- an access of one call, seen by the others

set_by : (i m n : ℕ) (a : EventAccess) (l : Bool) (h : List TakenAccess) → last_setter i (record { call = m; access = a; last = l } ∷ h) ≡ Some n → ((m ≡ n) × (sets a i ≡ true)) ⊎ (last_setter i h ≡ Some n)
set_by i m n a l h =
    elim (either (sets a i)) [
      | inl y ↦ rw y (λ e. inl (some_same m n e, refl))
      | inr f ↦ rw f (λ e. inr e)
    ]

finished_by : (m n : ℕ) (a : EventAccess) (l : Bool) (h : List TakenAccess) → has_ended n (record { call = m; access = a; last = l } ∷ h) ≡ true → ((m ≡ n) × (l ≡ true)) ⊎ (has_ended n h ≡ true)
finished_by m n a l h e = elim (or_split _ _ e) [
  | inl b ↦ (let w = and_split _ _ b in inl (eqb_true m n w.0, w.1))
  | inr o ↦ inr o
]

-- a notify's access, seen by another call
quiet_other :
    (e : Event) (l : PartyName) (begun : ℕ) (h : List TakenAccess) (p q : PartyName) (m : ℕ) (c d : EventCall) (a : EventAnswer)
    → Sane e l begun h p m c → CallFits e l q d → (q ≡ p → ⊥) → QuietCall e h d
    → QuietCall (after e (owed c)) (record { call = m; access = owed c; last = is_last (turn c a).0 } ∷ h) d
quiet_other e l begun h p q m c (a_notify n) a sane fits apart quiet = tt
quiet_other e l begun h p q m (a_notify n) (a_wait w) a sane fits apart quiet = notify_keeps e h (words_seen w.words w.stage) m n n.stage a sane.fits sane.setting sane.unfinished quiet
quiet_other e l begun h p q m (a_wait v) (a_wait w) a sane fits apart quiet = absurd (apart (fits.0 ∙ sym sane.fits.0))

sane_other :
    (e : Event) (l : PartyName) (begun : ℕ) (h : List TakenAccess) (p q : PartyName) (m n : ℕ) (c d : EventCall) (a : EventAnswer)
    → Sane e l begun h p m c → Sane e l begun h q n d → (q ≡ p → ⊥) → (m ≡ n → ⊥)
    → Sane (after e (owed c)) l begun (record { call = m; access = owed c; last = is_last (turn c a).0 } ∷ h) q n d
sane_other e l begun h p q m n c d a sane other apart_p apart_n = record {
  old = other.old;
  unfinished = is_false _ (λ f. elim (finished_by m n (owed c) (is_last (turn c a).0) h f) [ inl w ↦ apart_n w.0 | inr o ↦ false≢true (sym other.unfinished ∙ o) ]);
  setting = λ i s. elim (set_by i m n (owed c) (is_last (turn c a).0) h s) [ inl w ↦ absurd (apart_n w.0) | inr o ↦ other.setting i o ];
  fits = fits_max e (after e (owed c)) l q d (after_max e (owed c)) other.fits;
  quiet = quiet_other e l begun h p q m c d a sane other.fits apart_p other.quiet;
}

-- ---- an access, seen by the call that takes it

own_fits : (e : Event) (l p : PartyName) (c : EventCall) (a : EventAnswer) → CallFits e l p c → is_last (turn c a).0 ≡ false → CallFits e l p (turn c a).1
own_fits e l p (a_notify n) a h goes = notify_fits e n n.stage a h goes
own_fits e l p (a_wait w) a h goes = (h.0, h.1, wait_fits w w.stage a (let e = h.1 in omega arith) h.2 goes)

own_quiet :
    (e : Event) (l p : PartyName) (h : List TakenAccess) (m : ℕ) (c : EventCall) (a : EventAnswer) → IsRight e (owed c) a → CallFits e l p c → QuietCall e h c → is_last (turn c a).0 ≡ false
    → QuietCall (after e (owed c)) (record { call = m; access = owed c; last = is_last (turn c a).0 } ∷ h) (turn c a).1
own_quiet e l p h m (a_notify n) a right fits quiet goes = tt
own_quiet e l p h m (a_wait w) a right fits quiet goes = wait_goes e h m w w.stage a right fits.2 quiet goes

set_posts : (n : Notify) (stage : NotifyStage) (i : ℕ) (a : EventAnswer) → sets (notify_owed n.id stage) i ≡ true → is_posting (notify_turn n stage a).1 ≡ true
set_posts n notify.Look i a s = absurd (false≢true s)
set_posts n notify.Set i a s = refl
set_posts n notify.Post i a s = absurd (false≢true s)
set_posts n notify.Push i a s = absurd (false≢true s)
set_posts n notify.Finished i a s = absurd (false≢true s)

wait_sets_none : (stage : WaitStage) (i : ℕ) → sets (wait_owed stage) i ≡ true → ⊥
wait_sets_none wait.Drain i s = false≢true s
wait_sets_none (wait.Scan k) i s = false≢true s
wait_sets_none (wait.Clear id) i s = false≢true s
wait_sets_none (wait.Swap k some) i s = false≢true s
wait_sets_none wait.Look i s = false≢true s
wait_sets_none (wait.Pop n) i s = false≢true s
wait_sets_none wait.Finished i s = false≢true s

own_sets : (c : EventCall) (i : ℕ) (a : EventAnswer) → sets (owed c) i ≡ true → posting (turn c a).1 ≡ true
own_sets (a_notify n) i a s = set_posts n n.stage i a s
own_sets (a_wait w) i a s = absurd (wait_sets_none w.stage i s)

posts_last : (n : Notify) (stage : NotifyStage) (a : EventAnswer) → is_posting stage ≡ true → is_last (notify_turn n stage a).0 ≡ true
posts_last n notify.Look a s = absurd (false≢true s)
posts_last n notify.Set a s = absurd (false≢true s)
posts_last n notify.Post a s = refl
posts_last n notify.Push a s = absurd (false≢true s)
posts_last n notify.Finished a s = absurd (false≢true s)

own_posts : (c : EventCall) (a : EventAnswer) → posting c ≡ true → is_last (turn c a).0 ≡ true
own_posts (a_notify n) a s = posts_last n n.stage a s
own_posts (a_wait w) a s = absurd (false≢true s)

sane_own :
    (e : Event) (l : PartyName) (begun : ℕ) (h : List TakenAccess) (p : PartyName) (m : ℕ) (c : EventCall) (a : EventAnswer)
    → Sane e l begun h p m c → IsRight e (owed c) a → is_last (turn c a).0 ≡ false
    → Sane (after e (owed c)) l begun (record { call = m; access = owed c; last = is_last (turn c a).0 } ∷ h) p m (turn c a).1
sane_own e l begun h p m c a sane right goes = record {
  old = sane.old;
  unfinished = is_false _ (λ f. elim (finished_by m m (owed c) (is_last (turn c a).0) h f) [ inl w ↦ false≢true (sym goes ∙ w.1) | inr o ↦ false≢true (sym sane.unfinished ∙ o) ]);
  setting = λ i s. elim (set_by i m m (owed c) (is_last (turn c a).0) h s) [ inl w ↦ own_sets c i a w.1 | inr o ↦ absurd (false≢true (sym goes ∙ own_posts c a (sane.setting i o))) ];
  fits = fits_max e (after e (owed c)) l p (turn c a).1 (after_max e (owed c)) (own_fits e l p c a sane.fits goes);
  quiet = own_quiet e l p h m c a right sane.fits sane.quiet goes;
}

-- ---- pending ids stay in range

notify_bounded : (e : Event) (n : Notify) (stage : NotifyStage) → NotifyFits e.max n stage → ((i : ℕ) → has e.pending i ≡ true → i ≤ e.max) → (i : ℕ) → has (after e (notify_owed n.id stage)).pending i ≡ true → i ≤ e.max
notify_bounded e n notify.Look f b i h = b i h
notify_bounded e n notify.Set f b i h = elim (has_inserted e.pending n.id i h) [ inl same ↦ (let s = same in omega arith) | inr o ↦ b i o ]
notify_bounded e n notify.Post f b i h = b i h
notify_bounded e n notify.Push f b i h = absurd f
notify_bounded e n notify.Finished f b i h = absurd f

wait_bounded : (e : Event) (stage : WaitStage) → ((i : ℕ) → has e.pending i ≡ true → i ≤ e.max) → (i : ℕ) → has (after e (wait_owed stage)).pending i ≡ true → i ≤ e.max
wait_bounded e wait.Drain b i h = b i h
wait_bounded e (wait.Scan k) b i h = b i h
wait_bounded e (wait.Clear id) b i h = b i (has_removed e.pending id i h).1
wait_bounded e (wait.Swap k some) b i h = b i (has_retained e.pending (λ j. not (in_word k j)) i h).0
wait_bounded e wait.Look b i h = b i h
wait_bounded e (wait.Pop n) b i h = b i h
wait_bounded e wait.Finished b i h = b i h

call_bounded : (e : Event) (l p : PartyName) (c : EventCall) → CallFits e l p c → ((i : ℕ) → has e.pending i ≡ true → i ≤ e.max) → (i : ℕ) → has (after e (owed c)).pending i ≡ true → i ≤ (after e (owed c)).max
call_bounded e l p (a_notify n) f b i h = subst (λ (m : ℕ). i ≤ m) (sym (after_max e (notify_owed n.id n.stage))) (notify_bounded e n n.stage f b i h)
call_bounded e l p (a_wait w) f b i h = subst (λ (m : ℕ). i ≤ m) (sym (after_max e (wait_owed w.stage))) (wait_bounded e w.stage b i h)

-- ---- steps

pub gone_on : (r s : RunningCall) (e : Event) (a : EventAccess) (b : EventAnswer) → went_on r e a b ≡ Some s → (is_last (turn (call_of r) b).0 ≡ false) × (s.number ≡ r.number) × (call_of s ≡ (turn (call_of r) b).1)
gone_on r s e a b =
    elim (either (is_last (turn (call_of r) b).0)) [
      | inl y ↦ rw y (λ n. absurd (none_some _ n))
      | inr f ↦ rw f (λ n. (refl, ap (λ (x : RunningCall). x.number) (sym (some_same _ _ n)), ap call_of (sym (some_same _ _ n))))
    ]

same_call : (e : Event) (l : PartyName) (begun : ℕ) (h : List TakenAccess) (p : PartyName) (m n : ℕ) (c d : EventCall) → n ≡ m → d ≡ c → Sane e l begun h p m c → Sane e l begun h p n d
same_call e l begun h p m n c d same_n same_c sane =
    subst (λ (x : ℕ). Sane e l begun h p x d) (sym same_n) (subst (λ (x : EventCall). Sane e l begun h p m x) (sym same_c) sane)

step_sound : (now : Moment) (p : PartyName) (r : RunningCall) (a : EventAnswer) → Sound now → now.running p ≡ Some r → IsRight now.event (owed (call_of r)) a → Sound (stepped now p (owed (call_of r)) a (Some r))
step_sound now p r a sound runs right =
    let sane = sound.each p r runs in
    record {
      bits = ap is_bits (after_kind now.event (owed (call_of r))) ∙ sound.bits;
      bounded = call_bounded now.event now.listener p (call_of r) sane.fits sound.bounded;
      setters = λ i n s. elim (set_by i r.number n (owed (call_of r)) (is_last (turn (call_of r) a).0) now.history s) [ inl w ↦ subst (λ (x : ℕ). x < now.begun) w.0 sane.old | inr o ↦ sound.setters i n o ];
      finished = λ n f. elim (finished_by r.number n (owed (call_of r)) (is_last (turn (call_of r) a).0) now.history f) [ inl w ↦ subst (λ (x : ℕ). x < now.begun) w.0 sane.old | inr o ↦ sound.finished n o ];
      each = put_each now.running p _ (λ q s. Sane (after now.event (owed (call_of r))) now.listener now.begun (record { call = r.number; access = owed (call_of r); last = is_last (turn (call_of r) a).0 } ∷ now.history) q s.number (call_of s))
          (λ s g. (
          let w = gone_on r s now.event (owed (call_of r)) a g in
          same_call _ _ _ _ p r.number s.number (turn (call_of r) a).1 (call_of s) w.1 w.2 (sane_own now.event now.listener now.begun now.history p r.number (call_of r) a sane right w.0)))
          (λ q s d g. sane_other now.event now.listener now.begun now.history p q r.number s.number (call_of r) (call_of s) a sane (sound.each q s g) d (λ same. d (sym (sound.apart p q r s runs g same))));
      apart = put_apart now.running p _
          (λ s t q d g o same. d (sym (sound.apart p q r t runs o (sym (gone_on r s now.event (owed (call_of r)) a g).1 ∙ same))))
          sound.apart;
    }

-- ---- moves that make no access

quiet_memory : (e f : Event) (h : List TakenAccess) (c : EventCall) → f.signals ≡ e.signals → f.pending ≡ e.pending → QuietCall e h c → QuietCall f h c
quiet_memory e f h (a_notify n) same_s same_p q = tt
quiet_memory e f h (a_wait w) same_s same_p q = λ z i b. q (sym same_s ∙ z) i (ap (λ (x : Ids). has x i) (sym same_p) ∙ b)

same_memory : (e f : Event) (l : PartyName) (begun : ℕ) (h : List TakenAccess) (q : PartyName) (n : ℕ) (d : EventCall) → f.max ≡ e.max → f.signals ≡ e.signals → f.pending ≡ e.pending → Sane e l begun h q n d → Sane f l begun h q n d
same_memory e f l begun h q n d same_m same_s same_p sane = record {
  old = sane.old;
  unfinished = sane.unfinished;
  setting = sane.setting;
  fits = fits_max e f l q d same_m sane.fits;
  quiet = quiet_memory e f h d same_s same_p sane.quiet;
}

older : (e : Event) (l : PartyName) (begun : ℕ) (h : List TakenAccess) (q : PartyName) (n : ℕ) (d : EventCall) → Sane e l begun h q n d → Sane e l (begun + 1) h q n d
older e l begun h q n d sane = record {
  old = (let o = sane.old in omega arith);
  unfinished = sane.unfinished;
  setting = sane.setting;
  fits = sane.fits;
  quiet = sane.quiet;
}

memory_sound : (now : Moment) (f : Event) → f.kind ≡ now.event.kind → f.max ≡ now.event.max → f.signals ≡ now.event.signals → f.pending ≡ now.event.pending → Sound now → Sound (record now { event = f })
memory_sound now f same_k same_m same_s same_p sound = record {
  bits = ap is_bits same_k ∙ sound.bits;
  bounded = λ i b. subst (λ (m : ℕ). i ≤ m) (sym same_m) (sound.bounded i (ap (λ (x : Ids). has x i) (sym same_p) ∙ b));
  setters = sound.setters;
  finished = sound.finished;
  each = λ q s g. same_memory now.event f now.listener now.begun now.history q s.number (call_of s) same_m same_s same_p (sound.each q s g);
  apart = sound.apart;
}

-- what a call knows when it begins
new_fits : (e : Event) (l p : PartyName) (c : EventCall) → is_bits e.kind ≡ true → IsCallOf e l p c → CallFits e l p c
new_fits e l p (a_notify n) bits is =
    let same : n ≡ notify_bits n.id e.max = rw bits at is in
    subst (λ (x : Notify). NotifyFits e.max x x.stage) (sym same) refl
new_fits e l p (a_wait w) bits is =
    let same : w ≡ wait_bits (e.max / 64 + 1) w.many w.mode = rw bits at is.1 in
    (is.0, ap (λ (x : Wait). x.words) same, subst (λ (x : Wait). StageFits x x.stage) (sym same) tt)

new_quiet : (e : Event) (l p : PartyName) (h : List TakenAccess) (c : EventCall) → is_bits e.kind ≡ true → IsCallOf e l p c → QuietCall e h c
new_quiet e l p h (a_notify n) bits is = tt
new_quiet e l p h (a_wait w) bits is =
    let same : w ≡ wait_bits (e.max / 64 + 1) w.many w.mode = rw bits at is.1 in
    subst (λ (x : Wait). IsQuiet e h (words_seen x.words x.stage)) (sym same) (λ z i b low. absurd (omega arith))

new_sane : (now : Moment) (p : PartyName) (c : EventCall) → Sound now → IsCallOf now.event now.listener p c → Sane now.event now.listener (now.begun + 1) now.history p now.begun c
new_sane now p c sound call = record {
  old = omega arith;
  unfinished = is_false _ (λ f. let o = sound.finished now.begun f in omega arith);
  setting = λ i s. absurd (let o = sound.setters i now.begun s in omega arith);
  fits = new_fits now.event now.listener p c sound.bits call;
  quiet = new_quiet now.event now.listener p now.history c sound.bits call;
}

-- a party's call goes
gone_sound : (now : Moment) (p : PartyName) (b : Bool) → Sound now → Sound (record now { running = put now.running p None; event = record now.event { gone = b } })
gone_sound now p b sound = record {
  bits = sound.bits;
  bounded = sound.bounded;
  setters = sound.setters;
  finished = sound.finished;
  each = put_each now.running p None (λ q s. Sane (record now.event { gone = b }) now.listener now.begun now.history q s.number (call_of s))
      (λ s n. absurd (none_some _ n))
      (λ q s d g. same_memory now.event (record now.event { gone = b }) now.listener now.begun now.history q s.number (call_of s) refl refl refl (sound.each q s g));
  apart = put_apart now.running p None (λ s t q d g o same. none_some _ g) sound.apart;
}

sound_begin : (now : Moment) (p : PartyName) (c : EventCall) → Sound now → IsCallOf now.event now.listener p c → Sound (moved now (begin p c))
sound_begin now p c sound call = record {
  bits = sound.bits;
  bounded = sound.bounded;
  setters = λ i n s. let o = sound.setters i n s in omega arith;
  finished = λ n f. let o = sound.finished n f in omega arith;
  each = put_each now.running p (Some (new_call now.begun c)) (λ q s. Sane now.event now.listener (now.begun + 1) now.history q s.number (call_of s))
      (λ s n. subst (λ (x : RunningCall). Sane now.event now.listener (now.begun + 1) now.history p x.number (call_of x)) (some_same _ _ n) (new_sane now p c sound call))
      (λ q s d g. older now.event now.listener now.begun now.history q s.number (call_of s) (sound.each q s g));
  apart = put_apart now.running p (Some (new_call now.begun c))
      (λ s t q d g o same. (let u = (sound.each q t o).old in let v : s.number ≡ now.begun = ap (λ (x : RunningCall). x.number) (sym (some_same _ _ g)) in omega arith))
      sound.apart;
}

some_step : (now : Moment) (p : PartyName) (a : EventAccess) (b : EventAnswer) → Sound now → (x : Option RunningCall) → now.running p ≡ x → IsSomeAnd x (λ r. (a ≡ owed (call_of r)) × IsRight now.event a b) → Sound (stepped now p a b x)
some_step now p a b sound None e h = absurd h
some_step now p a b sound (Some r) e h = subst (λ (z : EventAccess). IsRight now.event z b → Sound (stepped now p z b (Some r))) (sym h.0) (step_sound now p r b sound e) h.1

sound_move : (now : Moment) (m : EventMove) → Sound now → IsAllowed now m → Sound (moved now m)
sound_move now (begin p c) sound ok = sound_begin now p c sound ok.1
sound_move now (step p a b) sound ok = some_step now p a b sound (now.running p) refl ok
sound_move now (expire p) sound ok = gone_sound now p now.event.gone sound
sound_move now (abandon p) sound ok = gone_sound now p _ sound
sound_move now release_listener sound ok = memory_sound now (record now.event { held = false }) refl refl refl refl sound
sound_move now elsewhere sound ok = record {
  bits = sound.bits;
  bounded = sound.bounded;
  setters = λ i n s. let o = sound.setters i n s in omega arith;
  finished = λ n f. let o = sound.finished n f in omega arith;
  each = λ q s g. older now.event now.listener now.begun now.history q s.number (call_of s) (sound.each q s g);
  apart = sound.apart;
}
sound_move now (notifiers n) sound ok = memory_sound now (record now.event { notifiers = n }) refl refl refl refl sound

pub sound_start : (k : EventKind) (name : List ℕ) (max : ℕ) (l : PartyName) → is_bits k ≡ true → Sound (listened k name max l)
sound_start k name max l bits = record {
  bits = bits;
  bounded = λ id h. absurd (has_empty id h);
  setters = λ i n s. absurd (none_some _ s);
  finished = λ n f. absurd (false≢true f);
  each = λ p r e. absurd (none_some _ e);
  apart = λ p q r s e f same. absurd (none_some _ e);
}

pub sound_run : (start : Moment) (ms : List EventMove) → Sound start → IsRun start ms → Sound (run_to start ms)
sound_run start [] s r = s
sound_run start (m ∷ ms) s r = sound_move (run_to start ms) m (sound_run start ms s r.0) r.1

pub step_kind : (now : Moment) (p : PartyName) (a : EventAccess) (b : EventAnswer) (x : Option RunningCall) → (stepped now p a b x).event.kind ≡ now.event.kind
step_kind now p a b None = refl
step_kind now p a b (Some r) = after_kind now.event a

pub move_kind : (now : Moment) (m : EventMove) → (moved now m).event.kind ≡ now.event.kind
move_kind now (begin p c) = refl
move_kind now (step p a b) = step_kind now p a b (now.running p)
move_kind now (expire p) = refl
move_kind now (abandon p) = refl
move_kind now release_listener = refl
move_kind now elsewhere = refl
move_kind now (notifiers n) = refl

pub run_kind : (start : Moment) (ms : List EventMove) → (run_to start ms).event.kind ≡ start.event.kind
run_kind start [] = refl
run_kind start (m ∷ ms) = move_kind (run_to start ms) m ∙ run_kind start ms

pub sound_reached : (now : Moment) → IsReached now → is_bits now.event.kind ≡ true → Sound now
sound_reached now w bits =
    let start = listened w.kind w.name w.max w.listener in
    let k : is_bits w.kind ≡ true = ap is_bits (sym (ap (λ (x : Moment). x.event.kind) w.is ∙ run_kind start w.moves)) ∙ bits in
    subst Sound (sym w.is) (sound_run start w.moves (sound_start w.kind w.name w.max w.listener k) w.run)

looks_quiet : (e : Event) (h : List TakenAccess) (w : Wait) (stage : WaitStage) → stage ≡ wait.Look → IsQuiet e h (words_seen w.words stage) → IsQuiet e h w.words
looks_quiet e h w stage same q = subst (λ (s : WaitStage). IsQuiet e h (words_seen w.words s)) same q

quiet_call : (e : Event) (l p : PartyName) (h : List TakenAccess) (c : EventCall) (w : Wait) → c ≡ a_wait w → CallFits e l p c → QuietCall e h c → (w.words ≡ e.max / 64 + 1) × IsQuiet e h (words_seen w.words w.stage)
quiet_call e l p h c w same fits q =
    let f : CallFits e l p (a_wait w) = subst (CallFits e l p) same fits in
    (f.1, subst (QuietCall e h) same q)

no_signals : (e : Event) → answer.No ≡ yes_or_no (ltb 0 e.signals) → e.signals ≡ 0
no_signals e s =
    elim (either (ltb 0 e.signals)) [
      | inl y ↦ (let z : answer.No ≡ answer.Yes = s ∙ ap yes_or_no y in cc)
      | inr n ↦ (let z = ltb_false 0 e.signals n in omega arith)
    ]

pub quiet_law_holds : QuietLaw
quiet_law_holds now reached bits p r w takes call looks id pending =
    let sound = sound_reached now reached bits in
    let sane = sound.each p r takes.runs in
    let q = quiet_call now.event now.listener p now.history (call_of r) w call sane.fits sane.quiet in
    let b = sound.bounded id pending in
    let words = q.0 in
    looks_quiet now.event now.history w w.stage looks q.1 (no_signals now.event takes.right) id pending (
    let d : id / 64 ≤ now.event.max / 64 = omega arith in omega arith)

pub seen_law_holds : SeenLaw
seen_law_holds now reached bits p r w runs call =
    let sane = (sound_reached now reached bits).each p r runs in
    (quiet_call now.event now.listener p now.history (call_of r) w call sane.fits sane.quiet).1
