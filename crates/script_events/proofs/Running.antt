-- A call that runs owes an access, and its event can take it.
use Rattle.std.proofs.Common.{◌≡◌, ℕ, ◌+◌, ◌*◌, ◌<◌, ◌≤◌, Bool, true, false, List, [], ◌∷◌, length, refl, sym, subst, ◌∙◌, Option, Some, None, inl, inr, arith}
use Rattle.std.specs.Prelude.{if◌then◌else◌, ◌==◌, ◌^◌, ⊤, nat_lt, not, ◌||◌, ◌&&◌}
use Rattle.std.specs.Str.{bytes_eq}
use Rattle.board_event_model.specs.declared.access.EventAccess.{EventAccess}
use Rattle.board_event_model.specs.declared.access.EventAnswer.{EventAnswer}
use Rattle.board_event_model.specs.declared.access.EventAnswer.TheVariants as answer
use Rattle.board_event_model.specs.declared.call.EventProgress.{EventProgress}
use Rattle.board_event_model.specs.declared.call.EventProgress.TheVariants as progress
use Rattle.board_event_model.specs.declared.call.NotifyStage.{NotifyStage}
use Rattle.board_event_model.specs.declared.call.NotifyStage.TheVariants as notify
use Rattle.board_event_model.specs.declared.call.WaitStage.{WaitStage}
use Rattle.board_event_model.specs.declared.call.WaitStage.TheVariants as wait
use Rattle.board_event_model.specs.EventMemory.{CanPerform, Event, is_bits}
use Rattle.board_event_model.specs.NotifyCalls.{Notify, is_yes, notify_turn, pushed}
use Rattle.board_event_model.specs.WaitCalls.{Wait, first_word, is_try, nothing, popped, wait_turn, word_in}
use Rattle.board_event_model.specs.EventCalls.{EventCall, a_notify, a_wait, is_last, owed, turn, PartyName, RunningCall, call_of, new_call, went_on}
use Rattle.board_event_model.specs.EventRuns.{EventMove, IsAllowed, IsCallOf, IsReached, IsRun, Moment, abandon, begin, elsewhere, expire, listened, moved, notifiers, put, release_listener, run_to, step, stepped}
use Rattle.board_event_model.specs.EventSessions.{EventSession, PartyCall, SessionAccess, StandingEvent, history_on, running_on, view}
use Rattle.board_event_model.proofs.AccessLemmas.{perform_law_holds}
use Rattle.board_event_model.proofs.QuietLemmas.{eqb_self}
use Rattle.board_event_model.proofs.SoundLemmas.{gone_on, none_some, some_same}
use Rattle.board_event_model.proofs.ViewLemmas.{session_reached}
use Rattle.script_model.specs.ScriptEvents.{ScriptEvents, is_for_all}
use Rattle.script_model.specs.SoundEvents.{AreSoundEvents}
use Rattle.script_model.specs.Reports.{StartsWord}
use Rattle.script_events.specs.Calls.{GoesOn}
use Rattle.script_events.proofs.Options.{either}

-- ---- stages

abbrev NotifyOwes : NotifyStage → Type 0
NotifyOwes notify.Look = ⊤
NotifyOwes notify.Set = ⊤
NotifyOwes notify.Post = ⊤
NotifyOwes notify.Push = ⊤
NotifyOwes notify.Finished = ⊥

abbrev WaitOwes : WaitStage → Type 0
WaitOwes wait.Drain = ⊤
WaitOwes (wait.Scan k) = ⊤
WaitOwes (wait.Clear id) = ⊤
WaitOwes (wait.Swap k some) = ⊤
WaitOwes wait.Look = ⊤
WaitOwes (wait.Pop n) = ⊤
WaitOwes wait.Finished = ⊥

-- a call owes an access
abbrev Owes : EventCall → Type 0
Owes (a_notify n) = NotifyOwes n.stage
Owes (a_wait w) = WaitOwes w.stage

owes_on : (c : EventCall) → Owes c → GoesOn c
owes_on (a_notify n) h = λ e. (rw e at h)
owes_on (a_wait w) h = λ e. (rw e at h)

-- of two, whichever it is
choose : {X : Type 0} (P : X → Type 0) (b : Bool) (x y : X) → P x → P y → P (if b then x else y)
choose P true x y h k = h
choose P false x y h k = k

-- ---- what a turn leads to

abbrev NotifyLeads : EventProgress × NotifyStage → Type 0
NotifyLeads t = is_last t.0 ≡ false → NotifyOwes t.1

abbrev WaitLeads : EventProgress × WaitStage → Type 0
WaitLeads t = (is_last t.0 ≡ false → WaitOwes t.1) × StartsWord t.0

over : {A : Type 0} → true ≡ false → A
over e = absurd cc

pushed_ends : (a : EventAnswer) → is_last (pushed a) ≡ true
pushed_ends answer.Done = refl
pushed_ends answer.Yes = refl
pushed_ends answer.No = refl
pushed_ends (answer.Word v) = refl
pushed_ends (answer.Id x) = refl
pushed_ends answer.Empty = refl
pushed_ends answer.Full = refl
pushed_ends answer.Gone = refl

notify_leads : (n : Notify) (stage : NotifyStage) (a : EventAnswer) → NotifyOwes stage → NotifyLeads (notify_turn n stage a)
notify_leads n notify.Look a o = choose NotifyLeads (is_yes a) _ _ (choose NotifyLeads (nat_lt n.max n.id) _ _ over (λ e. tt)) over
notify_leads n notify.Set a o = λ e. tt
notify_leads n notify.Post a o = over
notify_leads n notify.Push a o = λ e. over (sym (pushed_ends a) ∙ e)
notify_leads n notify.Finished a o = absurd o

nothing_leads : (w : Wait) → WaitLeads (nothing w)
nothing_leads w = choose WaitLeads (is_try w.mode) _ _ (over, tt) ((λ e. tt), tt)

none_popped : (w : Wait) (n : ℕ) → WaitLeads (popped w n answer.Empty)
none_popped w n = choose WaitLeads (n == 0) _ _ (choose WaitLeads (is_try w.mode) _ _ (over, tt) ((λ e. tt), tt)) (over, (0, refl))

popped_leads : (w : Wait) (n : ℕ) (a : EventAnswer) → WaitLeads (popped w n a)
popped_leads w n (answer.Id x) = choose WaitLeads (w.many && not (n + 1 == 513)) _ _ ((λ e. tt), tt) (over, tt)
popped_leads w n answer.Done = none_popped w n
popped_leads w n answer.Yes = none_popped w n
popped_leads w n answer.No = none_popped w n
popped_leads w n (answer.Word v) = none_popped w n
popped_leads w n answer.Empty = none_popped w n
popped_leads w n answer.Full = none_popped w n
popped_leads w n answer.Gone = none_popped w n

wait_leads : (w : Wait) (stage : WaitStage) (a : EventAnswer) → WaitOwes stage → WaitLeads (wait_turn w stage a)
wait_leads w wait.Drain a o = ((λ e. choose WaitOwes (is_yes a) wait.Drain (first_word w.many) tt (choose WaitOwes w.many (wait.Swap 0 false) (wait.Scan 0) tt tt)), tt)
wait_leads w (wait.Scan k) a o = choose WaitLeads (word_in a == 0) _ _ (choose WaitLeads (k + 1 == w.words) _ _ (nothing_leads w) ((λ e. tt), tt)) ((λ e. tt), tt)
wait_leads w (wait.Clear id) a o = (over, tt)
wait_leads w (wait.Swap k some) a o =
    choose WaitLeads (k + 1 == w.words) _ _ (choose WaitLeads (some || not (word_in a == 0)) _ _ (over, (k, refl)) (nothing_leads w))
    ((λ e. tt), choose StartsWord (word_in a == 0) progress.More (progress.Took (64 * k) (word_in a) false) tt (k, refl))
wait_leads w wait.Look a o = choose WaitLeads (is_yes a) _ _ ((λ e. tt), tt) ((λ e. tt), tt)
wait_leads w (wait.Pop n) a o = popped_leads w n a
wait_leads w wait.Finished a o = absurd o

-- ---- runs

-- each call that runs owes an access
abbrev AllOwe : (PartyName → Option RunningCall) → Type 0
AllOwe running = (p : PartyName) (r : RunningCall) → running p ≡ Some r → Owes (call_of r)

turn_owes : (c : EventCall) (a : EventAnswer) → is_last (turn c a).0 ≡ false → Owes c → Owes (turn c a).1
turn_owes (a_notify n) a e h = notify_leads n n.stage a h e
turn_owes (a_wait w) a e h = (wait_leads w w.stage a h).0 e

-- the ids of a word begin at a multiple of 64
notify_words : (n : Notify) (stage : NotifyStage) (a : EventAnswer) → StartsWord (notify_turn n stage a).0
notify_words n notify.Look a = choose (λ (t : EventProgress × NotifyStage). StartsWord t.0) (is_yes a) _ _ (choose (λ (t : EventProgress × NotifyStage). StartsWord t.0) (nat_lt n.max n.id) _ _ tt tt) tt
notify_words n notify.Set a = tt
notify_words n notify.Post a = tt
notify_words n notify.Push a = pushed_words a
  where
    pushed_words : (a : EventAnswer) → StartsWord (pushed a)
    pushed_words answer.Done = tt
    pushed_words answer.Yes = tt
    pushed_words answer.No = tt
    pushed_words (answer.Word v) = tt
    pushed_words (answer.Id x) = tt
    pushed_words answer.Empty = tt
    pushed_words answer.Full = tt
    pushed_words answer.Gone = tt
notify_words n notify.Finished a = tt

wait_words : (w : Wait) (stage : WaitStage) (a : EventAnswer) → StartsWord (wait_turn w stage a).0
wait_words w wait.Drain a = tt
wait_words w (wait.Scan k) a = (wait_leads w (wait.Scan k) a tt).1
wait_words w (wait.Clear id) a = tt
wait_words w (wait.Swap k some) a = (wait_leads w (wait.Swap k some) a tt).1
wait_words w wait.Look a = (wait_leads w wait.Look a tt).1
wait_words w (wait.Pop n) a = (wait_leads w (wait.Pop n) a tt).1
wait_words w wait.Finished a = tt

pub turn_words : (c : EventCall) (a : EventAnswer) → StartsWord (turn c a).0
turn_words (a_notify n) a = notify_words n n.stage a
turn_words (a_wait w) a = wait_words w w.stage a

first_owes : (e : Event) (l p : PartyName) (c : EventCall) → IsCallOf e l p c → Owes c
first_owes e l p (a_notify n) h = subst (λ (x : Notify). NotifyOwes x.stage) (sym h) (choose (λ (x : Notify). NotifyOwes x.stage) (is_bits e.kind) _ _ tt tt)
first_owes e l p (a_wait w) h = subst (λ (x : Wait). WaitOwes x.stage) (sym h.1) (choose (λ (x : Wait). WaitOwes x.stage) (is_bits e.kind) _ _ tt tt)

put_owes : (running : PartyName → Option RunningCall) (p : PartyName) (x : Option RunningCall) → AllOwe running → ((r : RunningCall) → x ≡ Some r → Owes (call_of r)) → AllOwe (put running p x)
put_owes running p x all new q r = elim (bytes_eq q p) as (λ b. (if b then x else running q) ≡ Some r → Owes (call_of r)) [ true ↦ λ e. new r e | false ↦ λ e. all q r e ]

stepped_owes : (now : Moment) (p : PartyName) (a : EventAccess) (b : EventAnswer) (x : Option RunningCall) → now.running p ≡ x → AllOwe now.running → AllOwe (stepped now p a b x).running
stepped_owes now p a b None e all = all
stepped_owes now p a b (Some r) e all = put_owes now.running p (went_on r now.event a b) all (λ s f. (let g = gone_on r s now.event a b f in subst Owes (sym g.2) (turn_owes (call_of r) b g.0 (all p r e))))

move_owes : (now : Moment) (m : EventMove) → IsAllowed now m → AllOwe now.running → AllOwe (moved now m).running
move_owes now (begin p call) ok all = put_owes now.running p (Some (new_call now.begun call)) all (λ r e. subst (λ (s : RunningCall). Owes (call_of s)) (some_same _ r e) (first_owes now.event now.listener p call ok.1))
move_owes now (step p a b) ok all = stepped_owes now p a b (now.running p) refl all
move_owes now (expire p) ok all = put_owes now.running p None all (λ r e. absurd (none_some r e))
move_owes now (abandon p) ok all = put_owes now.running p None all (λ r e. absurd (none_some r e))
move_owes now release_listener ok all = all
move_owes now (notifiers n) ok all = all
move_owes now elsewhere ok all = all

run_owes : (start : Moment) (ms : List EventMove) → AllOwe start.running → IsRun start ms → AllOwe (run_to start ms).running
run_owes start [] all ok = all
run_owes start (m ∷ ms) all ok = move_owes (run_to start ms) m ok.1 (run_owes start ms all ok.0)

reached_owes : (now : Moment) → IsReached now → AllOwe now.running
reached_owes now w = subst (λ (m : Moment). AllOwe m.running) (sym w.is) (run_owes (listened w.kind w.name w.max w.listener) w.moves (λ p r e. absurd (none_some r e)) w.run)

-- ---- sessions

history_short : (n : ℕ) (h : List SessionAccess) → length (history_on n h) ≤ length h
history_short n [] = omega arith
history_short n (a ∷ rest) = elim (either (a.on == n)) [
  | inl f ↦ rw f (let s = history_short n rest in omega arith)
  | inr f ↦ rw f (let s = history_short n rest in omega arith)
]

module _ (x : ScriptEvents) (count : ℕ) (few : count < 2 ^ 63) (sound : AreSoundEvents x count) (p : List ℕ) (d : PartyCall) (runs : x.session.doing p ≡ Some d) (st : StandingEvent) (here : x.session.stands d.on ≡ Some st) where
  reached : IsReached (view x.session d.on st)
  reached = subst (λ (s : EventSession). s.stands d.on ≡ Some st → IsReached (view s d.on st)) (sym sound.session.is) (session_reached sound.session.lines sound.session.allowed d.on st) here

  there : running_on d.on (x.session.doing p) ≡ Some d.call
  there = rw runs (rw (eqb_self d.on) refl)

  -- the call owes an access
  pub goes_on : GoesOn (call_of d.call)
  goes_on = owes_on (call_of d.call) (reached_owes (view x.session d.on st) reached p d.call there)

  -- that its event can take
  pub can : CanPerform st.event (owed (call_of d.call))
  can = perform_law_holds (view x.session d.on st) reached (let s = history_short d.on x.session.history in let t = sound.taken in omega arith) p d.call there

-- a wait for all stays one
pub same_many : (c : EventCall) (a : EventAnswer) → is_for_all (turn c a).1 ≡ is_for_all c
same_many (a_notify n) a = refl
same_many (a_wait w) a = refl
