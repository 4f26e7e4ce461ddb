-- What a step on an event tells, or an expiry, is true of the run of its event.
use Rattle.std.proofs.Common.{◌≡◌, ℕ, Bool, true, false, List, [], ◌∷◌, ◌++◌, ◌+◌, ◌<◌, ◌≤◌, length, refl, sym, ap, subst, ◌∙◌, ◌⊎◌, inl, inr, ltb, Option, Some, None}
use Rattle.std.specs.Prelude.{if◌then◌else◌, ◌==◌, ◌||◌, not, nat_lt, IsSomeAnd}
use Rattle.std.specs.List.{list_any}
use Rattle.std.proofs.lemmas.Bool.{false≢true}
use Rattle.board_names.specs.declared.errors.event.NotifierNotifyError.{NotifierNotifyError}
use Rattle.board_names.specs.declared.errors.event.NotifierNotifyError.TheVariants as notify_error
use Rattle.board_event_model.specs.declared.access.EventAccess.{EventAccess}
use Rattle.board_event_model.specs.declared.access.EventAnswer.{EventAnswer}
use Rattle.board_event_model.specs.declared.access.EventAnswer.TheVariants as event_answer
use Rattle.board_event_model.specs.declared.call.EventProgress.{EventProgress}
use Rattle.board_event_model.specs.declared.call.EventProgress.TheVariants as progress
use Rattle.board_event_model.specs.declared.call.NotifyStage.{NotifyStage}
use Rattle.board_event_model.specs.declared.call.NotifyStage.TheVariants as notify
use Rattle.board_event_model.specs.declared.call.WaitMode.{WaitMode}
use Rattle.board_event_model.specs.declared.call.WaitMode.TheVariants as mode
use Rattle.board_event_model.specs.EventMemory.{Event, IsRight, is_bits, yes_or_no}
use Rattle.board_event_model.specs.NotifyCalls.{Notify, is_yes, notify_owed, notify_turn, pushed}
use Rattle.board_event_model.specs.WaitCalls.{Wait}
use Rattle.board_event_model.specs.EventCalls.{EventCall, RunningCall, a_notify, a_wait, call_of, is_last, is_timed, owed, reported, turn}
use Rattle.board_event_model.specs.EventRuns.{IsReached, Moment, Takes}
use Rattle.board_event_model.specs.EventSessions.{PartyCall, StandingEvent, running_on, view}
use Rattle.board_event_model.specs.LawsOfCalls.{progress_with, taken_by, with_step}
use Rattle.board_event_model.proofs.EndLemmas.{QueueCall, none_law_holds, notify_law_holds, queue_law_holds, queue_reached}
use Rattle.board_event_model.proofs.NothingLemmas.{nothing_law_holds}
use Rattle.board_event_model.proofs.QuietLemmas.{NotifyFits, ltb_false, ltb_true}
use Rattle.board_event_model.proofs.ReplyLemmas.{reply_law_holds}
use Rattle.board_event_model.proofs.SetLemmas.{and_split, either}
use Rattle.board_event_model.proofs.SoundLemmas.{CallFits, sound_reached}
use Rattle.board_event_model.proofs.WholeLemmas.{all_law_holds, expire_law_holds}
use Rattle.board_model.specs.declared.answer.Answer.{Answer}
use Rattle.board_model.specs.declared.answer.Answer.TheVariants as answer
use Rattle.board_model.specs.declared.answer.Reason.{Reason}
use Rattle.board_model.specs.declared.answer.Reason.TheVariants as reason
use Rattle.board_model.specs.declared.line.Line.TheVariants as board_line
use Rattle.board_model.specs.Parties.{Party, free, gone, running}
use Rattle.script_model.specs.declared.line.ScriptLine.{ScriptLine}
use Rattle.script_model.specs.declared.line.ScriptLine.TheVariants as line
use Rattle.script_model.specs.declared.reply.EventReply.{EventReply}
use Rattle.script_model.specs.declared.reply.EventReply.TheVariants as reply
use Rattle.script_model.specs.ScriptAnswers.{ScriptAnswer, expired, of_ask, of_boards, of_event}
use Rattle.script_model.specs.ScriptEvents.{EventAsk, IsEventAccess, IsStepOf, end_told, is_for_all, runs_on_events, step_told}
use Rattle.script_model.specs.ScriptTurns.{IsTurnAnswer, ScriptState, expire_of_call, expire_turn, expires, may_expire, refused, steps}
use Rattle.script_model.specs.ScriptSession.{IsRight as IsRightAnswer, start}
use Rattle.script_model.specs.SoundEvents.{IsSoundScript}
use Rattle.script_model.specs.LawsOfEvents.{Last, TellsIds, at_last}
use Rattle.script_model.specs.LawsOfReplies.{ExpiriesAreTrue, IsEventStep, IsRefusal, IsTrue, MissesNone, PrintedStepsAreTaken, PrintsAccess, RepliesAreTrue, RunsOnEvent, moment_of}
use Rattle.script_model.specs.LawsOfRules.{IsRuled}
use Rattle.script_model.proofs.CompositionLemmas.{lawful_split, sound_at}
use Rattle.script_model.proofs.EachLemmas.{event_in}
use Rattle.script_model.proofs.EventLemmas.{last_told, wait_replies}
use Rattle.script_model.proofs.OwedLemmas.{call_stands, runs_here}
use Rattle.script_model.proofs.PartLemmas.{events_reached}
use Rattle.script_model.proofs.RuleLemmas.{ruled}

-- ---- a printed access

-- a call that takes an access of an event
record TakesOne (s : ScriptState) (party : List ℕ) (answer : ScriptAnswer) : Type 0 where
  of : RunsOnEvent s party
  access : IsEventAccess of.standing.event of.doing.call answer

on_event : (s : ScriptState) (party : List ℕ) (d : PartyCall) (a : ScriptAnswer) → s.events.session.doing party ≡ Some d → (o : Option StandingEvent) → s.events.session.stands d.on ≡ o → IsSomeAnd (event_in o) (λ e. IsEventAccess e d.call a) → TakesOne s party a
on_event s party d a runs None stands h = absurd h
on_event s party d a runs (Some st) stands h = record { of = record { doing = d; standing = st; runs = runs; stands = stands }; access = h }

in_step : (s : ScriptState) (party : List ℕ) (a : ScriptAnswer) → ((r : EventReply) → a ≡ of_ask r → ⊥) → (q : Option EventAsk) (d : Option PartyCall) → s.events.session.doing party ≡ d → IsStepOf s.events q d a → TakesOne s party a
in_step s party a not_asked (Some q) d runs h = absurd (not_asked _ h)
in_step s party a not_asked None None runs h = absurd h
in_step s party a not_asked None (Some d) runs h = on_event s party d a runs (s.events.session.stands d.on) refl h

in_turn : (s : ScriptState) (party : List ℕ) (a : ScriptAnswer) → ((r : EventReply) → a ≡ of_ask r → ⊥) → ((b : Answer) → a ≡ of_boards b → ⊥) → (b : Bool) → IsRuled s (line.Board (board_line.Step party)) a (if b then Some (steps party) else None) → TakesOne s party a
in_turn s party a not_asked not_boards true h = in_step s party a not_asked (s.events.asked party) (s.events.session.doing party) refl h
in_turn s party a not_asked not_boards false h = absurd (not_boards h.answer h.is)

-- the pair that a session ends with is right
last_right : (l : Last) → IsRightAnswer (at_last l) l.pair.0 l.pair.1
last_right l = (lawful_split l.before (l.pair ∷ []) start l.lawful).1.0

last_lawful : (l : Last) → IsSoundScript (at_last l) (0 + length l.before)
last_lawful l = sound_at l.before (lawful_split l.before (l.pair ∷ []) start l.lawful).0

takes_one : (l : Last) (party : List ℕ) (a : EventAccess) (b : EventAnswer) (told : Option EventReply) → PrintsAccess l.pair party a b told → TakesOne (at_last l) party l.pair.1
takes_one l party a b told p =
    let s : ScriptState = at_last l in
    let right : IsRightAnswer s (line.Board (board_line.Step party)) l.pair.1 = subst (λ (x : ScriptLine). IsRightAnswer s x l.pair.1) p.steps (last_right l) in
    in_turn s party l.pair.1 (λ r e. let f = sym p.prints ∙ e in cc) (λ c e. let f = sym p.prints ∙ e in cc) (runs_on_events s.events party) (ruled s (line.Board (board_line.Step party)) l.pair.1 right)

pub printed_taken : PrintedStepsAreTaken
printed_taken l party a b told p =
    let k = takes_one l party a b told p in
    let st : StandingEvent = k.of.standing in
    let call : RunningCall = k.of.doing.call in
    let same : of_event p.kind p.name a b told ≡ of_event st.event.kind st.event.name (owed (call_of call)) k.access.answer (step_told call (turn (call_of call) k.access.answer).0) = sym p.prints ∙ k.access.printed in
    let owes : a ≡ owed (call_of call) = cc in
    let answer_is : k.access.answer ≡ b = cc in
    let told_is : told ≡ step_told call (turn (call_of call) k.access.answer).0 = cc in
    let kind_is : p.kind ≡ st.event.kind = cc in
    let name_is : p.name ≡ st.event.name = cc in
    record {
      of = k.of;
      kind_is = kind_is;
      name_is = name_is;
      reached = events_reached l.before (lawful_split l.before (l.pair ∷ []) start l.lawful).0 k.of.doing.on st k.of.stands;
      takes = record {
        runs = ap (running_on k.of.doing.on) k.of.runs ∙ runs_here k.of.doing;
        owes = owes;
        right = subst (λ (x : EventAccess). IsRight st.event x b) (sym owes) (subst (λ (z : EventAnswer). IsRight st.event (owed (call_of call)) z) answer_is k.access.right);
      };
      tells = told_is ∙ ap (λ (z : EventAnswer). step_told call (turn (call_of call) z).0) answer_is;
    }

-- ---- what a notify is told

abbrev NotifyEnds : EventProgress → Type 0
NotifyEnds p = (p ≡ progress.Notified) ⊎ ((why : NotifierNotifyError) × (p ≡ progress.Refused why))

pushed_ends : (b : EventAnswer) → NotifyEnds (pushed b)
pushed_ends event_answer.Done = inl refl
pushed_ends event_answer.Full = inr (_, refl)
pushed_ends event_answer.Yes = inr (_, refl)
pushed_ends event_answer.No = inr (_, refl)
pushed_ends (event_answer.Word v) = inr (_, refl)
pushed_ends (event_answer.Id v) = inr (_, refl)
pushed_ends event_answer.Empty = inr (_, refl)
pushed_ends event_answer.Gone = inr (_, refl)

notify_ends : (n : Notify) (stage : NotifyStage) (b : EventAnswer) → is_last (notify_turn n stage b).0 ≡ true → NotifyEnds (notify_turn n stage b).0
notify_ends n notify.Look b last =
    elim (either (is_yes b)) [
      | inl y ↦ elim (either (ltb n.max n.id)) [
        | inl big ↦ rw (y, big) (inr (_, refl))
        | inr small ↦ absurd (let f = rw (y, small) at last in false≢true f)
      ]
      | inr f ↦ rw f (inr (_, refl))
    ]
notify_ends n notify.Set b last = absurd (false≢true last)
notify_ends n notify.Post b last = inl refl
notify_ends n notify.Push b last = pushed_ends b
notify_ends n notify.Finished b last = absurd (false≢true last)

-- ---- why a notify is refused

same_refusal : (x y : NotifierNotifyError) → progress.Refused x ≡ progress.Refused y → x ≡ y
same_refusal x y e = cc

not_refused_more : (why : NotifierNotifyError) → progress.More ≡ progress.Refused why → ⊥
not_refused_more why e = cc

not_refused_notified : (why : NotifierNotifyError) → progress.Notified ≡ progress.Refused why → ⊥
not_refused_notified why e = cc

look_refused : (e : Event) (n : Notify) (why : NotifierNotifyError) → is_bits e.kind ≡ true → n.max ≡ e.max → (held : Bool) → e.held ≡ held → (notify_turn n notify.Look (yes_or_no held)).0 ≡ progress.Refused why → IsRefusal e n.id why
look_refused e n why bits max false is h = subst (IsRefusal e n.id) (same_refusal notify_error.Disconnected why h) (inl is)
look_refused e n why bits max true is h = of (ltb n.max n.id) (ltb_true n.max n.id) h
  where
    of : (b : Bool) → (b ≡ true → n.max < n.id) → (if◌then◌else◌ {A = EventProgress × NotifyStage} b (progress.Refused notify_error.TriggerIdOutOfBounds, notify.Finished) (progress.More, notify.Set)).0 ≡ progress.Refused why → IsRefusal e n.id why
    of true big g = subst (IsRefusal e n.id) (same_refusal notify_error.TriggerIdOutOfBounds why g) (bits, subst (λ (m : ℕ). m < n.id) max (big refl))
    of false big g = absurd (not_refused_more why g)

bits_refused : (e : Event) (n : Notify) (stage : NotifyStage) (b : EventAnswer) (why : NotifierNotifyError) → is_bits e.kind ≡ true → NotifyFits e.max n stage → IsRight e (notify_owed n.id stage) b → (notify_turn n stage b).0 ≡ progress.Refused why → IsRefusal e n.id why
bits_refused e n notify.Look b why bits fits right h = look_refused e n why bits fits e.held refl (subst (λ (x : EventAnswer). (notify_turn n notify.Look x).0 ≡ progress.Refused why) right h)
bits_refused e n notify.Set b why bits fits right h = absurd (not_refused_more why h)
bits_refused e n notify.Post b why bits fits right h = absurd (not_refused_notified why h)
bits_refused e n notify.Push b why bits fits right h = absurd fits
bits_refused e n notify.Finished b why bits fits right h = absurd fits

gone_or : (e : Event) → is_bits e.kind ≡ false → (held lost : Bool) → e.held ≡ held → e.gone ≡ lost → (not held || lost) ≡ true → (e.held ≡ false) ⊎ ((is_bits e.kind ≡ false) × (e.gone ≡ true))
gone_or e queue false lost is was h = inl is
gone_or e queue true lost is was h = inr (queue, was ∙ h)

push_refused : (e : Event) (id : ℕ) (why : NotifierNotifyError) → is_bits e.kind ≡ false → (x : Bool) → (not e.held || e.gone) ≡ x → (room : Bool) → (room ≡ false → 512 ≤ length e.queue)
    → pushed (if x then event_answer.Gone else if room then event_answer.Done else event_answer.Full) ≡ progress.Refused why → IsRefusal e id why
push_refused e id why queue true lost room full h = subst (IsRefusal e id) (same_refusal notify_error.Disconnected why h) (gone_or e queue e.held e.gone refl refl lost)
push_refused e id why queue false there true full h = absurd (not_refused_notified why h)
push_refused e id why queue false there false full h = subst (IsRefusal e id) (same_refusal notify_error.FailedToDeliverSignal why h) (queue, full refl)

queue_refused : (e : Event) (n : Notify) (stage : NotifyStage) (b : EventAnswer) (why : NotifierNotifyError) → is_bits e.kind ≡ false → stage ≡ notify.Push → IsRight e (notify_owed n.id stage) b → (notify_turn n stage b).0 ≡ progress.Refused why → IsRefusal e n.id why
queue_refused e n stage b why queue push =
    subst (λ (s : NotifyStage). IsRight e (notify_owed n.id s) b → (notify_turn n s b).0 ≡ progress.Refused why → IsRefusal e n.id why) (sym push)
    (λ right h. push_refused e n.id why queue (not e.held || e.gone) refl (nat_lt (length e.queue) 512) (ltb_false (length e.queue) 512) (subst (λ (x : EventAnswer). pushed x ≡ progress.Refused why) right h))

refused_so : (now : Moment) (p : List ℕ) (r : RunningCall) (n : Notify) (a : EventAccess) (b : EventAnswer) (why : NotifierNotifyError) → IsReached now → Takes now p r a b → call_of r ≡ a_notify n → (notify_turn n n.stage b).0 ≡ progress.Refused why → IsRefusal now.event n.id why
refused_so now p r n a b why reached takes call h =
    let right : IsRight now.event (notify_owed n.id n.stage) b = subst (λ (x : EventAccess). IsRight now.event x b) (takes.owes ∙ ap owed call) takes.right in
    elim (either (is_bits now.event.kind)) [
      | inl bits ↦ bits_refused now.event n n.stage b why bits (subst (CallFits now.event now.listener p) call ((sound_reached now reached bits).each p r takes.runs).fits) right h
      | inr queue ↦ queue_refused now.event n n.stage b why queue (subst QueueCall call (queue_reached now reached queue p r takes.runs).queue) right h
    ]

notify_true : (now : Moment) (p : List ℕ) (r : RunningCall) (n : Notify) (a : EventAccess) (b : EventAnswer) (told : EventReply) → IsReached now → Takes now p r a b → call_of r ≡ a_notify n → is_last (progress_with r b) ≡ true
    → told ≡ end_told (is_for_all (call_of r)) r.told (progress_with r b) → IsTrue now r a (a_notify n) told
notify_true now p r n a b told reached takes call last is =
    let turned : progress_with r b ≡ (notify_turn n n.stage b).0 = ap (λ (c : EventCall). (turn c b).0) call in
    elim (notify_ends n n.stage b (ap is_last (sym turned) ∙ last)) [
      | inl done ↦ subst (IsTrue now r a (a_notify n)) (sym (is ∙ ap (end_told (is_for_all (call_of r)) r.told) (turned ∙ done))) (notify_law_holds now reached p r n a b takes call (turned ∙ done))
      | inr why ↦ subst (IsTrue now r a (a_notify n)) (sym (is ∙ ap (end_told (is_for_all (call_of r)) r.told) (turned ∙ why.1))) (refused_so now p r n a b why.0 reached takes call why.1)
    ]

-- ---- what a wait is told

module _ (now : Moment) (p : List ℕ) (r : RunningCall) (w : Wait) (a : EventAccess) (b : EventAnswer) (reached : IsReached now) (takes : Takes now p r a b) (call : call_of r ≡ a_wait w) (last : is_last (progress_with r b) ≡ true) where
  misses_none : (ids : List ℕ) → w.many ≡ true → taken_by (with_step now r a) ≡ ids → MissesNone now r a ids
  misses_none ids many taken =
      let same : r.told ++ reported (progress_with r b) ≡ ids = reply_law_holds now reached p r w a b takes call last ∙ taken in
      record {
        bits = λ bits s first id pending. subst (λ (xs : List ℕ). list_any (λ x. x == id) xs ≡ true) same (all_law_holds now reached bits p r w a b takes call many last s first id pending);
        list = λ queue. elim (queue_law_holds now reached queue p r w a b takes call many last) [
          | inl empty ↦ inl empty
          | inr many_taken ↦ inr (ap (λ (xs : List ℕ). length xs) (sym same) ∙ many_taken)
        ];
      }

  pub wait_true : (told : EventReply) → TellsIds w.many told (taken_by (with_step now r a)) → IsTrue now r a (a_wait w) told
  wait_true reply.Done h = h
  wait_true (reply.Id id) h = h
  wait_true (reply.Ids ids) h = (h.0, h.1, h.2, misses_none ids h.0 h.1)
  wait_true reply.Nothing h = (
    none_law_holds now reached p r w a b takes call (nothing_law_holds now reached p r w a b takes call last h),
    λ many. misses_none [] many h,
  )
  wait_true reply.AlreadyExists h = h
  wait_true reply.DoesNotExist h = h
  wait_true (reply.NotNotified why) h = h

-- ---- replies

reply_true : (l : Last) (party : List ℕ) (a : EventAccess) (b : EventAnswer) (told : EventReply) (p : PrintsAccess l.pair party a b (Some told)) (k : IsEventStep (at_last l) party p.kind p.name a b (Some told)) (c : EventCall) → call_of k.of.doing.call ≡ c
    → IsTrue (moment_of (at_last l) party k.of) k.of.doing.call a c told
reply_true l party a b told p k (a_notify n) is =
    let last = last_told k.of.doing.call (progress_with k.of.doing.call b) told k.tells in
    notify_true (moment_of (at_last l) party k.of) party k.of.doing.call n a b told k.reached k.takes is last.0 last.1
reply_true l party a b told p k (a_wait w) is =
    let last = last_told k.of.doing.call (progress_with k.of.doing.call b) told k.tells in
    let ids = wait_replies l k.of.doing.on k.of.standing k.of.stands party k.of.doing.call w a b told (record { kind = p.kind; name = p.name; runs = k.of.runs; steps = p.steps; prints = p.prints }) is in
    wait_true (moment_of (at_last l) party k.of) party k.of.doing.call w a b k.reached k.takes is last.0 told ids

pub replies_true : RepliesAreTrue
replies_true l party a b told p =
    let k = printed_taken l party a b (Some told) p in
    record { step = k; holds = reply_true l party a b told p k (call_of k.of.doing.call) refl }

-- ---- expiries

-- a timed call is a wait
record IsTimedWait (c : EventCall) : Type 0 where
  wait : Wait
  is : c ≡ a_wait wait
  timed : wait.mode ≡ mode.Timed

timed_mode : (m : WaitMode) → (elim m [ mode.Try ↦ false | mode.Timed ↦ true | mode.Block ↦ false ]) ≡ true → m ≡ mode.Timed
timed_mode mode.Try h = absurd (false≢true h)
timed_mode mode.Timed h = refl
timed_mode mode.Block h = absurd (false≢true h)

timed_wait : (c : EventCall) → is_timed c ≡ true → IsTimedWait c
timed_wait (a_notify n) h = absurd (false≢true h)
timed_wait (a_wait w) h = record { wait = w; is = refl; timed = timed_mode w.mode h }

-- a call that may expire
record Expires (s : ScriptState) (party : List ℕ) : Type 0 where
  doing : PartyCall
  runs : s.events.session.doing party ≡ Some doing
  may : may_expire doing ≡ true

not_refused : (why : Reason) → expired ≡ of_boards (answer.Refused why) → ⊥
not_refused why e = cc

by_call : (s : ScriptState) (party : List ℕ) (q : Option EventAsk) (d : Option PartyCall) → s.events.session.doing party ≡ d → IsTurnAnswer s.events (expire_of_call party q d) expired → Expires s party
by_call s party (Some q) d runs h = absurd (not_refused _ h)
by_call s party None None runs h = absurd (not_refused _ h)
by_call s party None (Some d) runs h = of (may_expire d) refl h
  where
    of : (b : Bool) → may_expire d ≡ b → IsTurnAnswer s.events (if b then expires party else refused reason.NotWaiting) expired → Expires s party
    of true may h = record { doing = d; runs = runs; may = may }
    of false may h = absurd (not_refused _ h)

by_party : (s : ScriptState) (party : List ℕ) (x : Party) → IsTurnAnswer s.events (expire_turn s party x) expired → Expires s party
by_party s party free h = by_call s party (s.events.asked party) (s.events.session.doing party) refl h
by_party s party (running r) h = absurd (not_refused _ h)
by_party s party gone h = absurd (not_refused _ h)

pub expiries_true : ExpiriesAreTrue
expiries_true l party line_is answer_is =
    let s : ScriptState = at_last l in
    let right : IsRightAnswer s (line.Expire party) expired = subst (λ (x : ScriptAnswer). IsRightAnswer s (line.Expire party) x) answer_is (subst (λ (x : ScriptLine). IsRightAnswer s x l.pair.1) line_is (last_right l)) in
    let k = by_party s party (s.boards.parties party) (ruled s (line.Expire party) expired right) in
    let st = call_stands s.events (0 + length l.before) (last_lawful l).events party k.doing k.runs in
    let both = and_split _ _ k.may in
    let w = timed_wait (call_of k.doing.call) both.0 in
    let reached = events_reached l.before (lawful_split l.before (l.pair ∷ []) start l.lawful).0 k.doing.on st.0 st.1 in
    let runs : running_on k.doing.on (s.events.session.doing party) ≡ Some k.doing.call = ap (running_on k.doing.on) k.runs ∙ runs_here k.doing in
    record {
      of = record { doing = k.doing; standing = st.0; runs = k.runs; stands = st.1 };
      wait = w.wait;
      waits = w.is;
      timed = w.timed;
      reached = reached;
      expired = expire_law_holds (view s.events.session k.doing.on st.0) reached party k.doing.call runs
          (subst (λ (o : Option RunningCall). IsSomeAnd o (λ r. (is_timed (call_of r) ≡ true) × (r.waited ≡ true))) (sym runs) both);
    }
