-- What holds of each call as it begins, and is kept by each right answer, holds of each call that runs after a lawful session.
use Rattle.std.proofs.Common.{◌≡◌, ℕ, ◌+◌, ◌-◌, ◌/◌, ◌<◌, ◌^◌, Bool, true, false, List, [], ◌∷◌, ◌++◌, length, arith, refl, sym, subst, Option, Some, None}
use Rattle.std.specs.Str.{bytes_eq}
use Rattle.std.specs.Prelude.{if◌then◌else◌, IsSomeAnd, is_some}
use Rattle.board_event_model.specs.declared.access.EventAccess.{EventAccess}
use Rattle.board_event_model.specs.declared.access.EventAnswer.{EventAnswer}
use Rattle.board_event_model.specs.declared.kind.EventKind.{EventKind}
use Rattle.board_event_model.specs.EventMemory as memory
use Rattle.board_event_model.specs.EventMemory.{Event, is_bits}
use Rattle.board_event_model.specs.NotifyCalls.{Notify, notify_bits, notify_queue}
use Rattle.board_event_model.specs.declared.call.WaitMode.{WaitMode}
use Rattle.board_event_model.specs.WaitCalls.{wait_bits, wait_queue}
use Rattle.board_event_model.specs.EventCalls.{EventCall, RunningCall, a_notify, a_wait, call_of, is_last, is_waiting, owed, reported, turn, went_on}
use Rattle.board_event_model.specs.EventSessions.{EventSession, PartyCall, abandon_of, begin_on, do_at, doing_on, event_of, expire_of, listen, next_session, notifiers_of, release_of, step_of, stepped_on, took_step}
use Rattle.board_model.specs.declared.answer.Answer.{Answer}
use Rattle.board_model.specs.declared.answer.Answer.TheVariants as answer
use Rattle.board_model.specs.declared.answer.Reason.TheVariants as reason
use Rattle.board_model.specs.declared.line.Line.{Line}
use Rattle.board_model.specs.declared.line.Line.TheVariants as board_line
use Rattle.board_model.specs.Parties.{Party, free, gone, running}
use Rattle.board_model.specs.Requests.{and_then}
use Rattle.script_model.specs.declared.line.EventRequest.{EventRequest}
use Rattle.script_model.specs.declared.line.EventRequest.TheVariants as request
use Rattle.script_model.specs.declared.line.ScriptLine.{ScriptLine}
use Rattle.script_model.specs.declared.line.ScriptLine.TheVariants as line
use Rattle.script_model.specs.ScriptAnswers.{ScriptAnswer}
use Rattle.script_model.specs.ScriptEvents.{EventAsk, EventTask, EventThing, IsEventAccess, IsStepOf, ScriptEvents, act, ask, ask_made, event_let_go, let_go_from, listened_event, listener, name_made, notified, notifier, notifier_more, notify_call, on_event, opened, opened_with, runs_on_events, step_made, task_of, to_listen, to_notify, wait_call, with_listener}
use Rattle.script_model.specs.ScriptTurns.{EventTurn, IsTurnAnswer, ScriptState, begin_turn, begins, drop_turn, drops, expire_of_call, expire_turn, expires, free_turn, is_name_taken, may_expire, refused, request_turn, steps, task_turn, turn_of, turned}
use Rattle.script_model.specs.ScriptSession.{IsLawfulFrom, IsRight, Session, after, after_boards, after_turn, start, state_after}
use Rattle.script_model.specs.LawsOfRules.{IsRuled}
use Rattle.script_model.specs.SoundEvents.{AreNumbers, IsSoundScript}
use Rattle.script_model.proofs.NumberLemmas.{IsSmall}
use Rattle.script_model.proofs.NumberedLemmas.{acting}
use Rattle.script_model.proofs.RuleLemmas.{ruled}
use Rattle.script_model.proofs.ScriptSoundLemmas.{script_after, script_start}

-- ---- what is kept

-- a property of a call and of the ids that it has told, which begins with each call and stays with each right answer
pub record KeepsCalls (P : EventCall → List ℕ → Type 0) : Type 0 where
  pub notifies : (c : Notify) → P (a_notify c) []
  pub on_bits : (words : ℕ) (many : Bool) (m : WaitMode) → P (a_wait (wait_bits words many m)) []
  pub on_queue : (many : Bool) (m : WaitMode) → P (a_wait (wait_queue many m)) []
  pub turns : (e : Event) (c : EventCall) (a : EventAnswer) (told : List ℕ) → memory.IsRight e (owed c) a → IsSmall (owed c) → AreNumbers e.queue → P c told → P (turn c a).1 (told ++ reported (turn c a).0)

pub record AreKeptCalls (P : EventCall → List ℕ → Type 0) (s : EventSession) : Type 0 where
  pub kept : (p : List ℕ) (d : PartyCall) → s.doing p ≡ Some d → P (call_of d.call) d.call.told

-- a call that begins
BeginsKept : (EventCall → List ℕ → Type 0) → EventTask → Type 0
BeginsKept P (ask q) = Unit {0}
BeginsKept P (act n c) = P c []

abbrev OnTask : (EventCall → List ℕ → Type 0) → Option EventTask → Type 0
OnTask P None = Unit {0}
OnTask P (Some t) = BeginsKept P t

abbrev OnTurn : (EventCall → List ℕ → Type 0) → Option EventTurn → Type 0
OnTurn P None = Unit {0}
OnTurn P (Some (refused why)) = Unit {0}
OnTurn P (Some (begins party t)) = BeginsKept P t
OnTurn P (Some (steps party)) = Unit {0}
OnTurn P (Some (drops party name)) = Unit {0}
OnTurn P (Some (expires party)) = Unit {0}

-- after a lawful session
pub record IsKept (P : EventCall → List ℕ → Type 0) (s : ScriptState) (n : ℕ) : Type 0 where
  pub sound : IsSoundScript s n
  pub calls : AreKeptCalls P s.events.session

module _ (P : EventCall → List ℕ → Type 0) (keeps : KeepsCalls P) where
  -- ---- calls that run

  doing_kept : (doing : List ℕ → Option PartyCall) (p : List ℕ) (x : Option PartyCall) → ((d : PartyCall) → x ≡ Some d → P (call_of d.call) d.call.told) → ((q : List ℕ) (d : PartyCall) → doing q ≡ Some d → P (call_of d.call) d.call.told)
      → (q : List ℕ) (d : PartyCall) → do_at doing p x q ≡ Some d → P (call_of d.call) d.call.told
  doing_kept doing p x h k q d e = at (bytes_eq q p) e
    where
      at : (b : Bool) → (if b then x else doing q) ≡ Some d → P (call_of d.call) d.call.told
      at true f = h d f
      at false f = k q d f

  same_call : (y z : PartyCall) → Some y ≡ Some z → y ≡ z
  same_call y z q = cc

  went_kept : (r : RunningCall) (e : Event) (x : EventAccess) (a : EventAnswer) (on : ℕ) → P (turn (call_of r) a).1 (r.told ++ reported (turn (call_of r) a).0) → (d : PartyCall) → doing_on on (went_on r e x a) ≡ Some d → P (call_of d.call) d.call.told
  went_kept r e x a on k d f = at (is_last (turn (call_of r) a).0) f
    where
      at : (b : Bool) → doing_on on (if b then None else Some (record { number = r.number; first = r.first; answers = a ∷ r.answers; told = r.told ++ reported (turn (call_of r) a).0; steps = record { met = e; access = x } ∷ r.steps; waited = is_waiting (turn (call_of r) a).0 })) ≡ Some d → P (call_of d.call) d.call.told
      at true q = absurd cc
      at false q = subst (λ (z : PartyCall). P (call_of z.call) z.call.told) (same_call _ d q) k

  -- ---- sessions of events

  none_some : {A : Type 0} (x : A) → None ≡ Some x → ⊥
  none_some x e = cc

  stepped_keeps : (s : EventSession) (p : List ℕ) (d : PartyCall) (e : Event) (b : EventAnswer) → AreKeptCalls P s → s.doing p ≡ Some d → event_of s.stands d.on ≡ Some e → memory.IsRight e (owed (call_of d.call)) b → IsSmall (owed (call_of d.call)) → AreNumbers e.queue
      → AreKeptCalls P (next_session s (step_of p (owed (call_of d.call)) b))
  stepped_keeps s p d e b h runs stands right small queue =
      subst (λ (o : Option PartyCall). AreKeptCalls P (stepped_on s p (owed (call_of d.call)) b o)) (sym runs)
      (subst (λ (o : Option Event). AreKeptCalls P (took_step s p (owed (call_of d.call)) b d o)) (sym stands) (
      let new : AreKeptCalls P (took_step s p (owed (call_of d.call)) b d (Some e)) = record {
        kept = doing_kept s.doing p (doing_on d.on (went_on d.call e (owed (call_of d.call)) b)) (went_kept d.call e (owed (call_of d.call)) b d.on (keeps.turns e (call_of d.call) b d.call.told right small queue (h.kept p d runs))) h.kept;
      } in
      new))

  released : (s : EventSession) (n : ℕ) → AreKeptCalls P s → AreKeptCalls P (next_session s (release_of n))
  released s n h = record { kept = h.kept }

  renumbered : (s : EventSession) (n k : ℕ) → AreKeptCalls P s → AreKeptCalls P (next_session s (notifiers_of n k))
  renumbered s n k h = record { kept = h.kept }

  expired_keeps : (s : EventSession) (p : List ℕ) → AreKeptCalls P s → AreKeptCalls P (next_session s (expire_of p))
  expired_keeps s p h = record { kept = doing_kept s.doing p None (λ d e. absurd (none_some d e)) h.kept }

  abandoned : (s : EventSession) (p : List ℕ) → AreKeptCalls P s → AreKeptCalls P (next_session s (abandon_of p))
  abandoned s p h = record { kept = doing_kept s.doing p None (λ d e. absurd (none_some d e)) h.kept }

  begun_keeps : (s : EventSession) (p : List ℕ) (n : ℕ) (c : EventCall) → P c [] → AreKeptCalls P s → AreKeptCalls P (next_session s (begin_on p n c))
  begun_keeps s p n c k h = record { kept = doing_kept s.doing p _ (λ d e. subst (λ (z : PartyCall). P (call_of z.call) z.call.told) (same_call _ d e) k) h.kept }

  listened_keeps : (s : EventSession) (p : List ℕ) (k : EventKind) (name : List ℕ) (max : ℕ) → AreKeptCalls P s → AreKeptCalls P (next_session s (listen p k name max))
  listened_keeps s p k name max h = record { kept = h.kept }

  -- ---- what a party asks for and lets go

  opened_keeps : (x : ScriptEvents) (party name : List ℕ) (o : Option ℕ) → AreKeptCalls P x.session → AreKeptCalls P (opened x party name o).session
  opened_keeps x party name None h = h
  opened_keeps x party name (Some n) h = with_event (event_of x.session.stands n)
    where
      by_held : (e : Event) (b : Bool) → AreKeptCalls P (if b then notifier_more x party name n e else x).session
      by_held e true = renumbered x.session n (e.notifiers + 1) h
      by_held e false = h

      with_event : (o : Option Event) → AreKeptCalls P (opened_with x party name n o).session
      with_event None = h
      with_event (Some e) = by_held e e.held

  asked_keeps : (x : ScriptEvents) (party : List ℕ) (q : EventAsk) → AreKeptCalls P x.session → AreKeptCalls P (ask_made x party q).session
  asked_keeps x party (to_listen name k event max) h = at (is_some (x.names k event))
    where
      at : (b : Bool) → AreKeptCalls P (if b then x else with_listener x party name k event max).session
      at true = h
      at false = listened_keeps x.session party k event max h
  asked_keeps x party (to_notify name k event) h = opened_keeps x party name (x.names k event) h

  let_go_keeps : (x : ScriptEvents) (party name : List ℕ) (t : EventThing) (o : Option Event) → AreKeptCalls P x.session → AreKeptCalls P (let_go_from x party name t o).session
  let_go_keeps x party name t None h = h
  let_go_keeps x party name (listener n) (Some e) h = released x.session n h
  let_go_keeps x party name (notifier n) (Some e) h = renumbered x.session n (e.notifiers - 1) h

  dropped_keeps : (x : ScriptEvents) (party name : List ℕ) (o : Option EventThing) → AreKeptCalls P x.session → AreKeptCalls P (event_let_go x party name o).session
  dropped_keeps x party name None h = h
  dropped_keeps x party name (Some t) h = let_go_keeps x party name t (event_of x.session.stands _) h

  -- ---- calls that begin

  notify_begins : (e : Event) (id : ℕ) (b : Bool) → P (a_notify (if b then notify_bits id e.max else notify_queue id)) []
  notify_begins e id true = keeps.notifies (notify_bits id e.max)
  notify_begins e id false = keeps.notifies (notify_queue id)

  wait_begins : (e : Event) (many : Bool) (m : WaitMode) (b : Bool) → P (a_wait (if b then wait_bits (e.max / 64 + 1) many m else wait_queue many m)) []
  wait_begins e many m true = keeps.on_bits (e.max / 64 + 1) many m
  wait_begins e many m false = keeps.on_queue many m

  on_event_begins : (x : ScriptEvents) (call : Event → EventCall) (n : ℕ) → ((e : Event) → P (call e) []) → OnTask P (on_event x call n)
  unfolding BeginsKept
  on_event_begins x call n h = at (event_of x.session.stands n)
    where
      at : (o : Option Event) → OnTask P (and_then o (λ e. Some (act n (call e))))
      at None = tt
      at (Some e) = h e

  thing_begins : (x : ScriptEvents) (call : Event → EventCall) (o : Option ℕ) → ((e : Event) → P (call e) []) → OnTask P (and_then o (on_event x call))
  thing_begins x call None h = tt
  thing_begins x call (Some n) h = on_event_begins x call n h

  task_begins : (x : ScriptEvents) (party : List ℕ) (q : EventRequest) → OnTask P (task_of x party q)
  unfolding BeginsKept
  task_begins x party (request.ListenBits name event max) = tt
  task_begins x party (request.ListenQueue name event) = tt
  task_begins x party (request.Notifier name k event) = tt
  task_begins x party (request.Notify name id) = thing_begins x (λ e. notify_call e id) (notified (x.things party name)) (λ e. notify_begins e id (is_bits e.kind))
  task_begins x party (request.Wait name many m) = thing_begins x (λ e. wait_call e many m) (listened_event (x.things party name)) (λ e. wait_begins e many m (is_bits e.kind))

  turn_if : (b : Bool) (t u : EventTurn) → OnTurn P (Some t) → OnTurn P (Some u) → OnTurn P (Some (if b then t else u))
  turn_if true t u h k = h
  turn_if false t u h k = k

  maybe_if : (b : Bool) (t u : Option EventTurn) → OnTurn P t → OnTurn P u → OnTurn P (if b then t else u)
  maybe_if true t u h k = h
  maybe_if false t u h k = k

  request_begins : (s : ScriptState) (party : List ℕ) (q : EventRequest) → OnTurn P (Some (request_turn s party q))
  request_begins s party q =
      turn_if (runs_on_events s.events party) (refused reason.Busy) (free_turn (s.boards.parties party) (task_turn s party q (task_of s.events party q))) tt
      (by_party (s.boards.parties party) (by_task (task_of s.events party q) (task_begins s.events party q)))
    where
      by_task : (o : Option EventTask) → OnTask P o → OnTurn P (Some (task_turn s party q o))
      by_task None k = tt
      by_task (Some t) k = turn_if (is_name_taken s party (name_made q)) (refused reason.Taken) (begins party t) tt k

      by_party : (y : Party) → OnTurn P (Some (task_turn s party q (task_of s.events party q))) → OnTurn P (Some (free_turn y (task_turn s party q (task_of s.events party q))))
      by_party free k = k
      by_party (running r) k = tt
      by_party gone k = tt

  begin_none : (y : Party) (b : Bool) → OnTurn P (begin_turn y b)
  begin_none free true = tt
  begin_none free false = tt
  begin_none (running r) b = tt
  begin_none gone b = tt

  drop_none : (y : Party) (b : Bool) (party name : List ℕ) → OnTurn P (drop_turn y b party name)
  drop_none free true party name = tt
  drop_none free false party name = tt
  drop_none (running r) b party name = tt
  drop_none gone b party name = tt

  expire_none : (s : ScriptState) (party : List ℕ) (y : Party) → OnTurn P (Some (expire_turn s party y))
  expire_none s party free = by_call (s.events.asked party) (s.events.session.doing party)
    where
      by_call : (o : Option EventAsk) (d : Option PartyCall) → OnTurn P (Some (expire_of_call party o d))
      by_call (Some q) d = tt
      by_call None None = tt
      by_call None (Some d) = turn_if (may_expire d) (expires party) (refused reason.NotWaiting) tt tt
  expire_none s party (running r) = tt
  expire_none s party gone = tt

  line_begins : (s : ScriptState) (l : ScriptLine) → OnTurn P (turn_of s l)
  line_begins s (line.Board (board_line.Begin p c)) = maybe_if (runs_on_events s.events p) (Some (refused reason.Busy)) (begin_turn (s.boards.parties p) _) tt (begin_none (s.boards.parties p) _)
  line_begins s (line.Board (board_line.Step p)) = maybe_if (runs_on_events s.events p) (Some (steps p)) None tt tt
  line_begins s (line.Board (board_line.Release p name)) = maybe_if (runs_on_events s.events p) (Some (refused reason.Busy)) (drop_turn (s.boards.parties p) _ p name) tt (drop_none (s.boards.parties p) _ p name)
  line_begins s (line.Board (board_line.Abandon p)) = tt
  line_begins s (line.Board (board_line.Words n)) = tt
  line_begins s (line.Event p q) = request_begins s p q
  line_begins s (line.Expire p) = expire_none s p (s.boards.parties p)

  -- ---- lines

  step_keeps : (s : ScriptState) (n : ℕ) (party : List ℕ) (a : ScriptAnswer) → IsSoundScript s n → n < 2 ^ 63 → AreKeptCalls P s.events.session → (q : Option EventAsk) (o : Option PartyCall) → s.events.session.doing party ≡ o → IsStepOf s.events q o a → AreKeptCalls P (step_made s.events party q a).session
  step_keeps s n party a sound few h (Some q) o e ok = asked_keeps s.events party q h
  step_keeps s n party a sound few h None None e ok = absurd ok
  step_keeps s n party a sound few h None (Some d) e ok = at (event_of s.events.session.stands d.on) refl ok
    where
      at : (o : Option Event) → event_of s.events.session.stands d.on ≡ o → IsSomeAnd o (λ z. IsEventAccess z d.call a) → AreKeptCalls P (step_made s.events party None a).session
      at None f k = absurd k
      at (Some z) f k =
          let facts = acting s n party d z sound.events few (sound.numbers few) e f in
          subst (λ (y : ScriptAnswer). AreKeptCalls P (step_made s.events party None y).session) (sym k.printed) (stepped_keeps s.events.session party d z k.answer h e f k.right facts.small facts.queue)

  turn_keeps : (s : ScriptState) (n : ℕ) (a : ScriptAnswer) (t : EventTurn) → IsSoundScript s n → n < 2 ^ 63 → AreKeptCalls P s.events.session → OnTurn P (Some t) → IsTurnAnswer s.events t a → AreKeptCalls P (turned s.events t a).session
  unfolding BeginsKept
  turn_keeps s n a (refused why) sound few h k ok = h
  turn_keeps s n a (begins party (ask q)) sound few h k ok = h
  turn_keeps s n a (begins party (act m c)) sound few h k ok = begun_keeps s.events.session party m c k h
  turn_keeps s n a (steps party) sound few h k ok = step_keeps s n party a sound few h (s.events.asked party) (s.events.session.doing party) refl ok
  turn_keeps s n a (drops party name) sound few h k ok = dropped_keeps s.events party name (s.events.things party name) h
  turn_keeps s n a (expires party) sound few h k ok = expired_keeps s.events.session party h

  boards_keep : (x : ScriptEvents) (l : Line) (a : Answer) → AreKeptCalls P x.session → AreKeptCalls P (after_boards x l a).session
  boards_keep x (board_line.Begin p c) a h = h
  boards_keep x (board_line.Step p) a h = h
  boards_keep x (board_line.Release p name) a h = h
  boards_keep x (board_line.Abandon p) answer.Begun h = h
  boards_keep x (board_line.Abandon p) (answer.Refused why) h = h
  boards_keep x (board_line.Abandon p) (answer.Step b told) h = h
  boards_keep x (board_line.Abandon p) answer.Gone h = abandoned x.session p h
  boards_keep x (board_line.Abandon p) (answer.Words ws) h = h
  boards_keep x (board_line.Words n) a h = h

  line_keeps : (s : ScriptState) (l : ScriptLine) (a : ScriptAnswer) (n : ℕ) → IsRight s l a → IsSoundScript s n → n < 2 ^ 63 → AreKeptCalls P s.events.session → AreKeptCalls P (after s l a).events.session
  line_keeps s l a n ok sound few h = at l a (turn_of s l) (line_begins s l) (ruled s l a ok)
    where
      at : (l : ScriptLine) (a : ScriptAnswer) (o : Option EventTurn) → OnTurn P o → IsRuled s l a o → AreKeptCalls P (after_turn s l a o).events.session
      at l a (Some t) k r = turn_keeps s n a t sound few h k r
      at (line.Board l) a None k r = subst (λ (b : ScriptAnswer). AreKeptCalls P (after_turn s (line.Board l) b None).events.session) (sym r.is) (boards_keep s.events l r.answer h)
      at (line.Event p q) a None k r = absurd r
      at (line.Expire p) a None k r = absurd r

  pub session_keeps : (pairs : Session) (s : ScriptState) (n : ℕ) → n + length pairs < 2 ^ 63 → IsLawfulFrom s pairs → IsKept P s n → IsKept P (state_after s pairs) (n + length pairs)
  session_keeps [] s n few ok h = subst (IsKept P s) (omega arith) h
  session_keeps (x ∷ xs) s n few ok h =
      let next : IsKept P (after s x.0 x.1) (n + 1) = record { sound = script_after s x.0 x.1 n ok.0 h.sound; calls = line_keeps s x.0 x.1 n ok.0 h.sound (omega arith) h.calls } in
      let rest = session_keeps xs (after s x.0 x.1) (n + 1) (omega arith) ok.1 next in
      let count : (n + 1) + length xs ≡ n + length (x ∷ xs) = omega arith in
      subst (IsKept P (state_after (after s x.0 x.1) xs)) count rest

  pub start_kept : IsKept P start 0
  start_kept = record { sound = script_start; calls = record { kept = λ p d e. absurd (none_some d e) } }
