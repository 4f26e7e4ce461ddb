-- The wait of a watcher, from its begin to its next step.
use Rattle.std.proofs.Common.{◌≡◌, ℕ, Bool, true, false, cond, List, [], ◌∷◌, ◌++◌, refl, sym, ap, subst, ◌∙◌, Option, Some, None, inl, inr, append_assoc}
use Rattle.std.specs.Prelude.{◌+◌, ◌/◌, ◌⊎◌, ◌||◌, if◌then◌else◌, IsSomeAnd, is_some}
use Rattle.std.specs.List.{AllByRecursion, flat_map}
use Rattle.board_event_model.proofs.SetLemmas.{either}
use Rattle.board_event_model.specs.declared.access.EventAccess.{EventAccess}
use Rattle.board_event_model.specs.declared.access.EventAnswer.{EventAnswer}
use Rattle.board_event_model.specs.declared.call.WaitMode.TheVariants as mode
use Rattle.board_event_model.specs.declared.call.EventProgress.{EventProgress}
use Rattle.board_event_model.specs.declared.kind.EventKind.{EventKind}
use Rattle.board_event_model.specs.EventMemory.{Event, is_bits}
use Rattle.board_event_model.specs.WaitCalls.{Wait, wait_bits, wait_queue, wait_turn}
use Rattle.board_event_model.specs.LawsOfCalls.{taken_by}
use Rattle.board_event_model.specs.EventCalls.{EventCall, RunningCall, a_wait, call_of, is_last, is_waiting, new_call, owed, reported, turn}
use Rattle.board_event_model.specs.EventSessions.{PartyCall, StandingEvent, do_at, doing_on, event_of, stepped_on, took_step}
use Rattle.board_model.specs.declared.answer.Answer.TheVariants as answer
use Rattle.board_model.specs.declared.answer.Reason.{Reason}
use Rattle.board_model.specs.declared.answer.Reason.TheVariants as reason
use Rattle.board_model.specs.declared.line.Line.TheVariants as board_line
use Rattle.board_model.specs.Parties.{Party, free, gone, running}
use Rattle.board_model.specs.Requests.{and_then}
use Rattle.board_model.specs.Sound.{Sound}
use Rattle.script_model.specs.declared.line.EventRequest.{EventRequest}
use Rattle.script_model.specs.declared.line.EventRequest.TheVariants as request
use Rattle.script_model.specs.declared.line.ScriptLine.{ScriptLine}
use Rattle.script_model.specs.declared.line.ScriptLine.TheVariants as line
use Rattle.script_model.specs.declared.reply.EventReply.{EventReply}
use Rattle.script_model.specs.ScriptAnswers.{ScriptAnswer, of_boards, of_event}
use Rattle.script_model.specs.ScriptEvents.{EventAsk, EventTask, IsEventAccess, IsStepOf, ScriptEvents, act, end_told, is_for_all, listened_event, name_made, on_event, runs_on_events, step_made, step_told, task_of, wait_call}
use Rattle.script_model.specs.ScriptTurns.{EventTurn, IsTurnAnswer, ScriptState, begins, free_turn, is_name_taken, refused, steps, task_turn, turn_of, turned}
use Rattle.script_model.specs.ScriptSession.{IsLawful, IsLawfulFrom, IsRight, Session, after, after_turn, start}
use Rattle.script_model.specs.LawsOfComposition.{Pair, state_met}
use Rattle.script_model.specs.LawsOfEvents.{TellsIds}
use Rattle.script_model.specs.LawsOfLines.{names}
use Rattle.script_model.specs.LawsOfRules.{IsRuled}
use Rattle.script_model.proofs.CompositionLemmas.{lawful_split}
use Rattle.script_model.proofs.EventLemmas.{wait_replies}
use Rattle.script_model.proofs.LineLaws.{lines_leave}
use Rattle.script_model.proofs.RuleLemmas.{ruled}
use Rattle.script_model.proofs.TurnLemmas.{text_itself}
use Rattle.script_moments.specs.Moments.{Moment, end_of, left, moments, next_moment, own}
use Rattle.script_moments.specs.LawsOfTurns.{EventCallsAreBegunOrRefused, WaitsStepOn}
use Rattle.script_moments.specs.Watchers.{IsWaitBegin, StepsOnEvent, WaitGoesOn, moments_of_id, moments_of_turn}
use Rattle.script_moments.proofs.GetWalks.{pair_grows}
use Rattle.script_moments.proofs.RoundLemmas as rounds
use Rattle.script_moments.proofs.SessionLemmas.{all_lawful, lawful_push, own_more}
use Rattle.script_moments.proofs.TurnLemmas.{pair_is, step_named}

-- ---- what a party runs on events, between its own moments

pub record SameCall (party : List ℕ) (s t : ScriptState) : Type 0 where
  pub asked : t.events.asked party ≡ s.events.asked party
  pub doing : t.events.session.doing party ≡ s.events.session.doing party

abbrev pub CallChain : List ℕ → ScriptState → List Moment → Type 0
CallChain party s [] = Unit {0}
CallChain party s (m ∷ ms) = SameCall party s m.met × IsRight m.met m.pair.0 m.pair.1 × CallChain party (left m) ms

chain_before : (party : List ℕ) (s t : ScriptState) (ms : List Moment) → SameCall party s t → CallChain party t ms → CallChain party s ms
chain_before party s t [] h k = tt
chain_before party s t (m ∷ ms) h k = (record { asked = k.0.asked ∙ h.asked; doing = k.0.doing ∙ h.doing }, k.1, k.2)

pub call_chain : (party : List ℕ) (pairs : Session) (s : ScriptState) → IsLawfulFrom s pairs → Sound s.boards → CallChain party s (own party (moments s pairs))
call_chain party [] s ok sound = tt
call_chain party (x ∷ xs) s ok sound = at (names party x.0) refl (call_chain party xs (after s x.0 x.1) ok.1 (pair_grows s x.0 x.1 ok.0 sound).sound)
  where
    at : (z : Bool) → names party x.0 ≡ z → CallChain party (after s x.0 x.1) (own party (moments (after s x.0 x.1) xs)) → CallChain party s (cond z (record { met = s; pair = x } ∷ own party (moments (after s x.0 x.1) xs)) (own party (moments (after s x.0 x.1) xs)))
    at true e k = (record { asked = refl; doing = refl }, ok.0, k)
    at false e k =
        let l = lines_leave s x.0 x.1 party sound ok.0 e in
        chain_before party s (after s x.0 x.1) (own party (moments (after s x.0 x.1) xs)) (record { asked = l.asked; doing = l.doing }) k

pub call_split : (party : List ℕ) (xs ys : List Moment) (s : ScriptState) → CallChain party s (xs ++ ys) → CallChain party (end_of s xs) ys
call_split party [] ys s h = h
call_split party (x ∷ xs) ys s h = call_split party xs ys (left x) h.2

-- ---- a wait for all that runs

pub record WaitsAt (x : ScriptEvents) (party : List ℕ) : Type 0 where
  pub asked : x.asked party ≡ None
  pub doing : PartyCall
  pub runs : x.session.doing party ≡ Some doing
  pub wait : Wait
  pub call : call_of doing.call ≡ a_wait wait
  pub many : wait.many ≡ true

abbrev pub waits_same : (party : List ℕ) (s t : ScriptState) → SameCall party s t → WaitsAt s.events party → WaitsAt t.events party
waits_same party s t h w = record { asked = h.asked ∙ w.asked; doing = w.doing; runs = h.doing ∙ w.runs; wait = w.wait; call = w.call; many = w.many }

do_here : (f : List ℕ → Option PartyCall) (party : List ℕ) (x : Option PartyCall) → do_at f party x party ≡ x
do_here f party x = ap (λ (b : Bool). if b then x else f party) (text_itself party)

-- ---- its begin

none_of : (o : Option EventAsk) (b : Bool) → (is_some o || b) ≡ false → o ≡ None
none_of None b e = refl
none_of (Some q) b e = absurd cc

no_refused : (why : Reason) → of_boards answer.Begun ≡ of_boards (answer.Refused why) → ⊥
no_refused why e = cc

abbrev asks_all : List ℕ → EventRequest
asks_all listener = request.Wait listener true mode.Try

abbrev waits_all : Event → EventCall
waits_all e = wait_call e true mode.Try

-- it was begun, and so no call on events ran
record IsTaskBegun (s : ScriptState) (party : List ℕ) (b : Bool) (y : Party) (o : Option EventTask) (listener : List ℕ) : Type 0 where
  idle : b ≡ false
  task : EventTask
  is : o ≡ Some task
  turn : (if b then refused reason.Busy else free_turn y (task_turn s party (asks_all listener) o)) ≡ begins party task

task_begun_is : (s : ScriptState) (party listener : List ℕ) (b : Bool) (y : Party) (o : Option EventTask) → IsTurnAnswer s.events (if b then refused reason.Busy else free_turn y (task_turn s party (asks_all listener) o)) (of_boards answer.Begun) → IsTaskBegun s party b y o listener
task_begun_is s party listener true y o k = absurd (no_refused reason.Busy k)
task_begun_is s party listener false free None k = absurd (no_refused reason.Unknown k)
task_begun_is s party listener false free (Some t) k = record { idle = refl; task = t; is = refl; turn = refl }
task_begun_is s party listener false (running r) o k = absurd (no_refused reason.Busy k)
task_begun_is s party listener false gone o k = absurd (no_refused reason.Abandoned k)

pub events_begun_or_refused : EventCallsAreBegunOrRefused
events_begun_or_refused s party q a ok = at (runs_on_events s.events party) (s.boards.parties party) (task_of s.events party q) (ruled s (line.Event party q) a ok)
  where
    taken : (z : Bool) (t : EventTask) → IsTurnAnswer s.events (if z then refused reason.Taken else begins party t) a → (a ≡ of_boards answer.Begun) ⊎ ((why : Reason) × (a ≡ of_boards (answer.Refused why)))
    taken true t k = inr (reason.Taken, k)
    taken false t k = inl k

    at : (b : Bool) (y : Party) (o : Option EventTask) → IsTurnAnswer s.events (if b then refused reason.Busy else free_turn y (task_turn s party q o)) a → (a ≡ of_boards answer.Begun) ⊎ ((why : Reason) × (a ≡ of_boards (answer.Refused why)))
    at true y o k = inr (reason.Busy, k)
    at false free None k = inr (reason.Unknown, k)
    at false free (Some t) k = taken (is_name_taken s party (name_made q)) t k
    at false (running r) o k = inr (reason.Busy, k)
    at false gone o k = inr (reason.Abandoned, k)

wait_task : (x : ScriptEvents) (o : Option ℕ) (t : EventTask) → and_then o (on_event x waits_all) ≡ Some t → (n : ℕ) × (e : Event) × (t ≡ act n (waits_all e))
wait_task x None t h = absurd cc
wait_task x (Some n) t h = at (event_of x.session.stands n) h
  where
    at : (o : Option Event) → and_then o (λ e. Some (act n (waits_all e))) ≡ Some t → (n : ℕ) × (e : Event) × (t ≡ act n (waits_all e))
    at None k = absurd cc
    at (Some e) k = (n, e, cc)

many_if : (b : Bool) (k : ℕ) → (if b then wait_bits k true mode.Try else wait_queue true mode.Try).many ≡ true
many_if true k = refl
many_if false k = refl

pub begun_waits : (m : Moment) (party listener : List ℕ) → IsWaitBegin party listener m → IsRight m.met m.pair.0 m.pair.1 → WaitsAt (left m).events party
begun_waits m party listener e ok =
    let s : ScriptState = m.met in
    let l : ScriptLine = line.Event party (asks_all listener) in
    let right : IsRight s l (of_boards answer.Begun) = subst (λ (p : Pair). IsRight s p.0 p.1) e ok in
    let k = task_begun_is s party listener (runs_on_events s.events party) (s.boards.parties party) (task_of s.events party (asks_all listener)) (ruled s l (of_boards answer.Begun) right) in
    let t = wait_task s.events (listened_event (s.events.things party listener)) k.task k.is in
    let is_turn : turn_of s l ≡ Some (begins party (act t.0 (waits_all t.1))) = ap (λ (u : EventTurn). Some u) k.turn ∙ ap (λ (u : EventTask). Some (begins party u)) t.2 in
    let state : (left m).events ≡ turned s.events (begins party (act t.0 (waits_all t.1))) (of_boards answer.Begun) =
    ap (λ (p : Pair). (after s p.0 p.1).events) e ∙ ap (λ (o : Option EventTurn). (after_turn s l (of_boards answer.Begun) o).events) is_turn in
    subst (λ (x : ScriptEvents). WaitsAt x party) (sym state) (here s.events t.0 t.1 (none_of (s.events.asked party) (is_some (s.events.session.doing party)) k.idle))
  where
    here : (x : ScriptEvents) (n : ℕ) (e : Event) → x.asked party ≡ None → WaitsAt (turned x (begins party (act n (waits_all e))) (of_boards answer.Begun)) party
    here x n e none = record {
      asked = none;
      doing = record { on = n; call = new_call x.session.begun (waits_all e) };
      runs = do_here x.session.doing party _;
      wait = if is_bits e.kind then wait_bits (e.max / 64 + 1) true mode.Try else wait_queue true mode.Try;
      call = refl;
      many = many_if (is_bits e.kind) (e.max / 64 + 1);
    }

-- ---- a step of it

pub record IsWaitStep (s : ScriptState) (d : PartyCall) (a : ScriptAnswer) : Type 0 where
  pub standing : StandingEvent
  pub stands : s.events.session.stands d.on ≡ Some standing
  pub access : IsEventAccess standing.event d.call a

step_turn : (s : ScriptState) (party : List ℕ) → WaitsAt s.events party → turn_of s (line.Board (board_line.Step party)) ≡ Some (steps party)
step_turn s party w =
    let busy : runs_on_events s.events party ≡ true = ap (λ (o : Option EventAsk). is_some o || is_some (s.events.session.doing party)) w.asked ∙ ap (λ (o : Option PartyCall). is_some o) w.runs in
    ap (λ (b : Bool). if b then Some (steps party) else None) busy

pub step_is : (s : ScriptState) (party : List ℕ) (a : ScriptAnswer) → (w : WaitsAt s.events party) → IsRight s (line.Board (board_line.Step party)) a → IsWaitStep s w.doing a
step_is s party a w ok =
    let rule : IsTurnAnswer s.events (steps party) a = subst (IsRuled s (line.Board (board_line.Step party)) a) (step_turn s party w) (ruled s (line.Board (board_line.Step party)) a ok) in
    let k : IsStepOf s.events None (Some w.doing) a = subst (λ (q : Option EventAsk). IsStepOf s.events q (Some w.doing) a) w.asked (subst (λ (o : Option PartyCall). IsStepOf s.events (s.events.asked party) o a) w.runs rule) in
    at (s.events.session.stands w.doing.on) refl k
  where
    at : (o : Option StandingEvent) → s.events.session.stands w.doing.on ≡ o → IsSomeAnd (elim o [ None ↦ None | Some st ↦ Some st.event ]) (λ e. IsEventAccess e w.doing.call a) → IsWaitStep s w.doing a
    at None e h = absurd h
    at (Some st) e h = record { standing = st; stands = e; access = h }

event_same : (k l : EventKind) (n m : List ℕ) (a b : EventAccess) (x y : EventAnswer) (t u : Option EventReply) → of_event k n a x t ≡ of_event l m b y u → (x ≡ y) × (t ≡ u)
event_same k l n m a b x y t u e = (cc, cc)

not_last : (b : Bool) (x : EventReply) → None ≡ (if b then Some x else None) → b ≡ false
not_last true x e = absurd cc
not_last false x e = refl

-- the party waits on, with a step more
pub record HasStepped (x : ScriptEvents) (party : List ℕ) (d : PartyCall) (e : Event) (a : EventAccess) : Type 0 where
  pub waits : WaitsAt x party
  pub steps : waits.doing.call.steps ≡ record { met = e; access = a } ∷ d.call.steps

pub step_more : (m : Moment) (party : List ℕ) (w : WaitsAt m.met.events party) (g : WaitGoesOn party m) → IsRight m.met m.pair.0 m.pair.1 → (st : StandingEvent) × (m.met.events.session.stands w.doing.on ≡ Some st) × HasStepped (left m).events party w.doing st.event g.access
step_more m party w g ok =
    let s : ScriptState = m.met in
    let x : ScriptEvents = s.events in
    let d : PartyCall = w.doing in
    let l : ScriptLine = line.Board (board_line.Step party) in
    let a : ScriptAnswer = of_event g.kind g.name g.access g.answer None in
    let k = step_is s party a w (subst (λ (p : Pair). IsRight s p.0 p.1) g.is ok) in
    let same = event_same g.kind k.standing.event.kind g.name k.standing.event.name g.access (owed (call_of d.call)) g.answer k.access.answer None (step_told d.call (turn (call_of d.call) k.access.answer).0) k.access.printed in
    let goes : is_last (turn (call_of d.call) g.answer).0 ≡ false = ap (λ (b : EventAnswer). is_last (turn (call_of d.call) b).0) same.0 ∙ not_last (is_last (turn (call_of d.call) k.access.answer).0) _ same.1 in
    let met : event_of x.session.stands d.on ≡ Some k.standing.event = ap (λ (o : Option StandingEvent). elim o [ None ↦ None | Some st ↦ Some st.event ]) k.stands in
    let state : (left m).events ≡ record x { session = took_step x.session party g.access g.answer d (Some k.standing.event) } =
    ap (λ (p : Pair). (after s p.0 p.1).events) g.is
    ∙ ap (λ (o : Option EventTurn). (after_turn s l a o).events) (step_turn s party w)
    ∙ ap (λ (q : Option EventAsk). step_made x party q a) w.asked
    ∙ ap (λ (o : Option PartyCall). record x { session = stepped_on x.session party g.access g.answer o }) w.runs
    ∙ ap (λ (o : Option Event). record x { session = took_step x.session party g.access g.answer d o }) met in
    (k.standing, k.stands, subst (λ (y : ScriptEvents). HasStepped y party d k.standing.event g.access) (sym state) (here x d k.standing.event g.access g.answer w.wait w.asked w.call w.many goes))
  where
    here : (x : ScriptEvents) (d : PartyCall) (e : Event) (a : EventAccess) (b : EventAnswer) (v : Wait) → x.asked party ≡ None → call_of d.call ≡ a_wait v → v.many ≡ true → is_last (turn (call_of d.call) b).0 ≡ false → HasStepped (record x { session = took_step x.session party a b d (Some e) }) party d e a
    here x d e a b v none call many goes =
        let r : RunningCall = record {
          number = d.call.number;
          first = d.call.first;
          answers = b ∷ d.call.answers;
          told = d.call.told ++ reported (turn (call_of d.call) b).0;
          steps = record { met = e; access = a } ∷ d.call.steps;
          waited = is_waiting (turn (call_of d.call) b).0;
        } in
        record {
          waits = record {
            asked = none;
            doing = record { on = d.on; call = r };
            runs = do_here x.session.doing party _ ∙ ap (λ (z : Bool). doing_on d.on (if z then None else Some r)) goes;
            wait = record v { stage = (wait_turn v v.stage b).1 };
            call = ap (λ (c : EventCall). (turn c b).1) call;
            many = many;
          };
          steps = refl;
        }

step_waits : (m : Moment) (party : List ℕ) → WaitsAt m.met.events party → WaitGoesOn party m → IsRight m.met m.pair.0 m.pair.1 → WaitsAt (left m).events party
step_waits m party w g ok = (step_more m party w g ok).2.waits

steps_wait : (party : List ℕ) (ms : List Moment) (e : Moment) (s : ScriptState) → WaitsAt s.events party → CallChain party s (ms ++ e ∷ []) → AllByRecursion (WaitGoesOn party) ms → WaitsAt e.met.events party
steps_wait party [] e s w c go = waits_same party s e.met c.0 w
steps_wait party (m ∷ ms) e s w c go = steps_wait party ms e (left m) (step_waits m party (waits_same party s m.met c.0 w) go.0 c.1) c.2 go.1

-- ---- the law

waits_on : (before since : Session) (party : List ℕ) (pair : Pair) → IsLawful (before ++ since) → IsRight (state_met (before ++ since)) pair.0 pair.1 → pair.0 ≡ line.Board (board_line.Step party) → WaitsAt (state_met (before ++ since)).events party
    → WaitGoesOn party (next_moment before since pair) ⊎ ((told : EventReply) × (ids : List ℕ) × StepsOnEvent party (next_moment before since pair) (Some told) × TellsIds true told ids)
waits_on before since party pair ok right is w =
    let s : ScriptState = state_met (before ++ since) in
    let d : PartyCall = w.doing in
    let k = step_is s party pair.1 w (subst (λ (l : ScriptLine). IsRight s l pair.1) is right) in
    let e : Event = k.standing.event in
    let a : EventAccess = owed (call_of d.call) in
    let p : EventProgress = (turn (call_of d.call) k.access.answer).0 in
    elim (either (is_last p)) [
      | inl last ↦
          let reply : EventReply = end_told (is_for_all (call_of d.call)) d.call.told p in
          let prints : pair.1 ≡ of_event e.kind e.name a k.access.answer (Some reply) = k.access.printed ∙ ap (λ (b : Bool). of_event e.kind e.name a k.access.answer (if b then Some reply else None)) last in
          let tells = wait_replies (record { before = before ++ since; pair = pair; lawful = lawful_push (before ++ since) start pair ok right }) d.on k.standing k.stands party d.call w.wait a k.access.answer reply (record { kind = e.kind; name = e.name; runs = w.runs; steps = is; prints = prints }) w.call in
          let ids : List ℕ = taken_by (record { met = e; access = a } ∷ d.call.steps) in
          inr (reply, ids, record { kind = e.kind; name = e.name; access = a; answer = k.access.answer; is = pair_is pair (line.Board (board_line.Step party)) _ is prints }, subst (λ (b : Bool). TellsIds b reply ids) w.many tells)
      | inr goes ↦
          let reply : EventReply = end_told (is_for_all (call_of d.call)) d.call.told p in
          let prints : pair.1 ≡ of_event e.kind e.name a k.access.answer None = k.access.printed ∙ ap (λ (b : Bool). of_event e.kind e.name a k.access.answer (if b then Some reply else None)) goes in
          inl (record { kind = e.kind; name = e.name; access = a; answer = k.access.answer; is = pair_is pair (line.Board (board_line.Step party)) _ is prints })
    ]

pub waits_step : WaitsStepOn
waits_step before since party listener handles asked turns m ms pair h right is =
    let next : Moment = next_moment before since pair in
    let early : List Moment = flat_map moments_of_id asked ++ flat_map moments_of_turn turns in
    let l = lawful_split before (since ++ pair ∷ []) start (all_lawful before since pair h.lawful right) in
    let mine : own party (moments (state_met before) since) ≡ early ++ m ∷ ms = h.own ∙ sym (append_assoc (flat_map moments_of_id asked) (flat_map moments_of_turn turns) (m ∷ ms)) in
    let all : own party (moments (state_met before) (since ++ pair ∷ [])) ≡ early ++ (m ∷ (ms ++ next ∷ [])) = own_more before since party pair (early ++ m ∷ ms) (step_named party pair is) mine ∙ append_assoc early (m ∷ ms) (next ∷ []) in
    let c = call_split party early (m ∷ (ms ++ next ∷ [])) (state_met before) (subst (CallChain party (state_met before)) all (call_chain party (since ++ pair ∷ []) (state_met before) l.1 (rounds.sound_at before l.0))) in
    let w = steps_wait party ms next (left m) (begun_waits m party listener h.rest.0 c.1) c.2 h.rest.1 in
    waits_on before since party pair h.lawful right is w
