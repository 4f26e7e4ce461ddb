-- What a pair of a session is in the session of events, and what it does with one event.
use Rattle.std.proofs.Common.{◌≡◌, ℕ, Bool, true, false, List, [], ◌∷◌, ◌++◌, refl, sym, ap, subst, ◌∙◌, Option, Some, None, inl, inr, eqb, append_assoc, length}
use Rattle.std.specs.Prelude.{◌+◌, ◌==◌, ◌&&◌, ◌⊎◌, ⊤, if◌then◌else◌, is_some, IsSomeAnd}
use Rattle.std.proofs.lemmas.Bool.{false≢true}
use Rattle.std.proofs.lemmas.List.{append-nil}
use Rattle.board_event_model.specs.declared.access.EventAccess.{EventAccess}
use Rattle.board_event_model.specs.declared.access.EventAnswer.{EventAnswer}
use Rattle.board_event_model.specs.declared.call.WaitMode.{WaitMode}
use Rattle.board_event_model.specs.declared.kind.EventKind.{EventKind}
use Rattle.board_event_model.specs.EventMemory.{Event, is_bits}
use Rattle.board_event_model.specs.NotifyCalls.{Notify, notify_bits, notify_queue}
use Rattle.board_event_model.specs.EventCalls.{EventCall, a_notify, RunningCall}
use Rattle.board_event_model.specs.EventRuns.{EventMove, abandon, begin, elsewhere, expire, notifiers, release_listener, step}
use Rattle.board_event_model.specs.EventSessions.{EventLine, EventSession, PartyCall, StandingEvent, abandon_of, begin_on, event_of, expire_of, is_on, listen, moves_of, moves_on, notifiers_of, release_of, step_of}
use Rattle.board_event_model.proofs.QuietLemmas.{eqb_self, eqb_true}
use Rattle.board_event_model.proofs.SetLemmas.{either}
use Rattle.board_event_model.proofs.SoundLemmas.{none_some, some_same}
use Rattle.board_model.specs.declared.answer.Answer.{Answer}
use Rattle.board_model.specs.declared.answer.Answer.TheVariants as answer
use Rattle.board_model.specs.declared.line.Line.{Line}
use Rattle.board_model.specs.declared.line.Line.TheVariants as board_line
use Rattle.board_model.specs.Parties.{Party, free, gone, running}
use Rattle.board_model.specs.Requests.{and_then, new_name, request_of}
use Rattle.script_model.specs.declared.line.EventRequest.{EventRequest}
use Rattle.script_model.specs.declared.line.EventRequest.TheVariants as request
use Rattle.script_model.specs.declared.line.ScriptLine.{ScriptLine}
use Rattle.script_model.specs.declared.line.ScriptLine.TheVariants as line
use Rattle.script_model.specs.declared.reply.EventReply.{EventReply}
use Rattle.script_model.specs.ScriptAnswers.{ScriptAnswer, expired, of_ask, of_boards, of_event}
use Rattle.script_model.specs.ScriptEvents.{EventAsk, EventTask, EventThing, IsEventAccess, IsStepOf, ScriptEvents, act, ask, event_number, holds_event, listened_event, listener, name_made, notified, notifier, notify_call, on_event, runs_on_events, task_of, to_listen, to_notify, wait_call}
use Rattle.script_model.specs.ScriptTurns.{EventTurn, ScriptState, begin_turn, begins, board_turn, drop_turn, drops, expire_of_call, expire_turn, expires, free_turn, is_name_taken, may_expire, refused, request_turn, steps, takes_event_name, task_turn, turn_of}
use Rattle.script_model.specs.ScriptSession.{IsLawful, Session, after, start, state_after}
use Rattle.script_model.specs.Parts.{ask_line, drop_line, end_line, event_line, event_part, let_go_line, notifier_line, opened_line, step_line}
use Rattle.script_model.specs.SoundEvents.{AreSoundEvents, IsSoundScript}
use Rattle.script_model.specs.LawsOfComposition.{BeginsNotify, Pair, state_met}
use Rattle.script_model.specs.LawsOfEvents.{TakesAccess}
use Rattle.script_model.specs.LawsOfRules.{IsRuled}
use Rattle.script_model.proofs.CompositionLemmas.{lawful_split, sound_at}
use Rattle.script_model.proofs.EventPartLemmas.{events_law_holds}
use Rattle.script_model.proofs.OwedLemmas.{call_stands}
use Rattle.script_model.proofs.RuleLemmas.{ruled}
use Rattle.script_moments.specs.LawsOfTakes.{moves_in}

-- ---- the line that has a turn

-- a call that begins was asked for, and a step is a step
abbrev IsTurnOf : ScriptState → ScriptLine → Option EventTurn → Type 0
IsTurnOf s l None = ⊤
IsTurnOf s l (Some (refused why)) = ⊤
IsTurnOf s l (Some (begins party t)) = (q : EventRequest) × (l ≡ line.Event party q) × (task_of s.events party q ≡ Some t)
IsTurnOf s l (Some (steps party)) = l ≡ line.Board (board_line.Step party)
IsTurnOf s l (Some (drops party name)) = ⊤
IsTurnOf s l (Some (expires party)) = ⊤

begin_is : (s : ScriptState) (l : ScriptLine) (p : Party) (taken : Bool) → IsTurnOf s l (begin_turn p taken)
begin_is s l free true = tt
begin_is s l free false = tt
begin_is s l (running r) true = tt
begin_is s l (running r) false = tt
begin_is s l gone true = tt
begin_is s l gone false = tt

drop_is : (s : ScriptState) (l : ScriptLine) (p : Party) (held : Bool) (party name : List ℕ) → IsTurnOf s l (drop_turn p held party name)
drop_is s l free true party name = tt
drop_is s l free false party name = tt
drop_is s l (running r) true party name = tt
drop_is s l (running r) false party name = tt
drop_is s l gone true party name = tt
drop_is s l gone false party name = tt

if_turn : (P : Option EventTurn → Type 0) (b : Bool) (x y : Option EventTurn) → P x → P y → P (if b then x else y)
if_turn P true x y f g = f
if_turn P false x y f g = g

board_is : (s : ScriptState) (l : Line) → IsTurnOf s (line.Board l) (board_turn s l)
board_is s (board_line.Begin party c) =
    if_turn (IsTurnOf s (line.Board (board_line.Begin party c))) (runs_on_events s.events party) _ _ tt
    (begin_is s (line.Board (board_line.Begin party c)) (s.boards.parties party) (is_some (request_of s.boards.standing s.boards.published party c) && takes_event_name s.events party (new_name c)))
board_is s (board_line.Step party) = if_turn (IsTurnOf s (line.Board (board_line.Step party))) (runs_on_events s.events party) _ _ refl tt
board_is s (board_line.Release party name) =
    if_turn (IsTurnOf s (line.Board (board_line.Release party name))) (runs_on_events s.events party) _ _ tt
    (drop_is s (line.Board (board_line.Release party name)) (s.boards.parties party) (holds_event s.events party name) party name)
board_is s (board_line.Abandon party) = tt
board_is s (board_line.Words board) = tt

-- one of two turns
if_one : (P : EventTurn → Type 0) (b : Bool) (x y : EventTurn) → P x → P y → P (if b then x else y)
if_one P true x y f g = f
if_one P false x y f g = g

abbrev IsOneOf : ScriptState → ScriptLine → EventTurn → Type 0
IsOneOf s l t = IsTurnOf s l (Some t)

task_is : (s : ScriptState) (party : List ℕ) (q : EventRequest) (o : Option EventTask) → task_of s.events party q ≡ o → IsOneOf s (line.Event party q) (task_turn s party q o)
task_is s party q None e = tt
task_is s party q (Some t) e = if_one (IsOneOf s (line.Event party q)) (is_name_taken s party (name_made q)) _ _ tt (q, refl, e)

free_is : (s : ScriptState) (party : List ℕ) (q : EventRequest) (p : Party) → IsOneOf s (line.Event party q) (free_turn p (task_turn s party q (task_of s.events party q)))
free_is s party q free = task_is s party q (task_of s.events party q) refl
free_is s party q (running r) = tt
free_is s party q gone = tt

request_is : (s : ScriptState) (party : List ℕ) (q : EventRequest) → IsOneOf s (line.Event party q) (request_turn s party q)
request_is s party q = if_one (IsOneOf s (line.Event party q)) (runs_on_events s.events party) _ _ tt (free_is s party q (s.boards.parties party))

expire_call_is : (s : ScriptState) (l : ScriptLine) (party : List ℕ) (o : Option EventAsk) (d : Option PartyCall) → IsOneOf s l (expire_of_call party o d)
expire_call_is s l party (Some q) d = tt
expire_call_is s l party None None = tt
expire_call_is s l party None (Some d) = if_one (IsOneOf s l) (may_expire d) _ _ tt tt

expire_is : (s : ScriptState) (l : ScriptLine) (party : List ℕ) (p : Party) → IsOneOf s l (expire_turn s party p)
expire_is s l party free = expire_call_is s l party (s.events.asked party) (s.events.session.doing party)
expire_is s l party (running r) = tt
expire_is s l party gone = tt

turn_is : (s : ScriptState) (l : ScriptLine) → IsTurnOf s l (turn_of s l)
turn_is s (line.Board l) = board_is s l
turn_is s (line.Event party q) = request_is s party q
turn_is s (line.Expire party) = expire_is s (line.Expire party) party (s.boards.parties party)

-- ---- the line of events that a pair is

-- the answer prints no access to an event
abbrev pub PrintsNone : ScriptAnswer → Type 0
PrintsNone a = (k : EventKind) (name : List ℕ) (x : EventAccess) (b : EventAnswer) (told : Option EventReply) → a ≡ of_event k name x b told → ⊥

-- the pair is a step of the party's call on an event, which prints this access and its answer
pub record PrintsStep (s : ScriptState) (pair : Pair) (party : List ℕ) (a : EventAccess) (b : EventAnswer) : Type 0 where
  pub call : PartyCall
  pub kind : EventKind
  pub name : List ℕ
  pub told : Option EventReply
  pub runs : s.events.session.doing party ≡ Some call
  pub steps : pair.0 ≡ line.Board (board_line.Step party)
  pub prints : pair.1 ≡ of_event kind name a b told

-- a notify that begins was asked for by this pair
abbrev pub BeginsNotifyOf : ScriptState → Pair → List ℕ → ℕ → EventCall → Type 0
BeginsNotifyOf s pair party n c = (x : Notify) → c ≡ a_notify x → BeginsNotify s pair party n x.id s.events.session.begun

abbrev pub IsOneLine : ScriptState → Pair → EventLine → Type 0
IsOneLine s pair (listen p k name max) = PrintsNone pair.1
IsOneLine s pair (begin_on p n c) = PrintsNone pair.1 × BeginsNotifyOf s pair p n c
IsOneLine s pair (step_of p a b) = PrintsStep s pair p a b
IsOneLine s pair (expire_of p) = PrintsNone pair.1
IsOneLine s pair (abandon_of p) = PrintsNone pair.1
IsOneLine s pair (release_of n) = PrintsNone pair.1
IsOneLine s pair (notifiers_of n k) = PrintsNone pair.1

-- it is one line at most
abbrev pub AreLines : ScriptState → Pair → List EventLine → Type 0
AreLines s pair [] = PrintsNone pair.1
AreLines s pair (l ∷ []) = IsOneLine s pair l
AreLines s pair (l ∷ m ∷ ls) = ⊥

boards_print_none : (a : ScriptAnswer) (b : Answer) → a ≡ of_boards b → PrintsNone a
boards_print_none a b e k name x c told f = let g = sym e ∙ f in cc

asks_print_none : (a : ScriptAnswer) (r : EventReply) → a ≡ of_ask r → PrintsNone a
asks_print_none a r e k name x c told f = let g = sym e ∙ f in cc

expiries_print_none : (a : ScriptAnswer) → a ≡ expired → PrintsNone a
expiries_print_none a e k name x c told f = let g = sym e ∙ f in cc

-- the task of a request that is a notify
notify_id : (b : Bool) (id max : ℕ) → (if b then notify_bits id max else notify_queue id).id ≡ id
notify_id true id max = refl
notify_id false id max = refl

task_parts : (m n : ℕ) (c d : EventCall) → Some (act m c) ≡ Some (act n d) → (m ≡ n) × (c ≡ d)
task_parts m n c d e = (cc, cc)

no_ask : (q : EventAsk) (n : ℕ) (c : EventCall) → Some (ask q) ≡ Some (act n c) → ⊥
no_ask q n c e = cc

same_notify : (x y : Notify) → a_notify x ≡ a_notify y → x ≡ y
same_notify x y e = cc

notify_begins : (s : ScriptState) (party name : List ℕ) (id n : ℕ) (x : Notify) (o : Option EventThing) → s.events.things party name ≡ o → and_then (notified o) (on_event s.events (λ e. notify_call e id)) ≡ Some (act n (a_notify x)) → (s.events.things party name ≡ Some (notifier n)) × (x.id ≡ id)
notify_begins s party name id n x None holds e = absurd (none_some _ e)
notify_begins s party name id n x (Some (listener m)) holds e = absurd (none_some _ e)
notify_begins s party name id n x (Some (notifier m)) holds e = at (event_of s.events.session.stands m) e
  where
    at : (o : Option Event) → and_then o (λ e. Some (act m (notify_call e id))) ≡ Some (act n (a_notify x)) → (s.events.things party name ≡ Some (notifier n)) × (x.id ≡ id)
    at None f = absurd (none_some _ f)
    at (Some e) f =
        let w = task_parts m n (notify_call e id) (a_notify x) f in
        (holds ∙ ap (λ (k : ℕ). Some (notifier k)) w.0, ap (λ (y : Notify). y.id) (sym (same_notify _ x w.1)) ∙ notify_id (is_bits e.kind) id e.max)

wait_begins_none : (x : ScriptEvents) (call : Event → EventCall) (o : Option ℕ) (n : ℕ) (c : Notify) → ((e : Event) → call e ≡ a_notify c → ⊥) → and_then o (on_event x call) ≡ Some (act n (a_notify c)) → ⊥
wait_begins_none x call None n c quiet e = none_some _ e
wait_begins_none x call (Some m) n c quiet e = at (event_of x.session.stands m) e
  where
    at : (o : Option Event) → and_then o (λ e. Some (act m (call e))) ≡ Some (act n (a_notify c)) → ⊥
    at None f = none_some _ f
    at (Some e) f = quiet e (task_parts m n (call e) (a_notify c) f).1

no_wait : (e : Event) (many : Bool) (m : WaitMode) (c : Notify) → wait_call e many m ≡ a_notify c → ⊥
no_wait e many m c f = cc

request_begins : (s : ScriptState) (l : ScriptLine) (a : ScriptAnswer) (party : List ℕ) (q : EventRequest) (n : ℕ) (c : EventCall) → l ≡ line.Event party q → task_of s.events party q ≡ Some (act n c) → a ≡ of_boards answer.Begun → BeginsNotifyOf s (l, a) party n c
request_begins s l a party q n c is t begun x same = by q is (subst (λ (d : EventCall). task_of s.events party q ≡ Some (act n d)) same t)
  where
    by : (q : EventRequest) → l ≡ line.Event party q → task_of s.events party q ≡ Some (act n (a_notify x)) → BeginsNotify s (l, a) party n x.id s.events.session.begun
    by (request.ListenBits name event max) e f = absurd (no_ask _ n (a_notify x) f)
    by (request.ListenQueue name event) e f = absurd (no_ask _ n (a_notify x) f)
    by (request.Notifier name k event) e f = absurd (no_ask _ n (a_notify x) f)
    by (request.Notify name id) e f =
        let w = notify_begins s party name id n x (s.events.things party name) refl f in
        record {
          name = name;
          holds = w.0;
          is = ap (λ (k : ScriptLine). (k, a)) e ∙ ap (λ (b : ScriptAnswer). (line.Event party (request.Notify name id), b)) begun ∙ ap (λ (k : ℕ). (line.Event party (request.Notify name k), of_boards answer.Begun)) (sym w.1);
          number_is = refl;
        }
    by (request.Wait name many m) e f = absurd (wait_begins_none s.events (λ e. wait_call e many m) (listened_event (s.events.things party name)) n x (λ e. no_wait e many m x) f)

-- one line or none, of those that print no access
if_lines : (s : ScriptState) (pair : Pair) (b : Bool) (xs ys : List EventLine) → AreLines s pair xs → AreLines s pair ys → AreLines s pair (if b then xs else ys)
if_lines s pair true xs ys f g = f
if_lines s pair false xs ys f g = g

notifier_lines : (s : ScriptState) (pair : Pair) (n : ℕ) (o : Option Event) → PrintsNone pair.1 → AreLines s pair (notifier_line n o)
notifier_lines s pair n None quiet = quiet
notifier_lines s pair n (Some e) quiet = if_lines s pair e.held (notifiers_of n (e.notifiers + 1) ∷ []) [] quiet quiet

opened_lines : (s : ScriptState) (pair : Pair) (o : Option ℕ) → PrintsNone pair.1 → AreLines s pair (opened_line s.events o)
opened_lines s pair None quiet = quiet
opened_lines s pair (Some n) quiet = notifier_lines s pair n (event_of s.events.session.stands n) quiet

ask_lines : (s : ScriptState) (pair : Pair) (party : List ℕ) (q : EventAsk) → PrintsNone pair.1 → AreLines s pair (ask_line s.events party q)
ask_lines s pair party (to_listen name k event max) quiet = if_lines s pair (is_some (s.events.names k event)) [] (listen party k event max ∷ []) quiet quiet
ask_lines s pair party (to_notify name k event) quiet = opened_lines s pair (s.events.names k event) quiet

access_lines : (s : ScriptState) (l : ScriptLine) (party : List ℕ) (d : PartyCall) (a : ScriptAnswer) (o : Option Event) → l ≡ line.Board (board_line.Step party) → s.events.session.doing party ≡ Some d → IsSomeAnd o (λ e. IsEventAccess e d.call a) → AreLines s (l, a) (step_line s.events party None a)
access_lines s l party d a None is runs ok = absurd ok
access_lines s l party d a (Some e) is runs ok =
    subst (λ (b : ScriptAnswer). AreLines s (l, b) (step_line s.events party None b)) (sym ok.printed)
    (record { call = d; kind = e.kind; name = e.name; told = _; runs = runs; steps = is; prints = refl })

step_lines : (s : ScriptState) (l : ScriptLine) (party : List ℕ) (a : ScriptAnswer) (o : Option EventAsk) (d : Option PartyCall) → l ≡ line.Board (board_line.Step party) → s.events.session.doing party ≡ d → IsStepOf s.events o d a → AreLines s (l, a) (step_line s.events party o a)
step_lines s l party a (Some q) d is runs ok = ask_lines s (l, a) party q (asks_print_none a _ ok)
step_lines s l party a None None is runs ok = absurd ok
step_lines s l party a None (Some d) is runs ok = access_lines s l party d a (event_of s.events.session.stands d.on) is runs ok

let_go_lines : (s : ScriptState) (pair : Pair) (t : EventThing) (o : Option Event) → PrintsNone pair.1 → AreLines s pair (let_go_line t o)
let_go_lines s pair (listener n) None quiet = quiet
let_go_lines s pair (notifier n) None quiet = quiet
let_go_lines s pair (listener n) (Some e) quiet = quiet
let_go_lines s pair (notifier n) (Some e) quiet = quiet

drop_lines : (s : ScriptState) (pair : Pair) (o : Option EventThing) → PrintsNone pair.1 → AreLines s pair (drop_line s.events o)
drop_lines s pair None quiet = quiet
drop_lines s pair (Some t) quiet = let_go_lines s pair t (event_of s.events.session.stands (event_number t)) quiet

end_lines : (s : ScriptState) (pair : Pair) (l : Line) (a : Answer) → PrintsNone pair.1 → AreLines s pair (end_line l a)
end_lines s pair (board_line.Abandon party) answer.Gone quiet = quiet
end_lines s pair l a quiet = quiet

lines_by : (s : ScriptState) (l : ScriptLine) (a : ScriptAnswer) (o : Option EventTurn) → IsTurnOf s l o → IsRuled s l a o → AreLines s (l, a) (event_line o s.events l a)
lines_by s l a (Some (refused why)) is ok = boards_print_none a _ ok
lines_by s l a (Some (begins party (ask q))) is ok = boards_print_none a _ ok
lines_by s l a (Some (begins party (act n c))) is ok = (boards_print_none a _ ok, request_begins s l a party is.0 n c is.1 is.2 ok)
lines_by s l a (Some (steps party)) is ok = step_lines s l party a (s.events.asked party) (s.events.session.doing party) is refl ok
lines_by s l a (Some (drops party name)) is ok = drop_lines s (l, a) (s.events.things party name) (boards_print_none a _ ok)
lines_by s l a (Some (expires party)) is ok = expiries_print_none a ok
lines_by s (line.Board l) a None is ok =
    subst (λ (b : ScriptAnswer). AreLines s (line.Board l, b) (event_line None s.events (line.Board l) b)) (sym ok.is) (end_lines s (line.Board l, of_boards ok.answer) l ok.answer (boards_print_none _ _ refl))
lines_by s (line.Event party q) a None is ok = absurd ok
lines_by s (line.Expire party) a None is ok = absurd ok

-- the lines of events that a pair is
abbrev pub lines_of : ScriptState → Pair → List EventLine
lines_of s pair = event_line (turn_of s pair.0) s.events pair.0 pair.1

-- ---- with one pair more

-- what is known of the last pair of a lawful session
pub record IsLastPair (done : Session) (pair : Pair) : Type 0 where
  pub before : IsLawful done
  pub sound : IsSoundScript (state_met done) (0 + length done)
  pub lines : AreLines (state_met done) pair (lines_of (state_met done) pair)

pub last_pair : (done : Session) (pair : Pair) → IsLawful (done ++ pair ∷ []) → IsLastPair done pair
last_pair done pair ok =
    let w = lawful_split done (pair ∷ []) start ok in
    let s : ScriptState = state_met done in
    record {
      before = w.0;
      sound = sound_at done w.0;
      lines = lines_by s pair.0 pair.1 (turn_of s pair.0) (turn_is s pair.0) (ruled s pair.0 pair.1 w.1.0);
    }

part_push : (xs : Session) (s : ScriptState) (pair : Pair) → event_part s (xs ++ pair ∷ []) ≡ lines_of (state_after s xs) pair ++ event_part s xs
part_push [] s pair = sym (append-nil (lines_of s pair))
part_push (x ∷ xs) s pair =
    ap (λ (ls : List EventLine). ls ++ lines_of s x) (part_push xs (after s x.0 x.1) pair)
    ∙ append_assoc (lines_of (state_after (after s x.0 x.1) xs) pair) (event_part (after s x.0 x.1) xs) (lines_of s x)

-- the events' part, where the pair is these lines
pub part_more : (done : Session) (pair : Pair) (ls : List EventLine) → lines_of (state_met done) pair ≡ ls → event_part start (done ++ pair ∷ []) ≡ ls ++ event_part start done
part_more done pair ls e = part_push done start pair ∙ ap (λ (xs : List EventLine). xs ++ event_part start done) e

-- ---- the moves of a pair on one event

-- no access
abbrev pub IsNoStep : EventMove → Type 0
IsNoStep (begin p c) = ⊤
IsNoStep (step p a b) = ⊥
IsNoStep (expire p) = ⊤
IsNoStep (abandon p) = ⊤
IsNoStep release_listener = ⊤
IsNoStep (notifiers n) = ⊤
IsNoStep elsewhere = ⊤

abbrev pub AreNoSteps : List EventMove → Type 0
AreNoSteps [] = ⊤
AreNoSteps (m ∷ ms) = IsNoStep m × AreNoSteps ms

-- the pair takes this access of the event
pub record TakesOn (s : ScriptState) (pair : Pair) (n : ℕ) (ms : List EventMove) : Type 0 where
  pub party : List ℕ
  pub call : RunningCall
  pub access : EventAccess
  pub answer : EventAnswer
  pub told : Option EventReply
  pub takes : TakesAccess s pair party n call access answer told
  pub moves : ms ≡ step party access answer ∷ []

-- or none
pub record TakesNone (s : ScriptState) (pair : Pair) (n : ℕ) (ms : List EventMove) : Type 0 where
  pub moves : AreNoSteps ms
  pub none : (party : List ℕ) (call : RunningCall) (a : EventAccess) (b : EventAnswer) (told : Option EventReply) → TakesAccess s pair party n call a b told → ⊥

if_moves : (b : Bool) (xs ys : List EventMove) → AreNoSteps xs → AreNoSteps ys → AreNoSteps (if b then xs else ys)
if_moves true xs ys f g = f
if_moves false xs ys f g = g

if_move : (b : Bool) (x y : EventMove) → IsNoStep x → IsNoStep y → IsNoStep (if b then x else y)
if_move true x y f g = f
if_move false x y f g = g

none_of : (s : ScriptState) (pair : Pair) (n : ℕ) (ms : List EventMove) → AreNoSteps ms → PrintsNone pair.1 → TakesNone s pair n ms
none_of s pair n ms still quiet = record { moves = still; none = λ party call a b told t. quiet t.kind t.name a b told t.prints }

same_party : (p q : List ℕ) → line.Board (board_line.Step p) ≡ line.Board (board_line.Step q) → p ≡ q
same_party p q e = cc

line_moves : (s : ScriptState) (count : ℕ) (pair : Pair) (n : ℕ) (l : EventLine) → AreSoundEvents s.events count → IsOneLine s pair l → TakesOn s pair n (moves_of n s.events.session l) ⊎ TakesNone s pair n (moves_of n s.events.session l)
line_moves s count pair n (listen p k name max) sound h = inr (none_of s pair n _ (if_moves (is_some (s.events.session.stands n)) [] [] tt tt) h)
line_moves s count pair n (begin_on p m c) sound h =
    inr (none_of s pair n _ (if_moves (is_some (s.events.session.stands n)) ((if m == n then begin p c else elsewhere) ∷ []) (elsewhere ∷ []) (if_move (m == n) (begin p c) elsewhere tt tt, tt) (tt, tt)) h.0)
line_moves s count pair n (step_of p a b) sound h =
    let x : EventSession = s.events.session in
    let d : PartyCall = h.call in
    elim (either (eqb d.on n)) [
      | inl same ↦ (
          let e : d.on ≡ n = eqb_true d.on n same in
          let there = call_stands s.events count sound p d h.runs in
          let stands : is_some (x.stands n) ≡ true = ap (λ (m : ℕ). is_some (x.stands m)) (sym e) ∙ ap (λ (o : Option StandingEvent). is_some o) there.1 in
          let on : is_on n (x.doing p) ≡ true = ap (is_on n) h.runs ∙ same in
          inl (record {
            party = p;
            call = d.call;
            access = a;
            answer = b;
            told = h.told;
            takes = record { kind = h.kind; name = h.name; runs = h.runs ∙ ap (λ (m : ℕ). Some (record { on = m; call = d.call })) e; steps = h.steps; prints = h.prints };
            moves = ap (λ (z : Bool). if z then (if is_on n (x.doing p) then step p a b ∷ [] else []) else []) stands ∙ ap (λ (z : Bool). if z then step p a b ∷ [] else []) on;
          }))
      | inr apart ↦ (
          let off : is_on n (x.doing p) ≡ false = ap (is_on n) h.runs ∙ apart in
          inr (record {
            moves = subst (λ (z : Bool). AreNoSteps (if is_some (x.stands n) then (if z then step p a b ∷ [] else []) else [])) (sym off) (if_moves (is_some (x.stands n)) [] [] tt tt);
            none = λ party call c f told t.
                let who : party ≡ p = same_party party p (sym t.steps ∙ h.steps) in
                let one : d ≡ record { on = n; call = call } = some_same d _ (sym h.runs ∙ ap x.doing (sym who) ∙ t.runs) in
                false≢true (sym apart ∙ ap (λ (y : PartyCall). eqb y.on n) one ∙ eqb_self n);
          }))
    ]
line_moves s count pair n (expire_of p) sound h =
    inr (none_of s pair n _ (if_moves (is_some (s.events.session.stands n)) (if is_on n (s.events.session.doing p) then expire p ∷ [] else []) [] (if_moves (is_on n (s.events.session.doing p)) (expire p ∷ []) [] (tt, tt) tt) tt) h)
line_moves s count pair n (abandon_of p) sound h = inr (none_of s pair n _ (if_moves (is_some (s.events.session.stands n)) (abandon p ∷ []) [] (tt, tt) tt) h)
line_moves s count pair n (release_of m) sound h =
    inr (none_of s pair n _ (if_moves (is_some (s.events.session.stands n)) (if m == n then release_listener ∷ [] else []) [] (if_moves (m == n) (release_listener ∷ []) [] (tt, tt) tt) tt) h)
line_moves s count pair n (notifiers_of m k) sound h =
    inr (none_of s pair n _ (if_moves (is_some (s.events.session.stands n)) (if m == n then notifiers k ∷ [] else []) [] (if_moves (m == n) (notifiers k ∷ []) [] (tt, tt) tt) tt) h)

-- the moves on an event with one pair more
pub record PairMoves (done : Session) (pair : Pair) (n : ℕ) : Type 0 where
  pub moves : List EventMove
  pub is : moves_in n (done ++ pair ∷ []) ≡ moves ++ moves_in n done
  pub what : TakesOn (state_met done) pair n moves ⊎ TakesNone (state_met done) pair n moves

pub pair_moves : (done : Session) (pair : Pair) (n : ℕ) → IsLawful (done ++ pair ∷ []) → PairMoves done pair n
pair_moves done pair n ok =
    let k = last_pair done pair ok in
    at (lines_of (state_met done) pair) refl k.lines k
  where
    at : (ls : List EventLine) → lines_of (state_met done) pair ≡ ls → AreLines (state_met done) pair ls → IsLastPair done pair → PairMoves done pair n
    at [] e h k = record { moves = []; is = ap (moves_on n) (part_more done pair [] e); what = inr (none_of (state_met done) pair n [] tt h) }
    at (l ∷ []) e h k = record {
      moves = moves_of n (state_met done).events.session l;
      is = ap (moves_on n) (part_more done pair (l ∷ []) e) ∙ ap (λ (x : EventSession). moves_of n x l ++ moves_in n done) (events_law_holds done k.before).state;
      what = line_moves (state_met done) (0 + length done) pair n l k.sound.events h;
    }
    at (l ∷ m ∷ ls) e h k = absurd h

-- ---- along a session

-- what stays with each pair goes on along a lawful session
pub along_from : (P : Session → Type 0) → ((done : Session) (pair : Pair) → IsLawful (done ++ pair ∷ []) → P done → P (done ++ pair ∷ [])) → (rest done : Session) → IsLawful (done ++ rest) → P done → P (done ++ rest)
along_from P more [] done ok h = subst P (sym (append-nil done)) h
along_from P more (pair ∷ rest) done ok h =
    let e : (done ++ pair ∷ []) ++ rest ≡ done ++ pair ∷ rest = append_assoc done (pair ∷ []) rest in
    let all : IsLawful ((done ++ pair ∷ []) ++ rest) = subst IsLawful (sym e) ok in
    subst P e (along_from P more rest (done ++ pair ∷ []) all (more done pair (lawful_split (done ++ pair ∷ []) rest start all).0 h))

-- and where it holds at the start it holds of each
pub along : (P : Session → Type 0) → P [] → ((done : Session) (pair : Pair) → IsLawful (done ++ pair ∷ []) → P done → P (done ++ pair ∷ [])) → (pairs : Session) → IsLawful pairs → P pairs
along P none more pairs ok = along_from P more pairs [] ok none
