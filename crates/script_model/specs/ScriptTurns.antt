-- What a line of a script is on account of events: refused, or a call on them, a step, a drop, an expiry.
use Rattle.std.specs.Prelude.{◌≡◌, ℕ, Bool, true, false, ◌&&◌, ◌||◌, if◌then◌else◌, List, Option, Some, None, is_some}
use Rattle.board_event_model.specs.EventCalls.{is_timed, call_of}
use Rattle.board_event_model.specs.EventSessions.{PartyCall, begin_on, expire_of, next_session}
use Rattle.board_cell_model.specs.declared.access.Access.TheVariants as access
use Rattle.board_model.specs.declared.answer.Answer.TheVariants as answer
use Rattle.board_model.specs.declared.answer.Reason.{Reason}
use Rattle.board_model.specs.declared.answer.Reason.TheVariants as reason
use Rattle.board_model.specs.declared.answer.Reply.TheVariants as reply
use Rattle.board_model.specs.declared.line.Line.{Line}
use Rattle.board_model.specs.declared.line.Line.TheVariants as board_line
use Rattle.board_model.specs.Things.{is_held}
use Rattle.board_model.specs.Requests.{new_name, request_of}
use Rattle.board_model.specs.Parties.{Party, free, gone, running}
use Rattle.board_model.specs.LawfulSession.{State}
use Rattle.script_model.specs.declared.line.EventRequest.{EventRequest}
use Rattle.script_model.specs.declared.line.ScriptLine.{ScriptLine}
use Rattle.script_model.specs.declared.line.ScriptLine.TheVariants as line
use Rattle.script_model.specs.ScriptAnswers.{ScriptAnswer, expired, of_boards}
use Rattle.script_model.specs.ScriptEvents.{EventAsk, EventTask, IsStepOf, ScriptEvents, act, ask, event_let_go, holds_event, name_made, runs_on_events, step_made, task_of, with_ask}

-- after a session: what stands of boards and parties, and of events
pub record ScriptState : Type 0 where
  pub boards : State
  pub events : ScriptEvents

-- what a line is on account of events
pub data EventTurn : Type 0 where
  refused : Reason → EventTurn
  begins : (party : List ℕ) → EventTask → EventTurn
  steps : (party : List ℕ) → EventTurn
  drops : (party name : List ℕ) → EventTurn
  expires : (party : List ℕ) → EventTurn

-- ---- lines that boards and events share

-- the party holds a listener or notifier under the name, if there is one
abbrev pub takes_event_name : ScriptEvents → List ℕ → Option (List ℕ) → Bool
takes_event_name x party None = false
takes_event_name x party (Some name) = holds_event x party name

-- a free party's call on boards finds all that it uses, and the name for what it makes is that of a listener or notifier
abbrev pub begin_turn : Party → Bool → Option EventTurn
begin_turn free true = Some (refused reason.Taken)
begin_turn party taken = None

-- a free party drops a listener or notifier
abbrev pub drop_turn : Party → Bool → List ℕ → List ℕ → Option EventTurn
drop_turn free true party name = Some (drops party name)
drop_turn is held party name = None

-- what a line of boards is on account of events; none where it is the boards' alone
abbrev pub board_turn : ScriptState → Line → Option EventTurn
board_turn s (board_line.Begin party c) =
    if runs_on_events s.events party then Some (refused reason.Busy) else
    begin_turn (s.boards.parties party) (is_some (request_of s.boards.standing s.boards.published party c) && takes_event_name s.events party (new_name c))
board_turn s (board_line.Step party) = if runs_on_events s.events party then Some (steps party) else None
board_turn s (board_line.Release party name) =
    if runs_on_events s.events party then Some (refused reason.Busy) else
    drop_turn (s.boards.parties party) (holds_event s.events party name) party name
board_turn s l = None

-- ---- lines of events

-- the party holds something under the name, if there is one
abbrev pub is_name_taken : ScriptState → List ℕ → Option (List ℕ) → Bool
is_name_taken s party None = false
is_name_taken s party (Some name) = is_held s.boards.standing party name || holds_event s.events party name

-- a free party's call on events, which is refused where something that it uses isn't held, or the name for what it makes is
abbrev pub task_turn : ScriptState → List ℕ → EventRequest → Option EventTask → EventTurn
task_turn s party q None = refused reason.Unknown
task_turn s party q (Some t) = if is_name_taken s party (name_made q) then refused reason.Taken else begins party t

-- a line that only a free party may have
abbrev pub free_turn : Party → EventTurn → EventTurn
free_turn free turn = turn
free_turn (running r) turn = refused reason.Busy
free_turn gone turn = refused reason.Abandoned

-- a call on events
abbrev pub request_turn : ScriptState → List ℕ → EventRequest → EventTurn
request_turn s party q =
    if runs_on_events s.events party then refused reason.Busy else
    free_turn (s.boards.parties party) (task_turn s party q (task_of s.events party q))

-- a timed wait may expire where its last step was a waiting look that found nothing
abbrev pub may_expire : PartyCall → Bool
may_expire d = is_timed (call_of d.call) && d.call.waited

-- the expiry of a party's call on events
abbrev pub expire_of_call : List ℕ → Option EventAsk → Option PartyCall → EventTurn
expire_of_call party (Some q) d = refused reason.NotWaiting
expire_of_call party None None = refused reason.Idle
expire_of_call party None (Some d) = if may_expire d then expires party else refused reason.NotWaiting

-- the expiry of whatever a party runs
abbrev pub expire_turn : ScriptState → List ℕ → Party → EventTurn
expire_turn s party free = expire_of_call party (s.events.asked party) (s.events.session.doing party)
expire_turn s party (running r) = refused reason.NotWaiting
expire_turn s party gone = refused reason.Abandoned

-- what a line is on account of events; none where it is the boards' alone
abbrev pub turn_of : ScriptState → ScriptLine → Option EventTurn
turn_of s (line.Board l) = board_turn s l
turn_of s (line.Event party q) = Some (request_turn s party q)
turn_of s (line.Expire party) = Some (expire_turn s party (s.boards.parties party))

-- ---- the right answer, and what follows

-- the answer to such a line
abbrev pub IsTurnAnswer : ScriptEvents → EventTurn → ScriptAnswer → Type 0
IsTurnAnswer x (refused why) a = a ≡ of_boards (answer.Refused why)
IsTurnAnswer x (begins party t) a = a ≡ of_boards answer.Begun
IsTurnAnswer x (steps party) a = IsStepOf x (x.asked party) (x.session.doing party) a
IsTurnAnswer x (drops party name) a = a ≡ of_boards (answer.Step access.Table (Some reply.Done))
IsTurnAnswer x (expires party) a = a ≡ expired

-- a call on events that has begun
abbrev pub task_begun : ScriptEvents → List ℕ → EventTask → ScriptEvents
task_begun x party (ask q) = record x { asked = with_ask x.asked party (Some q) }
task_begun x party (act n c) = record x { session = next_session x.session (begin_on party n c) }

-- the events after such a line was answered so
abbrev pub turned : ScriptEvents → EventTurn → ScriptAnswer → ScriptEvents
turned x (refused why) a = x
turned x (begins party t) a = task_begun x party t
turned x (steps party) a = step_made x party (x.asked party) a
turned x (drops party name) a = event_let_go x party name (x.things party name)
turned x (expires party) a = record x { session = next_session x.session (expire_of party) }
