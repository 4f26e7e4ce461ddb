-- The boards' part of a session: the lines that are the boards' alone, with their answers. And the events' part: its lines as
-- those of a session of events.
use Rattle.std.specs.Prelude.{ℕ, ◌+◌, ◌-◌, if◌then◌else◌, List, [], ◌∷◌, ◌++◌, Option, Some, None, is_some}
use Rattle.board_event_model.specs.EventMemory.{Event}
use Rattle.board_event_model.specs.EventSessions.{EventLine, abandon_of, begin_on, event_of, expire_of, listen, notifiers_of, release_of, step_of}
use Rattle.board_model.specs.declared.answer.Answer.{Answer}
use Rattle.board_model.specs.declared.answer.Answer.TheVariants as answer
use Rattle.board_model.specs.declared.line.Line.{Line}
use Rattle.board_model.specs.declared.line.Line.TheVariants as board_line
use Rattle.board_model.specs.LawfulSession as boards
use Rattle.script_model.specs.declared.line.ScriptLine.{ScriptLine}
use Rattle.script_model.specs.declared.line.ScriptLine.TheVariants as line
use Rattle.script_model.specs.ScriptAnswers.{ScriptAnswer, of_boards, of_event}
use Rattle.script_model.specs.ScriptEvents.{EventAsk, EventThing, ScriptEvents, act, ask, event_number, listener, notifier, to_listen, to_notify}
use Rattle.script_model.specs.ScriptTurns.{EventTurn, ScriptState, begins, drops, expires, refused, steps, turn_of}
use Rattle.script_model.specs.ScriptSession.{Session, after}

-- a line of boards with its answer, where it is no turn of events
abbrev pub part_of : Option EventTurn → ScriptLine → ScriptAnswer → boards.Session
part_of None (line.Board l) (of_boards a) = (l, a) ∷ []
part_of turn l a = []

-- the part of a session from this state on that is the boards' alone
abbrev pub board_part : ScriptState → Session → boards.Session
board_part s [] = []
board_part s (pair ∷ pairs) = part_of (turn_of s pair.0) pair.0 pair.1 ++ board_part (after s pair.0 pair.1) pairs

-- ---- events

-- a notifier more of event n, where it has its listener
abbrev pub notifier_line : ℕ → Option Event → List EventLine
notifier_line n None = []
notifier_line n (Some e) = if e.held then notifiers_of n (e.notifiers + 1) ∷ [] else []

-- the same of the event that holds the name, if one does
abbrev pub opened_line : ScriptEvents → Option ℕ → List EventLine
opened_line x None = []
opened_line x (Some n) = notifier_line n (event_of x.session.stands n)

-- what was asked for, where it is made
abbrev pub ask_line : ScriptEvents → List ℕ → EventAsk → List EventLine
ask_line x party (to_listen name k event max) = if is_some (x.names k event) then [] else listen party k event max ∷ []
ask_line x party (to_notify name k event) = opened_line x (x.names k event)

-- a step: what the party asks for, or the access that the answer prints
abbrev pub step_line : ScriptEvents → List ℕ → Option EventAsk → ScriptAnswer → List EventLine
step_line x party (Some q) a = ask_line x party q
step_line x party None (of_event k name access answer told) = step_of party access answer ∷ []
step_line x party None a = []

-- a listener or notifier goes, where its event stands
abbrev pub let_go_line : EventThing → Option Event → List EventLine
let_go_line t None = []
let_go_line (listener n) (Some e) = release_of n ∷ []
let_go_line (notifier n) (Some e) = notifiers_of n (e.notifiers - 1) ∷ []

-- what the party holds under a name goes
abbrev pub drop_line : ScriptEvents → Option EventThing → List EventLine
drop_line x None = []
drop_line x (Some t) = let_go_line t (event_of x.session.stands (event_number t))

-- a turn of events that was answered so, as a line of their session, if it is one
abbrev pub turn_line : ScriptEvents → EventTurn → ScriptAnswer → List EventLine
turn_line x (refused why) a = []
turn_line x (begins party (ask q)) a = []
turn_line x (begins party (act n c)) a = begin_on party n c ∷ []
turn_line x (steps party) a = step_line x party (x.asked party) a
turn_line x (drops party name) a = drop_line x (x.things party name)
turn_line x (expires party) a = expire_of party ∷ []

-- of the lines of boards, the abandonment of a party is one
abbrev pub end_line : Line → Answer → List EventLine
end_line (board_line.Abandon party) answer.Gone = abandon_of party ∷ []
end_line l a = []

-- the line of the session of events that a line with its answer is, if it is one
abbrev pub event_line : Option EventTurn → ScriptEvents → ScriptLine → ScriptAnswer → List EventLine
event_line (Some t) x l a = turn_line x t a
event_line None x (line.Board l) (of_boards a) = end_line l a
event_line None x l a = []

-- the events' part of a session from this state on; as in sessions of events, the last line comes first
abbrev pub event_part : ScriptState → Session → List EventLine
event_part s [] = []
event_part s (pair ∷ pairs) = event_part (after s pair.0 pair.1) pairs ++ event_line (turn_of s pair.0) s.events pair.0 pair.1
