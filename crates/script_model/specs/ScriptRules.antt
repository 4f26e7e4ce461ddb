-- The rules of an answer, for the lines of boards and of events alike: reason, owed, word, event, reply.
use Rattle.std.specs.Prelude.{◌≡◌, IsSomeAnd, Option, Some, None}
use Rattle.board_cell_model.specs.declared.access.Access.TheVariants as access
use Rattle.board_event_model.specs.declared.access.EventAnswer.{EventAnswer}
use Rattle.board_event_model.specs.EventMemory as event
use Rattle.board_event_model.specs.EventMemory.{Event}
use Rattle.board_event_model.specs.EventCalls.{RunningCall, call_of, owed, turn}
use Rattle.board_event_model.specs.EventSessions.{PartyCall, event_of}
use Rattle.board_model.specs.declared.answer.Answer.{Answer}
use Rattle.board_model.specs.declared.answer.Answer.TheVariants as answer
use Rattle.board_model.specs.declared.answer.Reason.{Reason}
use Rattle.board_model.specs.declared.answer.Reply.TheVariants as reply
use Rattle.board_model.specs.LawfulSession as boards
use Rattle.script_model.specs.declared.line.ScriptLine.{ScriptLine}
use Rattle.script_model.specs.declared.line.ScriptLine.TheVariants as line
use Rattle.script_model.specs.declared.reply.EventReply.{EventReply}
use Rattle.script_model.specs.ScriptAnswers.{ScriptAnswer, expired, of_ask, of_boards, of_event}
use Rattle.script_model.specs.ScriptEvents.{EventAsk, ScriptEvents, ask_told, step_told}
use Rattle.script_model.specs.ScriptTurns.{EventTurn, ScriptState, begins, drops, expires, refused, steps, turn_of}

-- ---- reasons

-- why an event's turn changes nothing
abbrev pub turn_reason : EventTurn → Option Reason
turn_reason (refused why) = Some why
turn_reason t = None

-- why a line changes nothing, where it is this turn; none where it is accepted
abbrev pub reason_in_turn : ScriptState → ScriptLine → Option EventTurn → Option Reason
reason_in_turn s l (Some t) = turn_reason t
reason_in_turn s (line.Board l) None = boards.reason_of s.boards l
reason_in_turn s l None = None

-- why a line changes nothing
abbrev pub script_reason : ScriptState → ScriptLine → Option Reason
script_reason s l = reason_in_turn s l (turn_of s l)

-- refused with this reason exactly where the line has it
abbrev pub IsReasoned : Option Reason → ScriptAnswer → Type 0
IsReasoned (Some why) a = a ≡ of_boards (answer.Refused why)
IsReasoned None (of_boards (answer.Refused why)) = ⊥
IsReasoned None a = Unit {0}

-- ---- the form of the line, and the access that is owed

-- the access that the call owes to this event, whatever is answered and told
pub record IsOwedAccess (e : Event) (r : RunningCall) (a : ScriptAnswer) : Type 0 where
  pub answer : EventAnswer
  pub told : Option EventReply
  pub printed : a ≡ of_event e.kind e.name (owed (call_of r)) answer told

-- the step of what a party runs on events
abbrev pub IsOwedStep : ScriptEvents → Option EventAsk → Option PartyCall → ScriptAnswer → Type 0
IsOwedStep x (Some q) d a = (r : EventReply) × (a ≡ of_ask r)
IsOwedStep x None None a = ⊥
IsOwedStep x None (Some d) a = IsSomeAnd (event_of x.session.stands d.on) (λ e. IsOwedAccess e d.call a)

-- an answer of boards, of which this holds
abbrev pub OfBoards : (Answer → Type 0) → ScriptAnswer → Type 0
OfBoards P (of_boards a) = P a
OfBoards P a = ⊥

-- the answer to an accepted line has the line's form, and a step makes the access that is owed
abbrev pub IsOwed : ScriptState → ScriptLine → Option EventTurn → ScriptAnswer → Type 0
IsOwed s l (Some (refused why)) a = Unit {0}
IsOwed s l (Some (begins party t)) a = a ≡ of_boards answer.Begun
IsOwed s l (Some (steps party)) a = IsOwedStep s.events (s.events.asked party) (s.events.session.doing party) a
IsOwed s l (Some (drops party name)) a = a ≡ of_boards (answer.Step access.Table (Some reply.Done))
IsOwed s l (Some (expires party)) a = a ≡ expired
IsOwed s (line.Board l) None a = OfBoards (boards.IsOwed s.boards l) a
IsOwed s l None a = ⊥

-- ---- words, events and replies

-- a word that is read, and words that are listed, are those that stand
abbrev pub IsWord : ScriptState → ScriptLine → Option EventTurn → ScriptAnswer → Type 0
IsWord s l (Some t) a = Unit {0}
IsWord s (line.Board l) None (of_boards a) = boards.IsWord s.boards l a
IsWord s l None a = Unit {0}

-- what the event of a call answers is what it holds
abbrev pub IsOfEvent : ScriptEvents → Option PartyCall → ScriptAnswer → Type 0
IsOfEvent x (Some d) (of_event k name y b told) = IsSomeAnd (event_of x.session.stands d.on) (λ e. event.IsRight e y b)
IsOfEvent x d a = Unit {0}

-- the rule on events, for the step of a party
abbrev pub IsEvent : ScriptState → Option EventTurn → ScriptAnswer → Type 0
IsEvent s (Some (steps party)) a = IsOfEvent s.events (s.events.session.doing party) a
IsEvent s t a = Unit {0}

-- a reply to a step on events is there exactly where it is due, and is the one that is due
abbrev pub IsDueReply : ScriptEvents → Option EventAsk → Option PartyCall → ScriptAnswer → Type 0
IsDueReply x (Some q) d (of_ask r) = r ≡ ask_told x q
IsDueReply x None (Some d) (of_event k name y b told) = told ≡ step_told d.call (turn (call_of d.call) b).0
IsDueReply x q d a = Unit {0}

-- and so is one to a step on boards
abbrev pub IsReplied : ScriptState → ScriptLine → Option EventTurn → ScriptAnswer → Type 0
IsReplied s l (Some (steps party)) a = IsDueReply s.events (s.events.asked party) (s.events.session.doing party) a
IsReplied s l (Some t) a = Unit {0}
IsReplied s (line.Board l) None (of_boards a) = boards.IsReplied s.boards l a
IsReplied s l None a = Unit {0}
