-- The boards' part of a lawful session is a lawful session of boards, the events' part is a session of events, and each event's
-- part is a run.
use Rattle.std.specs.Prelude.{◌≡◌, ℕ, ◌≤◌, length, Some}
use Rattle.board_event_model.specs.EventRuns.{IsReachedBy}
use Rattle.board_event_model.specs.EventSessions.{IsEventSession, StandingEvent, moves_on, session_of, view}
use Rattle.board_model.specs.LawfulSession as boards
use Rattle.script_model.specs.ScriptTurns.{ScriptState}
use Rattle.script_model.specs.ScriptSession.{IsLawful, IsLawfulFrom, Session, start, state_after}
use Rattle.script_model.specs.Parts.{board_part, event_part}

-- the boards' part is lawful, leads to the boards of the whole session, and has no more lines
pub record IsBoardPart (pairs : Session) : Type 0 where
  pub lawful : boards.IsLawful (board_part start pairs)
  pub state : boards.state_after boards.start (board_part start pairs) ≡ (state_after start pairs).boards
  pub short : length (board_part start pairs) ≤ length pairs

-- so all laws of sessions of boards hold of the boards' part of a script
abbrev pub BoardsLaw : Type 0
BoardsLaw = (pairs : Session) → IsLawful pairs → IsBoardPart pairs

-- the same of a session that goes on from any state
pub record IsBoardPartFrom (s : ScriptState) (pairs : Session) : Type 0 where
  pub lawful : boards.IsLawfulFrom s.boards (board_part s pairs)
  pub state : boards.state_after s.boards (board_part s pairs) ≡ (state_after s pairs).boards
  pub short : length (board_part s pairs) ≤ length pairs

-- so all laws on how a session of boards goes on hold of the boards' part of what follows in a script
abbrev pub BoardsLawFrom : Type 0
BoardsLawFrom = (s : ScriptState) (pairs : Session) → IsLawfulFrom s pairs → IsBoardPartFrom s pairs

-- the events' part is a session of events, which leads to the events of the whole session. The moves of its lines on an event
-- are a run from a listen, which leads to what the session has of the event
pub record IsEventPart (pairs : Session) : Type 0 where
  pub allowed : IsEventSession (event_part start pairs)
  pub state : session_of (event_part start pairs) ≡ (state_after start pairs).events.session
  pub runs : (n : ℕ) (st : StandingEvent) → (state_after start pairs).events.session.stands n ≡ Some st
      → IsReachedBy (moves_on n (event_part start pairs)) (view (state_after start pairs).events.session n st)

-- so each law of sessions of events, each of the moves of a run, and each of what a run has led to, holds of every event of a
-- script
abbrev pub EventsLaw : Type 0
EventsLaw = (pairs : Session) → IsLawful pairs → IsEventPart pairs
