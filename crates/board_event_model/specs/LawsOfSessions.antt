-- What of a session concerns an event is a run of the session's own moves on it, so that the laws of runs hold in every session.
use Rattle.std.specs.Prelude.{◌≡◌, ℕ, List, Some}
use Rattle.board_event_model.specs.EventRuns.{IsReachedBy}
use Rattle.board_event_model.specs.EventSessions.{EventLine, IsEventSession, StandingEvent, moves_on, session_of, view}

-- in every session, the moves of its own lines on an event are a run from a listen, which leads to what the session has of the
-- event:
-- so each law of the moves of a run, and each of what a run has led to, holds of every event of every session
abbrev pub SessionLaw : Type 0
SessionLaw = (lines : List EventLine) → IsEventSession lines → (n : ℕ) (st : StandingEvent) → (session_of lines).stands n ≡ Some st
    → IsReachedBy (moves_on n lines) (view (session_of lines) n st)
