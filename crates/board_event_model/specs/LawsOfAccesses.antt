-- A running call can take the access that it owes.
use Rattle.std.specs.Prelude.{◌≡◌, ◌-◌, ◌<◌, ◌^◌, length, Some}
use Rattle.board_event_model.specs.EventMemory.{CanPerform}
use Rattle.board_event_model.specs.EventCalls.{owed, PartyName, RunningCall, call_of}
use Rattle.board_event_model.specs.EventRuns.{Moment, IsReached}

-- the access that a running call owes can be made, while fewer than 2 ^ 64 - 1 accesses were taken
abbrev pub PerformLaw : Type 0
PerformLaw =
    (now : Moment) → IsReached now → length now.history < 2 ^ 64 - 1 →
    (p : PartyName) (r : RunningCall) → now.running p ≡ Some r → CanPerform now.event (owed (call_of r))
