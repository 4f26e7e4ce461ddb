-- Monitored names, and what their calls answer.
use Rattle.std.specs.Prelude.{ℕ, List, Option, Some, None, Result, Ok, Err, is_some, if◌then◌else◌}
use Rattle.board_names.specs.Concept.{Named, Placed, path_of, placed}
use Rattle.board_names.specs.Table.{at, putting, taking}
use Rattle.board_layout.specs.Answer.{with_value}
use Rattle.board_monitoring.specs.declared.monitors.Life.{Life}
use Rattle.board_monitoring.specs.declared.monitors.Life.TheVariants.{Alive, Dead, OwnedByCleaner}
use Rattle.board_monitoring.specs.declared.monitoring.State.{State}
use Rattle.board_monitoring.specs.declared.monitoring.State.TheVariants.{Alive as SeenAlive, Dead as SeenDead, DoesNotExist as NotSeen}
use Rattle.board_names.specs.declared.errors.monitoring.MonitoringCreateTokenError.{MonitoringCreateTokenError}
use Rattle.board_names.specs.declared.errors.monitoring.MonitoringCreateTokenError.TheVariants.{AlreadyExists}
use Rattle.board_names.specs.declared.errors.monitoring.MonitoringCreateCleanerError.{MonitoringCreateCleanerError}
use Rattle.board_names.specs.declared.errors.monitoring.MonitoringCreateCleanerError.TheVariants.{InstanceStillAlive, AlreadyOwnedByAnotherInstance, DoesNotExist}

-- monitored names
abbrev pub Lives : Type 0
Lives = List (List ℕ × Life)

-- the names with this one dead, where it is held
abbrev pub marked : Lives → List ℕ → Lives
marked lives name = if is_some (at lives name) then putting lives name Dead else lives

-- the names with one of them claimed, by what stands there
abbrev pub claimed_by : Lives → List ℕ → Option Life → Lives
claimed_by lives name (Some Dead) = putting lives name OwnedByCleaner
claimed_by lives name (Some Alive) = lives
claimed_by lives name (Some OwnedByCleaner) = lives
claimed_by lives name None = lives

-- the names after a cleaner asked for one of them
abbrev pub claimed : Lives → List ℕ → Lives
claimed lives name = claimed_by lives name (at lives name)

-- what a monitor sees, by what stands there
abbrev pub state_of : Option Life → State
state_of None = NotSeen
state_of (Some Alive) = SeenAlive
state_of (Some Dead) = SeenDead
state_of (Some OwnedByCleaner) = SeenDead

-- what `token` answers
abbrev pub token_answer : Option Life → Result (Unit {0}) MonitoringCreateTokenError
token_answer = taking tt AlreadyExists

-- what `cleaner` answers
abbrev pub cleaner_answer : Option Life → Result (Unit {0}) MonitoringCreateCleanerError
cleaner_answer None = Err DoesNotExist
cleaner_answer (Some Alive) = Err InstanceStillAlive
cleaner_answer (Some OwnedByCleaner) = Err AlreadyOwnedByAnotherInstance
cleaner_answer (Some Dead) = Ok tt

-- what a builder's `token` answers over these names
abbrev pub token_of : Named → Lives → Result Placed MonitoringCreateTokenError
token_of asked lives = taking (placed asked) AlreadyExists (at lives (path_of asked))

-- what a builder's `cleaner` answers over these names
abbrev pub cleaner_of : Named → Lives → Result Placed MonitoringCreateCleanerError
cleaner_of asked lives = with_value (λ u. placed asked) (cleaner_answer (at lives (path_of asked)))
