-- What typed calls answer, whatever the names behind their lock have come to.
use Rattle.std.specs.Prelude.{Result, Ok, Err, ⊤}
use Rattle.board_names.specs.declared.errors.monitoring.MonitoringCreateTokenError.{MonitoringCreateTokenError}
use Rattle.board_names.specs.declared.errors.monitoring.MonitoringCreateTokenError.TheVariants as token_error
use Rattle.board_names.specs.declared.errors.monitoring.MonitoringCreateCleanerError.{MonitoringCreateCleanerError}
use Rattle.board_names.specs.declared.errors.monitoring.MonitoringCreateCleanerError.TheVariants as cleaner_error

-- a name is taken, or refused for one of two reasons
abbrev pub MayTake : {T : Type 0} → Result T MonitoringCreateTokenError → Type 0
MayTake (Ok token) = ⊤
MayTake (Err token_error.AlreadyExists) = ⊤
MayTake (Err token_error.OutOfMemory) = ⊤
MayTake (Err _) = ⊥

-- a name is taken by a cleaner, or refused for one of three reasons
abbrev pub MayClaim : {T : Type 0} → Result T MonitoringCreateCleanerError → Type 0
MayClaim (Ok cleaner) = ⊤
MayClaim (Err cleaner_error.InstanceStillAlive) = ⊤
MayClaim (Err cleaner_error.AlreadyOwnedByAnotherInstance) = ⊤
MayClaim (Err cleaner_error.DoesNotExist) = ⊤
MayClaim (Err _) = ⊥
