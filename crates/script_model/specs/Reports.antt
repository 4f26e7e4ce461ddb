-- What the steps of a call on an event report, as code that runs or judges such calls keeps it.
use Rattle.std.specs.Prelude.{◌≡◌, ℕ, ◌*◌, Bool, List, ◌++◌, ⊤}
use Rattle.board_event_model.specs.declared.call.EventProgress.{EventProgress}
use Rattle.board_event_model.specs.declared.call.EventProgress.TheVariants as progress
use Rattle.board_event_model.specs.EventCalls.{reported}
use Rattle.script_model.specs.declared.reply.EventReply.{EventReply}
use Rattle.script_model.specs.ScriptEvents.{end_told}

-- the first id of a word is a multiple of 64
abbrev pub StartsWord : EventProgress → Type 0
StartsWord progress.More = ⊤
StartsWord progress.Waiting = ⊤
StartsWord (progress.Took base bits last) = (k : ℕ) × (base ≡ 64 * k)
StartsWord (progress.Id id last) = ⊤
StartsWord progress.Notified = ⊤
StartsWord (progress.Refused why) = ⊤
StartsWord progress.Nothing = ⊤

-- the call is told so, where the ids that it has reported with its last access are these
abbrev pub IsToldAtEnd : Bool → EventProgress → List ℕ → EventReply → Type 0
IsToldAtEnd many p ids told = (before : List ℕ) → ids ≡ before ++ reported p → told ≡ end_told many before p
