-- The machine of the tests, on which no call was begun and nothing is held.
use Rattle.std.specs.Prelude.{◌≡◌, ℕ, List, Option, Some, None}
use Rattle.board_model.specs.declared.answer.Reason.{Reason}
use Rattle.board_model.specs.declared.answer.Reason.TheVariants as reason
use Rattle.board_model.specs.declared.line.Line.TheVariants as board_line
use Rattle.script_model.specs.declared.line.EventRequest.TheVariants as request
use Rattle.script_model.specs.declared.line.ScriptLine.{ScriptLine}
use Rattle.script_model.specs.declared.line.ScriptLine.TheVariants as line
use Rattle.script_model.specs.ScriptGrammar.{SpellsLine}

-- why it refuses a line
abbrev pub idle_reason : ScriptLine → Option Reason
idle_reason (line.Board (board_line.Step party)) = Some reason.Idle
idle_reason (line.Board (board_line.Words board)) = Some reason.NoBoard
idle_reason (line.Event party (request.Notify notifier id)) = Some reason.Unknown
idle_reason (line.Event party (request.Wait listener many mode)) = Some reason.Unknown
idle_reason (line.Expire party) = Some reason.Idle
idle_reason l = None

-- the bytes spell a line for which it has no memory: it refuses none for another reason
abbrev pub IdleWants : List ℕ → Type 0
IdleWants bytes = (l : ScriptLine) × SpellsLine bytes l × (idle_reason l ≡ None)
