-- Which lines are kept in memory while they are run: those with the name of a board or an event. No other line takes memory to read.
use Rattle.std.specs.Prelude.{◌≡◌, Bool, true, List, ℕ, Option, Some, None, is_some, option_map}
use Rattle.std.specs.List.{list_all}
use Rattle.board_model.specs.declared.line.Call.{Call}
use Rattle.board_model.specs.declared.line.Call.TheVariants as call
use Rattle.board_model.specs.declared.line.Line.{Line}
use Rattle.board_model.specs.declared.line.Line.TheVariants as board_line
use Rattle.board_model.specs.LawfulSession.{has_key_type}
use Rattle.script_model.specs.declared.line.EventRequest.{EventRequest}
use Rattle.script_model.specs.declared.line.EventRequest.TheVariants as request
use Rattle.script_model.specs.declared.line.ScriptLine.{ScriptLine}
use Rattle.script_model.specs.declared.line.ScriptLine.TheVariants as line
use Rattle.script_model.specs.ScriptGrammar.{SpellsLine}
use Rattle.script_parse.specs.declared.unkept.Made.{Made}
use Rattle.script_parse.specs.declared.unkept.Unkept.{Unkept}

-- a thing of this name, with no entries
abbrev pub made_as : List ℕ → Made
made_as name = record { name = name; is_typed = true }

-- what a call with the name of a board makes
abbrev pub board_made : Call → Option Made
board_made (call.Create f name k limits attributes entries) = Some (record { name = f; is_typed = list_all (has_key_type k) entries })
board_made (call.Open f name k limits needs) = Some (made_as f)
board_made c = None

-- what a call with the name of an event makes
abbrev pub event_made : EventRequest → Option Made
event_made (request.ListenBits name event max) = Some (made_as name)
event_made (request.ListenQueue name event) = Some (made_as name)
event_made (request.Notifier name k event) = Some (made_as name)
event_made (request.Notify name id) = None
event_made (request.Wait name many mode) = None

-- a line of the party whose call makes this
abbrev pub unkept : List ℕ → Option Made → Option Unkept
unkept party made = option_map (λ m. record { party = party; made = m }) made

-- a line with such a call, as far as a refusal depends on it
abbrev pub unkept_board : Line → Option Unkept
unkept_board (board_line.Begin party c) = unkept party (board_made c)
unkept_board l = None

abbrev pub unkept_of : ScriptLine → Option Unkept
unkept_of (line.Board l) = unkept_board l
unkept_of (line.Event party q) = unkept party (event_made q)
unkept_of (line.Expire party) = None

-- the line is kept
abbrev pub is_kept_line : ScriptLine → Bool
is_kept_line l = is_some (unkept_of l)

-- the bytes spell a line that is kept
abbrev pub SpellsKept : List ℕ → Type 0
SpellsKept bytes = (l : ScriptLine) × SpellsLine bytes l × (is_kept_line l ≡ true)

-- and this is known of it
abbrev pub SpellsUnkept : List ℕ → Unkept → Type 0
SpellsUnkept bytes u = (l : ScriptLine) × SpellsLine bytes l × (unkept_of l ≡ Some u)
