-- The lines of a script and their bytes, those of events included.
use Rattle.std.specs.Prelude.{◌≡◌, ℕ, ◌≤◌, Bool, true, not, ◌&&◌, ◌==◌, if◌then◌else◌, List, [], ◌∷◌, length, codes, decimal}
use Rattle.std.specs.List.{join_with_byte, list_all}
use Rattle.std.specs.Str.{bytes_eq}
use Rattle.board_event_model.specs.declared.kind.EventKind.{EventKind}
use Rattle.board_event_model.specs.declared.kind.EventKind.TheVariants as kind
use Rattle.board_event_model.specs.declared.call.WaitMode.{WaitMode}
use Rattle.board_event_model.specs.declared.call.WaitMode.TheVariants as mode
use Rattle.board_model.specs.LineGrammar.{IsLine, IsNumber, is_name, is_visible, tokens}
use Rattle.script_model.specs.declared.line.EventRequest.{EventRequest}
use Rattle.script_model.specs.declared.line.EventRequest.TheVariants as request
use Rattle.script_model.specs.declared.line.ScriptLine.{ScriptLine}
use Rattle.script_model.specs.declared.line.ScriptLine.TheVariants as line

-- ---- the tokens of a line

-- how a line names a kind of events
abbrev pub kind_text : EventKind → List ℕ
kind_text kind.Bits = codes "bits"
kind_text kind.Queue = codes "queue"

-- how a line says how long a wait goes on
abbrev pub mode_text : WaitMode → List ℕ
mode_text mode.Try = codes "try"
mode_text mode.Timed = codes "timed"
mode_text mode.Block = codes "block"

-- whether a wait is for one id or for all
abbrev pub count_text : Bool → List ℕ
count_text many = if many then codes "all" else codes "one"

-- a call on events: its word, then what it names
abbrev pub request_tokens : EventRequest → List (List ℕ)
request_tokens (request.ListenBits e event max) = codes "listen" ∷ e ∷ codes "bits" ∷ event ∷ decimal max ∷ []
request_tokens (request.ListenQueue e event) = codes "listen" ∷ e ∷ codes "queue" ∷ event ∷ []
request_tokens (request.Notifier n k event) = codes "notifier" ∷ n ∷ kind_text k ∷ event ∷ []
request_tokens (request.Notify n id) = codes "notify" ∷ n ∷ decimal id ∷ []
request_tokens (request.Wait e many m) = codes "wait" ∷ e ∷ count_text many ∷ mode_text m ∷ []

-- a whole line, token after token
abbrev pub script_tokens : ScriptLine → List (List ℕ)
script_tokens (line.Board l) = tokens l
script_tokens (line.Event p q) = codes "begin" ∷ p ∷ request_tokens q
script_tokens (line.Expire p) = codes "expire" ∷ p ∷ []

-- the bytes of a line: its tokens with one space between two
abbrev pub script_spell : ScriptLine → List ℕ
script_spell l = join_with_byte 32 (script_tokens l)

-- ---- which texts and numbers may stand in a line

-- neither a slash nor a backslash
abbrev pub is_event_byte : ℕ → Bool
is_event_byte b = not (b == 47) && not (b == 92)

-- the name of an event: 1 to 255 visible bytes without slashes, and no name of a folder by dots
abbrev pub is_event_name : List ℕ → Bool
is_event_name text = is_visible 255 text && (list_all is_event_byte text && (not (bytes_eq text (codes ".")) && not (bytes_eq text (codes ".."))))

-- the names and numbers of a call on events are of the grammar; the greatest id of a set is at most 65535
abbrev pub IsEventRequest : EventRequest → Type 0
IsEventRequest (request.ListenBits e event max) = (is_name e ≡ true) × (is_event_name event ≡ true) × (max ≤ 65535)
IsEventRequest (request.ListenQueue e event) = (is_name e ≡ true) × (is_event_name event ≡ true)
IsEventRequest (request.Notifier n k event) = (is_name n ≡ true) × (is_event_name event ≡ true)
IsEventRequest (request.Notify n id) = (is_name n ≡ true) × IsNumber id
IsEventRequest (request.Wait e many m) = is_name e ≡ true

-- a line of the grammar
abbrev pub IsScriptLine : ScriptLine → Type 0
IsScriptLine (line.Board l) = IsLine l
IsScriptLine (line.Event p q) = (is_name p ≡ true) × IsEventRequest q
IsScriptLine (line.Expire p) = is_name p ≡ true

-- these bytes are a line of the grammar
pub record SpellsLine (text : List ℕ) (l : ScriptLine) : Type 0 where
  pub line : IsScriptLine l
  pub bytes : text ≡ script_spell l
  pub short : length text ≤ 4096
