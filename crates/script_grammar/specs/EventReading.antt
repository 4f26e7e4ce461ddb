-- A reader of the lines of a script: those of a board line, and else those of a line of events.
use Rattle.std.specs.Prelude.{ℕ, Bool, true, false, nat_le, if◌then◌else◌, List, [], ◌∷◌, codes, Option, Some, None}
use Rattle.std.specs.Str.{bytes_eq}
use Rattle.board_event_model.specs.declared.kind.EventKind.{EventKind}
use Rattle.board_event_model.specs.declared.kind.EventKind.TheVariants as kind
use Rattle.board_event_model.specs.declared.call.WaitMode.{WaitMode}
use Rattle.board_event_model.specs.declared.call.WaitMode.TheVariants as mode
use Rattle.board_model.specs.declared.line.Line.{Line}
use Rattle.script_grammar.specs.TokenReading.{◌>>=◌, beside, first_by, guard, is_end, read_name, read_number}
use Rattle.script_grammar.specs.LineReading.{read_line, read_one_name}
use Rattle.script_model.specs.declared.line.EventRequest.{EventRequest}
use Rattle.script_model.specs.declared.line.EventRequest.TheVariants as request
use Rattle.script_model.specs.declared.line.ScriptLine.{ScriptLine}
use Rattle.script_model.specs.declared.line.ScriptLine.TheVariants as line
use Rattle.script_model.specs.ScriptGrammar.{is_event_name}

-- ---- tokens

-- the words for the kinds of events
abbrev pub kind_words : List (List ℕ × EventKind)
kind_words = (codes "bits", kind.Bits) ∷ (codes "queue", kind.Queue) ∷ []

-- a kind of events
unfoldable pub read_kind : List ℕ → Option EventKind
read_kind text = beside text kind_words

-- the words for how long a wait goes on
abbrev pub mode_words : List (List ℕ × WaitMode)
mode_words = (codes "try", mode.Try) ∷ (codes "timed", mode.Timed) ∷ (codes "block", mode.Block) ∷ []

-- how long a wait goes on
unfoldable pub read_mode : List ℕ → Option WaitMode
read_mode text = beside text mode_words

-- the words for a wait for all ids, and for one
abbrev pub count_words : List (List ℕ × Bool)
count_words = (codes "all", true) ∷ (codes "one", false) ∷ []

-- whether a wait is for all ids
unfoldable pub read_count : List ℕ → Option Bool
read_count text = beside text count_words

-- the name of an event
unfoldable pub read_event_name : List ℕ → Option (List ℕ)
read_event_name text = guard (is_event_name text) (Some text)

-- the greatest id of a set
unfoldable pub read_max : List ℕ → Option ℕ
read_max text = read_number text >>= λ n. guard (nat_le n 65535) (Some n)

-- ---- calls

-- what asks for a port: its name, and the kind and name of the event
unfoldable pub read_port : List (List ℕ) → Option ((List ℕ × EventKind × List ℕ) × List (List ℕ))
read_port ts =
    first_by read_name ts >>= λ n. first_by read_kind n.1 >>= λ k. first_by read_event_name k.1 >>= λ event.
    Some ((n.0, k.0, event.0), event.1)

-- behind the name of a new event stands the greatest id of a set, and nothing for a queue
unfoldable pub read_listener : List ℕ → EventKind → List ℕ → List (List ℕ) → Option EventRequest
read_listener e kind.Bits event ts = first_by read_max ts >>= λ max. guard (is_end max.1) (Some (request.ListenBits e event max.0))
read_listener e kind.Queue event ts = guard (is_end ts) (Some (request.ListenQueue e event))

-- asking for a listener
unfoldable pub read_listen : List (List ℕ) → Option EventRequest
read_listen ts = read_port ts >>= λ e. read_listener e.0.0 e.0.1 e.0.2 e.1

-- asking for a notifier
unfoldable pub read_notifier : List (List ℕ) → Option EventRequest
read_notifier ts = read_port ts >>= λ n. guard (is_end n.1) (Some (request.Notifier n.0.0 n.0.1 n.0.2))

-- an id for the listener, by a notifier
unfoldable pub read_notify : List (List ℕ) → Option EventRequest
read_notify ts = first_by read_name ts >>= λ n. first_by read_number n.1 >>= λ id. guard (is_end id.1) (Some (request.Notify n.0 id.0))

-- a wait of a listener: for what, and how long
unfoldable pub read_wait : List (List ℕ) → Option EventRequest
read_wait ts =
    first_by read_name ts >>= λ e. first_by read_count e.1 >>= λ many. first_by read_mode many.1 >>= λ m.
    guard (is_end m.1) (Some (request.Wait e.0 many.0 m.0))

-- a call on events, by its word
unfoldable pub read_request : List (List ℕ) → Option EventRequest
read_request [] = None
read_request (word ∷ ts) =
    if bytes_eq word (codes "listen") then read_listen ts else
    if bytes_eq word (codes "notifier") then read_notifier ts else
    if bytes_eq word (codes "notify") then read_notify ts else
    if bytes_eq word (codes "wait") then read_wait ts else None

-- ---- lines

-- a line that begins a call on events: a party, and what it asks for
unfoldable pub read_event_begin : List (List ℕ) → Option ScriptLine
read_event_begin ts = first_by read_name ts >>= λ p. read_request p.1 >>= λ q. Some (line.Event p.0 q)

-- a line that lets a timed wait expire
unfoldable pub read_expire : List (List ℕ) → Option ScriptLine
read_expire ts = read_one_name ts >>= λ p. Some (line.Expire p)

-- a line of events, by its first word
unfoldable pub read_event_line : List (List ℕ) → Option ScriptLine
read_event_line [] = None
read_event_line (word ∷ ts) =
    if bytes_eq word (codes "begin") then read_event_begin ts else
    if bytes_eq word (codes "expire") then read_expire ts else None

-- a board line goes first
unfoldable pub board_line_first : Option Line → Option ScriptLine → Option ScriptLine
board_line_first (Some l) other = Some (line.Board l)
board_line_first None other = other

-- a line of a script
unfoldable pub read_script_line : List (List ℕ) → Option ScriptLine
read_script_line ts = board_line_first (read_line ts) (read_event_line ts)
