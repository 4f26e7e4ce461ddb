-- The generated script of 1, worked out by hand.
use Rattle.std.specs.Prelude.{ℕ, List, [], ◌∷◌, ◌++◌, codes, map}
use Rattle.board_cell_model.specs.declared.access.Access.TheVariants as access
use Rattle.board_model.specs.declared.answer.Answer.{Answer}
use Rattle.board_model.specs.declared.answer.Reason.TheVariants as reason
use Rattle.board_model.specs.declared.answer.Reply.TheVariants as reply
use Rattle.board_model.specs.declared.line.Call.{Call}
use Rattle.board_model.specs.declared.line.Call.TheVariants as call
use Rattle.board_model.specs.declared.line.Line.{Line}
use Rattle.board_model.specs.declared.line.Line.TheVariants as line
use Rattle.board_model.specs.declared.value.Key.TheVariants as key
use Rattle.board_model.specs.declared.value.ValueType.TheVariants as type
use Rattle.board_model.specs.LawfulSession as boards
use Rattle.board_model.specs.WorkedSessions.{accepted, last_step, refused}
use Rattle.script_model.specs.declared.line.ScriptLine.TheVariants as script_line
use Rattle.script_model.specs.ScriptAnswers.{of_boards}
use Rattle.script_model.specs.ScriptSession.{Session}
use Rattle.script_generator.specs.Generator.{create_board, open_board}

-- ---- lines of boards in a script

-- a script of lines of boards alone, with their answers
abbrev pub on_boards : boards.Session → Session
on_boards pairs = map (λ (pair : Line × Answer). (script_line.Board pair.0, of_boards pair.1)) pairs

-- ---- the run

-- a call on the tables that is told a number
abbrev pub asked_number : List ℕ → Call → ℕ → boards.Session
asked_number party c n = accepted party c ∷ last_step party access.Table (reply.Number n) ∷ []

-- the board is made, and each entry gets a write handle
abbrev pub opened_by_writer : boards.Session
opened_by_writer =
    asked_number (codes "w") create_board 1
    ++ (asked_number (codes "w") (call.Writer (codes "p") (codes "f")) 1
    ++ (asked_number (codes "w") (call.EntryMut (codes "m0") (codes "p") (key.U64 0) type.U64) 0
    ++ asked_number (codes "w") (call.EntryMut (codes "m1") (codes "p") (key.U64 1) type.Q4) 32))

-- the board is opened, and each entry gets a read handle
abbrev pub opened_by_reader : List ℕ → ℕ → boards.Session
opened_by_reader party port =
    asked_number party open_board 1
    ++ (asked_number party (call.Reader (codes "r") (codes "f")) port
    ++ (asked_number party (call.Entry (codes "h0") (codes "r") (key.U64 0) type.U64) 0
    ++ asked_number party (call.Entry (codes "h1") (codes "r") (key.U64 1) type.Q4) 32))

-- the opening and its answers
abbrev pub opening_session : boards.Session
opening_session = opened_by_writer ++ (opened_by_reader (codes "a") 2 ++ opened_by_reader (codes "b") 3)

-- behind the opening comes one line, a step that is refused
abbrev pub run_for_one : Session
run_for_one = on_boards (opening_session ++ refused (line.Step (codes "a")) reason.Idle ∷ [])

-- its summary
abbrev pub summary_for_one : List ℕ
summary_for_one = codes "lines 25\nrefused 1\nsteps 12\nupdates 0\ngets 0\ngenerations 1 1\n"
