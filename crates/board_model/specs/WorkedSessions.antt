-- Sessions that were worked out by hand.
use Rattle.std.specs.Prelude.{ℕ, List, [], ◌∷◌, ◌++◌, codes, Some, None, true}
use Rattle.board_cell_model.specs.declared.access.Access.{Access}
use Rattle.board_cell_model.specs.declared.access.Access.TheVariants as access
use Rattle.board_model.specs.TableCalls.{no_limits}
use Rattle.board_model.specs.declared.answer.Answer.{Answer}
use Rattle.board_model.specs.declared.answer.Answer.TheVariants as answer
use Rattle.board_model.specs.declared.answer.Reason.{Reason}
use Rattle.board_model.specs.declared.answer.Reason.TheVariants as reason
use Rattle.board_model.specs.declared.answer.Reply.{Reply}
use Rattle.board_model.specs.declared.answer.Reply.TheVariants as reply
use Rattle.board_model.specs.declared.attributes.Requirements.{Requirements}
use Rattle.board_names.specs.declared.errors.boards.WriterCreateError.TheVariants as writer_error
use Rattle.board_model.specs.declared.line.Call.{Call}
use Rattle.board_model.specs.declared.line.Call.TheVariants as call
use Rattle.board_model.specs.declared.line.Line.{Line}
use Rattle.board_model.specs.declared.line.Line.TheVariants as line
use Rattle.board_model.specs.declared.tables.NewLimits.{NewLimits}
use Rattle.board_model.specs.declared.value.AddedEntry.{AddedEntry}
use Rattle.board_model.specs.declared.value.Key.{Key}
use Rattle.board_model.specs.declared.value.Key.TheVariants as key
use Rattle.board_model.specs.declared.value.KeyType.TheVariants as key_type
use Rattle.board_model.specs.declared.value.Value.{Value}
use Rattle.board_model.specs.declared.value.Value.TheVariants as value
use Rattle.board_model.specs.declared.value.ValueType.{ValueType}
use Rattle.board_model.specs.declared.value.ValueType.TheVariants as type
use Rattle.board_model.specs.LawfulSession.{Session}

-- ---- lines and their answers

-- a call that is accepted
abbrev pub accepted : List ℕ → Call → Line × Answer
accepted party c = (line.Begin party c, answer.Begun)

-- a step that is not the last of its call
abbrev pub one_step : List ℕ → Access → Line × Answer
one_step party a = (line.Step party, answer.Step a None)

-- the last step of a call
abbrev pub last_step : List ℕ → Access → Reply → Line × Answer
last_step party a told = (line.Step party, answer.Step a (Some told))

-- a party that is abandoned
abbrev pub left : List ℕ → Line × Answer
left party = (line.Abandon party, answer.Gone)

-- the words of a board, all of them
abbrev pub listed : ℕ → List ℕ → Line × Answer
listed board words = (line.Words board, answer.Words words)

-- a line that changes nothing, with the reason
abbrev pub refused : Line → Reason → Line × Answer
refused l why = (l, answer.Refused why)

-- a new board that is limited as boards are where nothing is asked for
abbrev pub unlimited : NewLimits
unlimited = record { shared = no_limits; max_writers = None }

-- nothing is asked of the board's attributes
abbrev pub no_needs : Requirements
no_needs = record { pairs = []; keys = [] }

-- an entry of a new board
abbrev pub added : Key → Value → AddedEntry
added k v = record { key = k; value = v }

-- ---- lawful sessions

-- one party makes a board of two numbers, and updates one
abbrev pub the_first_run : Session
the_first_run =
    accepted (codes "a") (call.Create (codes "f") (codes "b") key_type.U64 unlimited [] (added (key.U64 1) (value.U64 5) ∷ added (key.U64 2) (value.U64 7) ∷ []))
    ∷ last_step (codes "a") access.Table (reply.Number 1)
    ∷ accepted (codes "a") (call.Writer (codes "w") (codes "f"))
    ∷ last_step (codes "a") access.Table (reply.Number 1)
    ∷ accepted (codes "a") (call.EntryMut (codes "m") (codes "w") (key.U64 2) type.U64)
    ∷ last_step (codes "a") access.Table (reply.Number 32)
    ∷ accepted (codes "a") (call.Update (codes "m") (value.U64 9))
    ∷ one_step (codes "a") (access.Write 1 7 9)
    ∷ listed 1 (1 ∷ 0 ∷ 5 ∷ 0 ∷ 1 ∷ 0 ∷ 7 ∷ 9 ∷ [])
    ∷ last_step (codes "a") (access.Write 1 4 2) reply.Done
    ∷ accepted (codes "a") (call.Gen (codes "m"))
    ∷ last_step (codes "a") access.Table (reply.Generation 2)
    ∷ refused (line.Step (codes "a")) reason.Idle
    ∷ refused (line.Words 2) reason.NoBoard
    ∷ []

-- one party makes a board with one entry and takes its write handle; the other opens it and takes a read handle
abbrev pub set_up : ValueType → Value → Session
set_up t v =
    accepted (codes "a") (call.Create (codes "f") (codes "b") key_type.U64 unlimited [] (added (key.U64 1) v ∷ []))
    ∷ last_step (codes "a") access.Table (reply.Number 1)
    ∷ accepted (codes "a") (call.Writer (codes "w") (codes "f"))
    ∷ last_step (codes "a") access.Table (reply.Number 1)
    ∷ accepted (codes "a") (call.EntryMut (codes "m") (codes "w") (key.U64 1) t)
    ∷ last_step (codes "a") access.Table (reply.Number 0)
    ∷ accepted (codes "b") (call.Open (codes "f") (codes "b") key_type.U64 no_limits no_needs)
    ∷ last_step (codes "b") access.Table (reply.Number 1)
    ∷ accepted (codes "b") (call.Reader (codes "r") (codes "f"))
    ∷ last_step (codes "b") access.Table (reply.Number 2)
    ∷ accepted (codes "b") (call.Entry (codes "h") (codes "r") (key.U64 1) t)
    ∷ last_step (codes "b") access.Table (reply.Number 0)
    ∷ []

-- a get that meets one update: it reads both copies, and gives the later value
abbrev pub a_get_that_meets_one_update : Session
a_get_that_meets_one_update =
    set_up type.U64 (value.U64 7) ++ (
    accepted (codes "b") (call.Get (codes "h") (Some (codes "v")))
    ∷ one_step (codes "b") (access.Read 1 0 1)
    ∷ accepted (codes "a") (call.Update (codes "m") (value.U64 9))
    ∷ one_step (codes "a") (access.Write 1 3 9)
    ∷ last_step (codes "a") (access.Write 1 0 2) reply.Done
    ∷ one_step (codes "b") (access.Read 1 2 7)
    ∷ one_step (codes "b") (access.Read 1 0 2)
    ∷ one_step (codes "b") (access.Read 1 3 9)
    ∷ last_step (codes "b") (access.Read 1 0 2) (reply.Got type.U64 (9 ∷ []) 2)
    ∷ accepted (codes "b") (call.Fresh (codes "h") (codes "v"))
    ∷ last_step (codes "b") (access.Read 1 0 2) (reply.Fresh true)
    ∷ [])

-- two updates of four words in the middle of a try
abbrev pub a_get_that_meets_two_updates : Session
a_get_that_meets_two_updates =
    set_up type.Q4 (value.Q4 1 2 3 4) ++ (
    accepted (codes "b") (call.Get (codes "h") None)
    ∷ one_step (codes "b") (access.Read 1 0 1)
    ∷ one_step (codes "b") (access.Read 1 2 1)
    ∷ one_step (codes "b") (access.Read 1 3 2)
    ∷ accepted (codes "a") (call.Update (codes "m") (value.Q4 5 6 7 8))
    ∷ one_step (codes "a") (access.Write 1 6 5)
    ∷ one_step (codes "a") (access.Write 1 7 6)
    ∷ one_step (codes "a") (access.Write 1 8 7)
    ∷ one_step (codes "a") (access.Write 1 9 8)
    ∷ last_step (codes "a") (access.Write 1 0 2) reply.Done
    ∷ accepted (codes "a") (call.Update (codes "m") (value.Q4 9 9 9 9))
    ∷ one_step (codes "a") (access.Write 1 2 9)
    ∷ one_step (codes "a") (access.Write 1 3 9)
    ∷ one_step (codes "a") (access.Write 1 4 9)
    ∷ one_step (codes "a") (access.Write 1 5 9)
    ∷ last_step (codes "a") (access.Write 1 0 3) reply.Done
    ∷ one_step (codes "b") (access.Read 1 4 9)
    ∷ one_step (codes "b") (access.Read 1 5 9)
    ∷ one_step (codes "b") (access.Read 1 0 3)
    ∷ one_step (codes "b") (access.Read 1 2 9)
    ∷ one_step (codes "b") (access.Read 1 3 9)
    ∷ one_step (codes "b") (access.Read 1 4 9)
    ∷ one_step (codes "b") (access.Read 1 5 9)
    ∷ last_step (codes "b") (access.Read 1 0 3) (reply.Got type.Q4 (9 ∷ 9 ∷ 9 ∷ 9 ∷ []) 3)
    ∷ [])

-- an update that is given up in the middle: the value before it stands, and so does the writer
abbrev pub a_writer_abandoned_in_an_update : Session
a_writer_abandoned_in_an_update =
    set_up type.Q4 (value.Q4 1 2 3 4) ++ (
    accepted (codes "a") (call.Update (codes "m") (value.Q4 5 6 7 8))
    ∷ one_step (codes "a") (access.Write 1 6 5)
    ∷ one_step (codes "a") (access.Write 1 7 6)
    ∷ left (codes "a")
    ∷ accepted (codes "b") (call.Get (codes "h") None)
    ∷ one_step (codes "b") (access.Read 1 0 1)
    ∷ one_step (codes "b") (access.Read 1 2 1)
    ∷ one_step (codes "b") (access.Read 1 3 2)
    ∷ one_step (codes "b") (access.Read 1 4 3)
    ∷ one_step (codes "b") (access.Read 1 5 4)
    ∷ last_step (codes "b") (access.Read 1 0 1) (reply.Got type.Q4 (1 ∷ 2 ∷ 3 ∷ 4 ∷ []) 1)
    ∷ accepted (codes "b") (call.Writer (codes "w") (codes "f"))
    ∷ last_step (codes "b") access.Table (reply.WriterError writer_error.ExceedsMaxSupportedWriters)
    ∷ refused (line.Step (codes "a")) reason.Abandoned
    ∷ refused (line.Abandon (codes "a")) reason.Abandoned
    ∷ [])

-- a loan that is given back, and taken anew: its words are to be put again
abbrev pub a_loan_forgets_its_words : Session
a_loan_forgets_its_words =
    set_up type.Q4 (value.Q4 1 2 3 4) ++ (
    accepted (codes "a") (call.Loan (codes "l") (codes "m"))
    ∷ last_step (codes "a") access.Table reply.Done
    ∷ accepted (codes "a") (call.Put (codes "l") 0 5)
    ∷ last_step (codes "a") (access.Write 1 6 5) reply.Done
    ∷ accepted (codes "a") (call.Put (codes "l") 1 6)
    ∷ last_step (codes "a") (access.Write 1 7 6) reply.Done
    ∷ accepted (codes "a") (call.Put (codes "l") 2 7)
    ∷ last_step (codes "a") (access.Write 1 8 7) reply.Done
    ∷ refused (line.Begin (codes "a") (call.Publish (codes "l") (codes "m"))) reason.Unfilled
    ∷ accepted (codes "a") (call.Discard (codes "l") (codes "m"))
    ∷ last_step (codes "a") access.Table reply.Done
    ∷ accepted (codes "a") (call.Loan (codes "l") (codes "m"))
    ∷ last_step (codes "a") access.Table reply.Done
    ∷ accepted (codes "a") (call.Put (codes "l") 3 8)
    ∷ last_step (codes "a") (access.Write 1 9 8) reply.Done
    ∷ refused (line.Begin (codes "a") (call.Publish (codes "l") (codes "m"))) reason.Unfilled
    ∷ refused (line.Begin (codes "a") (call.Put (codes "l") 4 0)) reason.Index
    ∷ accepted (codes "a") (call.Fill (codes "l") (codes "m") (value.Q4 5 6 7 8))
    ∷ one_step (codes "a") (access.Write 1 6 5)
    ∷ one_step (codes "a") (access.Write 1 7 6)
    ∷ one_step (codes "a") (access.Write 1 8 7)
    ∷ one_step (codes "a") (access.Write 1 9 8)
    ∷ last_step (codes "a") (access.Write 1 0 2) reply.Done
    ∷ [])

-- ---- sessions that are not

-- a get that gives the value before the last update
abbrev pub a_stale_value : Session
a_stale_value =
    set_up type.U64 (value.U64 7) ++ (
    accepted (codes "a") (call.Update (codes "m") (value.U64 9))
    ∷ one_step (codes "a") (access.Write 1 3 9)
    ∷ last_step (codes "a") (access.Write 1 0 2) reply.Done
    ∷ accepted (codes "b") (call.Get (codes "h") None)
    ∷ one_step (codes "b") (access.Read 1 0 2)
    ∷ one_step (codes "b") (access.Read 1 3 9)
    ∷ last_step (codes "b") (access.Read 1 0 2) (reply.Got type.U64 (7 ∷ []) 1)
    ∷ [])

-- a get that doesn't read the counter again
abbrev pub no_second_look : Session
no_second_look =
    set_up type.U64 (value.U64 7) ++ (
    accepted (codes "b") (call.Get (codes "h") None)
    ∷ one_step (codes "b") (access.Read 1 0 1)
    ∷ last_step (codes "b") (access.Read 1 2 7) (reply.Got type.U64 (7 ∷ []) 1)
    ∷ [])

-- an update that writes into the current copy
abbrev pub an_update_in_place : Session
an_update_in_place =
    set_up type.U64 (value.U64 7) ++ (
    accepted (codes "a") (call.Update (codes "m") (value.U64 9))
    ∷ one_step (codes "a") (access.Write 1 2 9)
    ∷ [])
