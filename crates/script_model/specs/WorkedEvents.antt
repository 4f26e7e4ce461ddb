-- Sessions of events that were worked out by hand: which names are held, and which lines are refused.
use Rattle.std.specs.Prelude.{ℕ, List, [], ◌∷◌, ◌++◌, codes, Some, None, false}
use Rattle.board_event_model.specs.declared.access.EventAccess.TheVariants as event_access
use Rattle.board_event_model.specs.declared.access.EventAnswer.TheVariants as event_answer
use Rattle.board_event_model.specs.declared.call.WaitMode.TheVariants as mode
use Rattle.board_names.specs.declared.errors.event.NotifierNotifyError.TheVariants as notify_error
use Rattle.board_event_model.specs.declared.kind.EventKind.TheVariants as kind
use Rattle.board_cell_model.specs.declared.access.Access.TheVariants as access
use Rattle.board_model.specs.declared.answer.Answer.TheVariants as answer
use Rattle.board_model.specs.declared.answer.Reason.{Reason}
use Rattle.board_model.specs.declared.answer.Reason.TheVariants as reason
use Rattle.board_model.specs.declared.answer.Reply.TheVariants as reply
use Rattle.board_model.specs.declared.line.Call.TheVariants as call
use Rattle.board_model.specs.declared.line.Line.TheVariants as board_line
use Rattle.board_model.specs.declared.value.Key.TheVariants as key
use Rattle.board_model.specs.declared.value.KeyType.TheVariants as key_type
use Rattle.board_model.specs.declared.value.Value.TheVariants as value
use Rattle.board_model.specs.WorkedSessions as boards
use Rattle.script_model.specs.declared.line.EventRequest.TheVariants as request
use Rattle.script_model.specs.declared.line.ScriptLine.{ScriptLine}
use Rattle.script_model.specs.declared.line.ScriptLine.TheVariants as line
use Rattle.script_model.specs.declared.reply.EventReply.TheVariants as event_reply
use Rattle.script_model.specs.ScriptAnswers.{expired, of_boards, of_event}
use Rattle.script_model.specs.ScriptSession.{Session}
use Rattle.script_model.specs.LawsOfComposition.{Pair, of_pair}
use Rattle.script_model.specs.WorkedScripts.{a_queue, a_set, asks, queued, told}

-- a listener or notifier that is dropped
abbrev pub drops : List ℕ → List ℕ → Pair
drops party name = of_pair (board_line.Release party name, answer.Step access.Table (Some reply.Done))

-- a line that changes nothing, with the reason
abbrev pub refused : ScriptLine → Reason → Pair
refused l why = (l, of_boards (answer.Refused why))

-- a queue's name is free once its listener is dropped, and the old notifier reaches nobody
abbrev pub a_queue_name_is_free_again : Session
a_queue_name_is_free_again =
    a_queue ++ (
    asks (codes "a") (request.ListenQueue (codes "e") (codes "q"))
    ∷ told (codes "a") event_reply.AlreadyExists
    ∷ drops (codes "b") (codes "e")
    ∷ asks (codes "a") (request.Notifier (codes "k") kind.Queue (codes "q"))
    ∷ told (codes "a") event_reply.DoesNotExist
    ∷ asks (codes "b") (request.ListenQueue (codes "e") (codes "q"))
    ∷ told (codes "b") event_reply.Done
    ∷ asks (codes "a") (request.Notify (codes "n") 3)
    ∷ queued (codes "a") (event_access.Push 3) event_answer.Gone (event_reply.NotNotified notify_error.Disconnected)
    ∷ [])

-- the name of a set is held until its last notifier is dropped too; a queue may have the same name
abbrev pub a_set_name_is_held_longer : Session
a_set_name_is_held_longer =
    a_set ++ (
    drops (codes "b") (codes "e")
    ∷ asks (codes "b") (request.ListenBits (codes "e") (codes "s") 63)
    ∷ told (codes "b") event_reply.AlreadyExists
    ∷ asks (codes "b") (request.Notifier (codes "k") kind.Bits (codes "s"))
    ∷ told (codes "b") event_reply.DoesNotExist
    ∷ asks (codes "b") (request.ListenQueue (codes "k") (codes "s"))
    ∷ told (codes "b") event_reply.Done
    ∷ drops (codes "a") (codes "n")
    ∷ asks (codes "b") (request.ListenBits (codes "e") (codes "s") 127)
    ∷ told (codes "b") event_reply.Done
    ∷ [])

-- a new board, under this name for its factory
abbrev pub a_board : List ℕ → ScriptLine
a_board name = line.Board (board_line.Begin (codes "b") (call.Create name (codes "b") key_type.U64 boards.unlimited [] (boards.added (key.U64 1) (value.U64 7) ∷ [])))

-- each reason for which a line is refused on account of events
abbrev pub lines_are_refused : Session
lines_are_refused =
    refused (line.Expire (codes "b")) reason.Idle
    ∷ asks (codes "b") (request.ListenQueue (codes "e") (codes "q"))
    ∷ refused (line.Board (board_line.Release (codes "b") (codes "e"))) reason.Busy
    ∷ refused (line.Expire (codes "b")) reason.NotWaiting
    ∷ told (codes "b") event_reply.Done
    ∷ refused (line.Event (codes "b") (request.ListenQueue (codes "e") (codes "r"))) reason.Taken
    ∷ refused (line.Event (codes "b") (request.Notify (codes "e") 1)) reason.Unknown
    ∷ refused (a_board (codes "e")) reason.Taken
    ∷ asks (codes "b") (request.Wait (codes "e") false mode.Timed)
    ∷ refused (a_board (codes "f")) reason.Busy
    ∷ refused (line.Expire (codes "b")) reason.NotWaiting
    ∷ (line.Board (board_line.Step (codes "b")), of_event kind.Queue (codes "q") event_access.Pop event_answer.Empty None)
    ∷ (line.Expire (codes "b"), expired)
    ∷ refused (line.Board (board_line.Step (codes "b"))) reason.Idle
    ∷ (a_board (codes "f"), of_boards answer.Begun)
    ∷ refused (line.Event (codes "b") (request.Wait (codes "e") false mode.Timed)) reason.Busy
    ∷ refused (line.Expire (codes "b")) reason.NotWaiting
    ∷ of_pair (boards.left (codes "b"))
    ∷ refused (line.Event (codes "b") (request.Wait (codes "e") false mode.Timed)) reason.Abandoned
    ∷ refused (line.Expire (codes "b")) reason.Abandoned
    ∷ []

-- the listener of an abandoned party takes no id any more, and its queue's name stays held
abbrev pub a_listener_is_abandoned : Session
a_listener_is_abandoned =
    a_queue ++ (
    of_pair (boards.left (codes "b"))
    ∷ asks (codes "a") (request.Notify (codes "n") 3)
    ∷ queued (codes "a") (event_access.Push 3) event_answer.Gone (event_reply.NotNotified notify_error.Disconnected)
    ∷ asks (codes "a") (request.ListenQueue (codes "e") (codes "q"))
    ∷ told (codes "a") event_reply.AlreadyExists
    ∷ [])

-- ---- sessions that are not lawful

-- a wait expires that has made no waiting look
abbrev pub an_early_expire : Session
an_early_expire =
    a_queue ++ (
    asks (codes "b") (request.Wait (codes "e") false mode.Timed)
    ∷ (line.Expire (codes "b"), expired)
    ∷ [])

-- a second event of a name that is held
abbrev pub a_name_given_twice : Session
a_name_given_twice =
    a_queue ++ (
    asks (codes "a") (request.ListenQueue (codes "e") (codes "q"))
    ∷ told (codes "a") event_reply.Done
    ∷ [])

-- a queue that gives its ids in another order
abbrev pub the_newest_id_first : Session
the_newest_id_first =
    a_queue ++ (
    asks (codes "a") (request.Notify (codes "n") 3)
    ∷ queued (codes "a") (event_access.Push 3) event_answer.Done event_reply.Done
    ∷ asks (codes "a") (request.Notify (codes "n") 4)
    ∷ queued (codes "a") (event_access.Push 4) event_answer.Done event_reply.Done
    ∷ asks (codes "b") (request.Wait (codes "e") false mode.Try)
    ∷ queued (codes "b") event_access.Pop (event_answer.Id 4) (event_reply.Id 4)
    ∷ [])
