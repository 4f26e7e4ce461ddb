-- Sessions of a script that were worked out by hand: b is told of an update by a, and gets the new value.
use Rattle.std.specs.Prelude.{ℕ, List, [], ◌∷◌, ◌++◌, codes, map, Option, Some, None, false}
use Rattle.board_event_model.specs.declared.access.EventAccess.{EventAccess}
use Rattle.board_event_model.specs.declared.access.EventAccess.TheVariants as event_access
use Rattle.board_event_model.specs.declared.access.EventAnswer.{EventAnswer}
use Rattle.board_event_model.specs.declared.access.EventAnswer.TheVariants as event_answer
use Rattle.board_event_model.specs.declared.call.WaitMode.TheVariants as mode
use Rattle.board_event_model.specs.declared.kind.EventKind.TheVariants as kind
use Rattle.board_cell_model.specs.declared.access.Access.TheVariants as access
use Rattle.board_model.specs.declared.answer.Answer.TheVariants as answer
use Rattle.board_model.specs.declared.answer.Reply.TheVariants as reply
use Rattle.board_model.specs.declared.line.Call.TheVariants as call
use Rattle.board_model.specs.declared.line.Line.TheVariants as board_line
use Rattle.board_model.specs.declared.value.Value.TheVariants as value
use Rattle.board_model.specs.declared.value.ValueType.TheVariants as type
use Rattle.board_model.specs.WorkedSessions as boards
use Rattle.script_model.specs.declared.line.EventRequest.{EventRequest}
use Rattle.script_model.specs.declared.line.EventRequest.TheVariants as request
use Rattle.script_model.specs.declared.line.ScriptLine.TheVariants as line
use Rattle.script_model.specs.declared.reply.EventReply.{EventReply}
use Rattle.script_model.specs.declared.reply.EventReply.TheVariants as event_reply
use Rattle.script_model.specs.ScriptAnswers.{of_ask, of_boards, of_event}
use Rattle.script_model.specs.ScriptSession.{Session}
use Rattle.script_model.specs.LawsOfComposition.{Cuts, Pair, of_pair}

-- a call on events that is accepted
abbrev pub asks : List ℕ → EventRequest → Pair
asks party q = (line.Event party q, of_boards answer.Begun)

-- the step of a listener or notifier that was asked for
abbrev pub told : List ℕ → EventReply → Pair
told party r = (line.Board (board_line.Step party), of_ask r)

-- an access to the queue "q"
abbrev pub queued : List ℕ → EventAccess → EventAnswer → EventReply → Pair
queued party a b r = (line.Board (board_line.Step party), of_event kind.Queue (codes "q") a b (Some r))

-- an access to the set "s"
abbrev pub set_access : List ℕ → EventAccess → EventAnswer → Option EventReply → Pair
set_access party a b r = (line.Board (board_line.Step party), of_event kind.Bits (codes "s") a b r)

-- b listens on a queue, and a has a notifier of it
abbrev pub a_queue : Session
a_queue =
    asks (codes "b") (request.ListenQueue (codes "e") (codes "q"))
    ∷ told (codes "b") event_reply.Done
    ∷ asks (codes "a") (request.Notifier (codes "n") kind.Queue (codes "q"))
    ∷ told (codes "a") event_reply.Done
    ∷ []

-- b listens on a set, and a has a notifier of it
abbrev pub a_set : Session
a_set =
    asks (codes "b") (request.ListenBits (codes "e") (codes "s") 63)
    ∷ told (codes "b") event_reply.Done
    ∷ asks (codes "a") (request.Notifier (codes "n") kind.Bits (codes "s"))
    ∷ told (codes "a") event_reply.Done
    ∷ []

-- a has the write handle "m" of an entry, and b the read handle "h"; a's update of the entry has written its word
abbrev pub an_update : Session → Session
an_update events =
    map of_pair (boards.set_up type.U64 (value.U64 7)) ++ (events ++ map of_pair (
    boards.accepted (codes "a") (call.Update (codes "m") (value.U64 9))
    ∷ boards.one_step (codes "a") (access.Write 1 3 9)
    ∷ []))

-- a updates the entry and notifies b of its id, which is 0; b waits, takes the id, and gets the entry
abbrev pub a_reader_that_was_told : Cuts
a_reader_that_was_told = record {
  before_published = an_update a_queue;
  published = of_pair (boards.last_step (codes "a") (access.Write 1 0 2) reply.Done);
  before_begun = [];
  begun = asks (codes "a") (request.Notify (codes "n") 0);
  before_notified = [];
  notified = queued (codes "a") (event_access.Push 0) event_answer.Done event_reply.Done;
  before_taken = asks (codes "b") (request.Wait (codes "e") false mode.Try) ∷ [];
  taken = queued (codes "b") event_access.Pop (event_answer.Id 0) (event_reply.Id 0);
  before_asked = [];
  asked = of_pair (boards.accepted (codes "b") (call.Get (codes "h") None));
  before_got = map of_pair (
      boards.one_step (codes "b") (access.Read 1 0 2)
      ∷ boards.one_step (codes "b") (access.Read 1 3 9)
      ∷ []);
  got = of_pair (boards.last_step (codes "b") (access.Read 1 0 2) (reply.Got type.U64 (9 ∷ []) 2));
}

-- the same with a set of ids, which the notify posts and the wait reads before it takes the id
abbrev pub a_reader_told_by_a_set : Cuts
a_reader_told_by_a_set = record {
  before_published = an_update a_set;
  published = of_pair (boards.last_step (codes "a") (access.Write 1 0 2) reply.Done);
  before_begun = [];
  begun = asks (codes "a") (request.Notify (codes "n") 0);
  before_notified = set_access (codes "a") event_access.Listener event_answer.Yes None ∷ [];
  notified = set_access (codes "a") (event_access.Set 0) event_answer.Done None;
  before_taken =
      set_access (codes "a") event_access.Post event_answer.Done (Some event_reply.Done)
      ∷ asks (codes "b") (request.Wait (codes "e") false mode.Block)
      ∷ set_access (codes "b") event_access.Signal event_answer.Yes None
      ∷ set_access (codes "b") event_access.Signal event_answer.No None
      ∷ set_access (codes "b") (event_access.Scan 0) (event_answer.Word 1) None
      ∷ [];
  taken = set_access (codes "b") (event_access.Clear 0) event_answer.Done (Some (event_reply.Id 0));
  before_asked = [];
  asked = of_pair (boards.accepted (codes "b") (call.Get (codes "h") None));
  before_got = map of_pair (
      boards.one_step (codes "b") (access.Read 1 0 2)
      ∷ boards.one_step (codes "b") (access.Read 1 3 9)
      ∷ []);
  got = of_pair (boards.last_step (codes "b") (access.Read 1 0 2) (reply.Got type.U64 (9 ∷ []) 2));
}

-- the same, where a is abandoned after it has set the id: no signal is posted, and b still finds the id
abbrev pub a_reader_told_by_a_lost_notifier : Cuts
a_reader_told_by_a_lost_notifier = record {
  before_published = an_update a_set;
  published = of_pair (boards.last_step (codes "a") (access.Write 1 0 2) reply.Done);
  before_begun = [];
  begun = asks (codes "a") (request.Notify (codes "n") 0);
  before_notified = set_access (codes "a") event_access.Listener event_answer.Yes None ∷ [];
  notified = set_access (codes "a") (event_access.Set 0) event_answer.Done None;
  before_taken =
      of_pair (board_line.Abandon (codes "a"), answer.Gone)
      ∷ asks (codes "b") (request.Wait (codes "e") false mode.Try)
      ∷ set_access (codes "b") event_access.Signal event_answer.No None
      ∷ set_access (codes "b") (event_access.Scan 0) (event_answer.Word 1) None
      ∷ [];
  taken = set_access (codes "b") (event_access.Clear 0) event_answer.Done (Some (event_reply.Id 0));
  before_asked = [];
  asked = of_pair (boards.accepted (codes "b") (call.Get (codes "h") None));
  before_got = map of_pair (
      boards.one_step (codes "b") (access.Read 1 0 2)
      ∷ boards.one_step (codes "b") (access.Read 1 3 9)
      ∷ []);
  got = of_pair (boards.last_step (codes "b") (access.Read 1 0 2) (reply.Got type.U64 (9 ∷ []) 2));
}

-- ---- an older take

-- before b takes the id that an older notify of a's pushed
abbrev pub to_older_take : Session
to_older_take =
    map of_pair (boards.set_up type.U64 (value.U64 7)) ++ (a_queue ++ (
    asks (codes "a") (request.Notify (codes "n") 0)
    ∷ queued (codes "a") (event_access.Push 0) event_answer.Done event_reply.Done
    ∷ asks (codes "b") (request.Wait (codes "e") false mode.Try)
    ∷ []))

abbrev pub the_older_take : Pair
the_older_take = queued (codes "b") event_access.Pop (event_answer.Id 0) (event_reply.Id 0)

-- then b begins to get the entry
abbrev pub the_old_get : Pair
the_old_get = of_pair (boards.accepted (codes "b") (call.Get (codes "h") None))

-- which it reads while a's update of it runs
abbrev pub to_old_value : Session
to_old_value = to_older_take ++ (the_older_take ∷ the_old_get ∷ map of_pair (
    boards.accepted (codes "a") (call.Update (codes "m") (value.U64 9))
    ∷ boards.one_step (codes "a") (access.Write 1 3 9)
    ∷ boards.one_step (codes "b") (access.Read 1 0 1)
    ∷ boards.one_step (codes "b") (access.Read 1 2 7)
    ∷ []))

abbrev pub the_old_value : Pair
the_old_value = of_pair (boards.last_step (codes "b") (access.Read 1 0 1) (reply.Got type.U64 (7 ∷ []) 1))

-- then the update ends
abbrev pub to_new_value : Session
to_new_value = to_old_value ++ the_old_value ∷ []

abbrev pub the_new_value : Pair
the_new_value = of_pair (boards.last_step (codes "a") (access.Write 1 0 2) reply.Done)

-- and a notifies b of it
abbrev pub to_newer_notify : Session
to_newer_notify = to_new_value ++ (the_new_value ∷ asks (codes "a") (request.Notify (codes "n") 0) ∷ [])

abbrev pub the_newer_notify : Pair
the_newer_notify = queued (codes "a") (event_access.Push 0) event_answer.Done event_reply.Done
