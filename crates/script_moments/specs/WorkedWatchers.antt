-- A watcher that was worked out by hand: b is told of an update by a queue of ids, and gets the new value.
use Rattle.std.specs.Prelude.{[], ◌∷◌, ◌++◌, codes, map, None, true}
use Rattle.board_event_model.specs.declared.access.EventAccess.TheVariants as event_access
use Rattle.board_event_model.specs.declared.access.EventAnswer.TheVariants as event_answer
use Rattle.board_event_model.specs.declared.call.WaitMode.TheVariants as mode
use Rattle.board_event_model.specs.declared.kind.EventKind.TheVariants as kind
use Rattle.board_cell_model.specs.declared.access.Access.TheVariants as access
use Rattle.board_model.specs.declared.answer.Reply.TheVariants as reply
use Rattle.board_model.specs.declared.line.Call.TheVariants as call
use Rattle.board_model.specs.declared.line.Line.TheVariants as board_line
use Rattle.board_model.specs.declared.value.Value.TheVariants as value
use Rattle.board_model.specs.declared.value.ValueType.TheVariants as type
use Rattle.board_model.specs.WorkedSessions as boards
use Rattle.script_model.specs.declared.line.EventRequest.TheVariants as request
use Rattle.script_model.specs.declared.line.ScriptLine.TheVariants as line
use Rattle.script_model.specs.declared.reply.EventReply.TheVariants as event_reply
use Rattle.script_model.specs.ScriptAnswers.{of_event}
use Rattle.script_model.specs.ScriptSession.{Session}
use Rattle.script_model.specs.LawsOfComposition.{Pair, of_pair}
use Rattle.script_model.specs.WorkedScripts.{a_queue, asks, queued}
use Rattle.script_moments.specs.Moments.{next_moment}
use Rattle.script_moments.specs.Gets.{Get}
use Rattle.script_moments.specs.OneRound.{b}
use Rattle.script_moments.specs.Reports.{Take}
use Rattle.script_moments.specs.Watchers.{AskedId, Opening, Turn, Watcher, idle}
use Rattle.script_moments.specs.WorkedSnapshots.{get_begins}

-- b has the read handle "h" of an entry and listens on a queue, and a has a notifier of it
abbrev pub before_it : Session
before_it = map of_pair (boards.set_up type.U64 (value.U64 7)) ++ a_queue

-- b asks for the id of the handle's entry
abbrev pub id_begins : Pair
id_begins = of_pair (boards.accepted b (call.Id (codes "h")))

abbrev pub id_told : Pair
id_told = of_pair (boards.last_step b access.Table (reply.Id 0))

-- a updates the entry
abbrev pub update_begun : Session
update_begun = map of_pair (boards.accepted (codes "a") (call.Update (codes "m") (value.U64 9)) ∷ boards.one_step (codes "a") (access.Write 1 3 9) ∷ [])

abbrev pub update_ended : Pair
update_ended = of_pair (boards.last_step (codes "a") (access.Write 1 0 2) reply.Done)

-- and notifies b of its id
abbrev pub notify_begun : Pair
notify_begun = asks (codes "a") (request.Notify (codes "n") 0)

abbrev pub id_pushed : Pair
id_pushed = queued (codes "a") (event_access.Push 0) event_answer.Done event_reply.Done

-- b waits, and takes the id
abbrev pub wait_begins : Pair
wait_begins = asks b (request.Wait (codes "e") true mode.Try)

abbrev pub id_popped : Pair
id_popped = (line.Board (board_line.Step b), of_event kind.Queue (codes "q") event_access.Pop (event_answer.Id 0) None)

abbrev pub none_popped : Pair
none_popped = queued b event_access.Pop event_answer.Empty (event_reply.Ids (0 ∷ []))

abbrev pub counter_read : Pair
counter_read = of_pair (boards.one_step b (access.Read 1 0 2))

abbrev pub word_read : Pair
word_read = of_pair (boards.one_step b (access.Read 1 3 9))

abbrev pub value_got : Pair
value_got = of_pair (boards.last_step b (access.Read 1 0 2) (reply.Got type.U64 (9 ∷ []) 2))

abbrev pub to_wait : Session
to_wait = id_begins ∷ id_told ∷ (update_begun ++ update_ended ∷ notify_begun ∷ id_pushed ∷ [])

abbrev pub to_get : Session
to_get = to_wait ++ wait_begins ∷ id_popped ∷ none_popped ∷ []

abbrev pub since_it : Session
since_it = to_get ++ get_begins ∷ counter_read ∷ word_read ∷ value_got ∷ []

-- the get that the id calls for
abbrev pub the_get : Get
the_get = record {
  begun = next_moment before_it to_get get_begins;
  steps = next_moment before_it (to_get ++ get_begins ∷ []) counter_read ∷ next_moment before_it (to_get ++ get_begins ∷ counter_read ∷ []) word_read ∷ [];
  ended = next_moment before_it (to_get ++ get_begins ∷ counter_read ∷ word_read ∷ []) value_got;
  type = type.U64;
  words = 9 ∷ [];
  generation = 2;
}

-- the question for the id
abbrev pub the_id : AskedId
the_id = record { begun = next_moment before_it [] id_begins; ended = next_moment before_it (id_begins ∷ []) id_told; id = 0 }

-- the wait and the get
abbrev pub the_turn : Turn
the_turn = record {
  wait = record {
    begun = next_moment before_it to_wait wait_begins;
    steps = next_moment before_it (to_wait ++ wait_begins ∷ []) id_popped ∷ [];
    ended = next_moment before_it (to_wait ++ wait_begins ∷ id_popped ∷ []) none_popped;
    ids = 0 ∷ [];
  };
  gets = the_get ∷ [];
}

abbrev pub a_watcher : Watcher
a_watcher = record { asked = the_id ∷ []; turns = the_turn ∷ []; rest = idle }

-- what of it had opened before the update
abbrev pub an_opening : Opening
an_opening = record { asked = the_id ∷ []; begun = None }

-- the session cut at the end of the update, the begin of the notify, its push, and the take
abbrev pub the_take : Take
the_take = record {
  before_published = before_it ++ id_begins ∷ id_told ∷ update_begun;
  published = update_ended;
  before_begun = [];
  begun = notify_begun;
  before_notified = [];
  notified = id_pushed;
  before_taken = wait_begins ∷ [];
  taken = id_popped;
}

-- what follows the take
abbrev pub behind_it : Session
behind_it = none_popped ∷ get_begins ∷ counter_read ∷ word_read ∷ value_got ∷ []
