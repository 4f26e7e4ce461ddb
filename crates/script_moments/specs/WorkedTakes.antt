-- Takes of sessions that were worked out by hand, and the gets after them: by a queue, by a set, and a take of an older notify. And two takes of one id.
use Rattle.std.specs.Prelude.{[], ◌∷◌, ◌++◌, codes, false, map}
use Rattle.board_cell_model.specs.declared.access.Access.TheVariants as access
use Rattle.board_event_model.specs.declared.access.EventAccess.TheVariants as event_access
use Rattle.board_event_model.specs.declared.access.EventAnswer.TheVariants as event_answer
use Rattle.board_event_model.specs.declared.call.WaitMode.TheVariants as mode
use Rattle.board_model.specs.declared.line.Call.TheVariants as call
use Rattle.board_model.specs.declared.value.Value.TheVariants as value
use Rattle.board_model.specs.WorkedSessions as boards
use Rattle.script_model.specs.declared.line.EventRequest.TheVariants as request
use Rattle.script_model.specs.declared.reply.EventReply.TheVariants as event_reply
use Rattle.script_model.specs.LawsOfComposition.{Cuts, Pair, of_pair, to_taken}
use Rattle.script_model.specs.WorkedScripts.{asks, queued, the_newer_notify, the_old_get, the_old_value, the_older_take, to_older_take}
use Rattle.script_moments.specs.LawsOfTakes.{GetCut, NotifyCut}

-- the take of such a session, and the get that follows it
abbrev pub from_take : Cuts → GetCut
from_take c = record { before_taken = to_taken c; taken = c.taken; before_asked = c.before_asked; asked = c.asked; before_got = c.before_got; got = c.got }

-- b takes the id of an older notify of a's; its get begins before a's update does, and reads the old value while the update runs
abbrev pub an_older_take : GetCut
an_older_take = record {
  before_taken = to_older_take;
  taken = the_older_take;
  before_asked = [];
  asked = the_old_get;
  before_got = map of_pair (
      boards.accepted (codes "a") (call.Update (codes "m") (value.U64 9))
      ∷ boards.one_step (codes "a") (access.Write 1 3 9)
      ∷ boards.one_step (codes "b") (access.Read 1 0 1)
      ∷ boards.one_step (codes "b") (access.Read 1 2 7)
      ∷ []);
  got = the_old_value;
}

-- b has taken that id; a notifies b of it once more, and b waits once more
abbrev pub a_second_notify : NotifyCut
a_second_notify = record {
  before_begun = to_older_take ++ the_older_take ∷ [];
  begun = asks (codes "a") (request.Notify (codes "n") 0);
  before_notified = [];
  notified = the_newer_notify;
  since = asks (codes "b") (request.Wait (codes "e") false mode.Try) ∷ [];
}

-- and takes it again
abbrev pub the_second_take : Pair
the_second_take = queued (codes "b") event_access.Pop (event_answer.Id 0) (event_reply.Id 0)
