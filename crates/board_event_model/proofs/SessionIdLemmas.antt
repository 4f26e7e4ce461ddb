-- What a queue holds and a set has in a session, by the moves of its own lines.
use Rattle.std.proofs.Common.{◌≡◌, ℕ, sym, ◌∙◌, ap, subst, List, ◌++◌}
use Rattle.board_event_model.specs.Ids.{has}
use Rattle.board_event_model.specs.EventRuns.{EventMove, IsReachedBy, Moment}
use Rattle.board_event_model.specs.EventSessions.{moves_on, session_of, view}
use Rattle.board_event_model.specs.LawsOfIds.{SessionIdsWereSetLast, SessionQueuesKeepOrder, popped_in, pushed_in, was_set_last}
use Rattle.board_event_model.proofs.IdLemmas.{pending_set_last, queues_ordered}
use Rattle.board_event_model.proofs.ViewLemmas.{session_law_holds}

pub reached_ordered : (moves : List EventMove) (now : Moment) → IsReachedBy moves now → popped_in moves ++ now.event.queue ≡ pushed_in moves
reached_ordered moves now w =
    let r = w.reached in
    subst (λ (ms : List EventMove). popped_in ms ++ now.event.queue ≡ pushed_in ms) w.moves_are
    (ap (λ (x : Moment). popped_in r.moves ++ x.event.queue) r.is ∙ queues_ordered r.kind r.name r.max r.listener r.moves r.run)

pub reached_set_last : (moves : List EventMove) (now : Moment) → IsReachedBy moves now → (id : ℕ) → has now.event.pending id ≡ was_set_last id moves
reached_set_last moves now w id =
    let r = w.reached in
    ap (λ (x : Moment). has x.event.pending id) r.is ∙ pending_set_last r.kind r.name r.max r.listener r.moves r.run id ∙ ap (was_set_last id) w.moves_are

pub session_queues_ordered : SessionQueuesKeepOrder
session_queues_ordered lines ok n st e = reached_ordered (moves_on n lines) (view (session_of lines) n st) (session_law_holds lines ok n st e)

pub session_set_last : SessionIdsWereSetLast
session_set_last lines ok n st e id = reached_set_last (moves_on n lines) (view (session_of lines) n st) (session_law_holds lines ok n st e) id
