-- The watcher that was worked out by hand.
use Rattle.std.proofs.Common.{rules, true, refl, inr, Some, None, [], ◌∷◌, ◌++◌}
use Rattle.std.specs.Prelude.{codes}
use Rattle.board_event_model.specs.declared.access.EventAccess.TheVariants as event_access
use Rattle.board_event_model.specs.declared.access.EventAnswer.TheVariants as event_answer
use Rattle.board_event_model.specs.declared.call.WaitMode.TheVariants as mode
use Rattle.board_event_model.specs.declared.kind.EventKind.TheVariants as kind
use Rattle.board_event_model.specs.NotifyCalls.{notify_queue}
use Rattle.board_event_model.specs.WaitCalls.{wait_queue}
use Rattle.board_event_model.specs.EventCalls.{a_notify, a_wait, RunningCall, new_call}
use Rattle.board_cell_model.specs.declared.access.Access.TheVariants as access
use Rattle.board_model.specs.declared.answer.Reply.TheVariants as reply
use Rattle.board_model.specs.Tables.{entry_at}
use Rattle.board_model.specs.WorkedSessions as boards
use Rattle.script_model.specs.declared.reply.EventReply.TheVariants as event_reply
use Rattle.script_model.specs.ScriptSession.{IsLawful}
use Rattle.script_model.specs.LawsOfComposition.{EndsPublication, IsIdOf, Notifies, TakesId, state_met}
use Rattle.script_model.proofs.WorkedScript.{found, runs}
use Rattle.script_moments.specs.Gets.{IsGet}
use Rattle.script_moments.specs.OneRound.{b}
use Rattle.script_moments.specs.Reports.{IsAnsweredTake, to_begun, to_notified, to_taken}
use Rattle.script_moments.specs.Watchers.{IsAskedId, IsTurn}
use Rattle.script_moments.specs.WorkedWatchers.{before_it, since_it, the_get, the_id, the_take, the_turn}

pub lawful : IsLawful (before_it ++ since_it)
lawful = search rules

pub an_id : IsAskedId b (codes "h") the_id
an_id = record { begun = refl; ended = refl }

pub a_get : IsGet b (codes "h") the_get
a_get = record {
  begun = refl;
  steps = ((access.Read 1 0 2, refl), ((access.Read 1 3 9, refl), tt));
  ended = (access.Read 1 0 2, refl);
}

pub a_turn : IsTurn b (codes "e") (codes "h" ∷ []) (the_id ∷ []) the_turn
a_turn = record {
  wait = record {
    begun = refl;
    steps = (record { kind = kind.Queue; name = codes "q"; access = event_access.Pop; answer = event_answer.Id 0; is = refl }, tt);
    told = event_reply.Ids (0 ∷ []);
    ended = record { kind = kind.Queue; name = codes "q"; access = event_access.Pop; answer = event_answer.Empty; is = refl };
    tells = (refl, refl, λ e. cc);
  };
  gets = (a_get, tt);
}

-- ---- the take

abbrev notify_runs : RunningCall
notify_runs = new_call 0 (a_notify (notify_queue 0))

abbrev wait_runs : RunningCall
wait_runs = new_call 1 (a_wait (wait_queue true mode.Try))

published : EndsPublication (state_met the_take.before_published) the_take.published 1 0 (9 ∷ []) 2
published =
    let update_runs = runs ((state_met the_take.before_published).boards.parties (codes "a")) refl in
    record {
      ends = boards.last_step (codes "a") (access.Write 1 0 2) reply.Done;
      is = refl;
      publication = record { party = codes "a"; call = update_runs.call; access = access.Write 1 0 2; told = reply.Done; runs = update_runs.is; request = (refl, refl, refl, refl); line = refl; answer = refl };
    }

notified : Notifies (state_met (to_notified the_take)) the_take.notified (codes "a") 1 0 0
notified = record {
  call = notify_runs;
  access = event_access.Push 0;
  answer = event_answer.Done;
  told = Some event_reply.Done;
  step = record { kind = kind.Queue; name = codes "q"; runs = refl; steps = refl; prints = refl };
  number_is = refl;
  makes = inr (refl, refl);
}

taken : TakesId (state_met (to_taken the_take)) the_take.taken 1 0
taken =
    let event = found ((state_met (to_taken the_take)).events.session.stands 1) refl in
    record {
      party = b;
      call = wait_runs;
      wait = wait_queue true mode.Try;
      access = event_access.Pop;
      answer = event_answer.Id 0;
      told = None;
      event = event.it;
      step = record { kind = kind.Queue; name = codes "q"; runs = refl; steps = refl; prints = refl };
      waits = refl;
      stands = event.is;
      takes = refl;
    }

place : IsIdOf (state_met (to_begun the_take)) 1 0 0
place =
    let entry = found (entry_at (state_met (to_begun the_take)).boards.standing.tables 1 0) refl in
    record { entry = entry.it; found = entry.is; place = refl }

pub answered : IsAnsweredTake the_take 1 0 1 0 2 (9 ∷ [])
answered = record {
  bell = codes "a";
  number = 0;
  published = published;
  id_is = place;
  begun = record { name = codes "n"; holds = refl; is = refl; number_is = refl };
  notified = notified;
  untaken = ((λ t. let e = t.step.steps in cc), tt);
  taken = taken;
}
