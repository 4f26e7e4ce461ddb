-- The takes that were worked out by hand.
use Rattle.std.proofs.Common.{◌≡◌, false, ℕ, List, [], ◌∷◌, ◌++◌, Some, inr, refl, rules, sym, ◌∙◌}
use Rattle.std.specs.Prelude.{codes}
use Rattle.std.proofs.lemmas.Bool.{false≢true}
use Rattle.board_event_model.specs.declared.access.EventAccess.TheVariants as event_access
use Rattle.board_event_model.specs.declared.access.EventAnswer.TheVariants as event_answer
use Rattle.board_event_model.specs.declared.call.WaitMode.TheVariants as mode
use Rattle.board_event_model.specs.declared.kind.EventKind.TheVariants as kind
use Rattle.board_event_model.specs.NotifyCalls.{notify_queue}
use Rattle.board_event_model.specs.WaitCalls.{wait_queue}
use Rattle.board_event_model.specs.EventCalls.{a_notify, a_wait, new_call}
use Rattle.board_model.specs.Tables.{entry_at}
use Rattle.script_model.specs.ScriptSession.{IsLawful, start}
use Rattle.script_model.specs.LawsOfComposition.{Cuts, IsIdOf, IsNotifiedGet, TakesId, state_met, to_taken}
use Rattle.script_model.specs.WorkedScripts.{a_reader_that_was_told, a_reader_told_by_a_lost_notifier, a_reader_told_by_a_set, asks, the_new_value, the_newer_notify, the_old_value, to_older_take}
use Rattle.script_model.specs.declared.line.EventRequest.TheVariants as request
use Rattle.script_model.specs.declared.reply.EventReply.TheVariants as event_reply
use Rattle.script_model.proofs.CompositionLemmas.{lawful_split}
use Rattle.script_model.proofs.WorkedLost as lost
use Rattle.script_model.proofs.WorkedOlder as older
use Rattle.script_model.proofs.WorkedScript as queue
use Rattle.script_model.proofs.WorkedSet as set
use Rattle.script_moments.specs.LawsOfTakes.{IsGetAfterTake, IsNotifyAt, popped_on, pushed_on, to_end, to_got, to_notified}
use Rattle.script_moments.specs.WorkedTakes.{a_second_notify, an_older_take, from_take, the_second_take}

-- a session that meets the premises of the law on notified gets meets those of the law on takes
get_after : (c : Cuts) (b i n id g h : ℕ) (words later : List ℕ) → IsNotifiedGet c b i n id g h words later → IsIdOf (state_met (to_taken c)) b i id → IsGetAfterTake (from_take c) b i n id h later
get_after c b i n id g h words later k place = record { reader = k.reader; lawful = k.lawful; id_is = place; taken = k.taken; asked = k.asked; runs_on = k.runs_on; got = k.got }

queue_place : IsIdOf (state_met (to_taken a_reader_that_was_told)) 1 0 0
queue_place =
    let entry = queue.found (entry_at (state_met (to_taken a_reader_that_was_told)).boards.standing.tables 1 0) refl in
    record { entry = entry.it; found = entry.is; place = refl }

pub after_pop : IsGetAfterTake (from_take a_reader_that_was_told) 1 0 1 0 2 (9 ∷ [])
after_pop = get_after a_reader_that_was_told 1 0 1 0 2 2 (9 ∷ []) (9 ∷ []) queue.reader_told queue_place

set_place : IsIdOf (state_met (to_taken a_reader_told_by_a_set)) 1 0 0
set_place =
    let entry = queue.found (entry_at (state_met (to_taken a_reader_told_by_a_set)).boards.standing.tables 1 0) refl in
    record { entry = entry.it; found = entry.is; place = refl }

pub after_clear : IsGetAfterTake (from_take a_reader_told_by_a_set) 1 0 1 0 2 (9 ∷ [])
after_clear = get_after a_reader_told_by_a_set 1 0 1 0 2 2 (9 ∷ []) (9 ∷ []) set.reader_told set_place

lost_place : IsIdOf (state_met (to_taken a_reader_told_by_a_lost_notifier)) 1 0 0
lost_place =
    let entry = queue.found (entry_at (state_met (to_taken a_reader_told_by_a_lost_notifier)).boards.standing.tables 1 0) refl in
    record { entry = entry.it; found = entry.is; place = refl }

pub after_lost : IsGetAfterTake (from_take a_reader_told_by_a_lost_notifier) 1 0 1 0 2 (9 ∷ [])
after_lost = get_after a_reader_told_by_a_lost_notifier 1 0 1 0 2 2 (9 ∷ []) (9 ∷ []) lost.reader_told lost_place

-- ---- the older take

older_place : IsIdOf (state_met to_older_take) 1 0 0
older_place =
    let entry = queue.found (entry_at (state_met to_older_take).boards.standing.tables 1 0) refl in
    record { entry = entry.it; found = entry.is; place = refl }

-- its session goes on with the end of the update and a newer notify
older_lawful : IsLawful (to_got an_older_take ++ the_old_value ∷ [])
older_lawful = (lawful_split (to_got an_older_take ++ the_old_value ∷ []) (the_new_value ∷ asks (codes "a") (request.Notify (codes "n") 0) ∷ the_newer_notify ∷ []) start older.lawful).0

pub after_older : IsGetAfterTake an_older_take 1 0 1 0 1 (7 ∷ [])
after_older = record {
  reader = codes "b";
  lawful = older_lawful;
  id_is = older_place;
  taken = older.taken;
  asked = older.asked;
  runs_on = (refl, (refl, (refl, (refl, refl))));
  got = older.got;
}

-- ---- the second take

pub second_lawful : IsLawful (to_end a_second_notify ++ the_second_take ∷ [])
second_lawful = search rules

pub second_taken : TakesId (state_met (to_end a_second_notify)) the_second_take 1 0
second_taken =
    let event = queue.found ((state_met (to_end a_second_notify)).events.session.stands 1) refl in
    record {
      party = codes "b";
      call = new_call 3 (a_wait (wait_queue false mode.Try));
      wait = wait_queue false mode.Try;
      access = event_access.Pop;
      answer = event_answer.Id 0;
      told = Some (event_reply.Id 0);
      event = event.it;
      step = record { kind = kind.Queue; name = codes "q"; runs = refl; steps = refl; prints = refl };
      waits = refl;
      stands = event.is;
      takes = refl;
    }

-- one push came before, and one pop comes before the second
one_pushed : pushed_on 1 (to_notified a_second_notify) ≡ 0 ∷ []
one_pushed = refl

one_popped : popped_on 1 (to_end a_second_notify) ≡ 0 ∷ []
one_popped = refl

pub second_notified : IsNotifyAt a_second_notify kind.Queue (codes "q") 1 0
second_notified = record {
  party = codes "a";
  number = 2;
  begun = record { name = codes "n"; holds = refl; is = refl; number_is = refl };
  notified = record {
    call = new_call 2 (a_notify (notify_queue 0));
    access = event_access.Push 0;
    answer = event_answer.Done;
    told = Some event_reply.Done;
    step = record { kind = kind.Queue; name = codes "q"; runs = refl; steps = refl; prints = refl };
    number_is = refl;
    makes = inr (refl, refl);
  };
  kind_is = refl;
  name_is = refl;
  newest = λ e. absurd (false≢true e);
  untaken = λ e. absurd (false≢true e);
  in_turn = λ e. one_pushed ∙ sym one_popped;
}
