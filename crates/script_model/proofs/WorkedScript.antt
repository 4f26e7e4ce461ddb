-- The session that was worked out by hand, with a queue.
use Rattle.std.proofs.Common.{rules, ◌≡◌, true, false, refl, inr, Some, None, Option, [], ◌∷◌, ◌++◌}
use Rattle.std.specs.Prelude.{codes, is_some}
use Rattle.std.proofs.lemmas.Bool.{false≢true}
use Rattle.board_event_model.specs.declared.access.EventAccess.TheVariants as event_access
use Rattle.board_event_model.specs.declared.access.EventAnswer.TheVariants as event_answer
use Rattle.board_event_model.specs.declared.call.WaitMode.TheVariants as mode
use Rattle.board_event_model.specs.declared.kind.EventKind.TheVariants as kind
use Rattle.board_event_model.specs.NotifyCalls.{notify_queue}
use Rattle.board_event_model.specs.WaitCalls.{wait_queue}
use Rattle.board_event_model.specs.EventCalls.{a_notify, a_wait, RunningCall, new_call}
use Rattle.board_cell_model.specs.declared.access.Access.TheVariants as access
use Rattle.board_model.specs.declared.answer.Reply.TheVariants as reply
use Rattle.board_model.specs.declared.value.ValueType.TheVariants as type
use Rattle.board_model.specs.Parties.{Party, Running, free, gone, running}
use Rattle.board_model.specs.Requests.{Fetch, get}
use Rattle.board_model.specs.TypeTable.{value_detail}
use Rattle.board_model.specs.Tables.{entry_at}
use Rattle.board_model.specs.WorkedSessions as boards
use Rattle.script_model.specs.declared.reply.EventReply.TheVariants as event_reply
use Rattle.script_model.specs.ScriptSession.{IsLawful}
use Rattle.script_model.specs.LawsOfComposition.{EndsGet, EndsPublication, IsIdOf, IsNotifiedGet, Notifies, TakesId, state_met, is_running, to_begun, to_got, to_notified, to_published, to_taken}
use Rattle.script_model.specs.WorkedScripts.{a_reader_that_was_told}

-- ---- what stands, as a value of its own

pub record Found {A : Type 0} (o : Option A) : Type 0 where
  pub it : A
  pub is : o ≡ Some it

abbrev pub found : {A : Type 0} (o : Option A) → is_some o ≡ true → Found o
found None h = absurd (false≢true h)
found (Some x) h = record { it = x; is = refl }

pub record Runs (p : Party) : Type 0 where
  pub call : Running
  pub is : p ≡ running call

abbrev pub runs : (p : Party) → is_running p ≡ true → Runs p
runs free h = absurd (false≢true h)
runs (running r) h = record { call = r; is = refl }
runs gone h = absurd (false≢true h)

lawful : IsLawful (to_got a_reader_that_was_told ++ a_reader_that_was_told.got ∷ [])
lawful = search rules

-- the get of the entry
abbrev pub the_get : Fetch
the_get = record { board = 1; entry = 0; shape = record { first = 0; head = 2; words = 1 }; type = value_detail type.U64; handle = codes "h"; name = None }

abbrev pub get_runs : Running
get_runs = record { request = get the_get; so_far = access.Read 1 0 2 ∷ access.Read 1 3 9 ∷ []; passed = 0 }

-- the calls on the event
abbrev notify_runs : RunningCall
notify_runs = new_call 0 (a_notify (notify_queue 0))

abbrev wait_runs : RunningCall
wait_runs = new_call 1 (a_wait (wait_queue false mode.Try))

-- ---- what each of the six pairs is

published : EndsPublication (state_met (to_published a_reader_that_was_told)) a_reader_that_was_told.published 1 0 (9 ∷ []) 2
published =
    let update_runs = runs ((state_met (to_published a_reader_that_was_told)).boards.parties (codes "a")) refl in
    record {
      ends = boards.last_step (codes "a") (access.Write 1 0 2) reply.Done;
      is = refl;
      publication = record { party = codes "a"; call = update_runs.call; access = access.Write 1 0 2; told = reply.Done; runs = update_runs.is; request = (refl, refl, refl, refl); line = refl; answer = refl };
    }

notified : Notifies (state_met (to_notified a_reader_that_was_told)) a_reader_that_was_told.notified (codes "a") 1 0 0
notified = record {
  call = notify_runs;
  access = event_access.Push 0;
  answer = event_answer.Done;
  told = Some event_reply.Done;
  step = record { kind = kind.Queue; name = codes "q"; runs = refl; steps = refl; prints = refl };
  number_is = refl;
  makes = inr (refl, refl);
}

taken : TakesId (state_met (to_taken a_reader_that_was_told)) a_reader_that_was_told.taken 1 0
taken =
    let event = found ((state_met (to_taken a_reader_that_was_told)).events.session.stands 1) refl in
    record {
      party = codes "b";
      call = wait_runs;
      wait = wait_queue false mode.Try;
      access = event_access.Pop;
      answer = event_answer.Id 0;
      told = Some (event_reply.Id 0);
      event = event.it;
      step = record { kind = kind.Queue; name = codes "q"; runs = refl; steps = refl; prints = refl };
      waits = refl;
      stands = event.is;
      takes = refl;
    }

got : EndsGet (state_met (to_got a_reader_that_was_told)) a_reader_that_was_told.got (codes "b") 1 0 (9 ∷ []) 2
got = record {
  ends = boards.last_step (codes "b") (access.Read 1 0 2) (reply.Got type.U64 (9 ∷ []) 2);
  is = refl;
  got = record { party = codes "b"; call = get_runs; fetch = the_get; access = access.Read 1 0 2; runs = refl; request = refl; board = refl; place = refl; line = refl; answer = refl };
  own = refl;
}

place : IsIdOf (state_met (to_begun a_reader_that_was_told)) 1 0 0
place =
    let entry = found (entry_at (state_met (to_begun a_reader_that_was_told)).boards.standing.tables 1 0) refl in
    record { entry = entry.it; found = entry.is; place = refl }

pub reader_told : IsNotifiedGet a_reader_that_was_told 1 0 1 0 2 2 (9 ∷ []) (9 ∷ [])
reader_told = record {
  bell = codes "a";
  reader = codes "b";
  number = 0;
  lawful = lawful;
  published = published;
  id_is = place;
  begun = record { name = codes "n"; holds = refl; is = refl; number_is = refl };
  notified = notified;
  untaken = ((λ t. let e = t.step.steps in cc), tt);
  taken = taken;
  asked = record { handle = codes "h"; value = None; fetch = the_get; found = refl; board = refl; place = refl; is = refl };
  runs_on = (refl, (refl, refl));
  got = got;
}
