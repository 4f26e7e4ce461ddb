-- The session that was worked out by hand, with an older take.
use Rattle.std.proofs.Common.{rules, refl, inr, Some, None, [], ◌∷◌, ◌++◌}
use Rattle.std.specs.Prelude.{codes, false}
use Rattle.board_event_model.specs.declared.access.EventAccess.TheVariants as event_access
use Rattle.board_event_model.specs.declared.access.EventAnswer.TheVariants as event_answer
use Rattle.board_event_model.specs.declared.call.WaitMode.TheVariants as mode
use Rattle.board_event_model.specs.declared.kind.EventKind.TheVariants as kind
use Rattle.board_event_model.specs.NotifyCalls.{notify_queue}
use Rattle.board_event_model.specs.WaitCalls.{wait_queue}
use Rattle.board_event_model.specs.EventCalls.{a_notify, a_wait, new_call}
use Rattle.board_cell_model.specs.declared.access.Access.TheVariants as access
use Rattle.board_model.specs.declared.answer.Reply.TheVariants as reply
use Rattle.board_model.specs.declared.value.ValueType.TheVariants as type
use Rattle.board_model.specs.Parties.{Running}
use Rattle.board_model.specs.Requests.{get}
use Rattle.board_model.specs.Tables.{entry_at}
use Rattle.board_model.specs.WorkedSessions as boards
use Rattle.script_model.specs.declared.reply.EventReply.TheVariants as event_reply
use Rattle.script_model.specs.ScriptSession.{IsLawful}
use Rattle.script_model.specs.LawsOfComposition.{BeginsGet, EndsGet, EndsPublication, IsIdOf, Notifies, TakesId, state_met}
use Rattle.script_model.specs.WorkedScripts.{the_new_value, the_newer_notify, the_old_get, the_old_value, the_older_take, to_new_value, to_newer_notify, to_old_value, to_older_take}
use Rattle.script_model.proofs.WorkedScript.{found, runs, the_get}

pub lawful : IsLawful (to_newer_notify ++ the_newer_notify ∷ [])
lawful = search rules

pub taken : TakesId (state_met to_older_take) the_older_take 1 0
taken =
    let event = found ((state_met to_older_take).events.session.stands 1) refl in
    record {
      party = codes "b";
      call = new_call 1 (a_wait (wait_queue false mode.Try));
      wait = wait_queue false mode.Try;
      access = event_access.Pop;
      answer = event_answer.Id 0;
      told = Some (event_reply.Id 0);
      event = event.it;
      step = record { kind = kind.Queue; name = codes "q"; runs = refl; steps = refl; prints = refl };
      waits = refl;
      stands = event.is;
      takes = refl;
    }

pub place : IsIdOf (state_met to_newer_notify) 1 0 0
place =
    let entry = found (entry_at (state_met to_newer_notify).boards.standing.tables 1 0) refl in
    record { entry = entry.it; found = entry.is; place = refl }

pub asked : BeginsGet (state_met (to_older_take ++ the_older_take ∷ [])) the_old_get (codes "b") 1 0
asked = record { handle = codes "h"; value = None; fetch = the_get; found = refl; board = refl; place = refl; is = refl }

-- the get, after its two reads
abbrev old_get : Running
old_get = record { request = get the_get; so_far = access.Read 1 0 1 ∷ access.Read 1 2 7 ∷ []; passed = 0 }

pub got : EndsGet (state_met to_old_value) the_old_value (codes "b") 1 0 (7 ∷ []) 1
got = record {
  ends = boards.last_step (codes "b") (access.Read 1 0 1) (reply.Got type.U64 (7 ∷ []) 1);
  is = refl;
  got = record { party = codes "b"; call = old_get; fetch = the_get; access = access.Read 1 0 1; runs = refl; request = refl; board = refl; place = refl; line = refl; answer = refl };
  own = refl;
}

pub published : EndsPublication (state_met to_new_value) the_new_value 1 0 (9 ∷ []) 2
published =
    let update_runs = runs ((state_met to_new_value).boards.parties (codes "a")) refl in
    record {
      ends = boards.last_step (codes "a") (access.Write 1 0 2) reply.Done;
      is = refl;
      publication = record { party = codes "a"; call = update_runs.call; access = access.Write 1 0 2; told = reply.Done; runs = update_runs.is; request = (refl, refl, refl, refl); line = refl; answer = refl };
    }

pub notified : Notifies (state_met to_newer_notify) the_newer_notify (codes "a") 1 0 2
notified = record {
  call = new_call 2 (a_notify (notify_queue 0));
  access = event_access.Push 0;
  answer = event_answer.Done;
  told = Some event_reply.Done;
  step = record { kind = kind.Queue; name = codes "q"; runs = refl; steps = refl; prints = refl };
  number_is = refl;
  makes = inr (refl, refl);
}
