-- The session that was worked out by hand, with a notifier that is abandoned after its set.
use Rattle.std.proofs.Common.{rules, ℕ, false, refl, inl, Some, None, Option, [], ◌∷◌, ◌++◌}
use Rattle.std.specs.Prelude.{codes}
use lib.Count.{count_trailing_zeros}
use Rattle.std.specs.FinSet as set
use Rattle.board_event_model.specs.declared.access.EventAccess.TheVariants as event_access
use Rattle.board_event_model.specs.declared.access.EventAnswer.TheVariants as event_answer
use Rattle.board_event_model.specs.declared.call.WaitMode.TheVariants as mode
use Rattle.board_event_model.specs.declared.call.WaitStage.TheVariants as stage
use Rattle.board_event_model.specs.declared.kind.EventKind.TheVariants as kind
use Rattle.board_event_model.specs.WaitCalls.{Wait}
use Rattle.board_event_model.proofs.SetLemmas.{has_itself}
use Rattle.board_cell_model.specs.declared.access.Access.TheVariants as access
use Rattle.board_model.specs.declared.answer.Answer.TheVariants as answer
use Rattle.board_model.specs.declared.answer.Answer.{Answer}
use Rattle.board_model.specs.declared.answer.Reply.{Reply}
use Rattle.board_model.specs.declared.answer.Reply.TheVariants as reply
use Rattle.board_model.specs.declared.line.Line.{Line}
use Rattle.board_model.specs.declared.line.Line.TheVariants as board_line
use Rattle.board_model.specs.AnswerGrammar.{IsAnswer}
use Rattle.board_model.specs.declared.value.ValueType.TheVariants as type
use Rattle.board_model.specs.Tables.{entry_at}
use Rattle.board_model.specs.WorkedSessions as boards
use Rattle.script_model.specs.declared.line.EventRequest.TheVariants as request
use Rattle.script_model.specs.declared.reply.EventReply.TheVariants as event_reply
use Rattle.script_model.specs.ScriptSession.{IsLawful, IsRight, Session, start}
use Rattle.script_model.specs.ScriptTurns.{ScriptState}
use Rattle.script_model.specs.LawsOfComposition.{EndsGet, EndsPublication, IsIdOf, IsNotifiedGet, IsUntaken, Notifies, Pair, TakesId, state_met, of_pair, past, to_asked, to_begun, to_got, to_notified, to_published, to_taken}
use Rattle.script_model.specs.WorkedScripts.{a_reader_told_by_a_lost_notifier, asks, set_access}
use Rattle.script_model.proofs.RuleLemmas.{right_by}
use Rattle.script_model.proofs.WorkedSet.{begins_only, lawful_join, takes_nothing, zero_word}
use Rattle.script_model.proofs.WorkedScript.{found, get_runs, runs, the_get}

-- an access that is right
abbrev Right : Session → Pair → Type 0
Right before pair = IsRight (state_met before) pair.0 pair.1

-- what comes before each access
abbrev to_look : Session
to_look = to_begun a_reader_told_by_a_lost_notifier ++ a_reader_told_by_a_lost_notifier.begun ∷ []

abbrev to_post : Session
to_post = to_notified a_reader_told_by_a_lost_notifier ++ a_reader_told_by_a_lost_notifier.notified ∷ []

abbrev the_look : Pair
the_look = set_access (codes "a") event_access.Listener event_answer.Yes None

abbrev the_abandonment : Pair
the_abandonment = of_pair (board_line.Abandon (codes "a"), answer.Gone)

abbrev the_wait_begins : Pair
the_wait_begins = asks (codes "b") (request.Wait (codes "e") false mode.Try)

abbrev the_signal : Pair
the_signal = set_access (codes "b") event_access.Signal event_answer.No None

abbrev the_scan : Pair
the_scan = set_access (codes "b") (event_access.Scan 0) (event_answer.Word 1) None

abbrev to_drain : Session
to_drain = to_post ++ (the_abandonment ∷ the_wait_begins ∷ [])

abbrev to_scan : Session
to_scan = to_drain ++ (the_signal ∷ [])

abbrev the_gets : Session
the_gets = a_reader_told_by_a_lost_notifier.asked ∷ (a_reader_told_by_a_lost_notifier.before_got ++ a_reader_told_by_a_lost_notifier.got ∷ [])

begun_lawful : IsLawful to_look
begun_lawful = search rules

look_right : Right to_look the_look
look_right = right_by _ _ _ refl (record { answer = event_answer.Yes; right = refl; printed = refl }) (search rules)

set_right : Right (to_look ++ the_look ∷ []) a_reader_told_by_a_lost_notifier.notified
set_right = right_by _ _ _ refl (record { answer = event_answer.Done; right = refl; printed = refl }) (search rules)

abandon_right : Right to_post the_abandonment
abandon_right = right_by _ _ _ refl (record { answer = answer.Gone; right = record { line = refl; answer = tt; reason = tt; owed = λ e. refl; word = λ e. tt; reply = λ e. tt }; is = refl }) tt

begin_right : Right (to_post ++ the_abandonment ∷ []) the_wait_begins
begin_right = right_by _ _ _ (refl, refl) refl tt

drain_right : Right to_drain the_signal
drain_right = right_by _ _ _ refl (record { answer = event_answer.No; right = refl; printed = refl }) (search rules)

scan_right : Right to_scan the_scan
scan_right = right_by _ _ _ refl (record { answer = event_answer.Word 1; right = zero_word; printed = refl }) (search rules)

clear_right : Right (to_scan ++ the_scan ∷ []) a_reader_told_by_a_lost_notifier.taken
unfolding count_trailing_zeros
clear_right = right_by _ _ _ refl (record { answer = event_answer.Done; right = (refl, has_itself set.empty 0); printed = refl }) (search rules)

get_begins : Right (to_asked a_reader_told_by_a_lost_notifier) a_reader_told_by_a_lost_notifier.asked
get_begins = right_by _ _ _ (refl, (refl, tt)) (record { answer = answer.Begun; right = record { line = (refl, (refl, tt)); answer = tt; reason = tt; owed = λ e. refl; word = λ e. tt; reply = λ e. tt }; is = refl }) tt

-- the reads of the get
abbrev a_read : ℕ → ℕ → Option Reply → Line × Answer
a_read word value told = (board_line.Step (codes "b"), answer.Step (access.Read 1 word value) told)

first_answer : IsAnswer (answer.Step (access.Read 1 0 2) None)
first_answer = search rules

second_answer : IsAnswer (answer.Step (access.Read 1 3 9) None)
second_answer = search rules

last_answer : IsAnswer (answer.Step (access.Read 1 0 2) (Some (reply.Got type.U64 (9 ∷ []) 2)))
last_answer = search rules

abbrev to_read : Session
to_read = to_asked a_reader_told_by_a_lost_notifier ++ a_reader_told_by_a_lost_notifier.asked ∷ []

first_read : Right to_read (of_pair (a_read 0 2 None))
first_read = right_by _ _ _ refl (record { answer = answer.Step (access.Read 1 0 2) None; right = record { line = refl; answer = first_answer; reason = tt; owed = λ e. refl; word = λ e. refl; reply = λ e. record { last = refl; reply = tt } }; is = refl }) first_answer

second_read : Right (to_read ++ of_pair (a_read 0 2 None) ∷ []) (of_pair (a_read 3 9 None))
second_read = right_by _ _ _ refl (record { answer = answer.Step (access.Read 1 3 9) None; right = record { line = refl; answer = second_answer; reason = tt; owed = λ e. refl; word = λ e. refl; reply = λ e. record { last = refl; reply = tt } }; is = refl }) second_answer

last_read : Right (to_got a_reader_told_by_a_lost_notifier) a_reader_told_by_a_lost_notifier.got
last_read = right_by _ _ _ refl (record { answer = answer.Step (access.Read 1 0 2) (Some (reply.Got type.U64 (9 ∷ []) 2)); right = record { line = refl; answer = last_answer; reason = tt; owed = λ e. refl; word = λ e. refl; reply = λ e. record { last = refl; reply = refl } }; is = refl }) last_answer

lawful : IsLawful (to_got a_reader_told_by_a_lost_notifier ++ a_reader_told_by_a_lost_notifier.got ∷ [])
lawful =
    lawful_join to_look (the_look ∷ a_reader_told_by_a_lost_notifier.notified ∷ the_abandonment ∷ the_wait_begins ∷ the_signal ∷ the_scan ∷ a_reader_told_by_a_lost_notifier.taken ∷ the_gets) start begun_lawful
    (look_right, (set_right, (abandon_right, (begin_right, (drain_right, (scan_right, (clear_right, (get_begins, (first_read, (second_read, (last_read, tt)))))))))))

-- ---- what each of the six pairs is

published : EndsPublication (state_met (to_published a_reader_told_by_a_lost_notifier)) a_reader_told_by_a_lost_notifier.published 1 0 (9 ∷ []) 2
published =
    let update_runs = runs ((state_met (to_published a_reader_told_by_a_lost_notifier)).boards.parties (codes "a")) refl in
    record {
      ends = boards.last_step (codes "a") (access.Write 1 0 2) reply.Done;
      is = refl;
      publication = record { party = codes "a"; call = update_runs.call; access = access.Write 1 0 2; told = reply.Done; runs = update_runs.is; request = (refl, refl, refl, refl); line = refl; answer = refl };
    }

place : IsIdOf (state_met (to_begun a_reader_told_by_a_lost_notifier)) 1 0 0
place =
    let entry = found (entry_at (state_met (to_begun a_reader_told_by_a_lost_notifier)).boards.standing.tables 1 0) refl in
    record { entry = entry.it; found = entry.is; place = refl }

notified : Notifies (state_met (to_notified a_reader_told_by_a_lost_notifier)) a_reader_told_by_a_lost_notifier.notified (codes "a") 1 0 0
notified =
    let doing = found ((state_met (to_notified a_reader_told_by_a_lost_notifier)).events.session.doing (codes "a")) refl in
    record {
      call = doing.it.call;
      access = event_access.Set 0;
      answer = event_answer.Done;
      told = None;
      step = record { kind = kind.Bits; name = codes "s"; runs = doing.is; steps = refl; prints = refl };
      number_is = refl;
      makes = inl refl;
    }

abandons_only : (s : ScriptState) → TakesId s the_abandonment 1 0 → ⊥
abandons_only s t = let e = t.step.steps in cc

untaken : IsUntaken (past (to_notified a_reader_told_by_a_lost_notifier) a_reader_told_by_a_lost_notifier.notified) a_reader_told_by_a_lost_notifier.before_taken 1 0
untaken = (
  abandons_only _,
  (
    begins_only _ (codes "b") _,
    (
      takes_nothing _ (codes "b") event_access.Signal event_answer.No None (λ e. refl),
      (takes_nothing _ (codes "b") (event_access.Scan 0) (event_answer.Word 1) None (λ e. refl), tt),
    ),
  ),
)

-- where the wait stands before it takes the id
abbrev the_wait : Wait
the_wait = record { words = 1; many = false; mode = mode.Try; stage = stage.Clear 0 }

taken_then : TakesId (state_met (to_taken a_reader_told_by_a_lost_notifier)) a_reader_told_by_a_lost_notifier.taken 1 0
unfolding count_trailing_zeros
taken_then =
    let doing = found ((state_met (to_taken a_reader_told_by_a_lost_notifier)).events.session.doing (codes "b")) refl in
    let event = found ((state_met (to_taken a_reader_told_by_a_lost_notifier)).events.session.stands 1) refl in
    record {
      party = codes "b";
      call = doing.it.call;
      wait = the_wait;
      access = event_access.Clear 0;
      answer = event_answer.Done;
      told = Some (event_reply.Id 0);
      event = event.it;
      step = record { kind = kind.Bits; name = codes "s"; runs = doing.is; steps = refl; prints = refl };
      waits = refl;
      stands = event.is;
      takes = refl;
    }

got : EndsGet (state_met (to_got a_reader_told_by_a_lost_notifier)) a_reader_told_by_a_lost_notifier.got (codes "b") 1 0 (9 ∷ []) 2
got = record {
  ends = boards.last_step (codes "b") (access.Read 1 0 2) (reply.Got type.U64 (9 ∷ []) 2);
  is = refl;
  got = record { party = codes "b"; call = get_runs; fetch = the_get; access = access.Read 1 0 2; runs = refl; request = refl; board = refl; place = refl; line = refl; answer = refl };
  own = refl;
}

pub reader_told : IsNotifiedGet a_reader_told_by_a_lost_notifier 1 0 1 0 2 2 (9 ∷ []) (9 ∷ [])
reader_told = record {
  bell = codes "a";
  reader = codes "b";
  number = 0;
  lawful = lawful;
  published = published;
  id_is = place;
  begun = record { name = codes "n"; holds = refl; is = refl; number_is = refl };
  notified = notified;
  untaken = untaken;
  taken = taken_then;
  asked = record { handle = codes "h"; value = None; fetch = the_get; found = refl; board = refl; place = refl; is = refl };
  runs_on = (refl, (refl, refl));
  got = got;
}
