-- Right answers are of the grammar of texts.
use Rattle.std.proofs.Common.{◌≡◌, ℕ, ◌+◌, ◌*◌, Bool, true, false, List, [], ◌∷◌, refl, sym, subst, ◌∙◌, Option, Some, None, Result, Ok, Err, IsSomeAnd}
use Rattle.std.specs.Prelude.{if◌then◌else◌, ◌==◌, ◌&&◌, ◌||◌, not, nat_lt, IfSome, is_some}
use Rattle.board_cell_model.specs.declared.access.Access.{Access}
use Rattle.board_cell_model.specs.declared.access.Access.TheVariants as access
use Rattle.board_event_model.specs.declared.access.EventAnswer.{EventAnswer}
use Rattle.board_event_model.specs.declared.access.EventAnswer.TheVariants as event_answer
use Rattle.board_event_model.specs.declared.call.EventProgress.{EventProgress}
use Rattle.board_event_model.specs.declared.call.EventProgress.TheVariants as progress
use Rattle.board_event_model.specs.declared.call.NotifyStage.{NotifyStage}
use Rattle.board_event_model.specs.declared.call.NotifyStage.TheVariants as notify
use Rattle.board_event_model.specs.declared.call.WaitStage.{WaitStage}
use Rattle.board_event_model.specs.declared.call.WaitStage.TheVariants as wait
use Rattle.board_event_model.specs.EventMemory.{Event}
use Rattle.board_event_model.specs.NotifyCalls.{Notify, is_yes, notify_turn, pushed}
use Rattle.board_event_model.specs.WaitCalls.{Wait, is_try, least_id, nothing, popped, scanned, swapped, wait_turn, word_in}
use Rattle.board_event_model.specs.EventCalls.{EventCall, RunningCall, a_notify, a_wait, call_of, is_last, turn}
use Rattle.board_event_model.specs.EventSessions.{PartyCall, event_of}
use Rattle.board_model.specs.declared.answer.Answer.{Answer}
use Rattle.board_model.specs.declared.answer.Answer.TheVariants as answer
use Rattle.board_model.specs.declared.answer.Reply.{Reply}
use Rattle.board_model.specs.declared.answer.Reply.TheVariants as reply
use Rattle.board_model.specs.declared.line.Line.{Line}
use Rattle.board_model.specs.declared.line.Line.TheVariants as board_line
use Rattle.board_model.specs.Requests.{Request, TableCall, and_then, create, discard, entry, entry_mut, fill, fresh, gen, get, id, info, keys, loan, nodes, open_, publish, put, reader, table, update, writer}
use Rattle.board_model.specs.Replies.{ask, ask_tables, number_or}
use Rattle.board_model.specs.Parties.{Party, Running, free, gone, running}
use Rattle.board_model.specs.LawfulSession as boards
use Rattle.board_model.specs.Sound.{IsCalling, Sound}
use Rattle.board_model.proofs.LineCases.{accepted}
use Rattle.board_model.proofs.RunningLemmas.{own_cell, runs}
use Rattle.board_model.proofs.SoundLemmas.{sound_session}
use Rattle.board_names.specs.declared.errors.event.NotifierNotifyError.TheVariants as notify_error
use Rattle.script_model.specs.declared.line.ScriptLine.{ScriptLine}
use Rattle.script_model.specs.declared.line.ScriptLine.TheVariants as line
use Rattle.script_model.specs.declared.reply.EventReply.TheVariants as event_reply
use Rattle.script_model.specs.ScriptAnswers.{IsScriptAnswer, ScriptAnswer, expired, of_ask, of_boards, of_event}
use Rattle.script_model.specs.ScriptEvents.{EventAsk, IsEventAccess, IsStepOf, ScriptEvents, ask_told, end_told, ids_told, is_for_all, opened_told, step_told, to_listen, to_notify}
use Rattle.script_model.specs.ScriptTurns.{EventTurn, ScriptState, begins, drops, expires, refused, steps, turn_of}
use Rattle.script_model.specs.ScriptSession.{start, state_after}
use Rattle.script_model.specs.LawsOfRules.{IsRuled}
use Rattle.script_model.specs.Parts.{board_part}
use Rattle.script_model.proofs.PartLemmas.{boards_law_holds}
use Rattle.script_model.proofs.RuleLemmas.{ruled}
use Rattle.script_rules.specs.PrintedAnswers.{IsGivenReply, IsPrinted, IsWholeReply, RightAnswersArePrinted, is_notify_reply, printed_of}
use Rattle.script_rules.proofs.PrintedLemmas.{text_printed}
use Rattle.script_rules.proofs.TypedGetLemmas.{IsTypedGet, RunsTyped, gets_typed}

-- what the grammar of texts asks of a reply beside the grammar of a script's answers
abbrev IsGivenIn : ScriptAnswer → Type 0
IsGivenIn (of_boards answer.Begun) = Unit {0}
IsGivenIn (of_boards (answer.Refused why)) = Unit {0}
IsGivenIn (of_boards (answer.Step a told)) = IfSome told IsWholeReply
IsGivenIn (of_boards answer.Gone) = Unit {0}
IsGivenIn (of_boards (answer.Words words)) = Unit {0}
IsGivenIn (of_ask r) = IsGivenReply r
IsGivenIn (of_event k name a b told) = IfSome told IsGivenReply
IsGivenIn expired = Unit {0}

formed_printed : (a : ScriptAnswer) → IsScriptAnswer a → IsGivenIn a → IsPrinted (printed_of a)
formed_printed (of_boards answer.Begun) h g = tt
formed_printed (of_boards (answer.Refused why)) h g = tt
formed_printed (of_boards (answer.Step a None)) h g = (h.0, tt)
formed_printed (of_boards (answer.Step a (Some r))) h g = (h.0, (h.1, g))
formed_printed (of_boards answer.Gone) h g = tt
formed_printed (of_boards (answer.Words words)) h g = h
formed_printed (of_ask r) h g = (tt, (h, g))
formed_printed (of_event k name a b None) h g = ((h.0, record { text = h.1.text; numbers = h.1.numbers; answers = h.1.answers; reply = tt }), tt)
formed_printed (of_event k name a b (Some r)) h g = ((h.0, record { text = h.1.text; numbers = h.1.numbers; answers = h.1.answers; reply = tt }), (h.1.reply, g))
formed_printed expired h g = tt

-- ---- replies of boards

number_whole : {E : Type 0} (error : E → Reply) (r : Result ℕ E) → ((e : E) → IsWholeReply (error e)) → IsWholeReply (number_or error r)
number_whole error (Ok x) h = tt
number_whole error (Err e) h = h e

module _ (s : boards.State) (sound : Sound s) (typed : (p : List ℕ) → RunsTyped (s.parties p)) where
  table_whole : (party : List ℕ) (c : TableCall) → IsWholeReply (ask_tables s.standing s.published party c).reply
  table_whole party (create f name k limits attributes entries) = number_whole reply.CreateError _ (λ e. tt)
  table_whole party (open_ f name k limits needs) = number_whole reply.OpenError _ (λ e. tt)
  table_whole party (reader name x) = number_whole reply.ReaderError _ (λ e. tt)
  table_whole party (writer name x) = number_whole reply.WriterError _ (λ e. tt)
  table_whole party (entry name x k type) = number_whole reply.EntryError _ (λ e. tt)
  table_whole party (entry_mut name x k type) = number_whole reply.EntryMutError _ (λ e. tt)
  table_whole party (loan l) = tt
  table_whole party (discard l) = tt
  table_whole party (keys x) = tt
  table_whole party (nodes x) = tt
  table_whole party (info x) = tt
  table_whole party (id x) = tt
  table_whole party (gen x) = tt

  reply_whole : (party : List ℕ) (r : Running) (q : Request) → IsCalling s party r q → IsTypedGet q → IsWholeReply (ask s.standing s.published party q).reply
  reply_whole party r (table c) k t = table_whole party c
  reply_whole party r (get f) k t =
      let c = own_cell s sound f.board f.entry f.shape k.place in
      c.size ∙ t
  reply_whole party r (fresh l) k t = tt
  reply_whole party r (update u) k t = tt
  reply_whole party r (put l i w) k t = tt
  reply_whole party r (publish l) k t = tt
  reply_whole party r (fill l v) k t = tt

  same_whole : (told : Option Reply) (t : Reply) → IfSome told (λ x. x ≡ t) → IsWholeReply t → IfSome told IsWholeReply
  same_whole None t h k = tt
  same_whole (Some x) t h k = subst IsWholeReply (sym h) k

  step_whole : (party : List ℕ) (x : Party) → s.parties party ≡ x → (a : Access) (told : Option Reply) → boards.IsOwedStep x (answer.Step a told) → boards.IsToldStep s party x (answer.Step a told) → IfSome told IsWholeReply
  step_whole party free e a told o t = absurd o
  step_whole party gone e a told o t = absurd o
  step_whole party (running r) e a told o t =
      same_whole told (ask s.standing s.published party r.request).reply t.reply
      (reply_whole party r r.request (runs s party r r.request sound e refl) (subst RunsTyped e (typed party)))

  answer_whole : (l : Line) (a : Answer) → boards.IsRight s l a → IsGivenIn (of_boards a)
  answer_whole l answer.Begun r = tt
  answer_whole l (answer.Refused why) r = tt
  answer_whole l answer.Gone r = tt
  answer_whole l (answer.Words ws) r = tt
  answer_whole (board_line.Begin party c) (answer.Step a told) r = absurd (cc (r.owed (accepted (boards.reason_of s (board_line.Begin party c)) (answer.Step a told) refl r.reason)))
  answer_whole (board_line.Step party) (answer.Step a told) r =
      let e = accepted (boards.reason_of s (board_line.Step party)) (answer.Step a told) refl r.reason in
      step_whole party (s.parties party) refl a told (r.owed e) (r.reply e)
  answer_whole (board_line.Release party name) (answer.Step a told) r =
      let e : answer.Step a told ≡ answer.Step access.Table (Some reply.Done) = r.owed (accepted (boards.reason_of s (board_line.Release party name)) (answer.Step a told) refl r.reason) in
      subst (λ (x : Answer). IsGivenIn (of_boards x)) (sym e) tt
  answer_whole (board_line.Abandon party) (answer.Step a told) r = absurd (cc (r.owed (accepted (boards.reason_of s (board_line.Abandon party)) (answer.Step a told) refl r.reason)))
  answer_whole (board_line.Words b) (answer.Step a told) r = absurd (r.owed (accepted (boards.reason_of s (board_line.Words b)) (answer.Step a told) refl r.reason))

-- ---- replies of events

abbrev IsGiven : EventProgress → Type 0
IsGiven progress.More = Unit {0}
IsGiven progress.Waiting = Unit {0}
IsGiven (progress.Took base bits last) = Unit {0}
IsGiven (progress.Id x last) = Unit {0}
IsGiven progress.Notified = Unit {0}
IsGiven (progress.Refused why) = is_notify_reply why ≡ true
IsGiven progress.Nothing = Unit {0}

wait_if : (b : Bool) (x y : EventProgress × WaitStage) → IsGiven x.0 → IsGiven y.0 → IsGiven (if b then x else y).0
wait_if true x y h k = h
wait_if false x y h k = k

given_if : (b : Bool) (p q : EventProgress) → IsGiven p → IsGiven q → IsGiven (if b then p else q)
given_if true p q h k = h
given_if false p q h k = k

nothing_given : (w : Wait) → IsGiven (nothing w).0
nothing_given w = wait_if (is_try w.mode) (progress.Nothing, wait.Finished) (progress.More, wait.Look) tt tt

scanned_given : (w : Wait) (k v : ℕ) → IsGiven (scanned w k v).0
scanned_given w k v =
    wait_if (v == 0) (if k + 1 == w.words then nothing w else (progress.More, wait.Scan (k + 1))) (progress.More, wait.Clear (least_id k v))
    (wait_if (k + 1 == w.words) (nothing w) (progress.More, wait.Scan (k + 1)) (nothing_given w) tt) tt

swapped_given : (w : Wait) (k : ℕ) (some : Bool) (v : ℕ) → IsGiven (swapped w k some v).0
swapped_given w k some v =
    wait_if (k + 1 == w.words) (if some || not (v == 0) then (progress.Took (64 * k) v true, wait.Finished) else nothing w) ((if v == 0 then progress.More else progress.Took (64 * k) v false), wait.Swap (k + 1) (some || not (v == 0)))
    (wait_if (some || not (v == 0)) (progress.Took (64 * k) v true, wait.Finished) (nothing w) tt (nothing_given w))
    (given_if (v == 0) progress.More (progress.Took (64 * k) v false) tt tt)

none_given : (w : Wait) (n : ℕ) → IsGiven (popped w n event_answer.Empty).0
none_given w n =
    wait_if (n == 0) (if is_try w.mode then (progress.Nothing, wait.Finished) else (progress.Waiting, wait.Pop 0)) (progress.Took 0 0 true, wait.Finished)
    (wait_if (is_try w.mode) (progress.Nothing, wait.Finished) (progress.Waiting, wait.Pop 0) tt tt) tt

popped_given : (w : Wait) (n : ℕ) (a : EventAnswer) → IsGiven (popped w n a).0
popped_given w n (event_answer.Id x) = wait_if (w.many && not (n + 1 == 513)) (progress.Id x false, wait.Pop (n + 1)) (progress.Id x true, wait.Finished) tt tt
popped_given w n event_answer.Yes = none_given w n
popped_given w n event_answer.No = none_given w n
popped_given w n event_answer.Done = none_given w n
popped_given w n event_answer.Full = none_given w n
popped_given w n event_answer.Gone = none_given w n
popped_given w n (event_answer.Word v) = none_given w n
popped_given w n event_answer.Empty = none_given w n

wait_given : (w : Wait) (stage : WaitStage) (a : EventAnswer) → IsGiven (wait_turn w stage a).0
wait_given w wait.Drain a = tt
wait_given w (wait.Scan k) a = scanned_given w k (word_in a)
wait_given w (wait.Clear x) a = tt
wait_given w (wait.Swap k some) a = swapped_given w k some (word_in a)
wait_given w wait.Look a = wait_if (is_yes a) (progress.More, wait.Drain) (progress.Waiting, wait.Look) tt tt
wait_given w (wait.Pop n) a = popped_given w n a
wait_given w wait.Finished a = tt

notify_if : (b : Bool) (x y : EventProgress × NotifyStage) → IsGiven x.0 → IsGiven y.0 → IsGiven (if b then x else y).0
notify_if true x y h k = h
notify_if false x y h k = k

pushed_given : (a : EventAnswer) → IsGiven (pushed a)
pushed_given event_answer.Done = tt
pushed_given event_answer.Full = refl
pushed_given a = refl

notify_given : (n : Notify) (stage : NotifyStage) (a : EventAnswer) → IsGiven (notify_turn n stage a).0
notify_given n notify.Look a =
    notify_if (is_yes a) (if nat_lt n.max n.id then (progress.Refused notify_error.TriggerIdOutOfBounds, notify.Finished) else (progress.More, notify.Set)) (progress.Refused notify_error.Disconnected, notify.Finished)
    (notify_if (nat_lt n.max n.id) (progress.Refused notify_error.TriggerIdOutOfBounds, notify.Finished) (progress.More, notify.Set) refl tt) refl
notify_given n notify.Set a = tt
notify_given n notify.Post a = tt
notify_given n notify.Push a = pushed_given a
notify_given n notify.Finished a = tt

turn_is_given : (c : EventCall) (a : EventAnswer) → IsGiven (turn c a).0
turn_is_given (a_notify n) a = notify_given n n.stage a
turn_is_given (a_wait w) a = wait_given w w.stage a

ids_given : (many : Bool) (ids : List ℕ) → IsGivenReply (ids_told many ids)
ids_given true ids = tt
ids_given false [] = tt
ids_given false (x ∷ xs) = tt

end_given : (many : Bool) (ids : List ℕ) (p : EventProgress) → IsGiven p → IsGivenReply (end_told many ids p)
end_given many ids progress.More h = ids_given many _
end_given many ids progress.Waiting h = ids_given many _
end_given many ids (progress.Took base bits last) h = ids_given many _
end_given many ids (progress.Id x last) h = ids_given many _
end_given many ids progress.Notified h = tt
end_given many ids (progress.Refused why) h = h
end_given many ids progress.Nothing h = tt

told_given : (r : RunningCall) (p : EventProgress) → IsGiven p → IfSome (step_told r p) IsGivenReply
told_given r p h = at (is_last p)
  where
    at : (b : Bool) → IfSome (if b then Some (end_told (is_for_all (call_of r)) r.told p) else None) IsGivenReply
    at true = end_given (is_for_all (call_of r)) r.told p h
    at false = tt

ask_given : (x : ScriptEvents) (q : EventAsk) → IsGivenReply (ask_told x q)
ask_given x (to_listen name k event max) = at (is_some (x.names k event))
  where
    at : (b : Bool) → IsGivenReply (if b then event_reply.AlreadyExists else event_reply.Done)
    at true = tt
    at false = tt
ask_given x (to_notify name k event) = by_event (and_then (x.names k event) (event_of x.session.stands))
  where
    by_held : (b : Bool) → IsGivenReply (if b then event_reply.Done else event_reply.DoesNotExist)
    by_held true = tt
    by_held false = tt

    by_event : (o : Option Event) → IsGivenReply (opened_told o)
    by_event None = tt
    by_event (Some e) = by_held e.held

-- ---- right answers

step_given : (x : ScriptEvents) (a : ScriptAnswer) (q : Option EventAsk) (o : Option PartyCall) → IsStepOf x q o a → IsGivenIn a
step_given x a (Some q) o ok = subst IsGivenIn (sym ok) (ask_given x q)
step_given x a None None ok = absurd ok
step_given x a None (Some d) ok = at (event_of x.session.stands d.on) ok
  where
    at : (o : Option Event) → IsSomeAnd o (λ z. IsEventAccess z d.call a) → IsGivenIn a
    at None k = absurd k
    at (Some z) k = subst IsGivenIn (sym k.printed) (told_given d.call (turn (call_of d.call) k.answer).0 (turn_is_given (call_of d.call) k.answer))

turn_given : (s : ScriptState) (l : ScriptLine) (a : ScriptAnswer) (o : Option EventTurn) → ((b : Line) (c : Answer) → boards.IsRight s.boards b c → IsGivenIn (of_boards c)) → IsRuled s l a o → IsGivenIn a
turn_given s l a (Some (refused why)) k ok = subst IsGivenIn (sym ok) tt
turn_given s l a (Some (begins party t)) k ok = subst IsGivenIn (sym ok) tt
turn_given s l a (Some (steps party)) k ok = step_given s.events a (s.events.asked party) (s.events.session.doing party) ok
turn_given s l a (Some (drops party name)) k ok = subst IsGivenIn (sym ok) tt
turn_given s l a (Some (expires party)) k ok = subst IsGivenIn (sym ok) tt
turn_given s (line.Board l) a None k ok = subst IsGivenIn (sym ok.is) (k l ok.answer ok.right)
turn_given s (line.Event p q) a None k ok = absurd ok
turn_given s (line.Expire p) a None k ok = absurd ok

pub right_printed : RightAnswersArePrinted
right_printed pairs l a ok right =
    let p = boards_law_holds pairs ok in
    let part : boards.Session = board_part start pairs in
    let by_boards : (b : Line) (c : Answer) → boards.IsRight (state_after start pairs).boards b c → IsGivenIn (of_boards c) =
    subst (λ (s : boards.State). (b : Line) (c : Answer) → boards.IsRight s b c → IsGivenIn (of_boards c)) p.state
    (answer_whole (boards.state_after boards.start part) (sound_session part p.lawful) (gets_typed part p.lawful)) in
    record {
      formed = formed_printed a right.answer (turn_given (state_after start pairs) l a (turn_of (state_after start pairs) l) by_boards (ruled (state_after start pairs) l a right));
      text = text_printed a;
    }
