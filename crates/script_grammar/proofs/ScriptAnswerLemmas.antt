-- The text of a right answer holds no newline, those to lines of events included.
use Rattle.std.proofs.Common.{◌≡◌, ℕ, true, List, Option, Some, None, IsSomeAnd, refl, sym, subst}
use Rattle.std.specs.Prelude.{codes}
use Rattle.board_event_model.specs.declared.access.EventAccess.{EventAccess}
use Rattle.board_event_model.specs.declared.access.EventAccess.TheVariants as access
use Rattle.board_event_model.specs.declared.access.EventAnswer.{EventAnswer}
use Rattle.board_event_model.specs.declared.access.EventAnswer.TheVariants as event_answer
use Rattle.board_names.specs.declared.errors.event.NotifierNotifyError.{NotifierNotifyError}
use Rattle.board_names.specs.declared.errors.event.NotifierNotifyError.TheVariants as notify_error
use Rattle.board_event_model.specs.declared.kind.EventKind.{EventKind}
use Rattle.board_event_model.specs.declared.kind.EventKind.TheVariants as kind
use Rattle.board_event_model.specs.EventCalls.{owed, turn, RunningCall, call_of}
use Rattle.board_event_model.specs.EventSessions.{PartyCall, StandingEvent, event_of}
use Rattle.board_event_model.specs.WaitCalls.{word_in}
use Rattle.board_model.specs.declared.answer.Answer.{Answer}
use Rattle.board_model.specs.declared.answer.Answer.TheVariants as answer
use Rattle.board_cell_model.specs.declared.access.Access.TheVariants as board_access
use Rattle.board_model.specs.declared.answer.Reply.TheVariants as board_reply
use Rattle.board_model.specs.AnswerGrammar.{IsAnswer, number_text}
use Rattle.board_model.specs.Lines.{IsOneLine}
use Rattle.script_grammar.proofs.BoardAnswerLemmas.{IsFlat, answer_free, flat_number, flat_numbers}
use Rattle.script_grammar.proofs.SplitLemmas.{free_append, free_event_name, free_lacks}
use Rattle.script_model.specs.declared.line.ScriptLine.{ScriptLine}
use Rattle.script_model.specs.declared.line.ScriptLine.TheVariants as line
use Rattle.script_model.specs.declared.reply.EventReply.{EventReply}
use Rattle.script_model.specs.declared.reply.EventReply.TheVariants as reply
use Rattle.script_model.specs.ScriptGrammar.{is_event_name}
use Rattle.script_model.specs.ScriptAnswers.{ScriptAnswer, event_access_text, event_reply_text, event_text, event_told_text, found_text, notify_error_text, of_ask, of_boards, of_event, popped_text, script_answer_text}
use Rattle.script_model.specs.ScriptEvents.{EventAsk, IsEventAccess, IsStepOf, ScriptEvents, ask_told, step_told}
use Rattle.script_model.specs.ScriptTurns.{EventTurn, IsTurnAnswer, ScriptState, begins, drops, expires, refused, steps, turn_of}
use Rattle.script_model.specs.LawsOfRules.{IsRuled}
use Rattle.script_model.proofs.RuleLemmas.{ruled}
use Rattle.script_model.specs.SoundEvents.{AreSoundEvents, IsFormedEvent}
use Rattle.script_grammar.specs.LawsOfScriptLines.{RightAnswersHoldNoNewline}

-- ---- what a step of events prints

flat_error : (e : NotifierNotifyError) → IsFlat (notify_error_text e)
flat_error notify_error.Interrupt = refl
flat_error notify_error.FailedToDeliverSignal = refl
flat_error notify_error.TriggerIdOutOfBounds = refl
flat_error notify_error.Disconnected = refl
flat_error notify_error.InternalFailure = refl

flat_reply : (r : EventReply) → IsFlat (event_reply_text r)
flat_reply reply.Done = refl
flat_reply (reply.Id id) = flat_number id
flat_reply (reply.Ids ids) = flat_numbers ids
flat_reply reply.Nothing = refl
flat_reply reply.AlreadyExists = refl
flat_reply reply.DoesNotExist = refl
flat_reply (reply.NotNotified e) = flat_error e

flat_told : (told : Option EventReply) → IsFlat (event_told_text told)
flat_told None = refl
flat_told (Some r) = flat_reply r

flat_event : (k : EventKind) (name : List ℕ) → is_event_name name ≡ true → IsFlat (event_text k name)
flat_event kind.Bits name h = free_event_name 10 refl name h
flat_event kind.Queue name h = free_event_name 10 refl name h

flat_found : (a : EventAnswer) → IsFlat (found_text a)
flat_found event_answer.Done = refl
flat_found event_answer.Yes = refl
flat_found event_answer.No = refl
flat_found (event_answer.Word w) = refl
flat_found (event_answer.Id id) = refl
flat_found event_answer.Empty = refl
flat_found event_answer.Full = refl
flat_found event_answer.Gone = refl

flat_popped : (a : EventAnswer) → IsFlat (popped_text a)
flat_popped event_answer.Done = refl
flat_popped event_answer.Yes = refl
flat_popped event_answer.No = refl
flat_popped (event_answer.Word w) = refl
flat_popped (event_answer.Id id) = flat_number id
flat_popped event_answer.Empty = refl
flat_popped event_answer.Full = refl
flat_popped event_answer.Gone = refl

flat_access : (k : EventKind) (name : List ℕ) (x : EventAccess) (a : EventAnswer) → is_event_name name ≡ true → IsFlat (event_access_text k name x a)
flat_access k name access.Listener a h = free_append 10 (event_text k name) (found_text a) (flat_event k name h) (flat_found a)
flat_access k name (access.Set id) a h = free_append 10 (event_text k name) (number_text id) (flat_event k name h) (flat_number id)
flat_access k name access.Post a h = flat_event k name h
flat_access k name (access.Push id) a h = flat_event k name h
flat_access k name access.Signal a h = free_append 10 (event_text k name) (found_text a) (flat_event k name h) (flat_found a)
flat_access k name (access.Scan w) a h = free_append 10 (event_text k name) _ (flat_event k name h) (free_append 10 (number_text w) (number_text (word_in a)) (flat_number w) (flat_number (word_in a)))
flat_access k name (access.Clear id) a h = free_append 10 (event_text k name) (number_text id) (flat_event k name h) (flat_number id)
flat_access k name (access.Swap w) a h = free_append 10 (event_text k name) _ (flat_event k name h) (free_append 10 (number_text w) (number_text (word_in a)) (flat_number w) (flat_number (word_in a)))
flat_access k name access.Pop a h = free_append 10 (event_text k name) (popped_text a) (flat_event k name h) (flat_popped a)

-- ---- right answers

board_line : (a : Answer) → IsAnswer a → IsOneLine (script_answer_text (of_boards a))
board_line a h = answer_free a h

of_this : (a b : ScriptAnswer) → a ≡ b → IsOneLine (script_answer_text b) → IsOneLine (script_answer_text a)
of_this a b e h = subst (λ (x : ScriptAnswer). IsOneLine (script_answer_text x)) (sym e) h

asked_line : (r : EventReply) → IsOneLine (script_answer_text (of_ask r))
asked_line r = free_lacks 10 (script_answer_text (of_ask r)) (flat_reply r)

access_line : (k : EventKind) (name : List ℕ) (x : EventAccess) (a : EventAnswer) (told : Option EventReply) → is_event_name name ≡ true → IsOneLine (script_answer_text (of_event k name x a told))
access_line k name x a told h = free_lacks 10 (script_answer_text (of_event k name x a told)) (free_append 10 (event_access_text k name x a) (event_told_text told) (flat_access k name x a h) (flat_told told))

event_line : (stands : ℕ → Option StandingEvent) (n count : ℕ) (o : Option StandingEvent) → stands n ≡ o → ((st : StandingEvent) → stands n ≡ Some st → IsFormedEvent count st.event)
    → (r : RunningCall) (a : ScriptAnswer) → IsSomeAnd (event_of stands n) (λ e. IsEventAccess e r a) → IsOneLine (script_answer_text a)
event_line stands n count None e formed r a h = absurd (let g : ⊥ = rw (e, IsSomeAnd, event_of) at h in g)
event_line stands n count (Some st) e formed r a h =
    let g : IsEventAccess st.event r a = rw (e, IsSomeAnd, event_of) at h in
    of_this a _ g.printed (access_line st.event.kind st.event.name (owed (call_of r)) g.answer (step_told r (turn (call_of r) g.answer).0) (formed st e).text)

step_line : (x : ScriptEvents) (n : ℕ) → AreSoundEvents x n → (asked : Option EventAsk) (doing : Option PartyCall) (a : ScriptAnswer) → IsStepOf x asked doing a → IsOneLine (script_answer_text a)
step_line x n sound (Some q) doing a h = of_this a _ h (asked_line (ask_told x q))
step_line x n sound None None a h = absurd h
step_line x n sound None (Some d) a h = event_line x.session.stands d.on n _ refl (sound.formed d.on) d.call a h

turn_line : (x : ScriptEvents) (n : ℕ) → AreSoundEvents x n → (t : EventTurn) (a : ScriptAnswer) → IsTurnAnswer x t a → IsOneLine (script_answer_text a)
turn_line x n sound (refused why) a h = of_this a _ h (board_line (answer.Refused why) tt)
turn_line x n sound (begins party t) a h = of_this a _ h (board_line answer.Begun tt)
turn_line x n sound (steps party) a h = step_line x n sound (x.asked party) (x.session.doing party) a h
turn_line x n sound (drops party name) a h = of_this a _ h (board_line (answer.Step board_access.Table (Some board_reply.Done)) (tt, tt))
turn_line x n sound (expires party) a h = of_this a _ h (free_lacks 10 (codes "= none") refl)

ruled_line : (s : ScriptState) (n : ℕ) → AreSoundEvents s.events n → (l : ScriptLine) (a : ScriptAnswer) (t : Option EventTurn) → IsRuled s l a t → IsOneLine (script_answer_text a)
ruled_line s n sound l a (Some t) h = turn_line s.events n sound t a h
ruled_line s n sound (line.Board l) a None h = of_this a _ h.is (board_line h.answer h.right.answer)
ruled_line s n sound (line.Event party q) a None h = absurd h
ruled_line s n sound (line.Expire party) a None h = absurd h

pub right_is_one_line : RightAnswersHoldNoNewline
right_is_one_line s l a n sound h = ruled_line s n sound.events l a (turn_of s l) (ruled s l a h)
