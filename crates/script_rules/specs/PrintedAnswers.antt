-- The texts that are answers at all: an access of a step may stand with any reply, whichever call it belongs to.
use Rattle.std.specs.Prelude.{◌≡◌, ℕ, ◌+◌, ◌*◌, ◌≤◌, Bool, true, false, List, [], ◌++◌, length, codes, IfSome, Option, Some, None}
use Rattle.std.specs.List.{AllByRecursion}
use Rattle.board_cell_model.specs.declared.access.Access.{Access}
use Rattle.board_cell_model.specs.declared.access.Access.TheVariants as access
use Rattle.board_event_model.specs.declared.access.EventAccess.{EventAccess}
use Rattle.board_event_model.specs.declared.access.EventAnswer.{EventAnswer}
use Rattle.board_event_model.specs.declared.kind.EventKind.{EventKind}
use Rattle.board_event_model.specs.EventMemory.{kind_of_access}
use Rattle.board_model.specs.declared.answer.Answer.TheVariants as answer
use Rattle.board_model.specs.declared.answer.Reason.{Reason}
use Rattle.board_model.specs.declared.answer.Reply.{Reply}
use Rattle.board_model.specs.declared.answer.Reply.TheVariants as reply
use Rattle.board_model.specs.AnswerGrammar.{IsAccess, IsReply, access_text, answer_text, reply_text}
use Rattle.board_model.specs.LineGrammar.{IsNumber}
use Rattle.board_model.specs.TypeTable.{word_count}
use Rattle.board_names.specs.declared.errors.event.NotifierNotifyError.{NotifierNotifyError}
use Rattle.board_names.specs.declared.errors.event.NotifierNotifyError.TheVariants as notify_error
use Rattle.script_model.specs.declared.line.ScriptLine.{ScriptLine}
use Rattle.script_model.specs.declared.reply.EventReply.{EventReply}
use Rattle.script_model.specs.declared.reply.EventReply.TheVariants as event_reply
use Rattle.script_model.specs.ScriptAnswers.{IsFormedAccess, IsFormedReply, ScriptAnswer, event_access_text, event_reply_text, expired, of_ask, of_boards, of_event, script_answer_text}
use Rattle.script_model.specs.ScriptSession.{IsLawful, IsRight, Session, start, state_after}

-- the access of a step, to the tables and words of boards or to an event
pub data StepAccess : Type 0 where
  board_access : Access → StepAccess
  event_access : (kind : EventKind) (name : List ℕ) (access : EventAccess) (answer : EventAnswer) → StepAccess

-- the reply of a step, of a call on boards or on events
pub data StepReply : Type 0 where
  board_reply : Reply → StepReply
  events_reply : EventReply → StepReply

-- an answer as it is printed: to a line that begins, is refused, steps or drops, abandons, lists words, or expires
pub data Printed : Type 0 where
  a_begin : Printed
  a_refusal : Reason → Printed
  a_step : (access : StepAccess) (told : Option StepReply) → Printed
  an_end : Printed
  a_list : (words : List ℕ) → Printed
  an_expiry : Printed

-- ---- texts

-- the access of a step, with what it read or was answered
abbrev pub step_access_text : StepAccess → List ℕ
step_access_text (board_access a) = access_text a
step_access_text (event_access k name a b) = event_access_text k name a b

-- the reply of a step
abbrev pub step_reply_text : StepReply → List ℕ
step_reply_text (board_reply r) = reply_text r
step_reply_text (events_reply r) = event_reply_text r

-- what a step prints of the reply, where there is one
abbrev pub step_told_text : Option StepReply → List ℕ
step_told_text None = []
step_told_text (Some r) = codes " = " ++ step_reply_text r

-- an answer, without its newline
abbrev pub printed_text : Printed → List ℕ
printed_text a_begin = answer_text answer.Begun
printed_text (a_refusal why) = answer_text (answer.Refused why)
printed_text (a_step a told) = step_access_text a ++ step_told_text told
printed_text an_end = answer_text answer.Gone
printed_text (a_list words) = answer_text (answer.Words words)
printed_text an_expiry = script_answer_text expired

-- ---- which there are

-- the numbers of an access fit in 64 bits; one to an event has a name, is of the event's kind, and has an answer that it may have
abbrev pub IsStepAccess : StepAccess → Type 0
IsStepAccess (board_access a) = IsAccess a
IsStepAccess (event_access k name a b) = (k ≡ kind_of_access a) × IsFormedAccess name a b None

-- a value that was read has as many words as its type
abbrev pub IsWholeReply : Reply → Type 0
IsWholeReply (reply.Got t words g) = length words ≡ word_count t
IsWholeReply r = Unit {0}

-- the errors that a notify of a script gives
abbrev pub is_notify_reply : NotifierNotifyError → Bool
is_notify_reply notify_error.FailedToDeliverSignal = true
is_notify_reply notify_error.TriggerIdOutOfBounds = true
is_notify_reply notify_error.Disconnected = true
is_notify_reply e = false

-- if a notify was refused, it was with one of them
abbrev pub IsGivenReply : EventReply → Type 0
IsGivenReply (event_reply.NotNotified e) = is_notify_reply e ≡ true
IsGivenReply r = Unit {0}

-- a reply that some call may be told
abbrev pub IsStepReply : StepReply → Type 0
IsStepReply (board_reply r) = IsReply r × IsWholeReply r
IsStepReply (events_reply r) = IsFormedReply r × IsGivenReply r

-- an answer of the grammar
abbrev pub IsPrinted : Printed → Type 0
IsPrinted (a_step a told) = IsStepAccess a × IfSome told IsStepReply
IsPrinted (a_list words) = AllByRecursion IsNumber words
IsPrinted p = Unit {0}

-- the bytes are such an answer, the n-th of a session, and no longer than that one may be
pub record SpellsAnswer (n : ℕ) (text : List ℕ) : Type 0 where
  pub printed : Printed
  pub formed : IsPrinted printed
  pub bytes : text ≡ printed_text printed
  pub short : length text ≤ 1048576 + 17 * n

-- ---- what a line may be answered

-- what a step on boards is told, as it is printed
abbrev pub told_by_boards : Option Reply → Option StepReply
told_by_boards None = None
told_by_boards (Some r) = Some (board_reply r)

-- what a step on events is told
abbrev pub told_by_events : Option EventReply → Option StepReply
told_by_events None = None
told_by_events (Some r) = Some (events_reply r)

-- an answer of a script, as it is printed
abbrev pub printed_of : ScriptAnswer → Printed
printed_of (of_boards answer.Begun) = a_begin
printed_of (of_boards (answer.Refused why)) = a_refusal why
printed_of (of_boards (answer.Step a told)) = a_step (board_access a) (told_by_boards told)
printed_of (of_boards answer.Gone) = an_end
printed_of (of_boards (answer.Words words)) = a_list words
printed_of (of_ask r) = a_step (board_access access.Table) (Some (events_reply r))
printed_of (of_event k name a b told) = a_step (event_access k name a b) (told_by_events told)
printed_of expired = an_expiry

-- the answer is of the grammar of texts, and printed so
pub record IsPrintedSo (a : ScriptAnswer) : Type 0 where
  pub formed : IsPrinted (printed_of a)
  pub text : script_answer_text a ≡ printed_text (printed_of a)

-- so is each right answer of a session
abbrev pub RightAnswersArePrinted : Type 0
RightAnswersArePrinted = (pairs : Session) (l : ScriptLine) (a : ScriptAnswer) → IsLawful pairs → IsRight (state_after start pairs) l a → IsPrintedSo a
