-- The answers to the lines of a script and their bytes, those of events included, and which of them some line may be given.
use Rattle.std.specs.Prelude.{◌≡◌, ℕ, Bool, true, false, List, [], ◌∷◌, ◌++◌, codes, IfSome, Option, Some, None}
use Rattle.std.specs.List.{AllByRecursion, flat_map}
use Rattle.board_event_model.specs.declared.access.EventAccess.{EventAccess}
use Rattle.board_event_model.specs.declared.access.EventAccess.TheVariants as access
use Rattle.board_event_model.specs.declared.access.EventAnswer.{EventAnswer}
use Rattle.board_event_model.specs.declared.access.EventAnswer.TheVariants as event_answer
use Rattle.board_names.specs.declared.errors.event.NotifierNotifyError.{NotifierNotifyError}
use Rattle.board_names.specs.declared.errors.event.NotifierNotifyError.TheVariants as notify_error
use Rattle.board_event_model.specs.declared.kind.EventKind.{EventKind}
use Rattle.board_event_model.specs.EventMemory.{kind_of_access}
use Rattle.board_event_model.specs.WaitCalls.{word_in}
use Rattle.board_model.specs.declared.answer.Answer.{Answer}
use Rattle.board_model.specs.declared.answer.Answer.TheVariants as answer
use Rattle.board_model.specs.AnswerGrammar.{IsAnswer, answer_text, number_text}
use Rattle.board_model.specs.LineGrammar.{IsNumber}
use Rattle.script_model.specs.declared.reply.EventReply.{EventReply}
use Rattle.script_model.specs.declared.reply.EventReply.TheVariants as reply
use Rattle.script_model.specs.ScriptGrammar.{is_event_name, kind_text}

-- an answer: one of boards, or one that boards and events share; a listener or notifier asked for; an access to an event; a wait that expired
pub data ScriptAnswer : Type 0 where
  of_boards : Answer → ScriptAnswer
  of_ask : EventReply → ScriptAnswer
  of_event : (kind : EventKind) (name : List ℕ) (access : EventAccess) (answer : EventAnswer) (told : Option EventReply) → ScriptAnswer
  expired : ScriptAnswer

-- the answer refuses its line
abbrev pub is_refused : ScriptAnswer → Bool
is_refused (of_boards (answer.Refused why)) = true
is_refused a = false

-- ---- texts

-- an event as an access prints it
abbrev pub event_text : EventKind → List ℕ → List ℕ
event_text k name = kind_text k ++ (codes ":" ++ name)

-- what a look or a signal found
abbrev pub found_text : EventAnswer → List ℕ
found_text event_answer.Yes = codes " yes"
found_text a = codes " no"

-- what a pop gave
abbrev pub popped_text : EventAnswer → List ℕ
popped_text (event_answer.Id id) = number_text id
popped_text a = codes " none"

-- what a step prints of the access that it took
abbrev pub event_access_text : EventKind → List ℕ → EventAccess → EventAnswer → List ℕ
event_access_text k name access.Listener a = codes "listener " ++ (event_text k name ++ found_text a)
event_access_text k name (access.Set id) a = codes "set " ++ (event_text k name ++ number_text id)
event_access_text k name access.Post a = codes "post " ++ event_text k name
event_access_text k name (access.Push id) a = codes "push " ++ event_text k name
event_access_text k name access.Signal a = codes "signal " ++ (event_text k name ++ found_text a)
event_access_text k name (access.Scan word) a = codes "scan " ++ (event_text k name ++ (number_text word ++ number_text (word_in a)))
event_access_text k name (access.Clear id) a = codes "clear " ++ (event_text k name ++ number_text id)
event_access_text k name (access.Swap word) a = codes "swap " ++ (event_text k name ++ (number_text word ++ number_text (word_in a)))
event_access_text k name access.Pop a = codes "pop " ++ (event_text k name ++ popped_text a)

-- how an error of a notify is written
abbrev pub notify_error_text : NotifierNotifyError → List ℕ
notify_error_text notify_error.Interrupt = codes "Interrupt"
notify_error_text notify_error.FailedToDeliverSignal = codes "FailedToDeliverSignal"
notify_error_text notify_error.TriggerIdOutOfBounds = codes "TriggerIdOutOfBounds"
notify_error_text notify_error.Disconnected = codes "Disconnected"
notify_error_text notify_error.InternalFailure = codes "InternalFailure"

-- how the outcome of a call on events is written
abbrev pub event_reply_text : EventReply → List ℕ
event_reply_text reply.Done = codes "ok"
event_reply_text (reply.Id id) = codes "id" ++ number_text id
event_reply_text (reply.Ids ids) = codes "ids" ++ flat_map number_text ids
event_reply_text reply.Nothing = codes "none"
event_reply_text reply.AlreadyExists = codes "ListenerCreateError::AlreadyExists"
event_reply_text reply.DoesNotExist = codes "NotifierCreateError::DoesNotExist"
event_reply_text (reply.NotNotified e) = codes "NotifierNotifyError::" ++ notify_error_text e

-- what a step prints of the reply, where it ends its call
abbrev pub event_told_text : Option EventReply → List ℕ
event_told_text None = []
event_told_text (Some r) = codes " = " ++ event_reply_text r

-- an answer, without its newline
abbrev pub script_answer_text : ScriptAnswer → List ℕ
script_answer_text (of_boards a) = answer_text a
script_answer_text (of_ask r) = codes "table = " ++ event_reply_text r
script_answer_text (of_event k name access a told) = event_access_text k name access a ++ event_told_text told
script_answer_text expired = codes "= none"

-- with its newline
abbrev pub script_answer_line : ScriptAnswer → List ℕ
script_answer_line a = script_answer_text a ++ 10 ∷ []

-- ---- the grammar of answers

-- the ids and words that an access prints are numbers
abbrev pub PrintsNumbers : EventAccess → Type 0
PrintsNumbers (access.Set id) = IsNumber id
PrintsNumbers (access.Scan word) = IsNumber word
PrintsNumbers (access.Clear id) = IsNumber id
PrintsNumbers (access.Swap word) = IsNumber word
PrintsNumbers a = Unit {0}

-- the answer is one of those that the access may have
abbrev pub IsAnswerTo : EventAccess → EventAnswer → Type 0
IsAnswerTo access.Listener event_answer.Yes = Unit {0}
IsAnswerTo access.Listener event_answer.No = Unit {0}
IsAnswerTo access.Signal event_answer.Yes = Unit {0}
IsAnswerTo access.Signal event_answer.No = Unit {0}
IsAnswerTo (access.Set id) event_answer.Done = Unit {0}
IsAnswerTo access.Post event_answer.Done = Unit {0}
IsAnswerTo (access.Clear id) event_answer.Done = Unit {0}
IsAnswerTo (access.Push id) event_answer.Done = Unit {0}
IsAnswerTo (access.Push id) event_answer.Full = Unit {0}
IsAnswerTo (access.Push id) event_answer.Gone = Unit {0}
IsAnswerTo (access.Scan word) (event_answer.Word v) = IsNumber v
IsAnswerTo (access.Swap word) (event_answer.Word v) = IsNumber v
IsAnswerTo access.Pop (event_answer.Id id) = IsNumber id
IsAnswerTo access.Pop event_answer.Empty = Unit {0}
IsAnswerTo a b = ⊥

-- the ids of a reply are numbers
abbrev pub IsFormedReply : EventReply → Type 0
IsFormedReply (reply.Id id) = IsNumber id
IsFormedReply (reply.Ids ids) = AllByRecursion IsNumber ids
IsFormedReply r = Unit {0}

-- an access to an event of this name, as a step prints it
pub record IsFormedAccess (name : List ℕ) (a : EventAccess) (b : EventAnswer) (told : Option EventReply) : Type 0 where
  pub text : is_event_name name ≡ true
  pub numbers : PrintsNumbers a
  pub answers : IsAnswerTo a b
  pub reply : IfSome told IsFormedReply

-- an answer that some line may be given
abbrev pub IsScriptAnswer : ScriptAnswer → Type 0
IsScriptAnswer (of_boards a) = IsAnswer a
IsScriptAnswer (of_ask r) = IsFormedReply r
IsScriptAnswer (of_event k name a b told) = (k ≡ kind_of_access a) × IsFormedAccess name a b told
IsScriptAnswer expired = Unit {0}
