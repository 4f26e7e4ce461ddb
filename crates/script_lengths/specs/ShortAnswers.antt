-- Answers that tell no list are short.
use Rattle.std.specs.Prelude.{ℕ, ◌≤◌, length, IfSome}
use Rattle.board_model.specs.declared.answer.Answer.{Answer}
use Rattle.board_model.specs.declared.answer.Answer.TheVariants as answer
use Rattle.board_model.specs.declared.answer.Reply.{Reply}
use Rattle.board_model.specs.declared.answer.Reply.TheVariants as reply
use Rattle.script_model.specs.declared.reply.EventReply.{EventReply}
use Rattle.script_model.specs.declared.reply.EventReply.TheVariants as event_reply
use Rattle.script_model.specs.ScriptAnswers.{IsScriptAnswer, ScriptAnswer, expired, of_ask, of_boards, of_event, script_answer_line}

-- it lists no keys and no nodes, and tells nothing of a board, whose name may be long; a value has the words of a value type
abbrev pub IsShortReply : Reply → Type 0
IsShortReply (reply.Got type words generation) = length words ≤ 4
IsShortReply (reply.Keys keys) = ⊥
IsShortReply (reply.Nodes names) = ⊥
IsShortReply (reply.Info i) = ⊥
IsShortReply r = Unit {0}

-- nor does it list the words of a board
abbrev pub IsShortAnswer : Answer → Type 0
IsShortAnswer (answer.Step a told) = IfSome told IsShortReply
IsShortAnswer (answer.Words words) = ⊥
IsShortAnswer a = Unit {0}

-- it lists no ids
abbrev pub IsShortOnEvents : EventReply → Type 0
IsShortOnEvents (event_reply.Ids ids) = ⊥
IsShortOnEvents r = Unit {0}

-- an answer of a script that tells no list
abbrev pub IsShortScriptAnswer : ScriptAnswer → Type 0
IsShortScriptAnswer (of_boards a) = IsShortAnswer a
IsShortScriptAnswer (of_ask r) = IsShortOnEvents r
IsShortScriptAnswer (of_event kind name access answer told) = IfSome told IsShortOnEvents
IsShortScriptAnswer expired = Unit {0}

-- its line has at most 400 bytes, the newline among them
abbrev pub AnswersWithoutListsAreShort : Type 0
AnswersWithoutListsAreShort = (a : ScriptAnswer) → IsScriptAnswer a → IsShortScriptAnswer a → length (script_answer_line a) ≤ 400
