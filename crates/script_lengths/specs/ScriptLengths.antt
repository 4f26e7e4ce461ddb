-- No right answer of a script is longer than the n-th of a session may be.
use Rattle.std.specs.Prelude.{ℕ, ◌+◌, ◌*◌, ◌^◌, ◌<◌, ◌≤◌, length, IfSome}
use Rattle.std.specs.List.{AllByRecursion}
use Rattle.script_model.specs.declared.line.ScriptLine.{ScriptLine}
use Rattle.script_model.specs.declared.reply.EventReply.{EventReply}
use Rattle.script_model.specs.declared.reply.EventReply.TheVariants as reply
use Rattle.script_model.specs.ScriptGrammar.{script_spell}
use Rattle.script_model.specs.ScriptAnswers.{IsScriptAnswer, ScriptAnswer, expired, of_ask, of_boards, of_event, script_answer_text}
use Rattle.script_model.specs.ScriptSession.{IsLawful, IsRight, Session, start, state_after}
use Rattle.script_rules.specs.PrintedAnswers.{SpellsAnswer}
use Rattle.script_lengths.specs.EventRooms.{ids_bytes}
use Rattle.script_lengths.specs.SizedAnswers.{IsSizedAnswer}

-- ---- answers

-- 65536 ids of at most five digits, each with a space, have 393216 bytes
abbrev pub IsSizedOnEvents : EventReply → Type 0
IsSizedOnEvents (reply.Ids ids) = ids_bytes ids ≤ 393600
IsSizedOnEvents r = Unit {0}

abbrev pub IsSizedScriptAnswer : ℕ → ScriptAnswer → Type 0
IsSizedScriptAnswer n (of_boards a) = IsSizedAnswer n a
IsSizedScriptAnswer n (of_ask r) = IsSizedOnEvents r
IsSizedScriptAnswer n (of_event kind name access answer told) = IfSome told IsSizedOnEvents
IsSizedScriptAnswer n expired = Unit {0}

-- the text of an answer whose lists are so short
abbrev pub ScriptAnswersAreShort : Type 0
ScriptAnswersAreShort = (n : ℕ) (a : ScriptAnswer) → IsScriptAnswer a → IsSizedScriptAnswer n a → length (script_answer_text a) ≤ 394000 + 17 * n

-- ---- laws

-- no line of the session has more bytes than one may have
abbrev pub HasShortLines : Session → Type 0
HasShortLines pairs = AllByRecursion (λ (pair : ScriptLine × ScriptAnswer). length (script_spell pair.0) ≤ 4096) pairs

-- right answers tell lists that are as short, with a node for each line at most
abbrev pub RightAnswersAreSized : Type 0
RightAnswersAreSized =
    (pairs : Session) (l : ScriptLine) (a : ScriptAnswer) → IsLawful pairs → length pairs < 2 ^ 63 → HasShortLines pairs →
    IsRight (state_after start pairs) l a → IsSizedScriptAnswer (length pairs) a

-- so their texts are short
abbrev pub RightAnswersAreShort : Type 0
RightAnswersAreShort =
    (pairs : Session) (l : ScriptLine) (a : ScriptAnswer) → IsLawful pairs → length pairs < 2 ^ 63 → HasShortLines pairs →
    IsRight (state_after start pairs) l a → length (script_answer_text a) ≤ 394000 + 17 * length pairs

-- and after n - 1 pairs the text of a right answer is one that the n-th answer may be
abbrev pub RightAnswersAreSpelled : Type 0
RightAnswersAreSpelled =
    (pairs : Session) (l : ScriptLine) (a : ScriptAnswer) → IsLawful pairs → length pairs < 2 ^ 63 → HasShortLines pairs →
    IsRight (state_after start pairs) l a → SpellsAnswer (length pairs + 1) (script_answer_text a)
