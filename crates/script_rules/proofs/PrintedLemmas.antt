-- The answers of a script, as they are printed.
use Rattle.std.proofs.Common.{◌≡◌, Some, None, refl}
use Rattle.board_model.specs.declared.answer.Answer.TheVariants as answer
use Rattle.script_model.specs.ScriptAnswers.{IsScriptAnswer, ScriptAnswer, expired, of_ask, of_boards, of_event, script_answer_text}
use Rattle.script_rules.specs.PrintedAnswers.{IsStepAccess, Printed, a_step, printed_of, printed_text}

pub text_printed : (a : ScriptAnswer) → script_answer_text a ≡ printed_text (printed_of a)
text_printed (of_boards answer.Begun) = refl
text_printed (of_boards (answer.Refused why)) = refl
text_printed (of_boards (answer.Step a None)) = refl
text_printed (of_boards (answer.Step a (Some r))) = refl
text_printed (of_boards answer.Gone) = refl
text_printed (of_boards (answer.Words words)) = refl
text_printed (of_ask r) = refl
text_printed (of_event k name a b None) = refl
text_printed (of_event k name a b (Some r)) = refl
text_printed expired = refl

-- if it is a step, its access is one of the grammar
abbrev pub HasStepAccess : Printed → Type 0
HasStepAccess (a_step a told) = IsStepAccess a
HasStepAccess p = Unit {0}

pub access_printed : (a : ScriptAnswer) → IsScriptAnswer a → HasStepAccess (printed_of a)
access_printed (of_boards answer.Begun) h = tt
access_printed (of_boards (answer.Refused why)) h = tt
access_printed (of_boards (answer.Step a told)) h = h.0
access_printed (of_boards answer.Gone) h = tt
access_printed (of_boards (answer.Words words)) h = tt
access_printed (of_ask r) h = tt
access_printed (of_event k name a b told) h = (h.0, record { text = h.1.text; numbers = h.1.numbers; answers = h.1.answers; reply = tt })
access_printed expired h = tt
