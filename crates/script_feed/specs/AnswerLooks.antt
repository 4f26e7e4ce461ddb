-- What is looked at in answers.
use Rattle.std.specs.Prelude.{◌≡◌, ℕ, Bool, not, ◌==◌, List, Some, None}
use Rattle.std.specs.List.{list_all}
use Rattle.board_cell_model.specs.declared.access.Access.{Access}
use Rattle.board_model.specs.declared.answer.Answer.TheVariants as answer
use Rattle.board_model.specs.declared.answer.Reply.TheVariants as reply
use Rattle.board_model.specs.AnswerGrammar.{IsAnswer, answer_line, reply_text}
use Rattle.script_exchanges.specs.DrivenParties.{Got}
use Rattle.script_model.specs.ScriptAnswers.{ScriptAnswer, script_answer_line}

-- the byte doesn't stand in the text
abbrev pub lacks : ℕ → List ℕ → Bool
lacks c text = list_all (λ b. not (b == c)) text

-- the bytes are the line of the answer
abbrev pub IsAnswerOf : List ℕ → ScriptAnswer → Type 0
IsAnswerOf bytes a = bytes ≡ script_answer_line a

-- a step of a get that goes on
abbrev pub GoesOnGet : List ℕ → Type 0
GoesOnGet bytes = (a : Access) × IsAnswer (answer.Step a None) × (bytes ≡ answer_line (answer.Step a None))

-- the last step of a get that is told this
abbrev pub EndsGet : List ℕ → Got → Type 0
EndsGet bytes x = (a : Access) × IsAnswer (answer.Step a (Some (reply.Got x.type x.words x.generation))) × (bytes ≡ answer_line (answer.Step a (Some (reply.Got x.type x.words x.generation))))

-- the text and the number are those of what a get is told
pub record HasGot (text : List ℕ) (generation : ℕ) (x : Got) : Type 0 where
  pub text_is : text ≡ reply_text (reply.Got x.type x.words x.generation)
  pub generation_is : generation ≡ x.generation
