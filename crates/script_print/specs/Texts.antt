-- Parts of the texts of replies.
use Rattle.std.specs.Prelude.{ℕ, List, [], ◌∷◌, ◌++◌, Option, codes, decimal}
use Rattle.board_event_model.specs.declared.kind.EventKind.{EventKind}
use Rattle.board_event_model.specs.declared.kind.EventKind.TheVariants as kind
use Rattle.board_model.specs.declared.answer.Info.{Info}
use Rattle.board_model.specs.AnswerGrammar.{number_text}
use Rattle.script_model.specs.declared.reply.EventReply.{EventReply}
use Rattle.script_model.specs.ScriptAnswers.{event_told_text}

-- a number behind a comma
abbrev pub comma_text : ℕ → List ℕ
comma_text n = 44 ∷ decimal n

-- the end of what is told of a board: how much it has, and what is taken of it
abbrev pub counts_text : Info → List ℕ
counts_text i =
    codes " entries" ++ (number_text i.entries ++ (codes " attrs" ++ (number_text i.attributes
    ++ (codes " taken" ++ (number_text i.readers ++ (number_text i.writers ++ number_text i.nodes))))))

-- that of both texts which is for events of this kind
abbrev pub of_kind : EventKind → List ℕ → List ℕ → List ℕ
of_kind kind.Bits on_bits on_queue = on_bits
of_kind kind.Queue on_bits on_queue = on_queue

-- the end of the line of a step on an event
abbrev pub end_text : Option EventReply → List ℕ
end_text told = event_told_text told ++ 10 ∷ []
