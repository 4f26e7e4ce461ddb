-- What the groups of an answer to a step hold: the access that is owed, the word that was read, what the event answered, and the reply.
use Rattle.std.specs.Prelude.{◌≡◌, ℕ, List, [], ◌∷◌, ◌++◌, codes, decimal, Option, Some, None}
use Rattle.board_cell_model.specs.declared.access.Access.{Access}
use Rattle.board_cell_model.specs.declared.access.Access.TheVariants as access
use Rattle.board_event_model.specs.declared.access.EventAccess.{EventAccess}
use Rattle.board_event_model.specs.declared.access.EventAccess.TheVariants as event_access
use Rattle.board_event_model.specs.declared.access.EventAnswer.{EventAnswer}
use Rattle.board_event_model.specs.declared.access.EventAnswer.TheVariants as event_answer
use Rattle.board_event_model.specs.WaitCalls.{word_in}
use Rattle.board_model.specs.declared.line.Line.TheVariants as board_line
use Rattle.script_model.specs.declared.line.ScriptLine.TheVariants as line
use Rattle.script_model.specs.ScriptAnswers.{event_text}
use Rattle.script_rules.specs.AnswerGroups.{Groups, groups_of, tokens_of}
use Rattle.script_rules.specs.BrokenRules.{broken_rule, first_group}
use Rattle.script_rules.specs.PrintedAnswers as printed
use Rattle.script_rules.specs.PrintedAnswers.{IsStepAccess, StepAccess, StepReply, a_step, printed_text, step_reply_text}

-- a word of a board
abbrev pub place_token : ℕ → ℕ → List ℕ
place_token board word = decimal board ++ (codes ":" ++ decimal word)

-- ---- boards

-- the access that is owed, without the word that was read
abbrev pub owed_access : Access → List (List ℕ)
owed_access access.Table = codes "table" ∷ []
owed_access (access.Read board word value) = codes "read" ∷ place_token board word ∷ []
owed_access (access.Write board word value) = codes "write" ∷ place_token board word ∷ decimal value ∷ []

-- the word that was read
abbrev pub word_read : Access → List (List ℕ)
word_read access.Table = []
word_read (access.Read board word value) = decimal value ∷ []
word_read (access.Write board word value) = []

-- ---- events

-- the access to this event that is owed, without what it was answered
abbrev pub owed_event : List ℕ → EventAccess → List (List ℕ)
owed_event event event_access.Listener = codes "listener" ∷ event ∷ []
owed_event event (event_access.Set id) = codes "set" ∷ event ∷ decimal id ∷ []
owed_event event event_access.Post = codes "post" ∷ event ∷ []
owed_event event (event_access.Push id) = codes "push" ∷ event ∷ []
owed_event event event_access.Signal = codes "signal" ∷ event ∷ []
owed_event event (event_access.Scan word) = codes "scan" ∷ event ∷ decimal word ∷ []
owed_event event (event_access.Clear id) = codes "clear" ∷ event ∷ decimal id ∷ []
owed_event event (event_access.Swap word) = codes "swap" ∷ event ∷ decimal word ∷ []
owed_event event event_access.Pop = codes "pop" ∷ event ∷ []

-- what a look or a signal found
abbrev pub yes_token : EventAnswer → List ℕ
yes_token event_answer.Yes = codes "yes"
yes_token b = codes "no"

-- what a pop gave
abbrev pub id_token : EventAnswer → List ℕ
id_token (event_answer.Id id) = decimal id
id_token b = codes "none"

-- what the event answered
abbrev pub event_found : EventAccess → EventAnswer → List (List ℕ)
event_found event_access.Listener b = yes_token b ∷ []
event_found event_access.Signal b = yes_token b ∷ []
event_found (event_access.Scan word) b = decimal (word_in b) ∷ []
event_found (event_access.Swap word) b = decimal (word_in b) ∷ []
event_found event_access.Pop b = id_token b ∷ []
event_found a b = []

-- ---- a step

-- the reply, behind the token that begins it
abbrev pub reply_tokens : Option StepReply → List (List ℕ)
reply_tokens None = []
reply_tokens (Some r) = codes "=" ∷ tokens_of (step_reply_text r)

-- the groups of a step's access with its reply
abbrev pub step_groups : StepAccess → Option StepReply → Groups
step_groups (printed.board_access a) told = record { owed = owed_access a; word = word_read a; event = []; reply = reply_tokens told }
step_groups (printed.event_access k name a b) told = record { owed = owed_event (event_text k name) a; word = []; event = event_found a b; reply = reply_tokens told }

-- so are the groups of its text, and an answer to a step that differs from the right one breaks the rule of the first of them that differs
pub record StepsAreGrouped : Type 0 where
  pub groups : (party : List ℕ) (a : StepAccess) (told : Option StepReply) → IsStepAccess a
      → groups_of (line.Board (board_line.Step party)) (tokens_of (printed_text (a_step a told))) ≡ step_groups a told
  pub rule : (party : List ℕ) (right a : StepAccess) (due told : Option StepReply) → IsStepAccess right → IsStepAccess a
      → broken_rule (line.Board (board_line.Step party)) (printed_text (a_step right due)) (printed_text (a_step a told)) ≡ first_group (step_groups right due) (step_groups a told)
