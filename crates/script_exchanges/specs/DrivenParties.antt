-- Driven parties: which lines are held back from the machine while a party is driven, how answers are looked at, and what is said.
use Rattle.std.specs.Prelude.{ℕ, Bool, if◌then◌else◌, List, ◌∷◌, ◌++◌, Option, Some, None, is_some}
use Rattle.std.specs.Str.{bytes_eq}
use Rattle.board_model.specs.declared.answer.Answer.TheVariants as answer
use Rattle.board_model.specs.declared.answer.Reply.TheVariants as reply
use Rattle.board_model.specs.declared.line.Line.TheVariants as board_line
use Rattle.board_model.specs.declared.value.ValueType.{ValueType}
use Rattle.script_model.specs.declared.line.ScriptLine.{ScriptLine}
use Rattle.script_model.specs.declared.line.ScriptLine.TheVariants as line
use Rattle.script_model.specs.ScriptAnswers.{ScriptAnswer, of_boards}

-- ---- lines

-- the party for which a line is held back while the party is driven: the one that it names, unless it abandons it
abbrev pub held_back : ScriptLine → Option (List ℕ)
held_back (line.Board (board_line.Begin party c)) = Some party
held_back (line.Board (board_line.Step party)) = Some party
held_back (line.Board (board_line.Release party name)) = Some party
held_back (line.Board (board_line.Abandon party)) = None
held_back (line.Board (board_line.Words board)) = None
held_back (line.Event party q) = Some party
held_back (line.Expire party) = Some party

-- the party that a line abandons
abbrev pub abandoned_by : ScriptLine → Option (List ℕ)
abandoned_by (line.Board (board_line.Abandon party)) = Some party
abandoned_by l = None

-- ---- answers

-- a value that was read, and its generation
pub record Got : Type 0 where
  pub type : ValueType
  pub words : List ℕ
  pub generation : ℕ

-- what the last step of a get was told
abbrev pub got_by : ScriptAnswer → Option Got
got_by (of_boards (answer.Step a (Some (reply.Got type words g)))) = Some (record { type = type; words = words; generation = g })
got_by a = None

-- ---- what is kept of parties

-- this is kept of the party from now on, and of others what was
abbrev pub kept_with : {A : Type 0} → (List ℕ → Option A) → List ℕ → Option A → List ℕ → Option A
kept_with kept party x p = if bytes_eq p party then x else kept p

-- the party, where something is kept of it
abbrev pub if_kept : {A : Type 0} → (List ℕ → Option A) → Option (List ℕ) → Option (List ℕ)
if_kept of None = None
if_kept of (Some party) = if is_some (of party) then Some party else None

-- an abandonment that isn't refused ends what is kept of its party
abbrev pub let_go : {A : Type 0} → (List ℕ → Option A) → Option (List ℕ) → Bool → List ℕ → Option A
let_go of None refused = of
let_go of (Some party) refused = if refused then of else kept_with of party None

-- ---- what is said

-- a word and a party
abbrev pub party_text : List ℕ → List ℕ → List ℕ
party_text word party = word ++ 32 ∷ party
