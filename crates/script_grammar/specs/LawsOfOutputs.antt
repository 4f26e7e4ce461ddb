-- Laws of sessions and outputs: an input of lines of the grammar has exactly one of each.
use Rattle.std.specs.Prelude.{◌≡◌, ℕ, ◌-◌, ◌^◌, List}
use Rattle.script_model.specs.ScriptOutput.{IsOutputOf, IsScript, SpellsAll}
use Rattle.script_model.specs.ScriptSession.{IsLawful, Session}

-- the bytes of the lines settle the lines and all of their answers
abbrev pub InputsHaveOneSession : Type 0
InputsHaveOneSession = (lines : List (List ℕ)) (xs ys : Session) → IsLawful xs → IsLawful ys → SpellsAll lines xs → SpellsAll lines ys → xs ≡ ys

-- an input has no two outputs
abbrev pub InputsHaveOneOutput : Type 0
InputsHaveOneOutput = (input one two : List ℕ) → IsOutputOf input one → IsOutputOf input two → one ≡ two

-- there is one where the input's lines are of the grammar, and fewer than 2^63
abbrev pub ScriptsHaveAnOutput : Type 0
ScriptsHaveAnOutput = (input : List ℕ) → IsScript (2 ^ 63 - 1) input → (output : List ℕ) × IsOutputOf input output
