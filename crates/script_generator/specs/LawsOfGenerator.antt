-- Laws of the generated scripts.
use Rattle.std.specs.Prelude.{◌≡◌, ℕ, ◌≤◌, List, [], ◌∷◌, ◌++◌, map}
use Rattle.std.specs.List.{flat_map}
use Rattle.board_model.specs.declared.line.Line.{Line}
use Rattle.board_model.specs.LineGrammar.{spell}
use Rattle.board_model.specs.Lines as text
use Rattle.script_model.specs.declared.line.ScriptLine.TheVariants as script_line
use Rattle.script_model.specs.ScriptOutput.{SpellsAll}
use Rattle.script_model.specs.ScriptSession.{Session, asked_lines}
use Rattle.script_generator.specs.Generator.{generated}

-- the bytes of lines, each with its newline
abbrev pub script_bytes : List Line → List ℕ
script_bytes lines = flat_map (λ l. spell l ++ 10 ∷ []) lines

-- the bytes of a generated script are lines of the grammar, and just its own
abbrev pub GeneratedScriptsAreScripts : Type 0
GeneratedScriptsAreScripts = (n : ℕ) (session : Session) → n ≤ 1000000 → asked_lines session ≡ map script_line.Board (generated n) → SpellsAll (text.lines_of (script_bytes (generated n))) session
