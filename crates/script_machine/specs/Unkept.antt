-- Lines of which only so much is known as a refusal depends on, since there was no memory for the rest.
use Rattle.std.specs.Prelude.{◌≡◌, Some}
use Rattle.script_model.specs.declared.line.ScriptLine.{ScriptLine}
use Rattle.script_model.specs.ScriptGrammar.{IsScriptLine}
use Rattle.script_parse.specs.declared.unkept.Unkept.{Unkept}
use Rattle.script_parse.specs.Kept.{unkept_of}

-- it holds of each line of which this is known
abbrev pub OfEachLine : Unkept → (ScriptLine → Type 0) → Type 0
OfEachLine u Holds = (l : ScriptLine) → IsScriptLine l → unkept_of l ≡ Some u → Holds l
