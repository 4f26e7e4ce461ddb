-- What bytes are answered, by the line that they spell.
use Rattle.std.specs.Prelude.{◌≡◌, ℕ, ◌+◌, ◌≤◌, Bool, true, false, List, [], vec_capacity, vec_len}
use Rattle.std.specs.Global.{Vec}
use Rattle.script_boards.specs.Machine.{drawn_by}
use Rattle.script_model.specs.declared.line.ScriptLine.{ScriptLine}
use Rattle.script_model.specs.ScriptGrammar.{SpellsLine}
use Rattle.script_loop.specs.Machines.{SpellsNone}
use Rattle.script_machine.specs.declared.machine.Machine.{Machine}
use Rattle.script_machine.specs.ScriptMachine.{Tells}
use Rattle.script_machine.specs.Wants.{SpellsSome, SpellsWanting}

-- the bytes spell a line, the text is that of its right answers, and at most one thing more was made of boards
pub record IsAnswered {C : Type 0} (old new : Machine C) (bytes text : List ℕ) : Type 0 where
  pub line : ScriptLine
  pub spelled : SpellsLine bytes line
  pub tells : Tells old new line text
  pub drawn : drawn_by new.boards ≤ drawn_by old.boards + 1

-- so it is where the bytes spell a line
abbrev pub TellsOfBytes : {C : Type 0} → Machine C → Machine C → Bool → List ℕ → List ℕ → Type 0
TellsOfBytes old new true bytes text = IsAnswered old new bytes text
TellsOfBytes old new false bytes text = Unit {0}

-- the bytes spell no line, nothing is told and the machine is the same
pub record IsUnknown {C : Type 0} (old new : Machine C) (bytes text : List ℕ) : Type 0 where
  pub spells : SpellsNone bytes
  pub same : new ≡ old
  pub untold : text ≡ []

-- so it is where the bytes spell no line
abbrev pub LeavesUnknown : {C : Type 0} → Machine C → Machine C → Bool → List ℕ → List ℕ → Type 0
LeavesUnknown old new true bytes text = Unit {0}
LeavesUnknown old new false bytes text = IsUnknown old new bytes text

-- memory is wanted only for bytes that spell a line: one that takes memory, or whose short answer has no room
pub record BytesMayWant {C : Type 0} (m : Machine C) (bytes : List ℕ) (out : Vec ℕ) : Type 0 where
  pub spelled : SpellsSome bytes
  pub wanting : (room : ℕ) → vec_len out + room ≤ vec_capacity out → SpellsWanting m bytes room
