-- Bytes for which memory is wanted.
use Rattle.std.proofs.Common.{ℕ, List, arith}
use Rattle.std.specs.Global.{Vec}
use Rattle.script_model.specs.declared.line.ScriptLine.{ScriptLine}
use Rattle.script_model.specs.ScriptGrammar.{SpellsLine}
use Rattle.script_parse.specs.declared.unkept.Unkept.{Unkept}
use Rattle.script_parse.specs.Kept.{SpellsUnkept}
use Rattle.script_machine.specs.declared.machine.Machine.{Machine}
use Rattle.script_machine.specs.Bytes.{BytesMayWant, IsAnswered}
use Rattle.script_machine.specs.ScriptMachine.{Tells}
use Rattle.script_machine.specs.Unkept.{OfEachLine}
use Rattle.script_machine.specs.Wants.{MayWant}

-- they spell a line that may want it
pub bytes_want : {C : Type 0} (m : Machine C) (bytes : List ℕ) (out : Vec ℕ) (l : ScriptLine) → SpellsLine bytes l → MayWant m l out → BytesMayWant m bytes out
bytes_want m bytes out l spelled want = record { spelled = (l, spelled); wanting = λ room fits. (l, spelled, want room fits) }

-- they spell a line of which this is known, and each of these may want it
pub unkept_want : {C : Type 0} (m : Machine C) (bytes : List ℕ) (out : Vec ℕ) (u : Unkept) → SpellsUnkept bytes u → OfEachLine u (λ l. MayWant m l out) → BytesMayWant m bytes out
unkept_want m bytes out u s want = bytes_want m bytes out s.0 s.1 (want s.0 s.1.line s.2)

-- and each of these is answered so
pub unkept_answered : {C : Type 0} (m : Machine C) (bytes text : List ℕ) (u : Unkept) → SpellsUnkept bytes u → OfEachLine u (λ l. Tells m m l text) → IsAnswered m m bytes text
unkept_answered m bytes text u s told = record { line = s.0; spelled = s.1; tells = told s.0 s.1.line s.2; drawn = omega arith }
