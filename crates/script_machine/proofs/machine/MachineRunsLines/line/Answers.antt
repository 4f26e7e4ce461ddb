use Rattle.std.proofs.Common.{sym, subst}
use Rattle.script_machine.specs.ScriptMachine.{StandsAfter}
use Rattle.script_machine.proofs.Wants.{roomy}
use Rattle.script_machine.proofs.machine.MachineRunsLines.line.Goals as goal

pub returns-clause-same : goal.returns-clause-same
returns-clause-same g c = λ bad n s h. subst (λ m. StandsAfter m n s) (sym (c.line.ensures.same bad)) h

pub returns-clause-memory : goal.returns-clause-memory
returns-clause-memory g c = λ refused fits. roomy c.args.self.now c.args.line.now _ fits (c.line.ensures.memory refused)
