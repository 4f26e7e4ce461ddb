use Rattle.std.proofs.Common.{sym, subst}
use Rattle.script_loop.specs.Machines.{StandsFor}
use Rattle.script_machine.specs.ScriptMachine.{StandsAfter}
use Rattle.script_generator.proofs.GeneratorEnds.{summary_told}
use Rattle.script_generator.proofs.generator.Generator.summary.Goals as goal

pub returns : goal.returns
returns c =
    λ lines h.
    summary_told c.args.self.now lines h c.counter-first.result c.counter-second.result (c.counter-first.ensures.value h.session h.stands)
    (c.counter-second.ensures.value h.session (subst (λ m. StandsFor StandsAfter m h.session) (sym c.counter-first.ensures.same) h.stands)) c.summary_text.result c.summary_text.ensures
