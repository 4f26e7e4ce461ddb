use Rattle.std.proofs.Common.{sym, subst}
use Rattle.std.specs.Prelude.{OnErr, OnOk}
use Rattle.board_model.specs.declared.line.Line.{Line}
use Rattle.script_model.specs.declared.line.ScriptLine.TheVariants as script_line
use Rattle.script_machine.specs.ScriptMachine.{Tells}
use Rattle.script_machine.specs.Wants.{MayWant}
use Rattle.script_machine.proofs.machine.Machine.board_line.Goals as goal

pub returns-in-Begin-clause-tells : goal.returns-in-Begin-clause-tells
returns-in-Begin-clause-tells g c = subst (λ (l : Line). OnOk c.begin.result (Tells c.args.self.now c.begin.new.self (script_line.Board l) c.begin.new.out.items)) (sym c.in-Begin.is) c.begin.ensures.tells

pub returns-in-Step-clause-tells : goal.returns-in-Step-clause-tells
returns-in-Step-clause-tells g c = subst (λ (l : Line). OnOk c.step.result (Tells c.args.self.now c.step.new.self (script_line.Board l) c.step.new.out.items)) (sym c.in-Step.is) c.step.ensures.tells

pub returns-in-Release-clause-tells : goal.returns-in-Release-clause-tells
returns-in-Release-clause-tells g c = subst (λ (l : Line). OnOk c.release.result (Tells c.args.self.now c.release.new.self (script_line.Board l) c.release.new.out.items)) (sym c.in-Release.is) c.release.ensures.tells

pub returns-in-Abandon-clause-tells : goal.returns-in-Abandon-clause-tells
returns-in-Abandon-clause-tells g c = subst (λ (l : Line). OnOk c.abandon.result (Tells c.args.self.now c.abandon.new.self (script_line.Board l) c.abandon.new.out.items)) (sym c.in-Abandon.is) c.abandon.ensures.tells

pub returns-in-Words-clause-tells : goal.returns-in-Words-clause-tells
returns-in-Words-clause-tells g c = subst (λ (l : Line). OnOk c.tell_words.result (Tells c.args.self.now c.tell_words.new.self (script_line.Board l) c.tell_words.new.out.items)) (sym c.in-Words.is) c.tell_words.ensures.tells

pub returns-in-Begin-clause-memory : goal.returns-in-Begin-clause-memory
returns-in-Begin-clause-memory g c = subst (λ (l : Line). OnErr c.begin.result (MayWant c.args.self.now (script_line.Board l) c.args.out.now)) (sym c.in-Begin.is) c.begin.ensures.memory

pub returns-in-Step-clause-memory : goal.returns-in-Step-clause-memory
returns-in-Step-clause-memory g c = subst (λ (l : Line). OnErr c.step.result (MayWant c.args.self.now (script_line.Board l) c.args.out.now)) (sym c.in-Step.is) c.step.ensures.memory

pub returns-in-Release-clause-memory : goal.returns-in-Release-clause-memory
returns-in-Release-clause-memory g c = subst (λ (l : Line). OnErr c.release.result (MayWant c.args.self.now (script_line.Board l) c.args.out.now)) (sym c.in-Release.is) c.release.ensures.memory

pub returns-in-Abandon-clause-memory : goal.returns-in-Abandon-clause-memory
returns-in-Abandon-clause-memory g c = subst (λ (l : Line). OnErr c.abandon.result (MayWant c.args.self.now (script_line.Board l) c.args.out.now)) (sym c.in-Abandon.is) c.abandon.ensures.memory

pub returns-in-Words-clause-memory : goal.returns-in-Words-clause-memory
returns-in-Words-clause-memory g c = subst (λ (l : Line). OnErr c.tell_words.result (MayWant c.args.self.now (script_line.Board l) c.args.out.now)) (sym c.in-Words.is) c.tell_words.ensures.memory
