use Rattle.std.proofs.Common.{sym, subst}
use Rattle.std.specs.Prelude.{OnErr, OnOk}
use Rattle.script_model.specs.declared.line.ScriptLine.{ScriptLine}
use Rattle.script_machine.specs.ScriptMachine.{Tells}
use Rattle.script_machine.specs.Wants.{MayWant}
use Rattle.script_machine.proofs.machine.Machine.answer.Goals as goal

pub returns-in-Board-clause-tells : goal.returns-in-Board-clause-tells
returns-in-Board-clause-tells g c = subst (λ (l : ScriptLine). OnOk c.board_line.result (Tells c.args.self.now c.board_line.new.self l c.board_line.new.out.items)) (sym c.in-Board.is) c.board_line.ensures.tells

pub returns-in-Event-clause-tells : goal.returns-in-Event-clause-tells
returns-in-Event-clause-tells g c = subst (λ (l : ScriptLine). OnOk c.event_call.result (Tells c.args.self.now c.event_call.new.self l c.event_call.new.out.items)) (sym c.in-Event.is) c.event_call.ensures.tells

pub returns-in-Expire-clause-tells : goal.returns-in-Expire-clause-tells
returns-in-Expire-clause-tells g c = subst (λ (l : ScriptLine). OnOk c.expire.result (Tells c.args.self.now c.expire.new.self l c.expire.new.out.items)) (sym c.in-Expire.is) c.expire.ensures.tells

pub returns-in-Board-clause-memory : goal.returns-in-Board-clause-memory
returns-in-Board-clause-memory g c = subst (λ (l : ScriptLine). OnErr c.board_line.result (MayWant c.args.self.now l c.args.out.now)) (sym c.in-Board.is) c.board_line.ensures.memory

pub returns-in-Event-clause-memory : goal.returns-in-Event-clause-memory
returns-in-Event-clause-memory g c = subst (λ (l : ScriptLine). OnErr c.event_call.result (MayWant c.args.self.now l c.args.out.now)) (sym c.in-Event.is) c.event_call.ensures.memory

pub returns-in-Expire-clause-memory : goal.returns-in-Expire-clause-memory
returns-in-Expire-clause-memory g c = subst (λ (l : ScriptLine). OnErr c.expire.result (MayWant c.args.self.now l c.args.out.now)) (sym c.in-Expire.is) c.expire.ensures.memory
