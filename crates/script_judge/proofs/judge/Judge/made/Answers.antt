use Rattle.std.proofs.Common.{sym, subst}
use Rattle.std.specs.Prelude.{IfOk}
use Rattle.script_judge.specs.declared.task.Ask.{Ask}
use Rattle.script_judge.specs.declared.task.Task.TheVariants as task
use Rattle.script_judge.specs.Judges.{HasMade, IsLedBut}
use Rattle.script_judge.proofs.judge.Judge.made.Goals as goal

pub made_notifier-requires : goal.made_notifier-requires
made_notifier-requires c = subst (λ (a : Ask). IsLedBut c.args.self.now c.args.party.now (task.Asks a)) c.in-Notify.is c.requires

pub returns-in-Listen : goal.returns-in-Listen
returns-in-Listen c = subst (λ (a : Ask). IfOk c.made_listener.result (HasMade c.args.self.now c.made_listener.new.self c.args.party.now a)) (sym c.in-Listen.is) c.made_listener.ensures

pub returns-in-Notify : goal.returns-in-Notify
returns-in-Notify c = subst (λ (a : Ask). IfOk c.made_notifier.result (HasMade c.args.self.now c.made_notifier.new.self c.args.party.now a)) (sym c.in-Notify.is) c.made_notifier.ensures
