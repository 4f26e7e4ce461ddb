use Rattle.std.proofs.Common.{refl}
use Rattle.script_judge.proofs.judge.Judge.take_task.Goals as goal

pub returns-clause-taken : goal.returns-clause-taken
returns-clause-taken c = record { boards = refl; events = refl; things = λ p n. refl; tasks = λ p. c.remove.ensures.updates.0 p }
