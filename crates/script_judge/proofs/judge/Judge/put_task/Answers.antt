use Rattle.std.proofs.Common.{refl}
use Rattle.script_judge.proofs.judge.Judge.put_task.Goals as goal

pub returns : goal.returns
returns c = record { boards = refl; events = refl; things = λ p n. refl; tasks = λ p. c.in_ok-insert.ensures.updates.0 p }
