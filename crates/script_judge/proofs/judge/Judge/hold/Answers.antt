use Rattle.std.proofs.Common.{refl}
use Rattle.script_judge.proofs.judge.Judge.hold.Goals as goal

pub returns : goal.returns
returns c = record { boards = refl; events = refl; things = λ p n. c.in_ok-insert.ensures.updates.0 (record { party = p; name = n }); tasks = λ p. refl }
