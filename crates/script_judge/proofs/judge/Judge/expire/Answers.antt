use Rattle.script_judge.proofs.Others.{expire_done, expire_refused}
use Rattle.script_judge.proofs.Stands.{from_nothing, on_ok}
use Rattle.script_judge.proofs.judge.Judge.expire.Goals as goal

pub returns-in-Some : goal.returns-in-Some
returns-in-Some c = on_ok (λ e s count rep reached. expire_refused c.args.self.now s count rep reached c.args.party.now _ c.requires.line c.in-Some.why c.unexpired.result c.unexpired.ensures c.in-Some.is (from_nothing _ _ _ c.requires.empty e)) c.push_refused.result c.push_refused.ensures.ok

pub returns : goal.returns
returns c = on_ok (λ e s count rep reached. expire_done c.args.self.now s count rep reached c.args.party.now _ c.requires.line c.take_task.new.self c.unexpired.result c.unexpired.ensures c.in-None.is c.take_task.ensures.taken (from_nothing _ _ _ c.requires.empty e)) c.push_expired.result c.push_expired.ensures.ok
