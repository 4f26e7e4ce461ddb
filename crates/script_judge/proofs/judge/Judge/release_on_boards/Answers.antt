use Rattle.std.proofs.Common.{sym}
use Rattle.script_judge.proofs.Others.{release_nothing, release_thing}
use Rattle.script_judge.proofs.Stands.{from_nothing, on_ok}
use Rattle.script_judge.proofs.judge.Judge.release_on_boards.Goals as goal

pub returns-then-not-is_held : goal.returns-then-not-is_held
returns-then-not-is_held c = on_ok (λ e s count rep reached. release_nothing c.args.self.now s count rep reached c.args.party.now _ c.args.thing.now c.requires.line (sym c.requires.free) (sym c.requires.none) c.is_held.result c.is_held.ensures c.if-not-is_held.true (from_nothing _ _ _ c.requires.empty e)) c.push_refused.result c.push_refused.ensures.ok

pub returns : goal.returns
returns c = on_ok (λ e s count rep reached. release_thing c.args.self.now s count rep reached c.args.party.now _ c.args.thing.now c.requires.line (sym c.requires.free) (sym c.requires.none) c.release.new.self c.is_held.result c.is_held.ensures c.if-not-is_held.false c.release.ensures (from_nothing _ _ _ c.requires.empty e)) c.push_step.result c.push_step.ensures.ok
