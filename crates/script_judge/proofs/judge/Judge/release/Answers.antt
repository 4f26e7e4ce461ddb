use Rattle.std.proofs.Common.{sym, ◌∙◌}
use Rattle.script_judge.proofs.Others.{release_event, release_unfree}
use Rattle.script_judge.proofs.Stands.{from_nothing, on_ok}
use Rattle.script_judge.proofs.judge.Judge.release.Goals as goal

pub returns-in-Some : goal.returns-in-Some
returns-in-Some c = on_ok (λ e s count rep reached. release_unfree c.args.self.now s count rep reached c.args.party.now _ c.args.thing.now c.requires.line c.in-Some.why (sym c.in-Some.is ∙ c.unfree.ensures) (from_nothing _ _ _ c.requires.empty e)) c.push_refused.result c.push_refused.ensures.ok

pub let_go-requires-clause-led : goal.let_go-requires-clause-led
let_go-requires-clause-led c = c.requires.led

pub let_go-requires-clause-held : goal.let_go-requires-clause-held
let_go-requires-clause-held c = sym c.event_thing.ensures ∙ c.in-Some-event_thing.is

pub returns-in-Some-event_thing : goal.returns-in-Some-event_thing
returns-in-Some-event_thing c = on_ok (λ e s count rep reached. release_event c.args.self.now s count rep reached c.args.party.now _ c.args.thing.now c.requires.line (sym c.in-None.is ∙ c.unfree.ensures) c.let_go.new.self c.in-Some-event_thing.held (sym c.event_thing.ensures ∙ c.in-Some-event_thing.is) (c.let_go.ensures s count rep reached) (from_nothing _ _ _ c.requires.empty e)) c.push_step.result c.push_step.ensures.ok

pub release_on_boards-requires-clause-free : goal.release_on_boards-requires-clause-free
release_on_boards-requires-clause-free c = sym c.unfree.ensures ∙ c.in-None.is

pub release_on_boards-requires-clause-none : goal.release_on_boards-requires-clause-none
release_on_boards-requires-clause-none c = sym c.event_thing.ensures ∙ c.in-None-event_thing.is
