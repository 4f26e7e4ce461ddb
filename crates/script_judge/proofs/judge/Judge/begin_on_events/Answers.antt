use Rattle.std.proofs.Common.{◌≡◌, sym, ap, ◌∙◌}
use Rattle.script_model.specs.ScriptEvents as events
use Rattle.script_judge.specs.Judges.{name_taken}
use Rattle.script_judge.proofs.Others.{ask_begun, ask_taken, ask_unfree, ask_unknown}
use Rattle.script_judge.proofs.Stands.{from_nothing, on_ok}
use Rattle.script_judge.proofs.judge.Judge.begin_on_events.Goals as goal

pub returns-in-Some : goal.returns-in-Some
returns-in-Some c = on_ok (λ e s count rep reached. ask_unfree c.args.self.now s count rep reached c.args.party.now _ c.args.request.now c.requires.line c.in-Some.why (sym c.in-Some.is ∙ c.unfree.ensures) (from_nothing _ _ _ c.requires.empty e)) c.push_refused.result c.push_refused.ensures.ok

pub found_on_events-requires : goal.found_on_events-requires
found_on_events-requires c = c.requires.led

pub returns-in-None-found_on_events : goal.returns-in-None-found_on_events
returns-in-None-found_on_events c = on_ok (λ e s count rep reached. ask_unknown c.args.self.now s count rep reached c.args.party.now _ c.args.request.now c.requires.line (sym c.in-None.is ∙ c.unfree.ensures) c.found_on_events.result (c.found_on_events.ensures s count rep reached) c.in-None-found_on_events.is (from_nothing _ _ _ c.requires.empty e)) c.push_refused-in-None-found_on_events.result c.push_refused-in-None-found_on_events.ensures.ok

pub returns-then-is_taken : goal.returns-then-is_taken
returns-then-is_taken c = on_ok (λ e s count rep reached.
    let taken : c.is_taken.result ≡ name_taken c.args.self.now c.args.party.now (events.name_made c.args.request.now) = c.is_taken.ensures ∙ ap (name_taken c.args.self.now c.args.party.now) c.name_made.ensures in
    ask_taken c.args.self.now s count rep reached c.args.party.now _ c.args.request.now c.requires.line (sym c.in-None.is ∙ c.unfree.ensures) c.found_on_events.result c.in-Some-found_on_events.task (c.found_on_events.ensures s count rep reached) c.in-Some-found_on_events.is c.is_taken.result taken c.if-is_taken.true (from_nothing _ _ _ c.requires.empty e)) c.push_refused-then-is_taken.result c.push_refused-then-is_taken.ensures.ok

pub returns : goal.returns
returns c = on_ok (λ e s count rep reached.
    let taken : c.is_taken.result ≡ name_taken c.args.self.now c.args.party.now (events.name_made c.args.request.now) = c.is_taken.ensures ∙ ap (name_taken c.args.self.now c.args.party.now) c.name_made.ensures in
    ask_begun c.args.self.now s count rep reached c.args.party.now _ c.args.request.now c.requires.line (sym c.in-None.is ∙ c.unfree.ensures) c.put_task.new.self c.found_on_events.result c.in-Some-found_on_events.task (c.found_on_events.ensures s count rep reached) c.in-Some-found_on_events.is c.is_taken.result taken c.if-is_taken.false c.in_ok-put_task.ensures (from_nothing _ _ _ c.requires.empty e)) c.push_begun.result c.push_begun.ensures.ok
