use Rattle.std.proofs.Common.{sym, ap, subst, ◌∙◌}
use Rattle.std.specs.Prelude.{OnOk}
use Rattle.board_model.specs.declared.line.Line.{Line}
use Rattle.script_model.specs.declared.line.ScriptLine.{ScriptLine}
use Rattle.script_model.specs.declared.line.ScriptLine.TheVariants as line
use Rattle.script_judge.specs.Judges.{Tells}
use Rattle.script_judge.proofs.judge.Judge.answer.Goals as goal

pub returns-in-Begin : goal.returns-in-Begin
returns-in-Begin c = subst (λ (l : ScriptLine). OnOk c.begin.result (Tells c.args.self.now c.begin.new.self l c.begin.new.answer.items)) (sym (c.in-Board.is ∙ ap (λ (b : Line). line.Board b) c.in-Begin.is)) c.begin.ensures

pub returns-in-Step : goal.returns-in-Step
returns-in-Step c = subst (λ (l : ScriptLine). OnOk c.step.result (Tells c.args.self.now c.step.new.self l c.step.new.answer.items)) (sym (c.in-Board.is ∙ ap (λ (b : Line). line.Board b) c.in-Step.is)) c.step.ensures

pub returns-in-Release : goal.returns-in-Release
returns-in-Release c = subst (λ (l : ScriptLine). OnOk c.release.result (Tells c.args.self.now c.release.new.self l c.release.new.answer.items)) (sym (c.in-Board.is ∙ ap (λ (b : Line). line.Board b) c.in-Release.is)) c.release.ensures

pub returns-in-Abandon : goal.returns-in-Abandon
returns-in-Abandon c = subst (λ (l : ScriptLine). OnOk c.abandon.result (Tells c.args.self.now c.abandon.new.self l c.abandon.new.answer.items)) (sym (c.in-Board.is ∙ ap (λ (b : Line). line.Board b) c.in-Abandon.is)) c.abandon.ensures

pub returns-in-Words : goal.returns-in-Words
returns-in-Words c = subst (λ (l : ScriptLine). OnOk c.words.result (Tells c.args.self.now c.words.new.self l c.words.new.answer.items)) (sym (c.in-Board.is ∙ ap (λ (b : Line). line.Board b) c.in-Words.is)) c.words.ensures

pub returns-in-Event : goal.returns-in-Event
returns-in-Event c = subst (λ (l : ScriptLine). OnOk c.begin_on_events.result (Tells c.args.self.now c.begin_on_events.new.self l c.begin_on_events.new.answer.items)) (sym c.in-Event.is) c.begin_on_events.ensures

pub returns-in-Expire : goal.returns-in-Expire
returns-in-Expire c = subst (λ (l : ScriptLine). OnOk c.expire.result (Tells c.args.self.now c.expire.new.self l c.expire.new.answer.items)) (sym c.in-Expire.is) c.expire.ensures
