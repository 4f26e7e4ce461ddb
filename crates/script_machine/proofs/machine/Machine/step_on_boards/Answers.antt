use Rattle.std.proofs.Common.{◌≡◌, false}
use Rattle.board_model.specs.declared.line.Line.TheVariants as board_line
use Rattle.script_boards.proofs.Listings.{on_ok}
use Rattle.script_model.specs.ScriptEvents.{runs_on_events}
use Rattle.script_machine.proofs.Turns.{from_nothing, step_alone, told_alone}
use Rattle.script_model.specs.declared.line.ScriptLine.TheVariants as line
use Rattle.script_machine.proofs.Wants.{answered_wants, step_takes_at, takes_anyway}
use Rattle.script_machine.proofs.ShortSteps.{step_wants}
use Rattle.script_machine.proofs.machine.Machine.step_on_boards.Goals as goal

pub returns-clause-tells : goal.returns-clause-tells
returns-clause-tells g c = on_ok (λ e s count rep reached.
    let runs : runs_on_events s.events c.args.party.now ≡ false = c.requires.runs s.events count reached.few reached.sound.events rep.events in
    let served = c.in_ok-answer.ensures.serves s.boards rep.boards reached.boards c.requires.line in
    told_alone _ s (board_line.Step c.args.party.now) c.in_ok-answer.answer _ (step_alone s c.args.party.now runs) c.requires.line served.0
    (record { alive = rep.alive; boards = served.1; events = rep.events }) (from_nothing _ _ _ c.requires.empty e)) c.push_answer.result c.push_answer.ensures.ok

pub returns-in_err-answer-clause-memory : goal.returns-in_err-answer-clause-memory
returns-in_err-answer-clause-memory g c =
    takes_anyway c.from_residual.result c.args.self.now (line.Board (board_line.Step c.args.party.now)) c.args.out.now (λ s count rep reached.
    let runs : runs_on_events s.events c.args.party.now ≡ false = c.requires.runs s.events count reached.few reached.sound.events rep.events in
    step_takes_at s c.args.party.now false runs (c.in_err-answer.ensures.memory s.boards rep.boards reached.boards))

pub returns-clause-memory : goal.returns-clause-memory
returns-clause-memory g c =
    answered_wants c.push_answer.result c.args.self.now (board_line.Step c.args.party.now) c.args.out.now c.in_ok-answer.answer c.push_answer.ensures.room
    (λ s count rep reached.
    let runs : runs_on_events s.events c.args.party.now ≡ false = c.requires.runs s.events count reached.few reached.sound.events rep.events in
    step_alone s c.args.party.now runs)
    (λ s count rep reached. (c.in_ok-answer.ensures.serves s.boards rep.boards reached.boards c.requires.line).0)
    (λ s count rep reached no.
    let runs : runs_on_events s.events c.args.party.now ≡ false = c.requires.runs s.events count reached.few reached.sound.events rep.events in
    let served = c.in_ok-answer.ensures.serves s.boards rep.boards reached.boards c.requires.line in
    step_takes_at s c.args.party.now false runs (step_wants s.boards c.args.party.now c.in_ok-answer.answer reached.boards.sound served.0 no))
