use Rattle.std.proofs.Common.{◌≡◌, true, false, refl, sym, subst, ◌∙◌}
use Rattle.board_model.specs.declared.line.Line.TheVariants as board_line
use Rattle.script_boards.proofs.Listings.{on_ok}
use Rattle.script_events.specs.PartyEvents as events
use Rattle.script_machine.specs.ScriptMachine.{is_gone_answer}
use Rattle.script_machine.proofs.Turns.{from_nothing, gone_with, gone_without, told_alone}
use Rattle.script_model.specs.declared.line.ScriptLine.TheVariants as line
use Rattle.script_machine.proofs.Wants.{answered_wants, gone_short, takes_anyway}
use Rattle.script_machine.proofs.machine.Machine.abandon.Goals as goal

pub returns-then-is_gone-clause-tells : goal.returns-then-is_gone-clause-tells
returns-then-is_gone-clause-tells g c = on_ok (λ e s count rep reached.
    let gone : is_gone_answer c.in_ok-answer.answer ≡ true = sym c.is_gone.ensures ∙ c.if-is_gone.true in
    let served = c.in_ok-answer.ensures.serves s.boards rep.boards reached.boards c.requires.line in
    told_alone _ s (board_line.Abandon c.args.party) c.in_ok-answer.answer _ refl c.requires.line served.0
    (record { alive = rep.alive; boards = served.1; events = subst (λ x. events.Represents c.abandon-then-is_gone.new.self x) (sym (gone_with s.events c.args.party c.in_ok-answer.answer gone)) (c.abandon-then-is_gone.ensures s.events count reached.few reached.sound.events rep.events) })
    (from_nothing _ _ _ c.requires.empty e)) c.push_answer.result c.push_answer.ensures.ok

pub returns-clause-tells : goal.returns-clause-tells
returns-clause-tells g c = on_ok (λ e s count rep reached.
    let stays : is_gone_answer c.in_ok-answer.answer ≡ false = sym c.is_gone.ensures ∙ c.if-is_gone.false in
    let served = c.in_ok-answer.ensures.serves s.boards rep.boards reached.boards c.requires.line in
    told_alone _ s (board_line.Abandon c.args.party) c.in_ok-answer.answer _ refl c.requires.line served.0
    (record { alive = rep.alive; boards = served.1; events = subst (λ x. events.Represents c.args.self.now.events x) (sym (gone_without s.events c.args.party c.in_ok-answer.answer stays)) rep.events })
    (from_nothing _ _ _ c.requires.empty e)) c.push_answer-2.result c.push_answer-2.ensures.ok

pub returns-in_err-answer-clause-memory : goal.returns-in_err-answer-clause-memory
returns-in_err-answer-clause-memory g c =
    takes_anyway c.from_residual.result c.args.self.now (line.Board (board_line.Abandon c.args.party)) c.args.out.now (λ s count rep reached. c.in_err-answer.ensures.memory s.boards rep.boards reached.boards)

pub returns-then-is_gone-clause-memory : goal.returns-then-is_gone-clause-memory
returns-then-is_gone-clause-memory g c =
    answered_wants c.push_answer.result c.args.self.now (board_line.Abandon c.args.party) c.args.out.now c.in_ok-answer.answer c.push_answer.ensures.room (λ s count rep reached. refl)
    (λ s count rep reached. (c.in_ok-answer.ensures.serves s.boards rep.boards reached.boards c.requires.line).0)
    (λ s count rep reached no.
    let served = c.in_ok-answer.ensures.serves s.boards rep.boards reached.boards c.requires.line in
    absurd (no (gone_short s.boards c.args.party c.in_ok-answer.answer served.0)))

pub returns-clause-memory : goal.returns-clause-memory
returns-clause-memory g c =
    answered_wants c.push_answer-2.result c.args.self.now (board_line.Abandon c.args.party) c.args.out.now c.in_ok-answer.answer c.push_answer-2.ensures.room (λ s count rep reached. refl)
    (λ s count rep reached. (c.in_ok-answer.ensures.serves s.boards rep.boards reached.boards c.requires.line).0)
    (λ s count rep reached no.
    let served = c.in_ok-answer.ensures.serves s.boards rep.boards reached.boards c.requires.line in
    absurd (no (gone_short s.boards c.args.party c.in_ok-answer.answer served.0)))
