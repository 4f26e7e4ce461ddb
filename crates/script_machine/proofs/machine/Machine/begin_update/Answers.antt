use Rattle.std.proofs.Common.{◌≡◌, true, false, refl, sym, ◌∙◌}
use Rattle.board_model.specs.declared.answer.Reason.TheVariants as reason
use Rattle.board_model.specs.declared.line.Call.TheVariants as call
use Rattle.board_model.specs.declared.line.Line.TheVariants as board_line
use Rattle.board_model.specs.LawfulSession.{reason_of}
use Rattle.script_boards.specs.ShortBegins.{begun_unless}
use Rattle.script_boards.proofs.Listings.{on_ok}
use Rattle.script_boards.proofs.StepWants.{takes_unrefused}
use Rattle.script_model.specs.declared.line.ScriptLine.TheVariants as line
use Rattle.script_model.specs.ScriptEvents.{runs_on_events}
use Rattle.script_model.specs.ScriptTurns.{refused}
use Rattle.script_machine.proofs.Turns.{begin_alone, begin_busy, from_nothing, told_alone, told_refused}
use Rattle.script_machine.proofs.Wants.{accepted, alone_accepted, answered_wants, refusal_right, refused_wants, takes_anyway}
use Rattle.script_machine.proofs.machine.Machine.begin_update.Goals as goal

pub returns-then-runs-clause-tells : goal.returns-then-runs-clause-tells
returns-then-runs-clause-tells g c = on_ok (λ e s count rep reached.
    let runs : runs_on_events s.events c.args.party ≡ true = sym (c.runs.ensures s.events count reached.few reached.sound.events rep.events) ∙ c.if-runs.true in
    told_refused _ s (line.Board (board_line.Begin c.args.party (call.Update c.args.handle c.args.value))) reason.Busy _ (begin_busy s c.args.party (call.Update c.args.handle c.args.value) runs) c.requires.line rep (from_nothing _ _ _ c.requires.empty e)) c.push_refused.result c.push_refused.ensures.ok

pub returns-clause-tells : goal.returns-clause-tells
returns-clause-tells g c = on_ok (λ e s count rep reached.
    let runs : runs_on_events s.events c.args.party ≡ false = sym (c.runs.ensures s.events count reached.few reached.sound.events rep.events) ∙ c.if-runs.false in
    let served = c.in_ok-refusal.ensures.serves s.boards rep.boards reached.boards c.requires.line in
    told_alone _ s (board_line.Begin c.args.party (call.Update c.args.handle c.args.value)) (begun_unless c.in_ok-refusal.refusal) _ (begin_alone s c.args.party (call.Update c.args.handle c.args.value) runs refl) c.requires.line served.0
    (record { alive = rep.alive; boards = served.1; events = rep.events }) (from_nothing _ _ _ c.requires.empty e)) c.push_begin.result c.push_begin.ensures.ok

pub returns-then-runs-clause-memory : goal.returns-then-runs-clause-memory
returns-then-runs-clause-memory g c =
    refused_wants c.push_refused.result c.args.self.now (line.Board (board_line.Begin c.args.party (call.Update c.args.handle c.args.value))) c.args.out.now reason.Busy c.push_refused.ensures.room (λ s count rep reached.
    let runs : runs_on_events s.events c.args.party ≡ true = sym (c.runs.ensures s.events count reached.few reached.sound.events rep.events) ∙ c.if-runs.true in
    refusal_right s (line.Board (board_line.Begin c.args.party (call.Update c.args.handle c.args.value))) (refused reason.Busy) reason.Busy (begin_busy s c.args.party (call.Update c.args.handle c.args.value) runs) c.requires.line refl)

pub returns-in_err-refusal-clause-memory : goal.returns-in_err-refusal-clause-memory
returns-in_err-refusal-clause-memory g c =
    takes_anyway c.from_residual.result c.args.self.now (line.Board (board_line.Begin c.args.party (call.Update c.args.handle c.args.value))) c.args.out.now (λ s count rep reached.
    let runs : runs_on_events s.events c.args.party ≡ false = sym (c.runs.ensures s.events count reached.few reached.sound.events rep.events) ∙ c.if-runs.false in
    alone_accepted s (board_line.Begin c.args.party (call.Update c.args.handle c.args.value)) (begin_alone s c.args.party (call.Update c.args.handle c.args.value) runs refl)
    (takes_unrefused s.boards (board_line.Begin c.args.party (call.Update c.args.handle c.args.value)) (c.in_err-refusal.ensures.memory s.boards rep.boards reached.boards)))

pub returns-clause-memory : goal.returns-clause-memory
returns-clause-memory g c =
    answered_wants c.push_begin.result c.args.self.now (board_line.Begin c.args.party (call.Update c.args.handle c.args.value)) c.args.out.now (begun_unless c.in_ok-refusal.refusal) c.push_begin.ensures.room
    (λ s count rep reached.
    let runs : runs_on_events s.events c.args.party ≡ false = sym (c.runs.ensures s.events count reached.few reached.sound.events rep.events) ∙ c.if-runs.false in
    begin_alone s c.args.party (call.Update c.args.handle c.args.value) runs refl)
    (λ s count rep reached. (c.in_ok-refusal.ensures.serves s.boards rep.boards reached.boards c.requires.line).0)
    (λ s count rep reached no.
    let runs : runs_on_events s.events c.args.party ≡ false = sym (c.runs.ensures s.events count reached.few reached.sound.events rep.events) ∙ c.if-runs.false in
    let served = c.in_ok-refusal.ensures.serves s.boards rep.boards reached.boards c.requires.line in
    alone_accepted s (board_line.Begin c.args.party (call.Update c.args.handle c.args.value)) (begin_alone s c.args.party (call.Update c.args.handle c.args.value) runs refl) (accepted (reason_of s.boards (board_line.Begin c.args.party (call.Update c.args.handle c.args.value))) (begun_unless c.in_ok-refusal.refusal) served.0.reason no))
