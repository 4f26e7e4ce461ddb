use Rattle.std.proofs.Common.{◌≡◌, true, false, refl, sym, subst, ◌∙◌, Option}
use Rattle.board_model.specs.declared.answer.Answer.TheVariants as answer
use Rattle.board_model.specs.declared.answer.Reason.{Reason}
use Rattle.board_model.specs.declared.answer.Reason.TheVariants as reason
use Rattle.board_model.specs.declared.line.Line.TheVariants as board_line
use Rattle.board_model.specs.Requests.{new_name}
use Rattle.script_boards.specs.Begins.{IsPastNames}
use Rattle.script_boards.proofs.Listings.{on_ok}
use Rattle.script_model.specs.declared.line.ScriptLine.TheVariants as line
use Rattle.script_model.specs.ScriptEvents.{runs_on_events}
use Rattle.script_model.specs.ScriptTurns.{refused, takes_event_name}
use Rattle.script_machine.proofs.Turns.{begin_alone, begin_busy, begin_taken, begin_unfound, from_nothing, same_boards, told_alone, told_refused}
use Rattle.board_model.specs.LawfulSession.{reason_of}
use Rattle.script_boards.proofs.StepWants.{takes_unrefused}
use Rattle.script_machine.proofs.Wants.{accepted, alone_accepted, answered_wants, refusal_right, refused_wants, takes_anyway}
use Rattle.script_machine.proofs.machine.Machine.begin.Goals as goal

pub returns-then-runs-clause-tells : goal.returns-then-runs-clause-tells
returns-then-runs-clause-tells g c = on_ok (λ e s count rep reached.
    let runs : runs_on_events s.events c.args.party ≡ true = sym (c.runs.ensures s.events count reached.few reached.sound.events rep.events) ∙ c.if-runs.true in
    told_refused _ s (line.Board (board_line.Begin c.args.party c.args.call)) reason.Busy _ (begin_busy s c.args.party c.args.call runs) c.requires.line rep (from_nothing _ _ _ c.requires.empty e)) c.push_refused.result c.push_refused.ensures.ok

pub returns-in-Some-clause-tells : goal.returns-in-Some-clause-tells
returns-in-Some-clause-tells g c = on_ok (λ e s count rep reached.
    let runs : runs_on_events s.events c.args.party ≡ false = sym (c.runs.ensures s.events count reached.few reached.sound.events rep.events) ∙ c.if-runs.false in
    let past = subst (λ (o : Option Reason). IsPastNames s.boards c.args.party c.args.call o) c.in-Some.is (c.refusal_past_names.ensures.told s.boards rep.boards reached.boards) in
    told_alone _ s (board_line.Begin c.args.party c.args.call) (answer.Refused c.in-Some.why) _ (begin_unfound s c.args.party c.args.call runs past.0) c.requires.line (past.1 c.requires.line)
    (same_boards c.args.self.now s c.refusal_past_names.new.self c.refusal_past_names.ensures.same rep) (from_nothing _ _ _ c.requires.empty e)) c.push_refused-in-Some.result c.push_refused-in-Some.ensures.ok

pub returns-in-None-clause-tells : goal.returns-in-None-clause-tells
returns-in-None-clause-tells g c = on_ok (λ e s count rep reached.
    let runs : runs_on_events s.events c.args.party ≡ false = sym (c.runs.ensures s.events count reached.few reached.sound.events rep.events) ∙ c.if-runs.false in
    let takes : takes_event_name s.events c.args.party (new_name c.args.call) ≡ true = sym (c.takes_event_name.ensures s count rep reached) ∙ c.if-takes_event_name.true in
    let past = subst (λ (o : Option Reason). IsPastNames s.boards c.args.party c.args.call o) c.in-None.is (c.refusal_past_names.ensures.told s.boards rep.boards reached.boards) in
    told_refused _ s (line.Board (board_line.Begin c.args.party c.args.call)) reason.Taken _ (begin_taken s c.args.party c.args.call runs takes past) c.requires.line
    (same_boards c.args.self.now s c.refusal_past_names.new.self c.refusal_past_names.ensures.same rep) (from_nothing _ _ _ c.requires.empty e)) c.push_refused-in-None.result c.push_refused-in-None.ensures.ok

pub returns-clause-tells : goal.returns-clause-tells
returns-clause-tells g c = on_ok (λ e s count rep reached.
    let runs : runs_on_events s.events c.args.party ≡ false = sym (c.runs.ensures s.events count reached.few reached.sound.events rep.events) ∙ c.if-runs.false in
    let takes : takes_event_name s.events c.args.party (new_name c.args.call) ≡ false = sym (c.takes_event_name.ensures s count rep reached) ∙ c.if-takes_event_name.false in
    let served = c.in_ok-answer.ensures.serves s.boards rep.boards reached.boards c.requires.line in
    told_alone _ s (board_line.Begin c.args.party c.args.call) c.in_ok-answer.answer _ (begin_alone s c.args.party c.args.call runs takes) c.requires.line served.0
    (record { alive = rep.alive; boards = served.1; events = rep.events }) (from_nothing _ _ _ c.requires.empty e)) c.push_answer.result c.push_answer.ensures.ok

pub returns-then-runs-clause-memory : goal.returns-then-runs-clause-memory
returns-then-runs-clause-memory g c =
    refused_wants c.push_refused.result c.args.self.now (line.Board (board_line.Begin c.args.party c.args.call)) c.args.out.now reason.Busy c.push_refused.ensures.room (λ s count rep reached.
    let runs : runs_on_events s.events c.args.party ≡ true = sym (c.runs.ensures s.events count reached.few reached.sound.events rep.events) ∙ c.if-runs.true in
    refusal_right s (line.Board (board_line.Begin c.args.party c.args.call)) (refused reason.Busy) reason.Busy (begin_busy s c.args.party c.args.call runs) c.requires.line refl)

pub returns-in-Some-clause-memory : goal.returns-in-Some-clause-memory
returns-in-Some-clause-memory g c =
    answered_wants c.push_refused-in-Some.result c.args.self.now (board_line.Begin c.args.party c.args.call) c.args.out.now (answer.Refused c.in-Some.why) c.push_refused-in-Some.ensures.room
    (λ s count rep reached.
    let runs : runs_on_events s.events c.args.party ≡ false = sym (c.runs.ensures s.events count reached.few reached.sound.events rep.events) ∙ c.if-runs.false in
    let past = subst (λ (o : Option Reason). IsPastNames s.boards c.args.party c.args.call o) c.in-Some.is (c.refusal_past_names.ensures.told s.boards rep.boards reached.boards) in
    begin_unfound s c.args.party c.args.call runs past.0)
    (λ s count rep reached.
    let past = subst (λ (o : Option Reason). IsPastNames s.boards c.args.party c.args.call o) c.in-Some.is (c.refusal_past_names.ensures.told s.boards rep.boards reached.boards) in
    past.1 c.requires.line)
    (λ s count rep reached no. absurd (no tt))

pub returns-in-None-clause-memory : goal.returns-in-None-clause-memory
returns-in-None-clause-memory g c =
    refused_wants c.push_refused-in-None.result c.args.self.now (line.Board (board_line.Begin c.args.party c.args.call)) c.args.out.now reason.Taken c.push_refused-in-None.ensures.room (λ s count rep reached.
    let runs : runs_on_events s.events c.args.party ≡ false = sym (c.runs.ensures s.events count reached.few reached.sound.events rep.events) ∙ c.if-runs.false in
    let takes : takes_event_name s.events c.args.party (new_name c.args.call) ≡ true = sym (c.takes_event_name.ensures s count rep reached) ∙ c.if-takes_event_name.true in
    let past = subst (λ (o : Option Reason). IsPastNames s.boards c.args.party c.args.call o) c.in-None.is (c.refusal_past_names.ensures.told s.boards rep.boards reached.boards) in
    refusal_right s (line.Board (board_line.Begin c.args.party c.args.call)) (refused reason.Taken) reason.Taken (begin_taken s c.args.party c.args.call runs takes past) c.requires.line refl)

pub returns-in_err-answer-clause-memory : goal.returns-in_err-answer-clause-memory
returns-in_err-answer-clause-memory g c =
    takes_anyway c.from_residual.result c.args.self.now (line.Board (board_line.Begin c.args.party c.args.call)) c.args.out.now (λ s count rep reached.
    let runs : runs_on_events s.events c.args.party ≡ false = sym (c.runs.ensures s.events count reached.few reached.sound.events rep.events) ∙ c.if-runs.false in
    let takes : takes_event_name s.events c.args.party (new_name c.args.call) ≡ false = sym (c.takes_event_name.ensures s count rep reached) ∙ c.if-takes_event_name.false in
    alone_accepted s (board_line.Begin c.args.party c.args.call) (begin_alone s c.args.party c.args.call runs takes)
    (takes_unrefused s.boards (board_line.Begin c.args.party c.args.call) (c.in_err-answer.ensures.memory s.boards rep.boards reached.boards)))

pub returns-clause-memory : goal.returns-clause-memory
returns-clause-memory g c =
    answered_wants c.push_answer.result c.args.self.now (board_line.Begin c.args.party c.args.call) c.args.out.now c.in_ok-answer.answer c.push_answer.ensures.room
    (λ s count rep reached.
    let runs : runs_on_events s.events c.args.party ≡ false = sym (c.runs.ensures s.events count reached.few reached.sound.events rep.events) ∙ c.if-runs.false in
    let takes : takes_event_name s.events c.args.party (new_name c.args.call) ≡ false = sym (c.takes_event_name.ensures s count rep reached) ∙ c.if-takes_event_name.false in
    begin_alone s c.args.party c.args.call runs takes)
    (λ s count rep reached. (c.in_ok-answer.ensures.serves s.boards rep.boards reached.boards c.requires.line).0)
    (λ s count rep reached no.
    let runs : runs_on_events s.events c.args.party ≡ false = sym (c.runs.ensures s.events count reached.few reached.sound.events rep.events) ∙ c.if-runs.false in
    let takes : takes_event_name s.events c.args.party (new_name c.args.call) ≡ false = sym (c.takes_event_name.ensures s count rep reached) ∙ c.if-takes_event_name.false in
    let served = c.in_ok-answer.ensures.serves s.boards rep.boards reached.boards c.requires.line in
    alone_accepted s (board_line.Begin c.args.party c.args.call) (begin_alone s c.args.party c.args.call runs takes) (accepted (reason_of s.boards (board_line.Begin c.args.party c.args.call)) c.in_ok-answer.answer served.0.reason no))
