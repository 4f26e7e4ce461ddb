use Rattle.std.proofs.Common.{◌≡◌, true, false, refl, sym, ap, ◌∙◌, Some, None}
use Rattle.std.specs.Prelude.{is_some, not}
use Rattle.board_cell_model.specs.declared.access.Access.TheVariants as access
use Rattle.board_model.specs.declared.answer.Answer.TheVariants as answer
use Rattle.board_model.specs.declared.answer.Reason.TheVariants as reason
use Rattle.board_model.specs.declared.answer.Reply.TheVariants as reply
use Rattle.board_model.specs.declared.line.Line.TheVariants as board_line
use Rattle.board_model.specs.LawfulSession.{free_reason}
use Rattle.script_boards.proofs.Listings.{on_ok}
use Rattle.script_model.specs.declared.line.ScriptLine.TheVariants as line
use Rattle.script_model.specs.ScriptAnswers.{of_boards}
use Rattle.script_model.specs.ScriptEvents.{holds_event, runs_on_events}
use Rattle.script_model.specs.ScriptTurns.{board_turn, drops, refused}
use Rattle.script_model.proofs.RuleLemmas.{right_on_events}
use Rattle.script_machine.proofs.Turns.{from_nothing, none_is, release_busy, release_held, release_unfree, release_unheld, told_alone, told_refused, told_turn}
use Rattle.script_machine.proofs.Wants.{answered_wants, dropped_short, refusal_right, refused_wants, told_wants}
use Rattle.script_machine.proofs.machine.Machine.release.Goals.{else-is_none-via-then-is_none+else-holds, else-is_none-via-else-is_none}
use Rattle.script_machine.proofs.machine.Machine.release.Goals as goal

pub returns-then-runs-clause-tells : goal.returns-then-runs-clause-tells
returns-then-runs-clause-tells g c = on_ok (λ e s count rep reached.
    let runs : runs_on_events s.events c.args.party.now ≡ true = sym (c.runs.ensures s.events count reached.few reached.sound.events rep.events) ∙ c.if-runs.true in
    told_refused _ s (line.Board (board_line.Release c.args.party.now c.args.name.now)) reason.Busy _ (release_busy s c.args.party.now c.args.name.now runs) c.requires.line rep (from_nothing _ _ _ c.requires.empty e)) c.push_refused.result c.push_refused.ensures.ok

pub release-requires-clause-held : goal.release-requires-clause-held
release-requires-clause-held g c = λ x count few sound rep. sym (c.holds.ensures x count few sound rep) ∙ c.if-holds.true

pub returns-then-holds-clause-tells : goal.returns-then-holds-clause-tells
returns-then-holds-clause-tells g c = on_ok (λ e s count rep reached.
    let runs : runs_on_events s.events c.args.party.now ≡ false = sym (c.runs.ensures s.events count reached.few reached.sound.events rep.events) ∙ c.if-runs.false in
    let free : None ≡ free_reason (s.boards.parties c.args.party.now) None = none_is c.refusal_of_party.result (c.is_none.ensures ∙ ap not c.if-is_none.true) ∙ c.refusal_of_party.ensures.reason s.boards rep.boards in
    let held : holds_event s.events c.args.party.now c.args.name.now ≡ true = sym (c.holds.ensures s.events count reached.few reached.sound.events rep.events) ∙ c.if-holds.true in
    told_turn _ s (line.Board (board_line.Release c.args.party.now c.args.name.now)) (drops c.args.party.now c.args.name.now) (of_boards (answer.Step access.Table (Some reply.Done))) _ (release_held s c.args.party.now c.args.name.now runs free held) c.requires.line refl (tt, tt)
    (record { alive = rep.alive; boards = rep.boards; events = c.release.ensures s.events count reached.few reached.sound.events rep.events }) (from_nothing _ _ _ c.requires.empty e)) c.push_answer.result c.push_answer.ensures.ok

pub returns-clause-tells : goal.returns-clause-tells
returns-clause-tells g c = on_ok (λ e s count rep reached.
    let runs : runs_on_events s.events c.args.party.now ≡ false = sym (c.runs.ensures s.events count reached.few reached.sound.events rep.events) ∙ c.if-runs.false in
    let alone : board_turn s (board_line.Release c.args.party.now c.args.name.now) ≡ None = elim c.else-is_none.branch [
      | else-is_none-via-then-is_none+else-holds w ↦ release_unheld s c.args.party.now c.args.name.now runs (sym (w.holds.ensures s.events count reached.few reached.sound.events rep.events) ∙ w.if-holds.false)
      | else-is_none-via-else-is_none w ↦ release_unfree s c.args.party.now c.args.name.now runs (sym (ap is_some (c.refusal_of_party.ensures.reason s.boards rep.boards)) ∙ c.is_none.ensures ∙ ap not w.if-is_none.false)
    ] in
    let served = c.release-answer.ensures.serves s.boards rep.boards reached.boards c.requires.line in
    told_alone _ s (board_line.Release c.args.party.now c.args.name.now) c.release-answer.result _ alone c.requires.line served.0
    (record { alive = rep.alive; boards = served.1; events = rep.events }) (from_nothing _ _ _ c.requires.empty e)) c.push_answer-2.result c.push_answer-2.ensures.ok

pub returns-then-runs-clause-memory : goal.returns-then-runs-clause-memory
returns-then-runs-clause-memory g c =
    refused_wants c.push_refused.result c.args.self.now (line.Board (board_line.Release c.args.party.now c.args.name.now)) c.args.out.now reason.Busy c.push_refused.ensures.room (λ s count rep reached.
    let runs : runs_on_events s.events c.args.party.now ≡ true = sym (c.runs.ensures s.events count reached.few reached.sound.events rep.events) ∙ c.if-runs.true in
    refusal_right s (line.Board (board_line.Release c.args.party.now c.args.name.now)) (refused reason.Busy) reason.Busy (release_busy s c.args.party.now c.args.name.now runs) c.requires.line refl)

pub returns-then-holds-clause-memory : goal.returns-then-holds-clause-memory
returns-then-holds-clause-memory g c =
    told_wants c.push_answer.result c.args.self.now (line.Board (board_line.Release c.args.party.now c.args.name.now)) c.args.out.now (of_boards (answer.Step access.Table (Some reply.Done))) c.push_answer.ensures.room
    (λ s count rep reached.
    let runs : runs_on_events s.events c.args.party.now ≡ false = sym (c.runs.ensures s.events count reached.few reached.sound.events rep.events) ∙ c.if-runs.false in
    let free : None ≡ free_reason (s.boards.parties c.args.party.now) None = none_is c.refusal_of_party.result (c.is_none.ensures ∙ ap not c.if-is_none.true) ∙ c.refusal_of_party.ensures.reason s.boards rep.boards in
    let held : holds_event s.events c.args.party.now c.args.name.now ≡ true = sym (c.holds.ensures s.events count reached.few reached.sound.events rep.events) ∙ c.if-holds.true in
    right_on_events s (line.Board (board_line.Release c.args.party.now c.args.name.now)) (drops c.args.party.now c.args.name.now) (of_boards (answer.Step access.Table (Some reply.Done))) (release_held s c.args.party.now c.args.name.now runs free held) c.requires.line refl (tt, tt))
    (λ s count rep reached no. absurd (no tt))

pub returns-clause-memory : goal.returns-clause-memory
returns-clause-memory g c =
    answered_wants c.push_answer-2.result c.args.self.now (board_line.Release c.args.party.now c.args.name.now) c.args.out.now c.release-answer.result c.push_answer-2.ensures.room
    (λ s count rep reached.
    let runs : runs_on_events s.events c.args.party.now ≡ false = sym (c.runs.ensures s.events count reached.few reached.sound.events rep.events) ∙ c.if-runs.false in
    elim c.else-is_none.branch [
      | else-is_none-via-then-is_none+else-holds w ↦ release_unheld s c.args.party.now c.args.name.now runs (sym (w.holds.ensures s.events count reached.few reached.sound.events rep.events) ∙ w.if-holds.false)
      | else-is_none-via-else-is_none w ↦ release_unfree s c.args.party.now c.args.name.now runs (sym (ap is_some (c.refusal_of_party.ensures.reason s.boards rep.boards)) ∙ c.is_none.ensures ∙ ap not w.if-is_none.false)
    ])
    (λ s count rep reached. (c.release-answer.ensures.serves s.boards rep.boards reached.boards c.requires.line).0)
    (λ s count rep reached no.
    let served = c.release-answer.ensures.serves s.boards rep.boards reached.boards c.requires.line in
    absurd (no (dropped_short s.boards c.args.party.now c.args.name.now c.release-answer.result served.0)))
