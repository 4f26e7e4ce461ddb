use Rattle.std.proofs.Common.{◌≡◌, true, false, refl, sym, ◌∙◌, Some, None}
use Rattle.board_model.specs.declared.answer.Reason.TheVariants as reason
use Rattle.board_model.specs.LawfulSession.{free_reason}
use Rattle.script_boards.proofs.Listings.{on_ok}
use Rattle.script_model.specs.declared.line.ScriptLine.TheVariants as line
use Rattle.script_model.specs.ScriptEvents.{runs_on_events, task_of}
use Rattle.script_model.specs.ScriptTurns.{refused, task_turn}
use Rattle.script_machine.proofs.Turns.{begun_told, event_busy, event_turn, event_unfree, from_nothing, refusal_told, told_refused}
use Rattle.script_machine.proofs.Wants.{refusal_right, refused_wants, takes_anyway, turn_accepted}
use Rattle.script_machine.proofs.machine.Machine.event_call.Goals as goal

pub returns-then-runs-clause-tells : goal.returns-then-runs-clause-tells
returns-then-runs-clause-tells g c = on_ok (λ e s count rep reached.
    let runs : runs_on_events s.events c.args.party ≡ true = sym (c.runs.ensures s.events count reached.few reached.sound.events rep.events) ∙ c.if-runs.true in
    told_refused _ s (line.Event c.args.party c.args.request) reason.Busy _ (event_busy s c.args.party c.args.request runs) c.requires.line rep (from_nothing _ _ _ c.requires.empty e)) c.push_refused.result c.push_refused.ensures.ok

pub returns-in-Some-clause-tells : goal.returns-in-Some-clause-tells
returns-in-Some-clause-tells g c = on_ok (λ e s count rep reached.
    let runs : runs_on_events s.events c.args.party ≡ false = sym (c.runs.ensures s.events count reached.few reached.sound.events rep.events) ∙ c.if-runs.false in
    let why : Some c.in-Some.why ≡ free_reason (s.boards.parties c.args.party) None = sym c.in-Some.is ∙ c.refusal_of_party.ensures.reason s.boards rep.boards in
    told_refused _ s (line.Event c.args.party c.args.request) c.in-Some.why _ (event_unfree s c.args.party c.args.request c.in-Some.why runs why) c.requires.line rep (from_nothing _ _ _ c.requires.empty e)) c.push_refused-in-Some.result c.push_refused-in-Some.ensures.ok

pub begin-requires-clause-free : goal.begin-requires-clause-free
begin-requires-clause-free g c = λ x count few sound rep. sym (c.runs.ensures x count few sound rep) ∙ c.if-runs.false

pub returns-in-Some-2-clause-tells : goal.returns-in-Some-2-clause-tells
returns-in-Some-2-clause-tells g c = on_ok (λ e s count rep reached.
    let runs : runs_on_events s.events c.args.party ≡ false = sym (c.runs.ensures s.events count reached.few reached.sound.events rep.events) ∙ c.if-runs.false in
    let free : None ≡ free_reason (s.boards.parties c.args.party) None = sym c.in_default.is ∙ c.refusal_of_party.ensures.reason s.boards rep.boards in
    let turned = c.in_ok-why.ensures.told s.events count reached.few reached.sound.events rep.events s.boards (c.takes_board_name-taken.ensures s count rep reached) in
    refusal_told _ s (line.Event c.args.party c.args.request) (task_turn s c.args.party c.args.request (task_of s.events c.args.party c.args.request)) c.in-Some-2.why _
    (event_turn s c.args.party c.args.request runs free) c.requires.line (sym c.in-Some-2.is ∙ turned.told_is)
    (λ a. record { alive = rep.alive; boards = rep.boards; events = turned.represents a }) (from_nothing _ _ _ c.requires.empty e)) c.push_refused-in-Some-2.result c.push_refused-in-Some-2.ensures.ok

pub returns-in-None-clause-tells : goal.returns-in-None-clause-tells
returns-in-None-clause-tells g c = on_ok (λ e s count rep reached.
    let runs : runs_on_events s.events c.args.party ≡ false = sym (c.runs.ensures s.events count reached.few reached.sound.events rep.events) ∙ c.if-runs.false in
    let free : None ≡ free_reason (s.boards.parties c.args.party) None = sym c.in_default.is ∙ c.refusal_of_party.ensures.reason s.boards rep.boards in
    let turned = c.in_ok-why.ensures.told s.events count reached.few reached.sound.events rep.events s.boards (c.takes_board_name-taken.ensures s count rep reached) in
    begun_told _ s (line.Event c.args.party c.args.request) c.args.party c.args.request _
    (event_turn s c.args.party c.args.request runs free) c.requires.line (sym c.in-None.is ∙ turned.told_is)
    (λ a. record { alive = rep.alive; boards = rep.boards; events = turned.represents a }) (from_nothing _ _ _ c.requires.empty e)) c.push_begun.result c.push_begun.ensures.ok

pub returns-then-runs-clause-memory : goal.returns-then-runs-clause-memory
returns-then-runs-clause-memory g c =
    refused_wants c.push_refused.result c.args.self.now (line.Event c.args.party c.args.request) c.args.out.now reason.Busy c.push_refused.ensures.room (λ s count rep reached.
    let runs : runs_on_events s.events c.args.party ≡ true = sym (c.runs.ensures s.events count reached.few reached.sound.events rep.events) ∙ c.if-runs.true in
    refusal_right s (line.Event c.args.party c.args.request) (refused reason.Busy) reason.Busy (event_busy s c.args.party c.args.request runs) c.requires.line refl)

pub returns-in-Some-clause-memory : goal.returns-in-Some-clause-memory
returns-in-Some-clause-memory g c =
    refused_wants c.push_refused-in-Some.result c.args.self.now (line.Event c.args.party c.args.request) c.args.out.now c.in-Some.why c.push_refused-in-Some.ensures.room (λ s count rep reached.
    let runs : runs_on_events s.events c.args.party ≡ false = sym (c.runs.ensures s.events count reached.few reached.sound.events rep.events) ∙ c.if-runs.false in
    let why : Some c.in-Some.why ≡ free_reason (s.boards.parties c.args.party) None = sym c.in-Some.is ∙ c.refusal_of_party.ensures.reason s.boards rep.boards in
    refusal_right s (line.Event c.args.party c.args.request) (refused c.in-Some.why) c.in-Some.why (event_unfree s c.args.party c.args.request c.in-Some.why runs why) c.requires.line refl)

pub returns-in-Some-2-clause-memory : goal.returns-in-Some-2-clause-memory
returns-in-Some-2-clause-memory g c =
    refused_wants c.push_refused-in-Some-2.result c.args.self.now (line.Event c.args.party c.args.request) c.args.out.now c.in-Some-2.why c.push_refused-in-Some-2.ensures.room (λ s count rep reached.
    let runs : runs_on_events s.events c.args.party ≡ false = sym (c.runs.ensures s.events count reached.few reached.sound.events rep.events) ∙ c.if-runs.false in
    let free : None ≡ free_reason (s.boards.parties c.args.party) None = sym c.in_default.is ∙ c.refusal_of_party.ensures.reason s.boards rep.boards in
    let turned = c.in_ok-why.ensures.told s.events count reached.few reached.sound.events rep.events s.boards (c.takes_board_name-taken.ensures s count rep reached) in
    refusal_right s (line.Event c.args.party c.args.request) (task_turn s c.args.party c.args.request (task_of s.events c.args.party c.args.request)) c.in-Some-2.why (event_turn s c.args.party c.args.request runs free) c.requires.line (sym c.in-Some-2.is ∙ turned.told_is))

pub returns-in_err-why-clause-memory : goal.returns-in_err-why-clause-memory
returns-in_err-why-clause-memory g c =
    takes_anyway c.from_residual.result c.args.self.now (line.Event c.args.party c.args.request) c.args.out.now (λ s count rep reached.
    let runs : runs_on_events s.events c.args.party ≡ false = sym (c.runs.ensures s.events count reached.few reached.sound.events rep.events) ∙ c.if-runs.false in
    let free : None ≡ free_reason (s.boards.parties c.args.party) None = sym c.in_default.is ∙ c.refusal_of_party.ensures.reason s.boards rep.boards in
    turn_accepted s (line.Event c.args.party c.args.request) (task_turn s c.args.party c.args.request (task_of s.events c.args.party c.args.request)) (event_turn s c.args.party c.args.request runs free)
    (c.in_err-why.ensures.memory s.events count reached.few reached.sound.events rep.events s.boards (c.takes_board_name-taken.ensures s count rep reached)))

pub returns-in-None-clause-memory : goal.returns-in-None-clause-memory
returns-in-None-clause-memory g c =
    takes_anyway c.push_begun.result c.args.self.now (line.Event c.args.party c.args.request) c.args.out.now (λ s count rep reached.
    let runs : runs_on_events s.events c.args.party ≡ false = sym (c.runs.ensures s.events count reached.few reached.sound.events rep.events) ∙ c.if-runs.false in
    let free : None ≡ free_reason (s.boards.parties c.args.party) None = sym c.in_default.is ∙ c.refusal_of_party.ensures.reason s.boards rep.boards in
    let turned = c.in_ok-why.ensures.told s.events count reached.few reached.sound.events rep.events s.boards (c.takes_board_name-taken.ensures s count rep reached) in
    turn_accepted s (line.Event c.args.party c.args.request) (task_turn s c.args.party c.args.request (task_of s.events c.args.party c.args.request)) (event_turn s c.args.party c.args.request runs free) (sym (sym c.in-None.is ∙ turned.told_is)))
