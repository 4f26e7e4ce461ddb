use Rattle.std.proofs.Common.{◌≡◌, Some, None, false, subst, sym, ◌∙◌}
use Rattle.std.specs.Prelude.{Bool, true, if◌then◌else◌, IfSome}
use Rattle.board_model.specs.declared.answer.Answer.TheVariants as answer
use Rattle.board_model.specs.declared.answer.Reason.TheVariants as reason
use Rattle.board_model.specs.declared.answer.Reply.TheVariants as reply
use Rattle.board_model.specs.declared.line.Line.TheVariants as board_line
use Rattle.script_boards.proofs.Listings.{on_ok}
use Rattle.script_boards.specs.declared.short_steps.ShortWay.{ShortWay}
use Rattle.script_boards.specs.ShortSteps.{IsShortWay, short_answer}
use Rattle.script_lengths.specs.ShortAnswers.{IsShortReply}
use Rattle.script_model.specs.declared.line.ScriptLine.TheVariants as line
use Rattle.script_model.specs.ScriptEvents.{runs_on_events}
use Rattle.script_machine.proofs.StepsOnBoards.{err_then, led_same, tells_same, wants_same}
use Rattle.script_machine.proofs.Turns.{from_nothing, step_alone, told_alone}
use Rattle.script_machine.proofs.Wants.{answered_wants}
use Rattle.script_machine.proofs.machine.Machine.step.Goals as goal

pub step_on_events-requires-clause-runs : goal.step_on_events-requires-clause-runs
step_on_events-requires-clause-runs g c = λ x count few sound rep. sym (c.runs.ensures x count few sound rep) ∙ c.if-runs.true

-- ---- a short step

told_short : (b : Bool) → IfSome (if b then Some reply.Done else None) IsShortReply
told_short true = tt
told_short false = tt

pub returns-in-Made-clause-tells : goal.returns-in-Made-clause-tells
returns-in-Made-clause-tells g c = on_ok (λ e s count rep reached.
    let runs : runs_on_events s.events c.args.party.now ≡ false = sym (c.runs.ensures s.events count reached.few reached.sound.events rep.events) ∙ c.if-runs.false in
    let steps = subst (λ (o : ShortWay). IsShortWay c.args.self.now.boards c.step_short.new.self c.args.party.now o) c.in-Made.is c.step_short.ensures.steps in
    let served = steps s.boards rep.boards reached.boards c.requires.line in
    told_alone _ s (board_line.Step c.args.party.now) (short_answer c.in-Made.made) _ (step_alone s c.args.party.now runs) c.requires.line served.0
    (record { alive = rep.alive; boards = served.1; events = rep.events }) (from_nothing _ _ _ c.requires.empty e)) c.push_access_made.result c.push_access_made.ensures.ok

pub returns-in-Made-clause-memory : goal.returns-in-Made-clause-memory
returns-in-Made-clause-memory g c =
    let steps = subst (λ (o : ShortWay). IsShortWay c.args.self.now.boards c.step_short.new.self c.args.party.now o) c.in-Made.is c.step_short.ensures.steps in
    answered_wants c.push_access_made.result c.args.self.now (board_line.Step c.args.party.now) c.args.out.now (short_answer c.in-Made.made) c.push_access_made.ensures.room
    (λ s count rep reached.
    let runs : runs_on_events s.events c.args.party.now ≡ false = sym (c.runs.ensures s.events count reached.few reached.sound.events rep.events) ∙ c.if-runs.false in
    step_alone s c.args.party.now runs)
    (λ s count rep reached. (steps s.boards rep.boards reached.boards c.requires.line).0)
    (λ s count rep reached no. absurd (no (told_short c.in-Made.made.is_done)))

-- ---- a party that runs no call

pub returns-in-Idle-clause-tells : goal.returns-in-Idle-clause-tells
returns-in-Idle-clause-tells g c = on_ok (λ e s count rep reached.
    let runs : runs_on_events s.events c.args.party.now ≡ false = sym (c.runs.ensures s.events count reached.few reached.sound.events rep.events) ∙ c.if-runs.false in
    let idle = subst (λ (o : ShortWay). IsShortWay c.args.self.now.boards c.step_short.new.self c.args.party.now o) c.in-Idle.is c.step_short.ensures.steps in
    let served = idle s.boards rep.boards reached.boards c.requires.line in
    told_alone _ s (board_line.Step c.args.party.now) (answer.Refused reason.Idle) _ (step_alone s c.args.party.now runs) c.requires.line served.0
    (record { alive = rep.alive; boards = served.1; events = rep.events }) (from_nothing _ _ _ c.requires.empty e)) c.push_refused.result c.push_refused.ensures.ok

pub returns-in-Idle-clause-memory : goal.returns-in-Idle-clause-memory
returns-in-Idle-clause-memory g c =
    let idle = subst (λ (o : ShortWay). IsShortWay c.args.self.now.boards c.step_short.new.self c.args.party.now o) c.in-Idle.is c.step_short.ensures.steps in
    answered_wants c.push_refused.result c.args.self.now (board_line.Step c.args.party.now) c.args.out.now (answer.Refused reason.Idle) c.push_refused.ensures.room
    (λ s count rep reached.
    let runs : runs_on_events s.events c.args.party.now ≡ false = sym (c.runs.ensures s.events count reached.few reached.sound.events rep.events) ∙ c.if-runs.false in
    step_alone s c.args.party.now runs)
    (λ s count rep reached. (idle s.boards rep.boards reached.boards c.requires.line).0)
    (λ s count rep reached no. absurd (no tt))

-- ---- a step of a get that keeps no value, of the same machine

pub step_get-requires-clause-led : goal.step_get-requires-clause-led
step_get-requires-clause-led g c =
    let get = subst (λ (o : ShortWay). IsShortWay c.args.self.now.boards c.step_short.new.self c.args.party.now o) c.in-Get.is c.step_short.ensures.steps in
    led_same c.args.self.now c.step_short.new.self get.0 c.requires.led

pub step_get-requires-clause-runs : goal.step_get-requires-clause-runs
step_get-requires-clause-runs g c = λ x count few sound rep. sym (c.runs.ensures x count few sound rep) ∙ c.if-runs.false

pub step_get-requires-clause-get : goal.step_get-requires-clause-get
step_get-requires-clause-get g c =
    let get = subst (λ (o : ShortWay). IsShortWay c.args.self.now.boards c.step_short.new.self c.args.party.now o) c.in-Get.is c.step_short.ensures.steps in
    get.1

pub returns-in-Get-clause-tells : goal.returns-in-Get-clause-tells
returns-in-Get-clause-tells g c =
    let get = subst (λ (o : ShortWay). IsShortWay c.args.self.now.boards c.step_short.new.self c.args.party.now o) c.in-Get.is c.step_short.ensures.steps in
    on_ok (tells_same c.args.self.now c.step_short.new.self get.0 _ (line.Board (board_line.Step c.args.party.now)) _) c.step_get.result c.step_get.ensures.tells

pub returns-in-Get-clause-memory : goal.returns-in-Get-clause-memory
returns-in-Get-clause-memory g c =
    let get = subst (λ (o : ShortWay). IsShortWay c.args.self.now.boards c.step_short.new.self c.args.party.now o) c.in-Get.is c.step_short.ensures.steps in
    err_then c.step_get.result c.step_get.ensures.memory (wants_same c.args.self.now c.step_short.new.self get.0 (line.Board (board_line.Step c.args.party.now)) c.args.out.now)

-- ---- another one, of the same machine

pub step_on_boards-requires-clause-led : goal.step_on_boards-requires-clause-led
step_on_boards-requires-clause-led g c =
    let same = subst (λ (o : ShortWay). IsShortWay c.args.self.now.boards c.step_short.new.self c.args.party.now o) c.in-Nowhere.is c.step_short.ensures.steps in
    led_same c.args.self.now c.step_short.new.self same c.requires.led

pub step_on_boards-requires-clause-runs : goal.step_on_boards-requires-clause-runs
step_on_boards-requires-clause-runs g c = λ x count few sound rep. sym (c.runs.ensures x count few sound rep) ∙ c.if-runs.false

pub returns-in-Nowhere-clause-tells : goal.returns-in-Nowhere-clause-tells
returns-in-Nowhere-clause-tells g c =
    let same = subst (λ (o : ShortWay). IsShortWay c.args.self.now.boards c.step_short.new.self c.args.party.now o) c.in-Nowhere.is c.step_short.ensures.steps in
    on_ok (tells_same c.args.self.now c.step_short.new.self same _ (line.Board (board_line.Step c.args.party.now)) _) c.step_on_boards.result c.step_on_boards.ensures.tells

pub returns-in-Nowhere-clause-memory : goal.returns-in-Nowhere-clause-memory
returns-in-Nowhere-clause-memory g c =
    let same = subst (λ (o : ShortWay). IsShortWay c.args.self.now.boards c.step_short.new.self c.args.party.now o) c.in-Nowhere.is c.step_short.ensures.steps in
    err_then c.step_on_boards.result c.step_on_boards.ensures.memory (wants_same c.args.self.now c.step_short.new.self same (line.Board (board_line.Step c.args.party.now)) c.args.out.now)
