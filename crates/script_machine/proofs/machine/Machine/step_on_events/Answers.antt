use Rattle.std.proofs.Common.{◌≡◌, ℕ, true, ap, subst, ◌∙◌, List, ◌++◌, Option, inl, inr}
use Rattle.std.specs.Prelude.{OnErr}
use Rattle.script_model.specs.declared.reply.EventReply.{EventReply}
use Rattle.board_model.specs.declared.line.Line.TheVariants as board_line
use Rattle.script_boards.proofs.Listings.{on_ok}
use Rattle.script_events.specs.declared.step.Stepped.{Stepped}
use Rattle.script_events.specs.PartyEvents.{IsStepped}
use Rattle.script_events.proofs.Shown.{access_shown, ask_shown, event_stands, kind_shown}
use Rattle.script_model.specs.declared.line.ScriptLine.TheVariants as line
use Rattle.script_model.specs.ScriptAnswers.{of_ask, of_event, script_answer_line}
use Rattle.script_model.specs.ScriptEvents.{runs_on_events}
use Rattle.script_model.specs.ScriptTurns.{ScriptState, steps}
use Rattle.script_model.proofs.FormedLemmas.{step_formed_so}
use Rattle.script_model.proofs.RuleLemmas.{right_on_events}
use Rattle.script_machine.proofs.Turns.{from_nothing, step_taken, told_turn}
use Rattle.script_print.specs.Room.{LacksRoomFor}
use Rattle.script_machine.specs.ScriptMachine.{IsReached, Represents}
use Rattle.script_machine.proofs.Wants.{long_wants, step_takes_at, takes_anyway}
use Rattle.script_machine.proofs.machine.Machine.step_on_events.Goals as goal

pub step-requires-clause-runs : goal.step-requires-clause-runs
step-requires-clause-runs g c = c.requires.runs

pub name_of-requires : goal.name_of-requires
name_of-requires g c =
    let led = c.requires.led in
    let s = led.state in
    let stepped = subst (λ (t : Stepped). IsStepped c.step.new.self s.events c.args.party.now t) c.in-Acted.is (c.in_ok-reply.ensures.told s.events led.count led.reached.few led.reached.sound.events led.represents.events) in
    event_stands c.step.new.self s.events c.args.party.now c.in-Acted.event c.in-Acted.access c.in-Acted.answer c.in-Acted.told stepped

pub returns-in-Asked-clause-tells : goal.returns-in-Asked-clause-tells
returns-in-Asked-clause-tells g c = on_ok (λ e s count rep reached.
    let runs : runs_on_events s.events c.args.party.now ≡ true = c.requires.runs s.events count reached.few reached.sound.events rep.events in
    let stepped = subst (λ (t : Stepped). IsStepped c.step.new.self s.events c.args.party.now t) c.in-Asked.is (c.in_ok-reply.ensures.told s.events count reached.few reached.sound.events rep.events) in
    let shown = ask_shown c.step.new.self s.events c.args.party.now c.in-Asked.reply stepped in
    told_turn _ s (line.Board (board_line.Step c.args.party.now)) (steps c.args.party.now) (of_ask c.in-Asked.reply) _ (step_taken s c.args.party.now runs) c.requires.line shown.right (step_formed_so s (line.Board (board_line.Step c.args.party.now)) count c.args.party.now _ reached.sound reached.few shown.right)
    (record { alive = rep.alive; boards = rep.boards; events = shown.represents }) (from_nothing _ _ _ c.requires.empty e)) c.push_event_asked.result c.push_event_asked.ensures.ok

pub returns-in-Acted-clause-tells : goal.returns-in-Acted-clause-tells
returns-in-Acted-clause-tells g c = on_ok (λ e s count rep reached.
    let runs : runs_on_events s.events c.args.party.now ≡ true = c.requires.runs s.events count reached.few reached.sound.events rep.events in
    let stepped = subst (λ (t : Stepped). IsStepped c.step.new.self s.events c.args.party.now t) c.in-Acted.is (c.in_ok-reply.ensures.told s.events count reached.few reached.sound.events rep.events) in
    let formed = step_formed_so s (line.Board (board_line.Step c.args.party.now)) count c.args.party.now stepped.answer reached.sound reached.few stepped.right in
    let kind = kind_shown c.step.new.self s.events c.args.party.now c.in-Acted.event c.in-Acted.access c.in-Acted.answer c.in-Acted.told c.kind_of.result c.kind_of.ensures stepped formed in
    let shown = access_shown c.step.new.self s.events c.args.party.now c.in-Acted.event c.in-Acted.access c.in-Acted.answer c.in-Acted.told c.kind_of.result c.name_of.result.now stepped kind c.name_of.ensures in
    let printed = e ∙ ap (λ (t : Option EventReply). c.args.out.now.items ++ script_answer_line (of_event c.kind_of.result c.name_of.result.now c.in-Acted.access c.in-Acted.answer t)) c.as_ref.ensures.value in
    told_turn _ s (line.Board (board_line.Step c.args.party.now)) (steps c.args.party.now) (of_event c.kind_of.result c.name_of.result.now c.in-Acted.access c.in-Acted.answer c.in-Acted.told) _ (step_taken s c.args.party.now runs) c.requires.line shown.right (step_formed_so s (line.Board (board_line.Step c.args.party.now)) count c.args.party.now _ reached.sound reached.few shown.right)
    (record { alive = rep.alive; boards = rep.boards; events = shown.represents }) (from_nothing _ _ _ c.requires.empty printed)) c.push_event_step.result c.push_event_step.ensures.ok

pub returns-in_err-reply-clause-memory : goal.returns-in_err-reply-clause-memory
returns-in_err-reply-clause-memory g c =
    takes_anyway c.from_residual.result c.args.self.now (line.Board (board_line.Step c.args.party.now)) c.args.out.now (λ s count rep reached.
    let runs : runs_on_events s.events c.args.party.now ≡ true = c.requires.runs s.events count reached.few reached.sound.events rep.events in
    step_takes_at s c.args.party.now true runs (inl (c.in_err-reply.ensures.memory s.events count reached.few reached.sound.events rep.events)))

pub returns-in-Asked-clause-memory : goal.returns-in-Asked-clause-memory
returns-in-Asked-clause-memory g c =
    let m = c.args.self.now in
    let p = c.args.party.now in
    let shown = λ (s : ScriptState) (count : ℕ) (rep : Represents m s) (reached : IsReached s count).
    ask_shown c.step.new.self s.events p c.in-Asked.reply (subst (λ (t : Stepped). IsStepped c.step.new.self s.events p t) c.in-Asked.is (c.in_ok-reply.ensures.told s.events count reached.few reached.sound.events rep.events)) in
    long_wants c.push_event_asked.result m (line.Board (board_line.Step p)) c.args.out.now (of_ask c.in-Asked.reply) c.push_event_asked.ensures.room
    (λ s count rep reached.
    let runs : runs_on_events s.events c.args.party.now ≡ true = c.requires.runs s.events count reached.few reached.sound.events rep.events in
    let right = (shown s count rep reached).right in
    right_on_events s (line.Board (board_line.Step p)) (steps p) (of_ask c.in-Asked.reply) (step_taken s p runs) c.requires.line right (step_formed_so s (line.Board (board_line.Step p)) count p _ reached.sound reached.few right))
    (λ s count rep reached long.
    step_takes_at s p true (c.requires.runs s.events count reached.few reached.sound.events rep.events)
    (inr (record { answer = _; right = (shown s count rep reached).right; long = long })))

pub returns-in-Acted-clause-memory : goal.returns-in-Acted-clause-memory
returns-in-Acted-clause-memory g c =
    let m = c.args.self.now in
    let p = c.args.party.now in
    let shown = λ (s : ScriptState) (count : ℕ) (rep : Represents m s) (reached : IsReached s count).
    let stepped = subst (λ (t : Stepped). IsStepped c.step.new.self s.events p t) c.in-Acted.is (c.in_ok-reply.ensures.told s.events count reached.few reached.sound.events rep.events) in
    let formed = step_formed_so s (line.Board (board_line.Step p)) count p stepped.answer reached.sound reached.few stepped.right in
    let kind = kind_shown c.step.new.self s.events p c.in-Acted.event c.in-Acted.access c.in-Acted.answer c.in-Acted.told c.kind_of.result c.kind_of.ensures stepped formed in
    access_shown c.step.new.self s.events p c.in-Acted.event c.in-Acted.access c.in-Acted.answer c.in-Acted.told c.kind_of.result c.name_of.result.now stepped kind c.name_of.ensures in
    let text = λ (n : List ℕ) (t : Option EventReply). script_answer_line (of_event c.kind_of.result n c.in-Acted.access c.in-Acted.answer t) in
    let named = ap (λ (t : Option EventReply). text c.name_of.result.now t) c.as_ref.ensures.value in
    let lacks = subst (λ (bytes : List ℕ). OnErr c.push_event_step.result (LacksRoomFor c.args.out.now bytes)) named c.push_event_step.ensures.room in
    long_wants c.push_event_step.result m (line.Board (board_line.Step p)) c.args.out.now (of_event c.kind_of.result c.name_of.result.now c.in-Acted.access c.in-Acted.answer c.in-Acted.told) lacks
    (λ s count rep reached.
    let runs : runs_on_events s.events c.args.party.now ≡ true = c.requires.runs s.events count reached.few reached.sound.events rep.events in
    let right = (shown s count rep reached).right in
    right_on_events s (line.Board (board_line.Step p)) (steps p) (of_event c.kind_of.result c.name_of.result.now c.in-Acted.access c.in-Acted.answer c.in-Acted.told) (step_taken s p runs) c.requires.line right (step_formed_so s (line.Board (board_line.Step p)) count p _ reached.sound reached.few right))
    (λ s count rep reached long.
    step_takes_at s p true (c.requires.runs s.events count reached.few reached.sound.events rep.events)
    (inr (record { answer = _; right = (shown s count rep reached).right; long = long })))
