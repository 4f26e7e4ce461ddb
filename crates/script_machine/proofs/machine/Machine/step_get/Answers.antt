use Rattle.std.proofs.Common.{◌≡◌, ℕ, List, Option, false, ap, subst, Some, None, ◌∙◌}
use Rattle.std.specs.Prelude.{OnErr, option_map}
use Rattle.board_cell_model.specs.declared.access.Access.{Access}
use Rattle.board_model.specs.AnswerGrammar.{answer_line}
use Rattle.board_model.specs.declared.answer.Answer.{Answer}
use Rattle.board_model.specs.declared.answer.Answer.TheVariants as answer
use Rattle.board_model.specs.declared.answer.Reply.TheVariants as reply
use Rattle.board_model.specs.declared.line.Line.TheVariants as board_line
use Rattle.script_boards.proofs.Listings.{on_ok}
use Rattle.script_boards.specs.declared.get_steps.ReadValue.{ReadValue}
use Rattle.script_boards.specs.GetSteps.{value_told}
use Rattle.script_boards.specs.Machine.{Serves}
use Rattle.script_model.specs.ScriptEvents.{runs_on_events}
use Rattle.script_print.specs.Room.{LacksRoomFor}
use Rattle.script_machine.proofs.Turns.{from_nothing, step_alone, told_alone}
use Rattle.script_machine.proofs.Wants.{answered_wants, step_takes_at}
use Rattle.script_machine.proofs.ShortSteps.{step_wants}
use Rattle.script_machine.proofs.machine.Machine.step_get.Goals as goal

-- the answer of a step that told so
abbrev answered : Access → Option ReadValue → Answer
answered access told = answer.Step access (option_map value_told told)

-- ---- a step that isn't the get's last

pub returns-in-None-clause-tells : goal.returns-in-None-clause-tells
returns-in-None-clause-tells g c =
    let party = c.args.party.now in
    let step = c.step_get-step.result in
    let serves = subst (λ (o : Option ReadValue). Serves c.args.self.now.boards c.step_get-step.new.self (board_line.Step party) (answered step.access o)) c.in-None.is c.step_get-step.ensures.serves in
    on_ok (λ e s count rep reached.
    let runs : runs_on_events s.events party ≡ false = c.requires.runs s.events count reached.few reached.sound.events rep.events in
    let served = serves s.boards rep.boards reached.boards c.requires.line in
    told_alone _ s (board_line.Step party) (answered step.access None) _ (step_alone s party runs) c.requires.line served.0
    (record { alive = rep.alive; boards = served.1; events = rep.events }) (from_nothing _ _ _ c.requires.empty e)) c.push_access_made.result c.push_access_made.ensures.ok

pub returns-in-None-clause-memory : goal.returns-in-None-clause-memory
returns-in-None-clause-memory g c =
    let party = c.args.party.now in
    let step = c.step_get-step.result in
    let serves = subst (λ (o : Option ReadValue). Serves c.args.self.now.boards c.step_get-step.new.self (board_line.Step party) (answered step.access o)) c.in-None.is c.step_get-step.ensures.serves in
    answered_wants c.push_access_made.result c.args.self.now (board_line.Step party) c.args.out.now (answered step.access None) c.push_access_made.ensures.room
    (λ s count rep reached. step_alone s party (c.requires.runs s.events count reached.few reached.sound.events rep.events))
    (λ s count rep reached. (serves s.boards rep.boards reached.boards c.requires.line).0)
    (λ s count rep reached no.
    let runs : runs_on_events s.events party ≡ false = c.requires.runs s.events count reached.few reached.sound.events rep.events in
    step_takes_at s party false runs (step_wants s.boards party (answered step.access None) reached.boards.sound (serves s.boards rep.boards reached.boards c.requires.line).0 no))

-- ---- its last

pub returns-clause-tells : goal.returns-clause-tells
returns-clause-tells g c =
    let party = c.args.party.now in
    let step = c.step_get-step.result in
    let read = c.in-Some.read in
    let serves = subst (λ (o : Option ReadValue). Serves c.args.self.now.boards c.step_get-step.new.self (board_line.Step party) (answered step.access o)) c.in-Some.is c.step_get-step.ensures.serves in
    let same : answer.Step step.access (Some (reply.Got read.value_type c.as_slice.result.now read.generation)) ≡ answered step.access (Some read) =
    ap (λ (ws : List ℕ). answer.Step step.access (Some (reply.Got read.value_type ws read.generation))) c.as_slice.ensures in
    on_ok (λ e s count rep reached.
    let runs : runs_on_events s.events party ≡ false = c.requires.runs s.events count reached.few reached.sound.events rep.events in
    let served = serves s.boards rep.boards reached.boards c.requires.line in
    told_alone _ s (board_line.Step party) (answered step.access (Some read)) _ (step_alone s party runs) c.requires.line served.0
    (record { alive = rep.alive; boards = served.1; events = rep.events }) (from_nothing _ _ _ c.requires.empty e ∙ ap answer_line same)) c.push_got.result c.push_got.ensures.ok

pub returns-clause-memory : goal.returns-clause-memory
returns-clause-memory g c =
    let party = c.args.party.now in
    let step = c.step_get-step.result in
    let read = c.in-Some.read in
    let serves = subst (λ (o : Option ReadValue). Serves c.args.self.now.boards c.step_get-step.new.self (board_line.Step party) (answered step.access o)) c.in-Some.is c.step_get-step.ensures.serves in
    let same : answer.Step step.access (Some (reply.Got read.value_type c.as_slice.result.now read.generation)) ≡ answered step.access (Some read) =
    ap (λ (ws : List ℕ). answer.Step step.access (Some (reply.Got read.value_type ws read.generation))) c.as_slice.ensures in
    answered_wants c.push_got.result c.args.self.now (board_line.Step party) c.args.out.now (answered step.access (Some read))
    (subst (λ (a : Answer). OnErr c.push_got.result (LacksRoomFor c.args.out.now (answer_line a))) same c.push_got.ensures.room)
    (λ s count rep reached. step_alone s party (c.requires.runs s.events count reached.few reached.sound.events rep.events))
    (λ s count rep reached. (serves s.boards rep.boards reached.boards c.requires.line).0)
    (λ s count rep reached no.
    let runs : runs_on_events s.events party ≡ false = c.requires.runs s.events count reached.few reached.sound.events rep.events in
    step_takes_at s party false runs (step_wants s.boards party (answered step.access (Some read)) reached.boards.sound (serves s.boards rep.boards reached.boards c.requires.line).0 no))
