use Rattle.std.proofs.Common.{◌≡◌, ◌∙◌, Bool, List, ℕ, Option, Some, None, ap, false, rules, subst, sym, true}
use Rattle.std.specs.Prelude.{if◌then◌else◌, is_some}
use Rattle.std.specs.HashMap.{get}
use Rattle.std.specs.Str.{bytes_eq}
use Rattle.script_events.specs.declared.rows.CallTask.{CallTask}
use Rattle.script_events.specs.Calls.{TakesAt, goes_on}
use Rattle.script_events.specs.Left.{HasTask, IsCutAt, IsCutShort}
use Rattle.script_events.specs.PartyEvents.{StepMayWant, held_in, task_in}
use Rattle.script_events.proofs.Options.{on_err, on_errs}
use Rattle.script_events.proofs.Steps.{can_step, had_memory, may_want, told_done}
use Rattle.script_events.proofs.Tasks.{changed_ended, is_running}
use Rattle.script_events.proofs.party_events.PartyEvents.step.Goals as goal

abbrev no_task : Option CallTask
no_task = None

pub unreachable-requires : goal.unreachable-requires
unreachable-requires c =
    let m = c.args.self.now in
    let led = c.requires.led in
    let party = c.args.party.now in
    let none : task_in m party ≡ no_task = search rules in
    let some : is_some (task_in m party) ≡ true = is_running (task_in m party) (led.state.asked party) (led.state.session.doing party) (led.represents.calls party) ∙ c.requires.runs led.state led.count led.few led.sound led.represents in
    let no : false ≡ true = sym (ap is_some none) ∙ some in
    cc

pub step-stepped-requires : goal.step-stepped-requires
step-stepped-requires c =
    let led = c.requires.led in
    can_step c.args.self.now c.args.self.now led.state led.count led.few led.sound led.represents c.args.party.now c.in-Some.task.now (sym c.in-Some.ensures.value)

pub returns-then-not-goes_on-clause-told : goal.returns-then-not-goes_on-clause-told
returns-then-not-goes_on-clause-told c =
    let m = c.args.self.now in
    let party = c.args.party.now in
    let t = c.in-Some.task.now in
    let found : task_in m party ≡ Some t = sym c.in-Some.ensures.value in
    let left = c.step-stepped.new.self in
    let put = ((c.get_mut.follows.holds left).3 (ap is_some found)).0 in
    let over : goes_on c.step-stepped.result ≡ false = search rules in
    let gone = changed_ended (task_in m) (λ p. get bytes_eq (c.get_mut.follows.lender left) p) (λ p. get bytes_eq c.remove.new.self p) party (Some left) put c.remove.ensures.updates.0 in
    told_done m _ party t found left c.step-stepped.result c.step-stepped.ensures.told
    (subst (λ (b : Bool). HasTask (task_in m) (λ p. get bytes_eq c.remove.new.self p) party (if b then Some left else None)) (sym over) gone)

pub returns-then-not-goes_on-clause-memory : goal.returns-then-not-goes_on-clause-memory
returns-then-not-goes_on-clause-memory c =
    let m = c.args.self.now in
    let party = c.args.party.now in
    let t = c.in-Some.task.now in
    on_err c.step-stepped.result (TakesAt m.events (held_in m.things) party t) (StepMayWant m party) (may_want m party t (sym c.in-Some.ensures.value)) c.step-stepped.ensures.memory

pub returns-then-not-goes_on-clause-left : goal.returns-then-not-goes_on-clause-left
returns-then-not-goes_on-clause-left c =
    let m = c.args.self.now in
    let party = c.args.party.now in
    let t = c.in-Some.task.now in
    let found : task_in m party ≡ Some t = sym c.in-Some.ensures.value in
    let left = c.step-stepped.new.self in
    let put = ((c.get_mut.follows.holds left).3 (ap is_some found)).0 in
    let gone = changed_ended (task_in m) (λ p. get bytes_eq (c.get_mut.follows.lender left) p) (λ p. get bytes_eq c.remove.new.self p) party (Some left) put c.remove.ensures.updates.0 in
    on_errs c.step-stepped.result ((p n : List ℕ) → held_in c.step-stepped.new.things p n ≡ held_in m.things p n) (IsCutAt m.events c.step-stepped.new.events t) (IsCutShort m _ party)
    (λ things events. record { task = t; found = found; calls = gone; things = things; events = events })
    c.step-stepped.ensures.things c.step-stepped.ensures.events

pub returns-else-not-goes_on-clause-told : goal.returns-else-not-goes_on-clause-told
returns-else-not-goes_on-clause-told c =
    let m = c.args.self.now in
    let party = c.args.party.now in
    let t = c.in-Some.task.now in
    let found : task_in m party ≡ Some t = sym c.in-Some.ensures.value in
    let left = c.step-stepped.new.self in
    let put = ((c.get_mut.follows.holds left).3 (ap is_some found)).0 in
    let on : goes_on c.step-stepped.result ≡ true = search rules in
    told_done m _ party t found left c.step-stepped.result c.step-stepped.ensures.told
    (subst (λ (b : Bool). HasTask (task_in m) (λ p. get bytes_eq (c.get_mut.follows.lender left) p) party (if b then Some left else None)) (sym on) put)

pub returns-else-not-goes_on-clause-memory : goal.returns-else-not-goes_on-clause-memory
returns-else-not-goes_on-clause-memory c =
    let on : goes_on c.step-stepped.result ≡ true = search rules in
    had_memory c.step-stepped.result _ on

pub returns-else-not-goes_on-clause-left : goal.returns-else-not-goes_on-clause-left
returns-else-not-goes_on-clause-left c =
    let on : goes_on c.step-stepped.result ≡ true = search rules in
    had_memory c.step-stepped.result _ on
