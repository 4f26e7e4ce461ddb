use Rattle.std.proofs.Common.{ℕ, List, sym, ap}
use Rattle.board_event_model.specs.declared.kind.EventKind.TheVariants as kind
use Rattle.script_model.specs.ScriptEvents as events
use Rattle.script_judge.proofs.EventSteps.{of_request}
use Rattle.script_judge.proofs.judge.Judge.found_on_events.Goals as goal

pub found_notify-requires : goal.found_notify-requires
found_notify-requires c = c.requires

pub found_wait-requires : goal.found_wait-requires
found_wait-requires c = c.requires

pub returns-in-ListenBits : goal.returns-in-ListenBits
returns-in-ListenBits c = λ s count rep reached. of_request s.events c.args.party.now c.args.request.now _ _ c.in-ListenBits.is (ap (λ (n : List ℕ). events.to_listen c.in-ListenBits.listener kind.Bits n c.in-ListenBits.max) (sym c.as_text.ensures))

pub returns-in-ListenQueue : goal.returns-in-ListenQueue
returns-in-ListenQueue c = λ s count rep reached. of_request s.events c.args.party.now c.args.request.now _ _ c.in-ListenQueue.is (ap (λ (n : List ℕ). events.to_listen c.in-ListenQueue.listener kind.Queue n 0) (sym c.as_text-in-ListenQueue.ensures))

pub returns-in-Notifier : goal.returns-in-Notifier
returns-in-Notifier c = λ s count rep reached. of_request s.events c.args.party.now c.args.request.now _ _ c.in-Notifier.is (ap (λ (n : List ℕ). events.to_notify c.in-Notifier.notifier c.in-Notifier.kind n) (sym c.as_text-in-Notifier.ensures))

pub returns-in-Notify : goal.returns-in-Notify
returns-in-Notify c = λ s count rep reached. of_request s.events c.args.party.now c.args.request.now _ _ c.in-Notify.is (c.found_notify.ensures s count rep reached)

pub returns-in-Wait : goal.returns-in-Wait
returns-in-Wait c = λ s count rep reached. of_request s.events c.args.party.now c.args.request.now _ _ c.in-Wait.is (c.found_wait.ensures s count rep reached)
