use Rattle.std.proofs.Common.{◌≡◌}
use Rattle.std.specs.HashMap.{values}
use Rattle.std.specs.List.{AllByRecursion}
use Rattle.script_events.specs.Calls.{IsMarkable, marked_gone}
use Rattle.script_events.proofs.ending.mark_listeners.Given as goal

-- what is left to mark leads to what was to be marked
abbrev pub invariant-loop-holding : goal.invariant-loop-holding
invariant-loop-holding l = record {
  stand : AllByRecursion (IsMarkable l.events) l.holding-iterator;
  rest : marked_gone l.holding-iterator l.events ≡ marked_gone (values l.own) l.initial.events;
}
