use Rattle.std.proofs.Common.{◌≡◌, ◌∷◌, List, ap, rules, subst, sym, ◌∙◌}
use Rattle.std.specs.HashMap.{values}
use Rattle.std.specs.List.{AllByRecursion}
use Rattle.board_event_core.specs.EventTable.{EventTable}
use Rattle.script_events.specs.declared.rows.Holding.{Holding}
use Rattle.script_events.specs.Calls.{IsMarkable, marked_gone}
use Rattle.script_events.proofs.Abandonments.{all_values, still_markable}
use Rattle.script_events.proofs.ending.mark_listeners.Goals as goal

pub loop-holding-init : goal.loop-holding-init
loop-holding-init c =
    let all : c.into_iter-holding-iterator.result ≡ values c.args.own.now = search rules in
    record {
      stand = subst (λ (hs : List Holding). AllByRecursion (IsMarkable c.args.events.now) hs) (sym all) (all_values c.args.own.now (IsMarkable c.args.events.now) c.values-holding-items.ensures.unique c.requires);
      rest = ap (λ (hs : List Holding). marked_gone hs c.args.events.now) all;
    }

pub mark-requires : goal.mark-requires
mark-requires c =
    let step : c.loop-holding.holding-iterator ≡ c.in-Some.holding.now ∷ c.next.new.self = search rules in
    (subst (λ (hs : List Holding). AllByRecursion (IsMarkable c.loop-holding.events) hs) step c.loop-holding.invariant.stand).0

pub loop-holding-preserved : goal.loop-holding-preserved
loop-holding-preserved c =
    let left = c.next.new.self in
    let step : c.loop-holding.holding-iterator ≡ c.in-Some.holding.now ∷ left = search rules in
    let stand = subst (λ (hs : List Holding). AllByRecursion (IsMarkable c.loop-holding.events) hs) step c.loop-holding.invariant.stand in
    record {
      stand = subst (λ (t : EventTable). AllByRecursion (IsMarkable t) left) (sym c.mark.ensures) (still_markable c.loop-holding.events c.in-Some.holding.now left stand.1);
      rest = ap (marked_gone left) c.mark.ensures ∙ ap (λ (hs : List Holding). marked_gone hs c.loop-holding.events) (sym step) ∙ c.loop-holding.invariant.rest;
    }

pub returns-clause-marked : goal.returns-clause-marked
returns-clause-marked c = ap (λ (hs : List Holding). marked_gone hs c.loop-holding.events) (sym c.in-None.ensures.steps.0) ∙ c.loop-holding.invariant.rest
