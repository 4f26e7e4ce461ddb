use Rattle.std.proofs.Common.{◌≡◌, rules, subst}
use Rattle.board_event_core.specs.EventTable.{EventTable, IsEventTable, event_at}
use Rattle.board_event_core.specs.Passing.{PassesOver, ids_at}
use Rattle.board_event.specs.Accesses.{WaitMade}
use Rattle.board_event.specs.Ends.{End}
use Rattle.board_event.proofs.listener.EventListener.access.Goals as goal

pub returns : goal.returns
returns g c =
    let held = c.behind-state-3.inside.events in
    let first : c.behind-state.inside.events ≡ held = search rules in
    let second : c.behind-state-2.inside.events ≡ held = search rules in
    let mid = c.pass_empty_words.new.call in (
      mid,
      held,
      c.wait_access.new.events,
      c.in_ok-progress.ensures.0,
      subst (λ (t : EventTable). PassesOver (ids_at (event_at t c.args.self.now.event)) c.args.call.now mid) second
          (subst (λ (end : End). PassesOver (ids_at (event_at c.behind-state-2.inside.events end.event)) c.args.call.now mid) c.self.view_is c.pass_empty_words.ensures.passes),
      record {
        table = subst IsEventTable first c.table_stands.ensures;
        made = subst (λ (end : End). WaitMade held c.wait_access.new.events end.event mid c.wait_access.new.call c.in_ok-progress.progress c.in_ok-progress.ensures.0) c.self.view_is c.in_ok-progress.ensures.1;
      },
    )
