use Rattle.script_event_tables.specs.EventTables.{AreEvents, EventsThatStand, IsPartGone}
use Rattle.script_event_tables.proofs.ListenerLemmas.{IsPlaceOf, up_to}
use Rattle.script_event_tables.proofs.event_table.EventTable.abandon.Given as goal

-- the party's listeners behind the next one are gone, if they were held
abbrev pub invariant-loop-next : goal.invariant-loop-next
invariant-loop-next l = record {
  place : IsPlaceOf l.party l.self.listeners l.next;
  gone : (s : EventsThatStand) → AreEvents l.fn.self s → IsPartGone (up_to l.next) l.party l.self s;
}

abbrev pub decreases-loop-next : goal.decreases-loop-next
decreases-loop-next l = up_to l.next
