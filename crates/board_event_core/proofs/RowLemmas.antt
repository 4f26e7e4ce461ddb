-- What the steps on the rows leave: no name is new.
use Rattle.std.specs.Prelude.{◌≡◌, ℕ, List, Some}
use Rattle.board_names.specs.Table.{at}
use Rattle.board_event_model.specs.declared.kind.EventKind.{EventKind}
use Rattle.board_event_model.specs.declared.kind.EventKind.TheVariants as kind
use Rattle.board_event_core.specs.EventTable.{AreLeft, EventTable, names_of, with_names, without_event}

-- fewer names of one kind
pub left_of_kind : (t : EventTable) (k : EventKind) (names : List (List ℕ × ℕ)) → ((name : List ℕ) (n : ℕ) → at names name ≡ Some n → at (names_of k t) name ≡ Some n) → AreLeft t (with_names k t names)
left_of_kind t kind.Bits names left kind.Bits name n h = left name n h
left_of_kind t kind.Bits names left kind.Queue name n h = h
left_of_kind t kind.Queue names left kind.Bits name n h = h
left_of_kind t kind.Queue names left kind.Queue name n h = left name n h

-- an event more or fewer
pub left_without_event : (t u : EventTable) (n : ℕ) → AreLeft t u → AreLeft t (without_event u n)
left_without_event t u n left kind.Bits name m h = left kind.Bits name m h
left_without_event t u n left kind.Queue name m h = left kind.Queue name m h
