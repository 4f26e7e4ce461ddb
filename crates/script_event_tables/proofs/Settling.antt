-- Events that stand, and the numbers that they have.
use Rattle.std.proofs.Common.{◌≡◌, ℕ, zero, suc, Option, Some, None, refl, arith}
use Rattle.std.specs.Prelude.{IsSome, IsSomeAnd}
use Rattle.board_event_model.specs.EventMemory.{Event}
use Rattle.board_event_model.specs.EventSessions.{event_of}
use Rattle.script_event_tables.specs.declared.event_table.EventTable.{EventTable}
use Rattle.script_event_tables.specs.EventTables.{AreEvents, EventsThatStand, FitTogether, IsMade}

-- what is there, with what holds of it
pub there : (o : Option Event) (P : Event → Type 0) → IsSomeAnd o P → (e : Event) × (o ≡ Some e) × P e
there None P h = absurd h
there (Some e) P h = (e, refl, h)

pub some_is : (o : Option Event) → IsSome o → (e : Event) × (o ≡ Some e)
some_is None h = absurd cc
some_is (Some e) h = (e, refl)

pub holds_of : (o : Option Event) (P : Event → Type 0) (e : Event) → o ≡ Some e → P e → IsSomeAnd o P
holds_of o P e is h = rw is h

-- an event that stands was made
pub was_made : (t : EventTable) (s : EventsThatStand) (n : ℕ) (e : Event) → AreEvents t s → FitTogether s → event_of s.stands n ≡ Some e → IsMade t n
was_made t s zero e are fit is = absurd (let h : event_of s.stands 0 ≡ None = rw (fit.first, event_of) refl in cc)
was_made t s (suc k) e are fit is = record { first = omega arith; last = (let h = fit.numbered (suc k) e is in omega (arith, h, are.count)) }
