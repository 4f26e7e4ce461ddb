use Rattle.std.specs.Prelude.{◌≡◌, ℕ, Option, Some, None, IsSome, refl}
use Rattle.board_event_core.specs.EventTable.{EventTable, IsKept}
use Rattle.board_event_core.proofs.StandingLemmas.{kept_listened, listened_stands}
use Rattle.board_event_core.proofs.events.Events.listen.Goals as goal
use Rattle.board_event_core.proofs.events.Events.listen.Goals.{in-Some, in-None}

-- an event more, or the table as it was
added_or_not : (t u v : EventTable) (made : Option ℕ) → IsKept t → IsKept v → (IsSome made → u ≡ v) → (made ≡ None → u ≡ t) → IsKept u
added_or_not t u v (Some n) before after added none = rw (added refl) after
added_or_not t u v None before after added none = rw (none refl) before

pub invariant_of-self : goal.invariant_of-self
invariant_of-self c = added_or_not _ _ _ c.add.result c.self.invariant (kept_listened _ c.args.kind c.args.name.now c.args.max c.ranges.max.fits c.self.invariant) c.add.ensures.added c.add.ensures.none

pub returns-clause-stands : goal.returns-clause-stands
returns-clause-stands c = elim c.match-add.branch [
  | in-Some w ↦ rw w.result-is (listened_stands c.self.inside.rows c.add.new.self c.args.kind c.args.name.now c.args.max w.in-Some.number (rw w.in-Some.is at c.add.ensures.number) (c.add.ensures.added (rw w.in-Some.is refl)))
  | in-None w ↦ rw w.result-is tt
]
