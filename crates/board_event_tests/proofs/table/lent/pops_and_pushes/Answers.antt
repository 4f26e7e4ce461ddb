use Rattle.std.proofs.Common.{◌≡◌, ◌≢◌, ◌≤◌, ℕ, true, false, Option, Some, None, length, refl, arith, sym, ◌∙◌, length-drop}
use Rattle.std.specs.Prelude.{IsSomeAnd, if◌then◌else◌, nat_lt, not, ◌||◌}
use Rattle.board_event_model.specs.declared.access.EventAnswer.TheVariants as answer
use Rattle.board_event_model.specs.declared.access.EventAccess.TheVariants as access
use Rattle.board_event_model.specs.declared.kind.EventKind.TheVariants as kind
use Rattle.board_event_model.specs.EventMemory.{CanPerform, Event, after, push_answer}
use Rattle.board_event_core.specs.EventTable.{CanPerformAt, EventTable, IsEventTable, changed, event_at, with_event}
use Rattle.board_event_tests.proofs.LentTables.{here-with_event, sound_at}
use Rattle.board_event_tests.proofs.table.lent.pops_and_pushes.Goals as goal

-- a queue with room for one id
record HasRoom (t : EventTable) (n : ℕ) : Type 0 where
  event : Event
  stands : event_at t n ≡ Some event
  kind : event.kind ≡ kind.Queue
  room : length event.queue ≤ 511

-- so it is after a pop
popped : (t u : EventTable) (n : ℕ) → IsEventTable t → CanPerformAt t n access.Pop → u ≡ changed t n (λ e. after e access.Pop) → HasRoom u n
popped t u n table can is = by (event_at t n) refl can
  where
    by : (o : Option Event) → event_at t n ≡ o → IsSomeAnd o (λ e. CanPerform e access.Pop) → HasRoom u n
    by None h c = absurd c
    by (Some e) h c =
        let with_it : u ≡ with_event t n (after e access.Pop) = (rw (h, changed) at is) in
        let few : length e.queue ≤ 512 = (sound_at t n e h table.kept).few in
        record { event = after e access.Pop; stands = rw with_it (here-with_event t n e (after e access.Pop) h); kind = c.kind; room = omega (arith, length-drop 1 e.queue, few) }

-- so a push finds room
not_full : (e : Event) → length e.queue ≤ 511 → push_answer e ≢ answer.Full
not_full e room = elim (not e.held || e.gone) as (λ b. (if b then answer.Gone else if nat_lt (length e.queue) 512 then answer.Done else answer.Full) ≢ answer.Full) [
  | true ↦ λ full. absurd cc
  | false ↦ let few : nat_lt (length e.queue) 512 ≡ true = grind (arith, room) in rw few (λ full. absurd cc)
]

-- src/table/lent.rt:37:5
pub perform-requires-2 : goal.perform-requires-2
perform-requires-2 c = rw there.stands (record { kind = there.kind; inside = tt })
  where
    there : HasRoom c.perform.new.self c.args.event
    there = popped c.args.events.now c.perform.new.self c.args.event c.table_stands.ensures c.requires c.perform.ensures.after

-- src/table/lent.rt:31:1
pub returns : goal.returns
returns c = λ full. not_full there.event there.room (sym told ∙ full)
  where
    there : HasRoom c.perform.new.self c.args.event
    there = popped c.args.events.now c.perform.new.self c.args.event c.table_stands.ensures c.requires c.perform.ensures.after

    told : c.perform-2.result ≡ push_answer there.event
    told = rw there.stands at c.perform-2.ensures.right
