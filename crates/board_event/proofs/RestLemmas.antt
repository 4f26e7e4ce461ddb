-- What a wait leaves as it was.
use Rattle.std.specs.Prelude.{◌≡◌, ℕ, [], Option, Some, None, refl}
use Rattle.std.specs.FinSet as set
use Rattle.std.proofs.Common.{ap, subst, ◌∙◌}
use Rattle.board_event_model.specs.declared.call.WaitStage.{WaitStage}
use Rattle.board_event_model.specs.declared.call.WaitStage.TheVariants as wait
use Rattle.board_event_model.specs.EventMemory.{Event, after}
use Rattle.board_event_model.specs.WaitCalls.{wait_owed}
use Rattle.board_event_core.specs.EventTable.{EventTable, changed, event_at, with_event}
use Rattle.board_event.specs.LentForms.{KeepsRestAt, with_ids}
use Rattle.board_event.proofs.TableLemmas.{Became, Became-first, Became-next, with_event-same}

-- an access of a wait changes the ids and the signals alone
ids_alone : (e : Event) (stage : WaitStage) → after e (wait_owed stage) ≡ with_ids (after e (wait_owed stage)).pending (after e (wait_owed stage)).queue (after e (wait_owed stage)).signals e
ids_alone e wait.Drain = refl
ids_alone e (wait.Scan k) = refl
ids_alone e (wait.Clear id) = refl
ids_alone e (wait.Swap k some) = refl
ids_alone e wait.Look = refl
ids_alone e (wait.Pop n) = refl
ids_alone e wait.Finished = refl

-- at first all is as it was
pub rest_first : (n : ℕ) (t : EventTable) → KeepsRestAt n t t
rest_first n t = by (event_at t n) refl
  where
    by : (o : Option Event) → event_at t n ≡ o → KeepsRestAt n t t
    by None h = (set.empty, [], 0, (rw (h, changed) refl))
    by (Some e) h = (e.pending, e.queue, e.signals, (rw (h, changed) (with_event-same t n e h)))

-- and it stays so with each access
pub rest_next : (n : ℕ) (t u v : EventTable) (stage : WaitStage) → KeepsRestAt n t u → v ≡ changed u n (λ e. after e (wait_owed stage)) → KeepsRestAt n t v
rest_next n t u v stage kept is = by (event_at t n) refl
  where
    by : (o : Option Event) → event_at t n ≡ o → KeepsRestAt n t v
    by None h =
        let before : u ≡ t = (rw (h, changed) at kept.3) in
        let same : v ≡ changed t n (λ e. after e (wait_owed stage)) = subst (λ (x : EventTable). v ≡ changed x n (λ e. after e (wait_owed stage))) before is in
        let next : v ≡ t = (rw (h, changed) at same) in
        (set.empty, [], 0, (rw (h, changed) next))
    by (Some e) h =
        let before : Became t u n (with_ids kept.0 kept.1 kept.2 e) = Became-next t t u n e (with_ids kept.0 kept.1 kept.2) (Became-first t n e h) kept.3 in
        let next : Became t v n (after (with_ids kept.0 kept.1 kept.2 e) (wait_owed stage)) = Became-next t u v n (with_ids kept.0 kept.1 kept.2 e) (λ x. after x (wait_owed stage)) before is in
        let left : Event = after (with_ids kept.0 kept.1 kept.2 e) (wait_owed stage) in
        (left.pending, left.queue, left.signals, (rw (h, changed) (next.table ∙ ap (with_event t n) (ids_alone (with_ids kept.0 kept.1 kept.2 e) stage))))
