-- What callers of the lent forms can conclude: a new event has no ids, so the first wait on it gives none.
use Rattle.std.specs.Prelude.{◌≡◌, ℕ, false, List, Option, Result, Ok, Err, None, refl}
use Rattle.std.proofs.Common.{ap, sym, inl, inr}
use Rattle.std.specs.FinSet as set
use Rattle.board_layout.specs.Answer.{with_value}
use Rattle.board_names.specs.Concept.{path_of}
use Rattle.board_names.specs.declared.errors.event.ListenerWaitError.{ListenerWaitError}
use Rattle.board_event_model.specs.declared.kind.EventKind.{EventKind}
use Rattle.board_event_model.specs.Ids.{has}
use Rattle.board_event_model.specs.EventMemory.{new_event}
use Rattle.board_event_model.proofs.SetLemmas.{has_empty, is_false, or_split}
use Rattle.board_event_core.specs.EventTable.{EventTable}
use Rattle.board_event.specs.Ends.{End, IsMade, ListenerAsked, end_of}
use Rattle.board_event.specs.LentForms.{GivesNone, NoneWaits, OnEvent}

-- no id waits at a new event
new_waits_none : (k : EventKind) (name : List ℕ) (max : ℕ) → NoneWaits (new_event k name max)
new_waits_none k name max id = is_false _ (λ h. elim (or_split (has set.empty id) false h) [ inl in_set ↦ has_empty id in_set | inr f ↦ absurd (cc f) ])

-- the greatest id of an end that was made is the one that was asked for
pub max_of : {E : Type 0} (asked : ListenerAsked) (end : End) (answer : Result ℕ E) → Ok end ≡ with_value (end_of asked.named asked.max) answer → end.max ≡ asked.max
max_of asked end (Ok n) is = let same : end ≡ end_of asked.named asked.max n = cc is in ap (λ (e : End). e.max) same
max_of asked end (Err e) is = absurd (cc is)

-- so a wait gives none there
pub first_gives_none : (k : EventKind) (asked : ListenerAsked) (t : EventTable) (end : End) (result : Result (Option ℕ) ListenerWaitError) →
    IsMade k asked t end → end.max ≡ asked.max → OnEvent k end t (GivesNone result) → result ≡ Ok None
first_gives_none k asked t end result made max none =
    (none (new_event k (path_of asked.named) asked.max) record { stands = made; of_kind = refl; greatest = λ bits. sym max }).1 (new_waits_none k (path_of asked.named) asked.max)
