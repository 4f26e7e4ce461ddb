-- The ids of a set that a wait reaches, which are those of its first words.
use Rattle.std.specs.Prelude.{◌≡◌, ◌<◌, ℕ, ◌+◌, ◌*◌, ◌/◌, Bool, true, false, not, nat_lt, List, [], Option, Some, None, IfSome, refl}
use Rattle.std.proofs.Common.{ap, sym, ◌∙◌, subst, arith, inl, inr, eqb}
use Rattle.std.proofs.lemmas.Bool.{false≢true}
use Rattle.std.specs.FinSet as set
use Rattle.std.specs.List.{list_any}
use Rattle.std.specs.Ordering.{nat_cmp}
use Rattle.std.specs.BTreeMap.{is_at}
use Rattle.std.proofs.lemmas.Map.Views.{IfSome-lookup_from_All}
use Rattle.board_event_model.specs.declared.kind.EventKind.{EventKind}
use Rattle.board_event_model.specs.declared.kind.EventKind.TheVariants as kind
use Rattle.board_event_model.specs.Ids.{Ids, has, ids_where}
use Rattle.board_event_model.specs.EventMemory.{Event, is_pending}
use Rattle.board_event_model.proofs.SetLemmas.{has_empty, has_retain, has_retained, is_false, not_true, or_split}
use Rattle.board_event_model.proofs.QuietLemmas.{ltb_false, ltb_true}
use Rattle.board_event_model.proofs.TrackLemmas.{ids_same}
use Rattle.board_event_core.specs.EventTable.{EventTable, IsEvent, IsEventTable, event_at}
use Rattle.board_event_core.specs.IdSets.{IsListOf}
use Rattle.board_event_core.proofs.BitLemmas.{empty_is, same_ids}
use Rattle.board_event.specs.LentForms.{IsEventAt, IsNext, NoneWaits, StandsAs, all_taken, first_words, reached_taken, within}
use Rattle.board_event.specs.Taking.{IsOfFirst, NoneBelow, NoneLeft}
use Rattle.board_event.proofs.NotifyLemmas.{is_lt}
use Rattle.board_event.proofs.WordLemmas.{IsListOf-below}

-- an event of a kind, in a table
pub record IsOfKind (k : EventKind) (e : Event) : Type 0 where
  pub of_kind : e.kind ≡ k
  pub ids : IsEvent e

pub is_of_kind : (k : EventKind) (n : ℕ) (t : EventTable) (e : Event) → IsEventTable t → StandsAs k n t e → IsOfKind k e
is_of_kind k n t e table here = record {
  of_kind = here.of_kind;
  ids = (
      let sound : IfSome (event_at t n) IsEvent = IfSome-lookup_from_All IsEvent (is_at (nat_cmp n)) t.events table.kept.sound in
      (rw here.stands at sound));
}

-- an event of a greatest id is one of its kind
pub stands_as : (k : EventKind) (max n : ℕ) (t : EventTable) (e : Event) → IsEventAt k max n t e → StandsAs k n t e
stands_as k max n t e here = record { stands = here.stands; of_kind = here.of_kind }

-- ---- what is reached

-- an id of an event is within the words of its greatest
pub in_reach : (k : EventKind) (max : ℕ) (e : Event) (i : ℕ) → IsOfKind k e → (k ≡ kind.Bits → e.max ≡ max) → has e.pending i ≡ true → i < 64 * (max / 64 + 1)
in_reach kind.Bits max e i is greatest h = let low = is.ids.low i h in let same = greatest refl in omega arith
in_reach kind.Queue max e i is greatest h = absurd (has_empty i (ap (λ (s : Ids). has s i) (sym (is.ids.queue_alone is.of_kind)) ∙ h))

-- so that is all of it, where the greatest id is the set's
pub within_all : (k : EventKind) (max : ℕ) (e : Event) → IsOfKind k e → (k ≡ kind.Bits → e.max ≡ max) → within max e ≡ e
within_all k max e is greatest =
    ap (λ (ids : Ids). record e { pending = ids }) (same_ids (within max e).pending e.pending
    (λ i h. (has_retained e.pending (λ j. nat_lt j (64 * (max / 64 + 1))) i h).0)
    (λ i h. has_retain e.pending (λ j. nat_lt j (64 * (max / 64 + 1))) i h (is_lt i (64 * (max / 64 + 1)) (in_reach k max e i is greatest h))))

-- and all is taken
pub taken_all : (k : EventKind) (max : ℕ) (e : Event) → IsOfKind k e → (k ≡ kind.Bits → e.max ≡ max) → reached_taken k max e ≡ all_taken k e
taken_all kind.Bits max e is greatest = ap (λ (ids : Ids). record e { pending = ids; signals = 0 }) (empty_is (reached_taken kind.Bits max e).pending (λ i. is_false _ (none i)))
  where
    none : (i : ℕ) → has (reached_taken kind.Bits max e).pending i ≡ true → ⊥
    none i h =
        let kept = has_retained e.pending (λ j. not (nat_lt j (64 * (max / 64 + 1)))) i h in
        let high = ltb_false i (64 * (max / 64 + 1)) (not_true _ kept.1) in
        let low = in_reach kind.Bits max e i is greatest kept.0 in
        omega arith
taken_all kind.Queue max e is greatest = refl

-- ---- no id waits

-- where no word of a set has one
set_waits_none : (e : Event) (words : ℕ) → IsOfKind kind.Bits e → NoneBelow e.pending words → NoneWaits (first_words words e)
set_waits_none e words is none id = is_false _ found
  where
    in_set : has (first_words words e).pending id ≡ true → ⊥
    in_set h =
        let kept = has_retained e.pending (λ j. nat_lt j (64 * words)) id h in
        false≢true (sym (none id (ltb_true id (64 * words) kept.1)) ∙ kept.0)

    in_queue : list_any (λ x. eqb x id) e.queue ≡ true → ⊥
    in_queue h = let empty = is.ids.set_alone is.of_kind in false≢true (let g = (rw empty at h) in g)

    found : is_pending (first_words words e) id ≡ true → ⊥
    found h = elim (or_split (has (first_words words e).pending id) (list_any (λ x. eqb x id) e.queue) h) [ inl s ↦ in_set s | inr q ↦ in_queue q ]

-- where a queue has none
queue_waits_none : (e : Event) (words : ℕ) → IsOfKind kind.Queue e → e.queue ≡ [] → NoneWaits (first_words words e)
queue_waits_none e words is none id = is_false _ found
  where
    in_set : has (first_words words e).pending id ≡ true → ⊥
    in_set h =
        let kept = (has_retained e.pending (λ j. nat_lt j (64 * words)) id h).0 in
        has_empty id (ap (λ (s : Ids). has s id) (sym (is.ids.queue_alone is.of_kind)) ∙ kept)

    in_queue : list_any (λ x. eqb x id) e.queue ≡ true → ⊥
    in_queue h = false≢true (let g = (rw none at h) in g)

    found : is_pending (first_words words e) id ≡ true → ⊥
    found h = elim (or_split (has (first_words words e).pending id) (list_any (λ x. eqb x id) e.queue) h) [ inl s ↦ in_set s | inr q ↦ in_queue q ]

-- where none is left of the words that an end reaches
pub left_none : (k : EventKind) (e : Event) (words max : ℕ) → IsOfKind k e → (k ≡ kind.Bits → words ≡ max / 64 + 1) → NoneLeft k e words → NoneWaits (within max e)
left_none kind.Bits e words max is size none = set_waits_none e (max / 64 + 1) is (subst (λ (m : ℕ). NoneBelow e.pending m) (size refl) none)
left_none kind.Queue e words max is size none = queue_waits_none e (max / 64 + 1) is none

-- the next id is the next of what an end reaches, where it is reached
pub next_within : (k : EventKind) (max : ℕ) (e : Event) (one : Option ℕ) → IfSome one (IsNext k e) → IfSome one (IsOfFirst k (max / 64 + 1)) → IfSome one (IsNext k (within max e))
next_within k max e None next low = tt
next_within kind.Bits max e (Some id) next low = record {
  member = has_retain e.pending (λ j. nat_lt j (64 * (max / 64 + 1))) id next.member (is_lt id (64 * (max / 64 + 1)) (low refl));
  least = λ i h. next.least i (has_retained e.pending (λ j. nat_lt j (64 * (max / 64 + 1))) i h).0;
}
next_within kind.Queue max e (Some id) next low = next

-- ---- the ids of the first words

-- those of a set, ascending
pub IsListOf-first : (ids : Ids) (n : ℕ) → IsListOf (ids_where (has ids) 0 n) (set.retain ids (λ i. nat_lt i n))
IsListOf-first ids n =
    subst (λ (l : List ℕ). IsListOf l (set.retain ids (λ i. nat_lt i n)))
    (ids_same (has (set.retain ids (λ i. nat_lt i n))) (has ids) 0 n (λ i from to. same i to))
    (IsListOf-below (set.retain ids (λ i. nat_lt i n)) n (λ i h. ltb_true i n (has_retained ids (λ j. nat_lt j n) i h).1))
  where
    same_bool : (a b : Bool) → (a ≡ true → b ≡ true) → (b ≡ true → a ≡ true) → a ≡ b
    same_bool true b f g = sym (f refl)
    same_bool false true f g = g refl
    same_bool false false f g = refl

    same : (i : ℕ) → i < 0 + n → has (set.retain ids (λ j. nat_lt j n)) i ≡ has ids i
    same i to = same_bool _ _
        (λ h. (has_retained ids (λ j. nat_lt j n) i h).0)
        (λ h. has_retain ids (λ j. nat_lt j n) i h (is_lt i n (omega arith)))
