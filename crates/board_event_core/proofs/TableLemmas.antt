-- Tables by name, when a name is taken and freed again.
use Rattle.std.specs.Prelude.{◌≡◌, ℕ, List, [], ◌∷◌, None, refl}
use Rattle.std.proofs.Common.{ap}
use Rattle.std.specs.declared.cmp.Ordering.{Ordering}
use Rattle.std.specs.declared.cmp.Ordering.TheVariants.{Less, Equal, Greater}
use Rattle.std.specs.Ordering.{nat_cmp, match_ordering}
use Rattle.std.specs.Cmp.Lexicographic.{slice_cmp, nat_list_cmp_total}
use Rattle.std.specs.Map.{lookup, remove_entry}
use Rattle.std.specs.BTreeMap.{insert_entry, is_at}
use Rattle.std.proofs.lemmas.Cmp.{tied_itself}
use Rattle.board_names.specs.Table.{at, putting, without}
use Rattle.board_event_model.specs.declared.kind.EventKind.{EventKind}
use Rattle.board_event_model.specs.declared.kind.EventKind.TheVariants as kind
use Rattle.board_event_core.specs.EventTable.{EventTable, names_of, with_names}

-- a new entry that is taken out leaves the others
insert_entry-remove : {K X : Type 0} (cmp : K → K → Ordering) (self : (k : K) → cmp k k ≡ Equal) (es : List (K × X)) (k : K) (x : X) →
    lookup (is_at (cmp k)) es ≡ None → remove_entry (is_at (cmp k)) (insert_entry cmp es k x) ≡ es
insert_entry-remove cmp self [] k x free = rw (self k)
insert_entry-remove cmp self (e ∷ es) k x free =
    elim (cmp k e.0) as (λ o. cmp k e.0 ≡ o →
    remove_entry (is_at (cmp k)) (match_ordering o ((k, x) ∷ e ∷ es) ((e.0, x) ∷ es) (e ∷ insert_entry cmp es k x)) ≡ e ∷ es) [
      | Less ↦ λ h. rw (self k)
      | Equal ↦ λ h. absurd (let f = (rw h at free) in cc)
      | Greater ↦ λ h. rw h (ap (λ l. e ∷ l) (insert_entry-remove cmp self es k x (rw h at free)))
    ] refl

-- a free name that is taken and freed again leaves the names
pub putting-without : {X : Type 0} (names : List (List ℕ × X)) (name : List ℕ) (x : X) → at names name ≡ None → without (putting names name x) name ≡ names
putting-without names name x free = insert_entry-remove (slice_cmp nat_cmp) (tied_itself nat_list_cmp_total) names name x free

-- so it leaves the table
pub name_taken_back : (t : EventTable) (k : EventKind) (name : List ℕ) (n : ℕ) → at (names_of k t) name ≡ None →
    with_names k (with_names k t (putting (names_of k t) name n)) (without (names_of k (with_names k t (putting (names_of k t) name n))) name) ≡ t
name_taken_back t kind.Bits name n free = ap (λ (l : List (List ℕ × ℕ)). record t { bits = l }) (putting-without t.bits name n free)
name_taken_back t kind.Queue name n free = ap (λ (l : List (List ℕ × ℕ)). record t { queues = l }) (putting-without t.queues name n free)

-- the same, step by step
pub name_put_back : (t taken kept left : EventTable) (k : EventKind) (name : List ℕ) (n : ℕ) → at (names_of k t) name ≡ None →
    taken ≡ with_names k t (putting (names_of k t) name n) → kept ≡ taken → left ≡ with_names k kept (without (names_of k kept) name) → left ≡ t
name_put_back t taken kept left k name n free is_taken is_kept is_left = rw is_left (rw is_kept (rw is_taken (name_taken_back t k name n free)))
