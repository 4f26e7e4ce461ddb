-- New cells, one more at the end.
use Rattle.std.proofs.Common.{◌≡◌, ℕ, zero, suc, ◌+◌, ◌<◌, List, [], ◌∷◌, ◌++◌, length, take, map, get_or, Some, subst, refl, sym, arith}
use Rattle.std.specs.Prelude.{slice_get}
use Rattle.board_model.specs.Tables.{Added}
use Rattle.board_service.specs.Entries.{as_added}
use Rattle.board_service.specs.declared.new_entry.NewEntry.{NewEntry}
use Rattle.board_cells.specs.declared.place.Place.{Place}
use Rattle.board_cells.specs.Cells.{PlaceSeen, IsNew, AreNew}
use Rattle.board_cells.specs.Places.{place_seen, places_seen}

one_more_from : (entries : List NewEntry) (places : List Place) (i : ℕ) (e : NewEntry) (p : Place) → i < length entries → e ≡ get_or entries i e
    → AreNew (map as_added (take i entries)) (places_seen places) → IsNew (as_added e) (place_seen p)
    → AreNew (map as_added (take (suc i) entries)) (places_seen (places ++ p ∷ []))
one_more_from [] places i e p h is all new = absurd (omega arith)
one_more_from (x ∷ xs) [] zero e p h is all new = (subst (λ (y : NewEntry). IsNew (as_added y) (place_seen p)) is new, tt)
one_more_from (x ∷ xs) (q ∷ qs) zero e p h is all new = absurd all
one_more_from (x ∷ xs) [] (suc i) e p h is all new = absurd all
one_more_from (x ∷ xs) (q ∷ qs) (suc i) e p h is all new = (all.0, one_more_from xs qs i e p (omega arith) is all.1 new)

pub one_more : (entries : List NewEntry) (places : List Place) (i : ℕ) (e : NewEntry) (p : Place) → i < length entries → e ≡ get_or entries i e
    → AreNew (map as_added (take i entries)) (places_seen places) → IsNew (as_added e) (place_seen p)
    → AreNew (map as_added (take (i + 1) entries)) (places_seen (places ++ p ∷ []))
one_more entries places i e p h is all new =
    let next : suc i ≡ i + 1 = omega arith in
    subst (λ n. AreNew (map as_added (take n entries)) (places_seen (places ++ p ∷ []))) next (one_more_from entries places i e p h is all new)
