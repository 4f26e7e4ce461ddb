-- The cells of a board go on to suit it as ends are taken and parked.
use Rattle.std.proofs.Common.{◌≡◌, ℕ, zero, suc, List, [], ◌∷◌, Option, Some, None, refl, sym}
use Rattle.std.specs.Prelude.{slice_get, slice_set}
use Rattle.board_model.specs.declared.tables.Entry.{Entry}
use Rattle.board_cells.specs.Cells.{AreFor, EndSeen, PlaceSeen, emptied, filled, with_end, without_end}

-- a place that has the same cell comes in its stead
put_for : (es : List Entry) (ps : List PlaceSeen) (i : ℕ) (p q : PlaceSeen) → slice_get ps i ≡ Some p → q.cell ≡ p.cell → AreFor es ps → AreFor es (slice_set ps i q)
put_for [] [] i p q e same h = tt
put_for [] (x ∷ ps) i p q e same h = absurd h
put_for (y ∷ es) [] i p q e same h = absurd h
put_for (y ∷ es) (x ∷ ps) zero p q e same h = (let is : x ≡ p = cc in rw (same, sym is) h.0, h.1)
put_for (y ∷ es) (x ∷ ps) (suc i) p q e same h = (h.0, put_for es ps i p q e same h.1)

-- an end was taken
pub without_for : (es : List Entry) (ps : List PlaceSeen) (i : ℕ) → AreFor es ps → AreFor es (without_end ps i)
without_for es ps i h = by (slice_get ps i) refl
  where
    by : (o : Option PlaceSeen) → slice_get ps i ≡ o → AreFor es (emptied ps i o)
    by None e = h
    by (Some p) e = put_for es ps i p _ e refl h

-- an end was parked
pub with_for : (es : List Entry) (ps : List PlaceSeen) (i : ℕ) (end : EndSeen) → AreFor es ps → AreFor es (with_end ps i end)
with_for es ps i end h = by (slice_get ps i) refl
  where
    by : (o : Option PlaceSeen) → slice_get ps i ≡ o → AreFor es (filled ps i o end)
    by None e = h
    by (Some p) e = put_for es ps i p _ e refl h
