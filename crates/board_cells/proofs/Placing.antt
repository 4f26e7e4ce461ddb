-- A place that is written back, as its board sees it.
use Rattle.std.proofs.Common.{◌≡◌, ℕ, zero, suc, ◌<◌, ◌≤◌, List, [], ◌∷◌, length, get_or, set, map, Option, Some, None, true, false, refl, sym, ap, ◌∙◌, subst, arith}
use Rattle.std.specs.Prelude.{slice_get, option_map}
use Rattle.std.specs.Option.{is_some}
use lib.Seq.{map-set}
use Rattle.board_cells.specs.declared.place.Place.{Place}
use Rattle.board_cells.specs.declared.ends.WriteEnd.{WriteEnd}
use Rattle.board_cells.specs.Cells.{PlaceSeen, EndSeen, cell_at, parked_at, parked_in, without_end, emptied, with_end, filled, or_else, IsFree, IsFreePlace}
use Rattle.board_cells.specs.Places.{place_seen, places_seen}
use Rattle.board_cells.specs.Ends.{end_seen}

pub set_same : {A : Type 0} → (ps : List A) (i : ℕ) (p : A) → slice_get ps i ≡ Some p → set ps i p ≡ ps
set_same [] i p e = refl
set_same (z ∷ zs) zero p e = let same : z ≡ p = cc in λ k. sym same k ∷ zs
set_same (z ∷ zs) (suc i) p e = λ k. z ∷ set_same zs i p e k

-- what is seen at a place
pub seen_at : (places : List Place) (i : ℕ) (x : Place) → i < length places → x ≡ get_or places i x → slice_get (places_seen places) i ≡ Some (place_seen x)
seen_at [] i x h e = absurd (omega arith)
seen_at (z ∷ zs) zero x h e = λ k. Some (place_seen (sym e k))
seen_at (z ∷ zs) (suc i) x h e = seen_at zs i x (omega arith) e

pub none_at : (places : List Place) (i : ℕ) → length places ≤ i → slice_get (places_seen places) i ≡ None
none_at [] i h = refl
none_at (z ∷ zs) zero h = absurd (omega arith)
none_at (z ∷ zs) (suc i) h = none_at zs i (omega arith)

module _ (places : List Place) (v : List PlaceSeen) (is : places_seen places ≡ v) (i : ℕ) where
  at_place : (x : Place) → i < length places → x ≡ get_or places i x → slice_get v i ≡ Some (place_seen x)
  at_place x h e = ap (λ (ps : List PlaceSeen). slice_get ps i) (sym is) ∙ seen_at places i x h e

  at_none : length places ≤ i → slice_get v i ≡ None
  at_none h = ap (λ (ps : List PlaceSeen). slice_get ps i) (sym is) ∙ none_at places i h

  written : (y : Place) → places_seen (set places i y) ≡ set v i (place_seen y)
  written y = map-set place_seen places i y ∙ ap (λ (ps : List PlaceSeen). set ps i (place_seen y)) is

  pub put_back : (x y : Place) → i < length places → x ≡ get_or places i x → place_seen y ≡ place_seen x → places_seen (set places i y) ≡ v
  put_back x y h e f = written y ∙ ap (set v i) f ∙ set_same v i (place_seen x) (at_place x h e)

  pub cell_there : (x : Place) → i < length places → x ≡ get_or places i x → cell_at v i ≡ Some (place_seen x).cell
  cell_there x h e = ap (option_map (λ (p : PlaceSeen). p.cell)) (at_place x h e)

  pub cell_beyond : length places ≤ i → cell_at v i ≡ None
  cell_beyond h = ap (option_map (λ (p : PlaceSeen). p.cell)) (at_none h)

  pub parked_beyond : length places ≤ i → parked_at v i ≡ None
  parked_beyond h = ap parked_in (at_none h)

  pub without_beyond : length places ≤ i → v ≡ without_end v i
  without_beyond h = sym (ap (emptied v i) (at_none h))

  pub with_beyond : (e : EndSeen) → length places ≤ i → v ≡ with_end v i e
  with_beyond e h = sym (ap (λ p. filled v i p e) (at_none h))

  pub not_free_beyond : length places ≤ i → IsFree v i → ⊥
  not_free_beyond h free = subst IsFreePlace (at_none h) free

  pub parked_there : (x : Place) → i < length places → x ≡ get_or places i x → (end : Option WriteEnd) → end ≡ x.parked → option_map end_seen end ≡ parked_at v i
  parked_there x h e end was = ap (option_map end_seen) was ∙ sym (ap parked_in (at_place x h e))

  pub taken : (x y : Place) → i < length places → x ≡ get_or places i x → place_seen y ≡ record { cell = (place_seen x).cell; parked = None } → places_seen (set places i y) ≡ without_end v i
  taken x y h e f = written y ∙ ap (set v i) f ∙ sym (ap (emptied v i) (at_place x h e))

  is_free : (o : Option WriteEnd) → false ≡ is_some o → o ≡ None
  is_free None f = refl
  is_free (Some w) f = absurd (cc)

  pub free_there : (x : Place) → i < length places → x ≡ get_or places i x → false ≡ is_some x.parked → IsFree v i
  free_there x h e free = subst IsFreePlace (sym (at_place x h e)) (ap (option_map end_seen) (is_free x.parked free))

  pub parks : (x y : Place) → i < length places → x ≡ get_or places i x → false ≡ is_some x.parked → (end : WriteEnd) → place_seen y ≡ record { cell = (place_seen x).cell; parked = Some (end_seen end) }
      → places_seen (set places i y) ≡ with_end v i (end_seen end)
  parks x y h e free end f =
      written y
      ∙ ap (set v i) f
      ∙ (λ k. set v i record { cell = (place_seen x).cell; parked = Some (or_else (option_map end_seen (sym (is_free x.parked free) k)) (end_seen end)) })
      ∙ sym (ap (λ p. filled v i p (end_seen end)) (at_place x h e))

  is_full : (o : Option WriteEnd) → true ≡ is_some o → option_map end_seen o ≡ None → ⊥
  is_full None e f = absurd (cc)
  is_full (Some w) e f = cc

  pub not_free_there : (x : Place) → i < length places → x ≡ get_or places i x → true ≡ is_some x.parked → IsFree v i → ⊥
  not_free_there x h e some free = is_full x.parked some (subst IsFreePlace (at_place x h e) free)

  full : (o : Option WriteEnd) → true ≡ is_some o → (end : EndSeen) → Some (or_else (option_map end_seen o) end) ≡ option_map end_seen o
  full None some end = absurd (cc)
  full (Some w) some end = refl

  pub keeps_full : (x y : Place) → i < length places → x ≡ get_or places i x → place_seen y ≡ place_seen x → true ≡ is_some x.parked → (end : EndSeen)
      → places_seen (set places i y) ≡ with_end v i end
  keeps_full x y h e same some end =
      written y ∙ ap (set v i) same
      ∙ (λ k. set v i record { cell = (place_seen x).cell; parked = sym (full x.parked some end) k })
      ∙ sym (ap (λ p. filled v i p end) (at_place x h e))
