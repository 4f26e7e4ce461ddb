-- A domain after a thing went, with its board where it was the last of that.
use Rattle.std.proofs.Common.{◌≡◌, ◌≢◌, ℕ, Bool, true, false, List, Option, Some, None, refl, sym, ap, ◌∙◌, subst, inl, inr, ⊎_elim, ◌⊎◌}
use Rattle.std.specs.Prelude.{◌&&◌, find, slice_get, option_map, is_some, if◌then◌else◌}
use Rattle.std.specs.List.{position_from}
use Rattle.board_layout.specs.declared.type_detail.TypeDetail.{TypeDetail}
use Rattle.board_cell.specs.Passes.{CellSeen}
use Rattle.board_model.specs.declared.tables.Board.{Board}
use Rattle.board_model.specs.declared.tables.Thing.{Thing}
use Rattle.board_model.specs.declared.tables.Kind.{Kind}
use Rattle.board_model.specs.declared.tables.Kind.TheVariants as kind
use Rattle.board_model.specs.declared.tables.ThingKind.{ThingKind}
use Rattle.board_model.specs.declared.tables.ThingKind.TheVariants as thing_kind
use Rattle.board_model.specs.Tables.{board_at, entry_in, holds_at, is_numbered, is_of_board, is_write_handle, kind_of, same_kind, without_first, writes_entry}
use Rattle.board_service.specs.Domain.{after_release, at, but_at, cells_of, held, is_kept, is_thing, place_of_board, stands_as, thing_or_none}
use Rattle.board_service.specs.Facts.{IsDomain, board_number, handle_entry}
use Rattle.board_service.proofs.DrawnLemmas.{find-without, find-without-other, numbered_other}
use Rattle.board_cells.specs.Cells.{PlaceSeen, EndSeen, cell_at, parked_at, with_end, or_else}
use Rattle.board_cells.specs.Cells as places
use Rattle.board_handles.specs.BoardEnds.{Core, cell_in, cell_of, parked, parked_to}
use Rattle.board_handles.specs.Handles.{WriteSeen}
use Rattle.board_handles.specs.LentForms as lent
use Rattle.board_typed.specs.Order.{AreInOrder, FitsEntry, IsInOrder, IsOwn, is_written}
use Rattle.board_typed.proofs.Beside.{any_without, beside_none, beside-without-other, is_beside}
use Rattle.board_typed.proofs.Changed.{apart, by_number, cells_beside, none_order, order_as, order_changed, order_more}
use Rattle.board_typed.proofs.Places.{cell_with, kept_or, parked_with, parked_with_other}

pub and_false : (a : Bool) → (a && false) ≡ false
and_false true = refl
and_false false = refl

module _ (d : Core) (facts : IsDomain d) (thing board : ℕ) where
  abbrev left : Core
  left = after_release d thing board

  -- the board and its cells are as they were
  abbrev pub Stays : ℕ → Type 0
  Stays b = (board_at left.tables b ≡ board_at d.tables b) × (cells_of left b ≡ cells_of d b)

  -- the board isn't there, nor its cells
  abbrev pub Goes : ℕ → Type 0
  Goes b = (board_at left.tables b ≡ None) × (cells_of left b ≡ None)

  abbrev boards_if : Bool → List Board
  boards_if k = if k then d.tables.boards else without_first (is_numbered board) d.tables.boards

  abbrev cells_if : Bool → List (List PlaceSeen)
  cells_if k = if k then d.cells else but_at d.cells (place_of_board d board)

  none_found : (b : ℕ) → board ≡ b → find (is_numbered b) (without_first (is_numbered board) d.tables.boards) ≡ None
  none_found b same = subst (λ n. find (is_numbered n) (without_first (is_numbered board) d.tables.boards) ≡ None) same
      (find-without board_number is_numbered (λ n y. refl) d.tables.last_board board d.tables.boards facts.tables.boards)

  pub each : (b : ℕ) → Stays b ⊎ Goes b
  each b = by (is_kept d thing board) refl
    where
      found_if : (k : Bool) → is_kept d thing board ≡ k → board_at left.tables b ≡ find (is_numbered b) (boards_if k)
      found_if k e = ap (λ j. find (is_numbered b) (boards_if j)) e

      beside_if : (k : Bool) → is_kept d thing board ≡ k → cells_of left b ≡ at (cells_if k) (position_from (is_numbered b) 0 (boards_if k))
      beside_if k e = ap (λ j. at (cells_if j) (position_from (is_numbered b) 0 (boards_if j))) e

      by : (k : Bool) → is_kept d thing board ≡ k → Stays b ⊎ Goes b
      by true e = inl (found_if true e, beside_if true e)
      by false e = by_number (Stays b ⊎ Goes b) board b
          (λ same. inr (
            found_if false e ∙ none_found b same,
            beside_if false e ∙ is_beside (is_numbered b) (boards_if false) (cells_if false) ∙ beside_none (is_numbered b) (boards_if false) (cells_if false) (none_found b same),
          ))
          (λ ne. inl (
            found_if false e ∙ find-without-other board_number is_numbered (λ n y. refl) board b d.tables.boards (λ f. ne (sym f)),
            beside_if false e ∙ is_beside (is_numbered b) (boards_if false) (cells_if false) ∙ beside-without-other (is_numbered board) (is_numbered b) (apart board b ne) d.tables.boards d.cells ∙ sym (cells_beside d b),
          ))

  -- each board that is left is in order where it was, with no fewer write handles
  pub board_left : (b : ℕ) (was written : ℕ → Bool) → AreInOrder (board_at d.tables b) (cells_of d b) was → ((i : ℕ) → written i ≡ false → was i ≡ false) → AreInOrder (board_at left.tables b) (cells_of left b) written
  board_left b was written o less =
      ⊎_elim (λ (s : Stays b). order_as _ (board_at left.tables b) _ (cells_of left b) written s.0 s.1 (order_more _ _ was written o less))
      (λ (g : Goes b). order_as None (board_at left.tables b) None (cells_of left b) written g.0 g.1 (none_order written)) (each b)

  pub written_left : (b i : ℕ) → holds_at (find (is_thing thing) d.tables.things) (is_write_handle b i) ≡ false → is_written left b i ≡ is_written d b i
  written_left b i other = any_without (is_write_handle b i) (is_thing thing) d.tables.things other

  -- what is there of a board's cells was there
  pub cells_left : (b : ℕ) (ps : List PlaceSeen) → cells_of left b ≡ Some ps → cells_of d b ≡ Some ps
  cells_left b ps e = ⊎_elim (λ (s : Stays b). sym s.1 ∙ e) (λ (g : Goes b). (let none : None ≡ Some ps = sym g.1 ∙ e in absurd cc)) (each b)

  -- a board whose cells are there is as it was
  pub board_there : (b : ℕ) (ps : List PlaceSeen) → cells_of left b ≡ Some ps → board_at left.tables b ≡ board_at d.tables b
  board_there b ps e = ⊎_elim (λ (s : Stays b). s.0) (λ (g : Goes b). (let none : None ≡ Some ps = sym g.1 ∙ e in absurd cc)) (each b)

  -- a board whose cells are gone, though it had some
  pub board_gone : (b entry : ℕ) (c : CellSeen) (written : ℕ → Bool) → cell_of d b entry ≡ Some c → cells_of left b ≡ None → AreInOrder (board_at left.tables b) (cells_of left b) written
  board_gone b entry c written its e =
      ⊎_elim (λ (s : Stays b). (let none : None ≡ Some c = sym (ap (λ w. cell_in w entry) (sym s.1 ∙ e)) ∙ its in absurd cc))
      (λ (g : Goes b). order_as None (board_at left.tables b) None (cells_of left b) written g.0 g.1 (none_order written)) (each b)

  -- where what went was no write handle
  pub order_left : IsInOrder d → ((b i : ℕ) → holds_at (find (is_thing thing) d.tables.things) (is_write_handle b i) ≡ false) → IsInOrder left
  order_left o other b = board_left b (is_written d b) (is_written left b) (o b) (λ i h. sym (written_left b i (other b i)) ∙ h)

-- ---- what is no write handle of an entry

no_writing : (i : ℕ) (k : Kind) (as_kind : ThingKind) (more : Bool) → (same_kind (kind_of k) as_kind && more) ≡ true → as_kind ≢ thing_kind.WriteHandle → writes_entry i k ≡ false
no_writing i kind.Factory a more h n = refl
no_writing i (kind.Reader port) a more h n = refl
no_writing i (kind.Writer port) a more h n = refl
no_writing i (kind.ReadHandle entry) a more h n = refl
no_writing i (kind.WriteHandle entry port) thing_kind.Factory more h n = absurd cc
no_writing i (kind.WriteHandle entry port) thing_kind.Reader more h n = absurd cc
no_writing i (kind.WriteHandle entry port) thing_kind.Writer more h n = absurd cc
no_writing i (kind.WriteHandle entry port) thing_kind.ReadHandle more h n = absurd cc
no_writing i (kind.WriteHandle entry port) thing_kind.WriteHandle more h n = absurd (n refl)

not_writing : (b i : ℕ) (o : Option (Thing ℕ ℕ)) (as_kind : ThingKind) (more : Thing ℕ ℕ → Bool) → holds_at o (λ t. same_kind (kind_of t.kind) as_kind && more t) ≡ true → as_kind ≢ thing_kind.WriteHandle → holds_at o (is_write_handle b i) ≡ false
not_writing b i None a more h n = refl
not_writing b i (Some t) a more h n = ap (λ w. is_of_board b t && w) (no_writing i t.kind a (more t) h n) ∙ and_false (is_of_board b t)

other_board : (b i : ℕ) (o : Option (Thing ℕ ℕ)) → (thing_or_none o).board ≢ b → holds_at o (is_write_handle b i) ≡ false
other_board b i None ne = refl
other_board b i (Some t) ne = ap (λ w. w && writes_entry i t.kind) (numbered_other b t.board (λ e. ne (sym e)))

other_entry : (b i entry : ℕ) (o : Option (Thing ℕ ℕ)) → handle_entry (thing_or_none o).kind ≡ Some entry → entry ≢ i → holds_at o (is_write_handle b i) ≡ false
other_entry b i entry None e ne = refl
other_entry b i entry (Some t) e ne = ap (λ w. is_of_board b t && w) (by t.kind e) ∙ and_false (is_of_board b t)
  where
    by : (k : Kind) → handle_entry k ≡ Some entry → writes_entry i k ≡ false
    by kind.Factory f = refl
    by (kind.Reader port) f = refl
    by (kind.Writer port) f = refl
    by (kind.ReadHandle j) f = refl
    by (kind.WriteHandle j port) f = (let same : j ≡ entry = cc in numbered_other i j (λ g. ne (sym same ∙ sym g)))

-- ---- releases

pub gives_up : (d : Core) (keys : TypeDetail) (thing : ℕ) (as_kind : ThingKind) → IsDomain d → IsInOrder d → as_kind ≢ thing_kind.WriteHandle → IsInOrder (lent.given_up d keys thing as_kind)
gives_up d keys thing as_kind facts o n = by (stands_as d keys thing as_kind) refl
  where
    by : (s : Bool) → stands_as d keys thing as_kind ≡ s → IsInOrder (if s then lent.without_thing d thing else d)
    by true e = order_left d facts thing (held d thing).board o (λ b i. not_writing b i (find (is_thing thing) d.tables.things) as_kind _ e n)
    by false e = o

-- a write handle goes, and its end is parked
module _ (d : Core) (facts : IsDomain d) (o : IsInOrder d) (thing entry : ℕ) (e : EndSeen) (of_entry : handle_entry (held d thing).kind ≡ Some entry) (its_cell : cell_of d (held d thing).board entry ≡ Some e.cell) where
  abbrev board : ℕ
  board = (held d thing).board

  abbrev after : Core
  after = after_release d thing board

  others : (b : ℕ) → board ≢ b → AreInOrder (board_at after.tables b) (cells_of after b) (is_written after b)
  others b ne = board_left d facts thing board b (is_written d b) (is_written after b) (o b)
      (λ i h. sym (written_left d facts thing board b i (other_board b i (find (is_thing thing) d.tables.things) ne)) ∙ h)

  some_kept : (p : Option PlaceSeen) → is_some (kept_or e p) ≡ is_some (option_map places.cell_of p)
  some_kept None = refl
  some_kept (Some p) = refl

  or_own : (c : Option CellSeen) (p : Option EndSeen) → IsOwn p c → c ≡ Some e.cell → c ≡ Some (or_else p e).cell
  or_own c None h k = k
  or_own c (Some x) h k = h

  own_kept : (p : Option PlaceSeen) (c : Option CellSeen) → IsOwn (places.parked_in p) c → c ≡ Some e.cell → IsOwn (kept_or e p) c
  own_kept None c h k = tt
  own_kept (Some p) c h k = or_own c p.parked h k

  -- the places of the board, with the end
  parks_here : (w : Option Board) (ps : List PlaceSeen) (was now : ℕ → Bool) → AreInOrder w (Some ps) was → cell_at ps entry ≡ Some e.cell → ((i : ℕ) → entry ≢ i → now i ≡ false → was i ≡ false) → AreInOrder w (Some (with_end ps entry e)) now
  parks_here w ps was now before cell less = record {
    keys = before.keys;
    cells = λ i. subst (λ c. FitsEntry (entry_in w i) c) (sym (cell_with e ps entry i)) (before.cells i);
    own = λ i. subst (IsOwn (parked_at (with_end ps entry e) i)) (sym (cell_with e ps entry i)) (by_number _ entry i
        (λ same. subst (λ n. IsOwn (parked_at (with_end ps entry e) n) (cell_at ps n)) same
        (subst (λ w. IsOwn w (cell_at ps entry)) (sym (parked_with e ps entry)) (own_kept (slice_get ps entry) (cell_at ps entry) (before.own entry) cell)))
        (λ ne. subst (λ w. IsOwn w (cell_at ps i)) (sym (parked_with_other e ps entry i ne)) (before.own i)));
    there = λ i h. by_number _ entry i
        (λ same. subst (λ n. is_some (parked_at (with_end ps entry e) n) ≡ is_some (cell_at (with_end ps entry e) n)) same
        (ap is_some (parked_with e ps entry) ∙ some_kept (slice_get ps entry) ∙ ap is_some (sym (cell_with e ps entry entry))))
        (λ ne. ap is_some (parked_with_other e ps entry i ne) ∙ before.there i (less i ne h) ∙ ap is_some (sym (cell_with e ps entry i)));
  }

  parks_from : (c : Option (List PlaceSeen)) → cells_of after board ≡ c → IsInOrder (parked_to after board c entry e)
  parks_from None none = λ b. by_number _ board b
      (λ same. subst (λ n. AreInOrder (board_at after.tables n) (cells_of after n) (is_written after n)) same
      (board_gone d facts thing board board entry e.cell (is_written after board) its_cell none))
      (λ ne. others b ne)
  parks_from (Some ps) stand =
      let was = cells_left d facts thing board board ps stand in
      let cell : cell_at ps entry ≡ Some e.cell = sym (ap (λ w. cell_in w entry) was) ∙ its_cell in
      order_changed after board ps (with_end ps entry e) stand others
      (parks_here (board_at after.tables board) ps (is_written d board) (is_written after board)
      (order_as (board_at d.tables board) (board_at after.tables board) (cells_of d board) (Some ps) (is_written d board) (board_there d facts thing board board ps stand) (sym was) (o board)) cell
      (λ i ne h. sym (written_left d facts thing board board i (other_entry board i entry (find (is_thing thing) d.tables.things) of_entry ne)) ∙ h))

  pub parks : IsInOrder (parked after board entry e)
  parks = parks_from (cells_of after board) refl

pub gives_up_writing : (d : Core) (keys : TypeDetail) (h : WriteSeen) → IsDomain d → IsInOrder d → handle_entry (held d h.found.thing).kind ≡ Some h.found.entry → cell_of d (held d h.found.thing).board h.found.entry ≡ Some h.held.cell → IsInOrder (lent.write_given_up d keys h)
gives_up_writing d keys h facts o of_entry its_cell = by (stands_as d keys h.found.thing thing_kind.WriteHandle)
  where
    by : (s : Bool) → IsInOrder (if s then lent.without_writing d h.found.thing h.found.entry h.held else d)
    by true = parks d facts o h.found.thing h.found.entry h.held of_entry its_cell
    by false = o
