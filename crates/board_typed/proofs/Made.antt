-- A board that is made has its cells in order.
use Rattle.std.proofs.Common.{◌≡◌, ℕ, zero, suc, Bool, true, false, cond, ◌+◌, List, [], ◌∷◌, ◌++◌, Option, Some, None, refl, sym, ap, ◌∙◌, subst}
use Rattle.std.specs.Prelude.{◌≤◌, find, slice_get, is_some, IfSome}
use Rattle.std.specs.List.{AllByRecursion}
use Rattle.board_layout.specs.declared.shape.CellPlace.{CellPlace}
use Rattle.board_layout.specs.Layout.{places_from}
use Rattle.board_layout.specs.Words.{IsWordCount}
use Rattle.board_model.specs.declared.tables.Board.{Board}
use Rattle.board_model.specs.Tables.{Added, board_at, entries_of, is_numbered, is_write_handle, new_board, shapes_of}
use Rattle.board_service.specs.Domain.{after_create, cells_of}
use Rattle.board_service.specs.Entries.{TakesItsWords}
use Rattle.board_service.specs.Facts.{IsDomain}
use Rattle.board_service.proofs.DrawnLemmas.{there}
use Rattle.board_cells.specs.Cells.{PlaceSeen, AreNew, cell_at, parked_at}
use Rattle.board_handles.specs.BoardEnds.{Core}
use Rattle.board_domain.specs.LentForms as lent
use Rattle.board_domain.proofs.AskedLemmas.{board_found}
use Rattle.board_typed.specs.Order.{AreInOrder, FitsEntry, IsInOrder, IsOwn, is_written}
use Rattle.board_typed.proofs.Beside.{beside-push, is_beside, none_before}
use Rattle.board_typed.proofs.Changed.{cells_beside, none_order, order_as, order_more}

pub found-push : {A : Type 0} (p : A → Bool) (xs : List A) (x : A) → find p (xs ++ x ∷ []) ≡ cond (is_some (find p xs)) (find p xs) (cond (p x) (there x) None)
found-push p [] x = refl
found-push p (y ∷ ys) x = elim (p y) as (λ b. cond b (there y) (find p (ys ++ x ∷ [])) ≡ cond (is_some (cond b (there y) (find p ys))) (cond b (there y) (find p ys)) (cond (p x) (there x) None)) [
  | true ↦ refl
  | false ↦ found-push p ys x
]

fits_new : (places : List CellPlace) (entries : List Added) (cells : List PlaceSeen) → AreNew entries cells → AllByRecursion TakesItsWords entries → (i : ℕ) → FitsEntry (slice_get (entries_of places entries) i) (cell_at cells i)
fits_new [] entries cells new typed i = tt
fits_new (c ∷ cs) [] cells new typed i = tt
fits_new (c ∷ cs) (a ∷ more) [] new typed i = absurd new
fits_new (c ∷ cs) (a ∷ more) (p ∷ ps) new typed zero = subst (IsWordCount a.value.size) (sym new.0.width) typed.0
fits_new (c ∷ cs) (a ∷ more) (p ∷ ps) new typed (suc i) = fits_new cs more ps new.1 typed.1 i

own_new : (entries : List Added) (cells : List PlaceSeen) → AreNew entries cells → (i : ℕ) → IsOwn (parked_at cells i) (cell_at cells i)
own_new [] [] new i = tt
own_new [] (p ∷ ps) new i = absurd new
own_new (a ∷ more) [] new i = absurd new
own_new (a ∷ more) (p ∷ ps) new zero = subst (λ e. IsOwn e (Some p.cell)) (sym new.0.parked) refl
own_new (a ∷ more) (p ∷ ps) new (suc i) = own_new more ps new.1 i

there_new : (entries : List Added) (cells : List PlaceSeen) → AreNew entries cells → (i : ℕ) → is_some (parked_at cells i) ≡ is_some (cell_at cells i)
there_new [] [] new i = refl
there_new [] (p ∷ ps) new i = absurd new
there_new (a ∷ more) [] new i = absurd new
there_new (a ∷ more) (p ∷ ps) new zero = ap is_some new.0.parked
there_new (a ∷ more) (p ∷ ps) new (suc i) = there_new more ps new.1 i

module _ (b : lent.NewBoard) (d : Core) (cells : List PlaceSeen) where
  abbrev the_board : Board
  the_board = new_board (d.tables.last_board + 1) b.name b.keys b.limits b.attributes b.entries

  abbrev made : Core
  made = after_create d b.node b.name b.keys b.limits b.attributes b.entries cells

  -- what stands under a number after the board was made
  pub board_as : (n : ℕ) → board_at made.tables n ≡ cond (is_some (find (is_numbered n) d.tables.boards)) (board_at d.tables n) (cond (is_numbered n the_board) (Some the_board) None)
  board_as n = found-push (is_numbered n) d.tables.boards the_board

  -- and its cells
  pub cells_as : IsDomain d → (n : ℕ) → cells_of made n ≡ cond (is_some (find (is_numbered n) d.tables.boards)) (cells_of d n) (cond (is_numbered n the_board) (Some cells) None)
  cells_as facts n =
      is_beside (is_numbered n) (d.tables.boards ++ the_board ∷ []) (d.cells ++ cells ∷ [])
      ∙ beside-push (is_numbered n) d.tables.boards d.cells the_board cells facts.cells
      ∙ ap (λ c. cond (is_some (find (is_numbered n) d.tables.boards)) c (cond (is_numbered n the_board) (Some cells) None)) (sym (cells_beside d n))

  -- a board that stood is as it was
  pub board_was : (n : ℕ) → is_some (board_at d.tables n) ≡ true → board_at made.tables n ≡ board_at d.tables n
  board_was n e = board_as n ∙ ap (λ k. cond k (board_at d.tables n) (cond (is_numbered n the_board) (Some the_board) None)) e

  -- so are its cells
  pub cells_were : IsDomain d → (n : ℕ) → is_some (board_at d.tables n) ≡ true → cells_of made n ≡ cells_of d n
  cells_were facts n e = cells_as facts n ∙ ap (λ k. cond k (cells_of d n) (cond (is_numbered n the_board) (Some cells) None)) e

module _ (b : lent.NewBoard) (d : Core) (facts : IsDomain d) (o : IsInOrder d) (short : b.keys.size ≤ 64) (typed : AllByRecursion TakesItsWords b.entries) (cells : List PlaceSeen) (new : AreNew b.entries cells) where
  new_order : (written : ℕ → Bool) → AreInOrder (Some (the_board b d cells)) (Some cells) written
  new_order written = record {
    keys = short;
    cells = fits_new (places_from 0 (shapes_of b.entries)) b.entries cells new typed;
    own = own_new b.entries cells new;
    there = λ i h. there_new b.entries cells new i;
  }

  each : (n : ℕ) → AreInOrder (board_at (made b d cells).tables n) (cells_of (made b d cells) n) (is_written (made b d cells) n)
  each n = by (is_some (find (is_numbered n) d.tables.boards)) (is_numbered n (the_board b d cells)) refl refl
    where
      less : (i : ℕ) → is_written (made b d cells) n i ≡ false → is_written d n i ≡ false
      less i h = (none_before (is_write_handle n i) d.tables.things _ h).0

      boards_if : (k m : Bool) → is_some (find (is_numbered n) d.tables.boards) ≡ k → is_numbered n (the_board b d cells) ≡ m → board_at (made b d cells).tables n ≡ cond k (board_at d.tables n) (cond m (Some (the_board b d cells)) None)
      boards_if k m e f = board_as b d cells n ∙ (λ j. cond (e j) (board_at d.tables n) (cond (f j) (Some (the_board b d cells)) None))

      cells_if : (k m : Bool) → is_some (find (is_numbered n) d.tables.boards) ≡ k → is_numbered n (the_board b d cells) ≡ m → cells_of (made b d cells) n ≡ cond k (cells_of d n) (cond m (Some cells) None)
      cells_if k m e f = cells_as b d cells facts n ∙ (λ j. cond (e j) (cells_of d n) (cond (f j) (Some cells) None))

      by : (k m : Bool) → is_some (find (is_numbered n) d.tables.boards) ≡ k → is_numbered n (the_board b d cells) ≡ m → AreInOrder (board_at (made b d cells).tables n) (cells_of (made b d cells) n) (is_written (made b d cells) n)
      by true m e f = order_as _ _ _ _ (is_written (made b d cells) n) (boards_if true m e f) (cells_if true m e f)
          (order_more (board_at d.tables n) (cells_of d n) (is_written d n) (is_written (made b d cells) n) (o n) less)
      by false true e f = order_as _ _ _ _ (is_written (made b d cells) n) (boards_if false true e f) (cells_if false true e f) (new_order (is_written (made b d cells) n))
      by false false e f = order_as _ _ _ _ (is_written (made b d cells) n) (boards_if false false e f) (cells_if false false e f) (none_order (is_written (made b d cells) n))

-- a domain's keys are short, so those of the new board are
short_keys : (b : lent.NewBoard) (d t : Core) → IsDomain d → IsDomain t → lent.IsMade b d t → b.keys.size ≤ 64
short_keys b d t facts after is =
    subst (λ (w : Option Board). IfSome w (λ c. c.key.size ≤ 64)) (board_found b d t is facts (d.tables.last_board + 1) refl) (after.tables.keyed (d.tables.last_board + 1))

pub creates : (b : lent.NewBoard) (d t : Core) → IsDomain d → IsDomain t → IsInOrder d → AllByRecursion TakesItsWords b.entries → lent.IsMade b d t → IsInOrder t
creates b d t facts after o typed is = subst IsInOrder (sym is.2) (each b d facts o (short_keys b d t facts after is) typed is.0 is.1)
