-- Each call keeps the cells of a domain in order.
use Rattle.std.proofs.Common.{◌≡◌, ◌≢◌, ℕ, Bool, true, false, ◌+◌, List, [], ◌∷◌, ◌++◌, Option, Some, None, refl, sym, ap, ◌∙◌, subst, arith}
use Rattle.std.specs.Prelude.{◌&&◌, ◌==◌, find, is_some}
use Rattle.std.specs.List.{list_any, position_from}
use Rattle.board_model.specs.declared.tables.Board.{Board}
use Rattle.board_model.specs.declared.tables.Thing.{Thing}
use Rattle.board_model.specs.declared.tables.Kind.TheVariants as kind
use Rattle.board_model.specs.Tables.{board_at, entry_in, is_numbered, is_write_handle, port_of}
use Rattle.board_model.specs.TableCalls.{place_of}
use Rattle.board_service.specs.Domain.{after_open, after_reader, after_writer, at, cells_of, empty, held}
use Rattle.board_cells.specs.Cells.{PlaceSeen, cell_at, parked_at, without_end}
use Rattle.board_handles.specs.BoardEnds.{Core, taken, taken_from}
use Rattle.board_handles.specs.LentForms as lent
use Rattle.board_typed.specs.Order.{AreInOrder, FitsEntry, IsInOrder, IsOwn, is_written}
use Rattle.board_typed.proofs.Beside.{none_before}
use Rattle.board_typed.proofs.Changed.{by_number, none_order, order_as, order_changed, order_more}
use Rattle.board_typed.proofs.Places.{cell_without, parked_without, parked_without_other}

pub new_order : IsInOrder empty
new_order b = none_order (is_written empty b)

-- one thing more, with the same boards and cells
pub more_order : (d e : Core) (x : Thing ℕ ℕ) → IsInOrder d → e.tables.boards ≡ d.tables.boards → e.cells ≡ d.cells → e.tables.things ≡ d.tables.things ++ x ∷ [] → IsInOrder e
more_order d e x o boards cells things b =
    order_as (board_at d.tables b) (board_at e.tables b) (cells_of d b) (cells_of e b) (is_written e b)
    (ap (find (is_numbered b)) boards) (λ k. at (cells k) (position_from (is_numbered b) 0 (boards k)))
    (order_more (board_at d.tables b) (cells_of d b) (is_written d b) (is_written e b) (o b)
    (λ i h. (none_before (is_write_handle b i) d.tables.things x (subst (λ ts. list_any (is_write_handle b i) ts ≡ false) things h)).0))

pub opens : (d : Core) (node : ℕ) (name : List ℕ) → IsInOrder d → IsInOrder (after_open d node name)
opens d node name o = more_order d (after_open d node name) _ o refl refl refl

pub makes_reader : (d : Core) (of : Thing ℕ ℕ) → IsInOrder d → IsInOrder (after_reader d of)
makes_reader d of o = more_order d (after_reader d of) _ o refl refl refl

pub makes_writer : (d : Core) (of : Thing ℕ ℕ) → IsInOrder d → IsInOrder (after_writer d of)
makes_writer d of o = more_order d (after_writer d of) _ o refl refl refl

pub reads : (d : Core) (a : lent.Asked) (reader : ℕ) → IsInOrder d → IsInOrder (lent.with_read d a reader)
reads d a reader o = more_order d (lent.with_read d a reader) _ o refl refl refl

-- ---- an end that is taken

taken_here : (w : Option Board) (ps : List PlaceSeen) (i : ℕ) (written : ℕ → Bool) → AreInOrder w (Some ps) written → ((j : ℕ) → written j ≡ false → i ≢ j) → AreInOrder w (Some (without_end ps i)) written
taken_here w ps i written o free = record {
  keys = o.keys;
  cells = λ j. subst (λ c. FitsEntry (entry_in w j) c) (sym (cell_without ps i j)) (o.cells j);
  own = λ j. subst (λ c. IsOwn (parked_at (without_end ps i) j) c) (sym (cell_without ps i j)) (by_number _ i j
      (λ same. subst (λ n. IsOwn (parked_at (without_end ps i) n) (cell_at ps n)) same (subst (λ x. IsOwn x (cell_at ps i)) (sym (parked_without ps i)) tt))
      (λ ne. subst (λ x. IsOwn x (cell_at ps j)) (sym (parked_without_other ps i j ne)) (o.own j)));
  there = λ j h. ap is_some (parked_without_other ps i j (free j h)) ∙ o.there j h ∙ ap is_some (sym (cell_without ps i j));
}

order_taken : (d : Core) (board i : ℕ) → IsInOrder d → ((j : ℕ) → is_written d board j ≡ false → i ≢ j) → IsInOrder (taken d board i)
order_taken d board i o free = by (cells_of d board) refl
  where
    by : (c : Option (List PlaceSeen)) → cells_of d board ≡ c → IsInOrder (taken_from d board c i)
    by None e = o
    by (Some ps) e = order_changed d board ps (without_end ps i) e (λ b ne. o b)
        (taken_here (board_at d.tables board) ps i (is_written d board)
        (order_as (board_at d.tables board) (board_at d.tables board) (cells_of d board) (Some ps) (is_written d board) refl (sym e) (o board)) free)

own_handle : (board i j : ℕ) → ((board == board) && (i == j)) ≡ false → i ≢ j
own_handle board i j h e =
    let own : (board == board) ≡ true = grind arith in
    let same : (i == j) ≡ true = grind (arith, e) in
    let t : ((board == board) && (i == j)) ≡ true = rw (own, same) refl in
    absurd cc

pub writes : (d : Core) (a : lent.Asked) (writer : ℕ) → IsInOrder d → IsInOrder (lent.with_write_taken d a writer)
writes d a writer o =
    let of = held d writer in
    let f = lent.entry_for d a writer in
    let x : Thing ℕ ℕ = record { holder = of.holder; name = d.last_thing + 1; board = of.board; kind = kind.WriteHandle (place_of f) (port_of of.kind) } in
    order_taken (lent.with_write d a writer) of.board (place_of f) (more_order d (lent.with_write d a writer) x o refl refl refl)
    (λ j h. own_handle of.board (place_of f) j (none_before (is_write_handle of.board j) d.tables.things x h).1)
