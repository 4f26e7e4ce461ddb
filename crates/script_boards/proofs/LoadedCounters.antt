-- The counter of an entry, where its word was read by the entry's shape.
use Rattle.std.proofs.Common.{◌≡◌, ℕ, ◌<◌, length, sym, ap, subst, ◌∙◌, Option, Some}
use Rattle.std.specs.Prelude.{slice_index, slice_index_or}
use Rattle.board_layout.specs.declared.shape.CellShape.{CellShape}
use Rattle.board_layout.specs.Layout.{cell_shape}
use Rattle.board_model.specs.declared.tables.Entry.{Entry}
use Rattle.board_model.specs.Tables.{entry_at}
use Rattle.script_parties.specs.Parties.{HasWord, IsLoaded}
use Rattle.script_boards.specs.declared.machine.BoardMachine.{BoardMachine}
use Rattle.script_boards.specs.Machine.{tables_of}
use Rattle.script_boards.specs.Steps.{HasCounter, IsCounter}

one_entry : (x y : Entry) (o : Option Entry) → o ≡ Some x → o ≡ Some y → x ≡ y
one_entry x y o e f = (let same : Some x ≡ Some y = sym e ∙ f in cc)

module _ {C : Type 0} (m : BoardMachine C) (board i : ℕ) (e : Entry) (found : entry_at (tables_of m) board i ≡ Some e) where
  -- its word is one of the board
  pub has_counter_word : HasCounter m board i → (shape : CellShape) → shape ≡ cell_shape e.cell → HasWord m.domain board shape.first
  has_counter_word h shape is =
      let first : h.entry.cell.first ≡ shape.first = ap (λ (x : Entry). x.cell.first) (one_entry h.entry e (entry_at (tables_of m) board i) h.found found) ∙ ap (λ (x : CellShape). x.first) (sym is) in
      record {
        place = h.place;
        stands = h.stands;
        inside = h.inside;
        word_inside = λ d. subst (λ (k : ℕ). k < length (slice_index_or m.domain.words h.place d)) first (h.word_inside d);
      }

  -- what was read is the counter
  pub is_counter : (shape : CellShape) → shape ≡ cell_shape e.cell → (g : ℕ) → IsLoaded m.domain board shape.first g → IsCounter m board i g
  is_counter shape is g loaded place x d at f =
      let first : shape.first ≡ x.cell.first = ap (λ (y : CellShape). y.first) is ∙ ap (λ (y : Entry). y.cell.first) (one_entry e x (entry_at (tables_of m) board i) found f) in
      subst (λ (k : ℕ). g ≡ slice_index (slice_index_or m.domain.words place d) k) first (loaded place d at)
