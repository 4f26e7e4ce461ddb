-- The shapes of added entries, and how many cells are laid for them.
use Rattle.std.proofs.Common.{◌≡◌, ℕ, zero, suc, ◌+◌, ◌^◌, ◌<◌, ◌≤◌, List, [], ◌∷◌, length, map, arith, refl, sym, ◌∙◌, ap, subst, All}
use Rattle.board_layout.specs.declared.shape.CellPlace.{CellPlace}
use Rattle.board_layout.specs.declared.shape.Shape.{Shape}
use Rattle.board_layout.specs.Layout.{IsShape, cell_bytes, places_from, start_of}
use Rattle.board_model.specs.declared.value.AddedEntry.{AddedEntry}
use Rattle.board_model.specs.declared.value.Value.{Value}
use Rattle.board_model.specs.declared.value.Value.TheVariants as value
use Rattle.board_model.specs.Replies.{added_of}
use Rattle.board_model.specs.Tables.{shape_of, shapes_of}
use Rattle.board_model.specs.TypeTable.{type_of, value_detail, value_words}

value_shape : (v : Value) → IsShape (record { words = length (value_words v); alignment = (value_detail (type_of v)).alignment })
value_shape (value.Bool b) = record { words = omega arith; alignment = (0, omega arith, refl) }
value_shape (value.U64 n) = record { words = omega arith; alignment = (3, omega arith, refl) }
value_shape (value.Q4 a b c d) = record { words = omega arith; alignment = (3, omega arith, refl) }

-- each added entry has a shape that a cell can have
pub shapes_are : (added : List AddedEntry) → All IsShape (shapes_of (map added_of added))
shapes_are [] k d low = absurd (omega (arith, low))
shapes_are (e ∷ added) zero d low = value_shape e.value
shapes_are (e ∷ added) (suc k) d low = shapes_are added k d (omega (arith, low))

places_count : (at : ℕ) (shapes : List Shape) → length (places_from at shapes) ≡ length shapes
places_count at [] = refl
places_count at (s ∷ shapes) = ap suc (places_count (start_of at s + cell_bytes s) shapes)

shapes_count : (added : List AddedEntry) → length (shapes_of (map added_of added)) ≡ length added
shapes_count [] = refl
shapes_count (e ∷ added) = ap suc (shapes_count added)

-- so many cells are laid as entries are added
pub cells_count : (cells : List CellPlace) (shapes : List Shape) (added : List AddedEntry) → cells ≡ places_from 0 shapes → shapes ≡ shapes_of (map added_of added) → length cells ≡ length added
cells_count cells shapes added e f = ap length e ∙ places_count 0 shapes ∙ ap length f ∙ shapes_count added
