-- Entries that are asked for, as a core takes them.
use Rattle.std.proofs.Common.{◌≡◌, ℕ, ◌≤◌, List, [], ◌∷◌, ◌++◌, length, map, drop, refl, sym, ap, ◌∙◌, arith}
use Rattle.std.specs.Prelude.{All}
use Rattle.std.specs.List.{AllByRecursion}
use Rattle.std.proofs.lemmas.List.{append-nil, drop_all}
use Rattle.std.proofs.lemmas.List.Elements.{All-cons, All-nil}
use Rattle.board_layout.specs.Layout.{IsShape}
use Rattle.board_model.specs.declared.value.AddedEntry.{AddedEntry}
use Rattle.board_model.specs.declared.value.Value.{Value}
use Rattle.board_model.specs.declared.value.Value.TheVariants as value
use Rattle.board_model.specs.Replies as replies
use Rattle.board_model.specs.Tables.{shape_of, shapes_of}
use Rattle.board_model.specs.TypeTable.{type_of, value_detail, value_words}
use Rattle.board_service.specs.declared.new_entry.NewEntry.{NewEntry}
use Rattle.board_service.specs.Entries.{as_added}
use Rattle.script_parties.specs.Named.{HasShortKey}
use Rattle.board_model.specs.ShortKeys.{IsShortKey}

-- a value fits its cell
has_shape : (v : Value) → IsShape (record { words = length (value_words v); alignment = (value_detail (type_of v)).alignment })
has_shape (value.Bool b) = record { words = omega arith; alignment = (0, omega arith, refl) }
has_shape (value.U64 n) = record { words = omega arith; alignment = (3, omega arith, refl) }
has_shape (value.Q4 a b c d) = record { words = omega arith; alignment = (3, omega arith, refl) }

pub have_shapes : (es : List AddedEntry) → All IsShape (shapes_of (map replies.added_of es))
have_shapes [] = All-nil IsShape
have_shapes (e ∷ es) = All-cons IsShape (shape_of (replies.added_of e)) (shapes_of (map replies.added_of es)) (has_shape e.value) (have_shapes es)

-- one entry more, with a short key
pub short_push : (es : List NewEntry) (e : NewEntry) → AllByRecursion HasShortKey (map as_added es) → IsShortKey e.key.bytes → AllByRecursion HasShortKey (map as_added (es ++ e ∷ []))
short_push [] e h k = (k, tt)
short_push (x ∷ es) e h k = (h.0, short_push es e h.1 k)

-- at the end all entries were made
pub made_all : (new : List NewEntry) (i : ℕ) (es : List AddedEntry) → length es ≤ i → map as_added new ++ map replies.added_of (drop i es) ≡ map replies.added_of es → map as_added new ≡ map replies.added_of es
made_all new i es end h = sym (append-nil (map as_added new)) ∙ ap (λ (more : List AddedEntry). map as_added new ++ map replies.added_of more) (sym (drop_all i es end)) ∙ h
