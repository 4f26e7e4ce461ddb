-- One more entry of a new board.
use Rattle.std.proofs.Common.{◌≡◌, zero, suc, List, [], ◌∷◌, ◌++◌, map, sym, ap, ◌∙◌, subst, arith}
use Rattle.std.specs.Prelude.{All}
use Rattle.std.specs.List.{AllByRecursion}
use Rattle.std.proofs.lemmas.List.{map-append}
use Rattle.std.proofs.lemmas.List.Elements.{All-append}
use Rattle.board_layout.specs.declared.shape.Shape.{Shape}
use Rattle.board_layout.specs.Layout.{IsShape}
use Rattle.board_model.specs.Tables.{shape_of, shapes_of}
use Rattle.board_service.specs.declared.new_entry.NewEntry.{NewEntry}
use Rattle.board_service.specs.Entries.{TakesItsWords, as_added}

all_one : (s : Shape) → IsShape s → All IsShape (s ∷ [])
all_one s h zero d lt = h
all_one s h (suc k) d lt = absurd (omega (arith, lt))

shapes_more : (es : List NewEntry) (e : NewEntry) → shapes_of (map as_added (es ++ e ∷ [])) ≡ shapes_of (map as_added es) ++ shape_of (as_added e) ∷ []
shapes_more es e = ap (map shape_of) (map-append as_added es (e ∷ [])) ∙ map-append shape_of (map as_added es) (as_added e ∷ [])

-- entries with shapes, and one more
pub all_more : (es all : List NewEntry) (e : NewEntry) → All IsShape (shapes_of (map as_added es)) → IsShape (shape_of (as_added e)) → all ≡ es ++ e ∷ [] → All IsShape (shapes_of (map as_added all))
all_more es all e each one is =
    subst (λ (xs : List NewEntry). All IsShape (shapes_of (map as_added xs))) (sym is)
    (subst (All IsShape) (sym (shapes_more es e)) (All-append IsShape (shapes_of (map as_added es)) (shape_of (as_added e) ∷ []) each (all_one (shape_of (as_added e)) one)))

each_more : (es : List NewEntry) (e : NewEntry) → AllByRecursion TakesItsWords (map as_added es) → TakesItsWords (as_added e) → AllByRecursion TakesItsWords (map as_added (es ++ e ∷ []))
each_more [] e each one = (one, tt)
each_more (x ∷ xs) e each one = (each.0, each_more xs e each.1 one)

-- entries that take their words, and one more
pub widths_more : (es all : List NewEntry) (e : NewEntry) → AllByRecursion TakesItsWords (map as_added es) → TakesItsWords (as_added e) → all ≡ es ++ e ∷ [] → AllByRecursion TakesItsWords (map as_added all)
widths_more es all e each one is = subst (λ (xs : List NewEntry). AllByRecursion TakesItsWords (map as_added xs)) (sym is) (each_more es e each one)
