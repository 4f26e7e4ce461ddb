-- What readers' gets copied last, and whose passes are given back.
use Rattle.std.proofs.Common.{◌≡◌, ◌+◌, ◌∙◌, ℕ, List, [], ◌∷◌, ◌++◌, All, append-nil, append_assoc, ap, arith, length, length-append, map, refl, reverse, subst, sym}
use Rattle.std.proofs.lemmas.List.{reverse-append}
use Rattle.std.proofs.lemmas.List.Elements.{All-map}
use Rattle.std.proofs.lemmas.List.Sorted.{IsPermutation-reverse}
use Rattle.std.proofs.lemmas.Map.Views.{All-map-IsPermutation}
use Rattle.board_cell.specs.Passes.{CellSeen, ReaderSeen}
use Rattle.board_cell.specs.declared.threaded.view.Note.{Note}
use Rattle.board_bench.specs.Watchers.{EndsFrom, HasReadTo, HasSeen, IsOf, capped, passes_back, pass_of, read_last}
use Rattle.board_bench.specs.declared.shared.Watcher.{Watcher}

-- behind one more get the last words are its own
pub read_last_push : (words : List ℕ) (notes : List Note) (n : Note) → read_last words (notes ++ n ∷ []) ≡ n.words
read_last_push words [] n = refl
read_last_push words (m ∷ notes) n = read_last_push m.words notes n

-- the last reader's pass goes over, so both together stay the same
pub pass_moved : (xs ys : List Watcher) (w : Watcher) (ps qs all : List ReaderSeen) → xs ≡ ys ++ w ∷ [] → qs ≡ ps ++ w.pass ∷ [] → ps ++ passes_back xs ≡ all → qs ++ passes_back ys ≡ all
pass_moved xs ys w ps qs all e f is =
    let back : passes_back xs ≡ w.pass ∷ passes_back ys = ap passes_back e ∙ ap (map pass_of) (reverse-append ys (w ∷ [])) in
    ap (λ l. l ++ passes_back ys) f ∙ append_assoc ps (w.pass ∷ []) (passes_back ys) ∙ ap (λ l. ps ++ l) (sym back) ∙ is

-- none is left
pub pass_moved_all : (xs : List Watcher) (ps all : List ReaderSeen) → xs ≡ [] → ps ++ passes_back xs ≡ all → ps ≡ all
pass_moved_all xs ps all e is = sym (append-nil ps) ∙ ap (λ l. ps ++ passes_back l) (sym e) ∙ is

-- what stands in the readers' buffers was copied by their gets
have_read : (cell : CellSeen) (last : ℕ) (watchers : List Watcher) → All (IsOf cell) watchers → All (HasSeen last) watchers → All (HasReadTo cell.width last) (passes_back watchers)
have_read cell last watchers are seen =
    let each : All (λ (w : Watcher). HasReadTo cell.width last w.pass) watchers = λ k d lt. subst (EndsFrom last) (are k d lt).read (seen k d lt) in
    All-map-IsPermutation pass_of (HasReadTo cell.width last) watchers (reverse watchers) (IsPermutation-reverse watchers) (All-map (HasReadTo cell.width last) pass_of watchers each)

-- the same of passes that are given back, of a cell of this width
pub have_read_all : (cell : CellSeen) (width last : ℕ) (watchers : List Watcher) (passes : List ReaderSeen) → cell.width ≡ width → passes ≡ passes_back watchers → All (IsOf cell) watchers → All (HasSeen last) watchers → All (HasReadTo width last) passes
have_read_all cell width last watchers passes wide back are seen =
    subst (λ w. All (HasReadTo w last) passes) wide (subst (All (HasReadTo cell.width last)) (sym back) (have_read cell last watchers are seen))

one_more : (m : ℕ) → capped (capped m + 1) ≡ capped (m + 1)
one_more m = grind arith

-- one more get is counted
pub counted_on : (notes : List Note) (n : Note) → capped (capped (length notes) + 1) ≡ capped (length (notes ++ n ∷ []))
counted_on notes n =
    let long : length (notes ++ n ∷ []) ≡ length notes + 1 = length-append notes (n ∷ []) in
    one_more (length notes) ∙ ap capped (sym long)
