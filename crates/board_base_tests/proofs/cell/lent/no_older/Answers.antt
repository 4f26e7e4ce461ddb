use Rattle.std.proofs.Common.{◌≤◌, List, [], ◌∷◌, ◌++◌, subst}
use Rattle.std.specs.List.{All}
use Rattle.std.proofs.lemmas.List.Elements.{All-cons, All-head, All-nil, All-tail}
use Rattle.board_cell.specs.Passes.{note, NotesRise}
use Rattle.board_cell.specs.declared.threaded.view.Note.{Note}
use Rattle.board_base_tests.proofs.cell.lent.no_older.Goals as goal

-- of notes that don't fall, the last is at least each one before
at_most_last : (x : Note) (xs : List Note) (n : Note) → All (λ (y : Note). x.generation ≤ y.generation) (xs ++ n ∷ []) → x.generation ≤ n.generation
at_most_last x [] n all = All-head (λ (y : Note). x.generation ≤ y.generation) n [] all
at_most_last x (y ∷ ys) n all = at_most_last x ys n (All-tail (λ (z : Note). x.generation ≤ z.generation) y (ys ++ n ∷ []) all)

none_above : (xs : List Note) (n : Note) → NotesRise (xs ++ n ∷ []) → All (λ (m : Note). m.generation ≤ n.generation) xs
none_above [] n rise = All-nil (λ (m : Note). m.generation ≤ n.generation)
none_above (x ∷ xs) n rise = All-cons (λ (m : Note). m.generation ≤ n.generation) x xs (at_most_last x xs n rise.0) (none_above xs n rise.1)

pub returns : goal.returns
returns g c =
    let got = c.get.ensures.got in
    none_above c.args.pass.now.notes (note c.get.result c.get.new.out.items) (subst (λ (ns : List Note). NotesRise ns) got.notes c.get.ensures.rises)
