use Rattle.std.proofs.Common.{◌≡◌, ℕ, List, [], ◌∷◌, ◌++◌, drop, map}
use Rattle.std.specs.Global.{Vec}
use Rattle.board_model.specs.declared.value.AddedEntry.{AddedEntry}
use Rattle.board_model.specs.TypeTable.{value_words}
use Rattle.script_board_rows.proofs.new_board.published_of.Given as goal

abbrev pub invariant-loop-entry : goal.invariant-loop-entry
invariant-loop-entry l =
    map (λ (v : Vec (List ℕ)). v.items) l.published.items ++ map (λ (e : AddedEntry). value_words e.value ∷ []) (drop l.entry-index l.added)
    ≡ map (λ (e : AddedEntry). value_words e.value ∷ []) l.added
