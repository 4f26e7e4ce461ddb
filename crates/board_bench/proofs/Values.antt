-- What typed gets give.
use Rattle.std.proofs.Common.{◌≡◌, ◌∙◌, ℕ, List, [], ◌∷◌, ◌++◌, append-nil, append_assoc, ap, refl, sym}
use Rattle.board_cell.specs.Passes.{note}
use Rattle.board_cell.specs.declared.threaded.view.Note.{Note}
use Rattle.board_bench.specs.Handles.{ReadsOn, last_value}
use Rattle.board_bench.specs.Watchers.{read_last}

-- behind one more get the last value is its own
last_value_push : {V : Type 0} (value_of : List ℕ → V) (first : V) (notes : List Note) (n : Note) → last_value value_of first (notes ++ n ∷ []) ≡ value_of n.words
last_value_push value_of first [] n = refl
last_value_push value_of first (m ∷ notes) n = last_value_push value_of (value_of m.words) notes n

-- before the first get the first value is the latest
pub none_read : {V : Type 0} (value_of : List ℕ → V) (first : V) (notes : List Note) → ReadsOn value_of first first notes notes
none_read value_of first notes = record { gained = []; notes = sym (append-nil notes); value = refl }

-- behind one more get its own value is
pub one_read : {V : Type 0} (value_of : List ℕ → V) (first latest value : V) (old mid new : List Note) (g : ℕ) (words : List ℕ) → ReadsOn value_of first latest old mid → new ≡ mid ++ note g words ∷ [] → value ≡ value_of words → ReadsOn value_of first value old new
one_read value_of first latest value old mid new g words h e is = record {
  gained = h.gained ++ note g words ∷ [];
  notes = e ∙ ap (λ l. l ++ note g words ∷ []) h.notes ∙ append_assoc old h.gained (note g words ∷ []);
  value = is ∙ sym (last_value_push value_of first h.gained (note g words));
}

-- of a pass that read nothing before it is that of the last of all its gets
pub all_read : {V : Type 0} (value_of : List ℕ → V) (first latest : V) (old new : List Note) → old ≡ [] → ReadsOn value_of first latest old new → latest ≡ last_value value_of first new
all_read value_of first latest old new none h = h.value ∙ ap (last_value value_of first) (sym (h.notes ∙ ap (λ l. l ++ h.gained) none))

-- the last value is that of the words that were copied last
pub last_value_read : {V : Type 0} (value_of : List ℕ → V) (words : List ℕ) (notes : List Note) → last_value value_of (value_of words) notes ≡ value_of (read_last words notes)
last_value_read value_of words [] = refl
last_value_read value_of words (n ∷ notes) = last_value_read value_of n.words notes
