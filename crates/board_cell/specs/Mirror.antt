-- The one view of a table is its words.
use Rattle.std.specs.Prelude.{◌≡◌, ℕ, List, [], ◌∷◌, slice_index, slice_set}
use Rattle.atomic_table.specs.Table.{State, Me, Step}

abbrev pub Mirrors : State (Unit {0}) (List ℕ) → Type 0
Mirrors s = s.views ≡ s.words ∷ []

abbrev pub loaded : Step (Unit {0}) → Me (Unit {0}) (List ℕ) → ℕ → Me (Unit {0}) (List ℕ) → Type 0
loaded st m n m' = (n ≡ slice_index m.0 st.word) × (m'.0 ≡ m.0)

abbrev pub stored : Step (Unit {0}) → Me (Unit {0}) (List ℕ) → ℕ → Me (Unit {0}) (List ℕ) → Type 0
stored st m n m' = m'.0 ≡ slice_set m.0 st.word st.first
