-- The ids of a set as words of 64 bits.
use Rattle.std.specs.Prelude.{◌≡◌, ℕ, List, length}
use Rattle.board_event_model.specs.Ids.{Ids, has, is_set}

-- the words have exactly the ids of the set
abbrev pub HaveIds : List ℕ → Ids → Type 0
HaveIds words ids = (i : ℕ) → has ids i ≡ is_set words i

-- whichever ids the words had, they have those that this makes of them, and are as many words
pub record Become (old new : List ℕ) (change : Ids → Ids) : Type 0 where
  pub count : length new ≡ length old
  pub ids : (ids : Ids) → HaveIds old ids → HaveIds new (change ids)
