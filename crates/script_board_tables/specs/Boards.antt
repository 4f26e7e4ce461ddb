-- Boards under their numbers and names, as contracts see them.
use Rattle.std.specs.Prelude.{◌≡◌, ℕ, ◌<◌, List, Option, None, nat_eq}
use Rattle.std.specs.HashMap.{HashMap, get}
use Rattle.std.specs.Str.{bytes_eq}
use Rattle.board_model.specs.declared.tables.Board.{Board}
use Rattle.board_model.specs.Tables.{has_name, is_numbered}
use Rattle.script_things.specs.Places.{IsPlace}

-- the boards that stand, and the number that was drawn last
pub record Numbered : Type 0 where
  pub boards : List Board
  pub last : ℕ

-- each number and each name is that of one board at most, whose place the indexes have; no number is above the last one
pub record AreIndexed {S R : Type 0} (numbers : HashMap ℕ ℕ S) (names : HashMap (List ℕ) ℕ R) (last : ℕ) (places : List (Option Board)) : Type 0 where
  pub numbered : (number : ℕ) → IsPlace (is_numbered number) places (get nat_eq numbers number)
  pub named : (name : List ℕ) → IsPlace (has_name name) places (get bytes_eq names name)
  pub above : (number : ℕ) → last < number → get nat_eq numbers number ≡ None
