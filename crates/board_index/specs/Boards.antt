-- The boards of a domain with their cells, as contracts see them, and how maps give them.
use Rattle.std.specs.Prelude.{◌≡◌, ℕ, ◌<◌, ◌≤◌, min, List, Option, Some, None, is_some, nat_eq, option_map, IfSome, IsSomeAnd, remove, slice_get, slice_set, Vec}
use Rattle.std.specs.Global.{Box}
use Rattle.std.specs.HashMap.{HashMap, get, get_by, spare}
use Rattle.std.specs.List.{position_from}
use Rattle.std.specs.Str.{bytes_eq}
use Rattle.board_model.specs.declared.tables.Board.{Board}
use Rattle.board_model.specs.Tables.{is_numbered}
use Rattle.board_numbered.specs.Standing.{standing, under}

-- the boards that stand and their cells, the number that was drawn last, and for how many more boards there is memory
pub record Rows (C : Type 0) : Type 0 where
  pub boards : List Board
  pub cells : List C
  pub last : ℕ
  pub room : ℕ

-- ---- what stands at a place

-- the element at a place, where there is a place
abbrev pub at : {A : Type 0} → List A → Option ℕ → Option A
at xs None = None
at xs (Some i) = slice_get xs i

-- without the element at a place
abbrev pub but_at : {A : Type 0} → List A → Option ℕ → List A
but_at xs None = xs
but_at xs (Some i) = remove xs i

-- with another element at a place
abbrev pub set_at : {A : Type 0} → List A → Option ℕ → A → List A
set_at xs None x = xs
set_at xs (Some i) x = slice_set xs i x

-- the cells of the board with a number, which stand where the board stands
abbrev pub cells_in : {C : Type 0} → Rows C → ℕ → Option C
cells_in d number = at d.cells (position_from (is_numbered number) 0 d.boards)

-- the same boards, with other cells of the one with a number
abbrev pub with_cells_in : {C : Type 0} → Rows C → ℕ → C → Rows C
with_cells_in d number c = record d { cells = set_at d.cells (position_from (is_numbered number) 0 d.boards) c }

-- ---- how they are kept; no public clause speaks of what follows

-- the boards that a map has under numbers
abbrev pub rows_under : {S : Type 0} → HashMap ℕ (Box Board) S → ℕ → Option Board
rows_under m = λ number. option_map (λ b. b.value) (get nat_eq m number)

-- the numbers that a map has under names
abbrev pub called : {S Z : Type 0} → HashMap (Vec ℕ Z) ℕ S → List ℕ → Option ℕ
called m = λ name. get_by (λ k. bytes_eq name k.items) m

-- what contracts see of the maps
abbrev pub seen : {C S T R Z : Type 0} → HashMap ℕ (Box Board) S → HashMap ℕ C T → HashMap (Vec ℕ Z) ℕ R → ℕ → Rows C
seen rows cells names last = record {
  boards = standing (rows_under rows) last;
  cells = standing (under cells) last;
  last = last;
  room = min (spare rows) (min (spare cells) (spare names));
}

-- a board has the number that it stands under, which was drawn, and its name leads there
pub record IsRow (names : List ℕ → Option ℕ) (last number : ℕ) (b : Board) : Type 0 where
  pub numbered : b.number ≡ number
  pub above : 0 < number
  pub drawn : number ≤ last
  pub named : names b.name ≡ Some number

-- each board stands as it should, cells stand under the numbers of boards alone, and each name that is kept is that of the board with its number
pub record AreIndexed {C : Type 0} (rows : ℕ → Option Board) (cells : ℕ → Option C) (names : List ℕ → Option ℕ) (last : ℕ) : Type 0 where
  pub each : (number : ℕ) → IfSome (rows number) (IsRow names last number)
  pub beside : (number : ℕ) → is_some (cells number) ≡ is_some (rows number)
  pub called : (name : List ℕ) → IfSome (names name) (λ number. IsSomeAnd (rows number) (λ b. b.name ≡ name))
