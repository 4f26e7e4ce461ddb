-- What is known of the cells of the boards of a domain, for as long as these stand.
use Rattle.std.specs.Prelude.{◌≡◌, ℕ, List, [], ◌∷◌, Option, Some, None}
use Rattle.board_model.specs.declared.tables.Board.{Board}
use Rattle.board_model.specs.declared.tables.Entry.{Entry}
use Rattle.board_model.specs.Tables.{Tables}
use Rattle.board_store.specs.Statics.{Storages}
use Rattle.board_service.specs.Domain.{Domain, cells_of, with_cells}
use Rattle.board_service.specs.Descriptions.{IsCore}

-- each of the ones is related to the other that stands beside it
abbrev pub AllBeside : {A C : Type 0} → (A → C → Type 0) → List A → List C → Type 0
AllBeside is [] cs = Unit {0}
AllBeside is (x ∷ xs) [] = Unit {0}
AllBeside is (x ∷ xs) (c ∷ cs) = is x c × AllBeside is xs cs

-- they are related, where both are there
abbrev pub BothAre : {A C : Type 0} → (A → C → Type 0) → Option A → Option C → Type 0
BothAre is None c = Unit {0}
BothAre is (Some x) None = Unit {0}
BothAre is (Some x) (Some c) = is x c

-- the cells suit a board with its entries
abbrev pub suits_board : {C : Type 0} → (List Entry → C → Type 0) → Board → C → Type 0
suits_board suit b c = suit b.entries c

-- the board's cells suit it, where it stands
abbrev pub SuitBoard : {C : Type 0} → (List Entry → C → Type 0) → Option Board → Option C → Type 0
SuitBoard suit board cells = BothAre (suits_board suit) board cells

-- a call was given the board's cells, and what it left of them is what the board then has; all else stays
pub record IsCellCall {C : Type 0} (gives : C → C → Type 0) (old new : Domain C) (board : ℕ) : Type 0 where
  pub before : C
  pub after : C
  pub had : cells_of old board ≡ Some before
  pub gave : gives before after
  pub left : new ≡ with_cells old board after

-- what is true of every domain, and of its cells: those of each board suit it. No public clause speaks of it
pub record IsSuitedCore {C : Type 0} (suit : List Entry → C → Type 0) (t : Tables ℕ ℕ) (last_thing : ℕ) (all : List C) (descriptions : Storages) : Type 0 where
  pub core : IsCore t last_thing all descriptions
  pub suited : AllBeside (suits_board suit) t.boards all
