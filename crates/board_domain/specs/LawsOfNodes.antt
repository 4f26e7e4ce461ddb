-- Laws of the nodes that are told of a board.
use Rattle.std.specs.Prelude.{◌≡◌, ℕ, ◌<◌, ◌==◌, nat_eq, List, [], ◌∷◌, length, Some}
use Rattle.std.specs.List.{AllByRecursion, list_any}
use Rattle.board_model.specs.declared.tables.Board.{Board}
use Rattle.board_model.specs.declared.tables.Thing.{Thing}
use Rattle.board_model.specs.Tables.{is_node, nodes_taken}
use Rattle.board_domain.specs.Walks.{nodes_in}

-- each number is less than all that follow it, so they differ
abbrev pub Ascends : List ℕ → Type 0
Ascends [] = Unit {0}
Ascends (x ∷ xs) = AllByRecursion (λ y. x < y) xs × Ascends xs

-- the nodes that are told of a board ascend, are those with a thing of it, and as many as its limit of nodes counts
pub record NodesAreTold : Type 0 where
  pub ascend : (things : List (Thing ℕ ℕ)) (b : Board) → Ascends (nodes_in things (Some b))
  pub are : (things : List (Thing ℕ ℕ)) (b : Board) (n : ℕ) → list_any (λ m. m == n) (nodes_in things (Some b)) ≡ is_node nat_eq b.number n things
  pub counted : (things : List (Thing ℕ ℕ)) (b : Board) → length (nodes_in things (Some b)) ≡ nodes_taken nat_eq b.number things
