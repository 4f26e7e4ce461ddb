-- The parties that are nodes of a board, as a domain's core tells its nodes. No public clause speaks of this.
use Rattle.std.specs.Prelude.{◌≡◌, ℕ, zero, suc, ◌-◌, Bool, false, ◌||◌, List, Option, Some, None, option_map, slice_get}
use Rattle.std.specs.Cmp.Lexicographic.{slice_cmp}
use Rattle.std.specs.List.{list_any}
use Rattle.std.specs.List.Sorted.{IsStrictlySortedBy}
use Rattle.std.specs.Ordering.{nat_cmp}
use Rattle.std.specs.Str.{bytes_eq}
use Rattle.board_model.specs.Tables.{board_at, holds_at}
use Rattle.board_service.specs.declared.told.DynamicConfig.{DynamicConfig}
use Rattle.board_service.specs.Domain.{Domain}
use Rattle.board_service.specs.Told.{node_in, use_in}

-- the party of a node, if there is one
abbrev pub node_party : List (List ℕ) → Option ℕ → Option (List ℕ)
node_party nodes None = None
node_party nodes (Some n) = slice_get nodes (n - 1)

-- the party that is the node of a board with so many of the board's below it
abbrev pub party_told : {C : Type 0} → List (List ℕ) → Domain C → ℕ → ℕ → Option (List ℕ)
party_told nodes d board i = node_party nodes (node_in i d.tables.things (board_at d.tables board))

-- the party is one of the first so many
abbrev pub is_told : {C : Type 0} → List (List ℕ) → Domain C → ℕ → List ℕ → ℕ → Bool
is_told nodes d board p zero = false
is_told nodes d board p (suc i) = is_told nodes d board p i || holds_at (party_told nodes d board i) (λ q. bytes_eq q p)

-- how many nodes are told
abbrev pub nodes_in_use : Option DynamicConfig → ℕ
nodes_in_use None = 0
nodes_in_use (Some u) = u.nodes

-- how many nodes a board has
abbrev pub node_count : {C : Type 0} → Domain C → ℕ → ℕ
node_count d board = nodes_in_use (option_map (use_in d.tables.things) (board_at d.tables board))

-- the names are those of the parties that are told, in the order of their bytes
pub record AreHolders {C : Type 0} (nodes : List (List ℕ)) (d : Domain C) (board : ℕ) (names : List (List ℕ)) : Type 0 where
  pub order : IsStrictlySortedBy (slice_cmp nat_cmp) names
  pub parties : (p : List ℕ) → list_any (λ q. bytes_eq q p) names ≡ is_told nodes d board p (node_count d board)
