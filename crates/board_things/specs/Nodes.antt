-- The nodes of a board, ascending, and how the nodes of all boards are kept.
use Rattle.std.specs.Prelude.{◌≡◌, ℕ, ◌+◌, ◌-◌, ◌^◌, ◌<◌, ◌≤◌, Bool, true, not, ◌&&◌, ◌||◌, ◌==◌, nat_eq, nat_le, nat_lt, if◌then◌else◌, List, [], ◌∷◌, length, min, take, slice_index_or, vec_capacity, vec_len, Option, Some, None}
use Rattle.std.specs.Bool.{then_some}
use Rattle.std.specs.List.{AllByRecursion, flat_map, list_any}
use Rattle.std.specs.Global.{Vec}
use Rattle.board_model.specs.declared.tables.Thing.{Thing}
use Rattle.board_model.specs.Tables.{is_node, is_of_board}

-- how many different holders of things of the board are less
abbrev pub nodes_below : {H N : Type 0} → (H → H → Bool) → (H → H → Bool) → ℕ → H → List (Thing H N) → ℕ
nodes_below same less board holder [] = 0
nodes_below same less board holder (t ∷ ts) =
    if is_of_board board t && less t.holder holder && not (is_node same board t.holder ts)
    then nodes_below same less board holder ts + 1 else nodes_below same less board holder ts

-- the first holder of a thing of the board that has so many below it
abbrev pub node_from : {H N : Type 0} → (H → H → Bool) → (H → H → Bool) → ℕ → ℕ → List (Thing H N) → List (Thing H N) → Option H
node_from same less board i all [] = None
node_from same less board i all (t ∷ ts) =
    if is_of_board board t && (nodes_below same less board t.holder all == i) then Some t.holder else node_from same less board i all ts

-- ---- how they are kept, as pairs of a board and a node; no public clause speaks of what follows

-- a pair comes before that of this board and node
abbrev pub comes_before : ℕ → ℕ → ℕ × ℕ → Bool
comes_before board node p = nat_lt p.0 board || (p.0 == board && nat_lt p.1 node)

-- it is the pair of this board and node
abbrev pub is_pair : ℕ → ℕ → ℕ × ℕ → Bool
is_pair board node p = p.0 == board && p.1 == node

-- each pair comes before all that follow it
abbrev pub AreInOrder : List (ℕ × ℕ) → Type 0
AreInOrder [] = Unit {0}
AreInOrder (p ∷ ps) = AllByRecursion (λ (q : ℕ × ℕ). comes_before q.0 q.1 p ≡ true) ps × AreInOrder ps

-- the nodes that stand beside a board, in their order
abbrev pub nodes_in : ℕ → List (ℕ × ℕ) → List ℕ
nodes_in board [] = []
nodes_in board (p ∷ ps) = if p.0 == board then p.1 ∷ nodes_in board ps else nodes_in board ps

-- the node of a pair, where it is of the board
abbrev pub node_of : ℕ → Option (ℕ × ℕ) → Option ℕ
node_of board None = None
node_of board (Some p) = then_some (p.0 == board) p.1

-- the pairs are in order, and those of the nodes with things of boards
pub record AreNodes (pairs : List (ℕ × ℕ)) (ts : List (Thing ℕ ℕ)) : Type 0 where
  pub order : AreInOrder pairs
  pub are : (board node : ℕ) → list_any (is_pair board node) pairs ≡ is_node nat_eq board node ts

-- ---- in parts

-- the pairs, and for how many more there is memory
pub record Pairs : Type 0 where
  pub pairs : List (ℕ × ℕ)
  pub room : ℕ

-- as many pairs as a part has at most
abbrev pub most_pairs : ℕ
most_pairs = 256

-- the pairs of all parts
abbrev pub joined : List (List (ℕ × ℕ)) → List (ℕ × ℕ)
joined parts = flat_map (λ (part : List (ℕ × ℕ)). part) parts

-- the part at a place
abbrev pub part_at : ℕ → List (List (ℕ × ℕ)) → List (ℕ × ℕ)
part_at place parts = slice_index_or parts place []

abbrev pub HasPair : List (ℕ × ℕ) → Type 0
HasPair part = 0 < length part

-- each part has a pair, and all pairs are in order
pub record AreParts (parts : List (List (ℕ × ℕ))) : Type 0 where
  pub filled : AllByRecursion HasPair parts
  pub order : AreInOrder (joined parts)

-- where each of these parts ends, as the number of pairs up to there; so many stand ahead of them
abbrev pub ends_from : ℕ → List (List (ℕ × ℕ)) → List ℕ
ends_from count [] = []
ends_from count (part ∷ parts) = (count + length part) ∷ ends_from (count + length part) parts

-- these are the ends of some parts
abbrev pub AreEnds : List ℕ → Type 0
AreEnds ends = (parts : List (List (ℕ × ℕ))) × (ends ≡ ends_from 0 parts)

-- an end is at this place or ahead of it
abbrev pub is_by : ℕ → ℕ → Bool
is_by place end = nat_le end place

-- these are the ends of the parts, and all pairs are few enough to be counted
pub record AreCounted (ends : List ℕ) (parts : List (List (ℕ × ℕ))) : Type 0 where
  pub ends_are : ends ≡ ends_from 0 parts
  pub few : length (joined parts) < 2 ^ 64

-- the parts ahead of one stay, and there are so many more at most
pub record KeepsAhead (part more : ℕ) (old new : List (List (ℕ × ℕ))) : Type 0 where
  pub ahead : (k : ℕ) → k ≤ part → take k new ≡ take k old
  pub most : length new ≤ length old + more

-- the last pair of a part comes before that of this board and node
abbrev pub ends_before : ℕ → ℕ → List (ℕ × ℕ) → Bool
ends_before board node [] = true
ends_before board node (p ∷ []) = comes_before board node p
ends_before board node (p ∷ (q ∷ ps)) = ends_before board node (q ∷ ps)

-- for how many pairs more there is memory: for one, where a part stands ready and there is room for it and its end
abbrev pub room_of : Vec (List (ℕ × ℕ)) → Vec ℕ → Option (List (ℕ × ℕ)) → ℕ
room_of parts ends None = 0
room_of parts ends (Some part) = min 1 (min (vec_capacity parts - vec_len parts) (vec_capacity ends - vec_len ends))

-- a part stands ready, and there is room for it
pub record HasRoom (parts : Vec (List (ℕ × ℕ))) (spare : Option (List (ℕ × ℕ))) : Type 0 where
  pub ready : spare ≡ Some []
  pub room : vec_len parts < vec_capacity parts
