-- How a callback walks over nodes and keys.
use Rattle.std.specs.Prelude.{◌≡◌, ℕ, suc, zero, ◌+◌, ◌⊎◌, nat_eq, List, [], ◌∷◌, map, Option, Some, None}
use Rattle.std.specs.List.{cons_option}
use Rattle.board_layout.specs.Keys.{key_value}
use Rattle.board_model.specs.declared.tables.Board.{Board}
use Rattle.board_model.specs.declared.tables.Entry.{Entry}
use Rattle.board_model.specs.declared.tables.Thing.{Thing}
use Rattle.board_model.specs.Tables.{nodes_taken}
use Rattle.board_service.specs.Told.{node_in}
use Rattle.board_domain.specs.declared.callback_progression.CallbackProgression.{CallbackProgression}
use Rattle.board_domain.specs.declared.callback_progression.CallbackProgression.TheVariants.{Continue, Stop}

-- a callback was called at one after another, in order, until it said to stop or none was left, and no more; that leaves it so
abbrev pub WalksTo : {F A : Type 0} → (F → A → CallbackProgression → F → Type 0) → F → List A → F → Type 0
WalksTo called f [] last = last ≡ f
WalksTo {F} called f (x ∷ xs) last = called f x Stop last ⊎ ((g : F) × called f x Continue g × WalksTo called g xs last)

-- there is such a walk, whatever it leaves; of a callback that is gone it isn't said that it was called no more
abbrev pub Walks : {F A : Type 0} → (F → A → CallbackProgression → F → Type 0) → F → List A → Type 0
Walks called f [] = Unit {0}
Walks {F} called f (x ∷ xs) = (g : F) × (called f x Stop g ⊎ (called f x Continue g × Walks called g xs))

-- those that stand at this place and the next, so many places
abbrev pub at_places : {A : Type 0} → (ℕ → Option A) → ℕ → ℕ → List A
at_places at zero place = []
at_places at (suc n) place = cons_option (at place) (at_places at n (place + 1))

-- the nodes with things of a board, ascending
abbrev pub nodes_in : List (Thing ℕ ℕ) → Option Board → List ℕ
nodes_in things None = []
nodes_in things (Some b) = at_places (λ i. node_in i things (Some b)) (nodes_taken nat_eq b.number things) 0

-- the key of an entry, as a value
abbrev pub key_seen : {K : Type 0} → (List ℕ → K) → ℕ → ℕ → Entry → K
key_seen value_of size count e = key_value value_of size count e.key.bytes

-- the keys of a board in the order of adding
abbrev pub keys_in : {K : Type 0} → (Entry → K) → Option Board → List K
keys_in of None = []
keys_in of (Some b) = map of b.entries
