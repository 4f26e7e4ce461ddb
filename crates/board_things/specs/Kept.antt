-- What is kept of the things: each stands under its number, and the kept numbers are the counts over them. No public clause speaks of this.
use Rattle.std.specs.Prelude.{◌≡◌, ℕ, ◌+◌, ◌<◌, ◌≤◌, ◌==◌, ◌&&◌, Bool, not, nat_eq, count_by, List, Option, Some, None, IfSome}
use Rattle.std.specs.HashMap.{HashMap, get}
use Rattle.board_model.specs.declared.tables.Kind.{Kind}
use Rattle.board_model.specs.declared.tables.Thing.{Thing}
use Rattle.board_model.specs.Tables.{holds_at, is_held_by, is_node, is_of_board, is_of_port, is_reader, is_write_handle, nodes_taken, number_if, reader_slots, writer_port, writer_slots}
use Rattle.std.specs.List.{list_any}
use Rattle.board_things.specs.declared.uses.Use.{Use}

-- ---- numbers

-- the thing under a number has that number, which was drawn
pub record IsNumbered (last number : ℕ) (t : Thing ℕ ℕ) : Type 0 where
  pub numbered : t.name ≡ number
  pub above : 0 < number
  pub drawn : number ≤ last

-- each thing stands under its own number
pub record AreNumbered (things : ℕ → Option (Thing ℕ ℕ)) (last : ℕ) : Type 0 where
  pub each : (number : ℕ) → IfSome (things number) (IsNumbered last number)

-- ---- by board

abbrev pub nothing_used : Use
nothing_used = record { things = 0; readers = 0; writers = 0; nodes = 0 }

abbrev pub use_or_none : Option Use → Use
use_or_none None = nothing_used
use_or_none (Some u) = u

-- what is kept of a board; nothing is kept of one without things
abbrev pub use_at : {S : Type 0} → HashMap ℕ Use S → ℕ → Use
use_at uses board = use_or_none (get nat_eq uses board)

-- with one thing more of a kind; whether it is its node's only one, and the only one of its port
abbrev pub more : Kind → Bool → Bool → Use → Use
more k node port u = record { things = u.things + 1; readers = u.readers + number_if (is_reader k); writers = u.writers + number_if port; nodes = u.nodes + number_if node }

-- the kept numbers of a board are the counts over the things
pub record IsUse (board : ℕ) (ts : List (Thing ℕ ℕ)) (u : Use) : Type 0 where
  pub things : u.things ≡ count_by (is_of_board board) ts
  pub readers : u.readers ≡ reader_slots board ts
  pub writers : u.writers ≡ writer_slots board ts
  pub nodes : u.nodes ≡ nodes_taken nat_eq board ts

abbrev pub AreUses : {S : Type 0} → HashMap ℕ Use S → List (Thing ℕ ℕ) → Type 0
AreUses uses ts = (board : ℕ) → IsUse board ts (use_at uses board)

-- ---- by board and node, by board and port, by board and entry

abbrev pub pair_eq : ℕ × ℕ → ℕ × ℕ → Bool
pair_eq x y = (x.0 == y.0) && (x.1 == y.1)

abbrev pub number_or_none : Option ℕ → ℕ
number_or_none None = 0
number_or_none (Some n) = n

-- how many things are counted under a board and a number of it
abbrev pub kept_at : {S : Type 0} → HashMap (ℕ × ℕ) ℕ S → ℕ → ℕ → ℕ
kept_at m board number = number_or_none (get pair_eq m (board, number))

-- the kept numbers are the counts of the things that pass a test
abbrev pub AreCounts : {S : Type 0} → (ℕ → ℕ → Thing ℕ ℕ → Bool) → HashMap (ℕ × ℕ) ℕ S → List (Thing ℕ ℕ) → Type 0
AreCounts test m ts = (board number : ℕ) → kept_at m board number ≡ count_by (test board number) ts

abbrev pub AreHeld : {S : Type 0} → HashMap (ℕ × ℕ) ℕ S → List (Thing ℕ ℕ) → Type 0
AreHeld held ts = AreCounts (is_held_by nat_eq) held ts

abbrev pub ArePorts : {S : Type 0} → HashMap (ℕ × ℕ) ℕ S → List (Thing ℕ ℕ) → Type 0
ArePorts ports ts = AreCounts is_of_port ports ts

abbrev pub AreWritten : {S : Type 0} → HashMap (ℕ × ℕ) ℕ S → List (Thing ℕ ℕ) → Type 0
AreWritten written ts = AreCounts is_write_handle written ts

-- the thing's node has no other thing of its board
abbrev pub is_new_node : List (Thing ℕ ℕ) → Thing ℕ ℕ → Bool
is_new_node ts t = not (is_node nat_eq t.board t.holder ts)

-- the thing keeps a writer slot that no other one keeps
abbrev pub is_new_slot : List (Thing ℕ ℕ) → Thing ℕ ℕ → Bool
is_new_slot ts t = holds_at (writer_port t.kind) (λ p. not (list_any (is_of_port t.board p) ts))
