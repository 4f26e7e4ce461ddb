-- What callers see of nodes, builders and factories.
use Rattle.std.specs.Prelude.{◌≡◌, ℕ, ◌+◌, if◌then◌else◌, List, [], ◌∷◌, ◌++◌, Some, None, Result, Ok, Err}
use Rattle.board_layout.specs.Answer.{Answers, Refuses}
use Rattle.board_model.specs.TableCalls.{no_limits}
use Rattle.board_model.specs.declared.attributes.Attribute.{Attribute}
use Rattle.board_model.specs.declared.attributes.Requirements.{Requirements}
use Rattle.board_model.specs.declared.tables.Limits.{Limits}
use Rattle.board_model.specs.declared.tables.NewLimits.{NewLimits}
use Rattle.board_model.specs.Tables.{Added}
use Rattle.board_names.specs.declared.errors.service.DomainError.{DomainError}
use Rattle.board_names.specs.declared.errors.service.DomainError.TheVariants.{NumbersSpent, OutOfMemory}
use Rattle.board_service.specs.declared.made.Made.{Made}
use Rattle.board_service.specs.declared.told.StaticConfig.{StaticConfig}
use Rattle.board_service.specs.Domain.{spent}

-- a node: its number and its name
pub record NodeSeen : Type 0 where
  pub id : ℕ
  pub name : List ℕ

abbrev pub node_number : NodeSeen → ℕ
node_number n = n.id

-- the next node's number after the last that was drawn
abbrev pub node_answer : ℕ → Result ℕ DomainError
node_answer last = if spent last then Err NumbersSpent else Ok (last + 1)

-- a node's number was drawn after some last one, of which nothing more is known
abbrev pub DrawsSomewhere : Result ℕ DomainError → Type 0
DrawsSomewhere result = (last : ℕ) × Answers result OutOfMemory (node_answer last) × Refuses result (node_answer last)

-- what makes or opens a board: the node that asks, and the board's name
pub record BuilderSeen : Type 0 where
  pub node : ℕ
  pub name : List ℕ

-- what makes a board: the node that asks, the name, the limits, and the entries so far
pub record CreatorSeen : Type 0 where
  pub node : ℕ
  pub name : List ℕ
  pub limits : NewLimits
  pub entries : List Added

-- what opens a board: the node that asks, the name, and the limits that the board is to have at least
pub record OpenerSeen : Type 0 where
  pub node : ℕ
  pub name : List ℕ
  pub limits : Limits

-- a factory: its thing and its board's number, the board's name, and what is fixed of the board
pub record FactorySeen : Type 0 where
  pub made : Made
  pub name : List ℕ
  pub config : StaticConfig
  pub attributes : List Attribute

abbrev pub factory_made : FactorySeen → Made
factory_made f = f.made

-- so many readers are asked for
abbrev pub with_readers : Limits → ℕ → Limits
with_readers l n = record l { max_readers = Some n }

-- so many nodes are asked for
abbrev pub with_nodes : Limits → ℕ → Limits
with_nodes l n = record l { max_nodes = Some n }

-- nothing is told of a new board's limits
abbrev pub no_new_limits : NewLimits
no_new_limits = record { shared = no_limits; max_writers = None }

-- a new board is to allow so many readers
abbrev pub allowing_readers : NewLimits → ℕ → NewLimits
allowing_readers l n = record l { shared = with_readers l.shared n }

-- a new board is to allow so many nodes
abbrev pub allowing_nodes : NewLimits → ℕ → NewLimits
allowing_nodes l n = record l { shared = with_nodes l.shared n }

-- a new board is to allow so many writers
abbrev pub allowing_writers : NewLimits → ℕ → NewLimits
allowing_writers l n = record l { max_writers = Some n }

-- what makes a board of which nothing more was told
abbrev pub new_creator : ℕ → List ℕ → CreatorSeen
new_creator node name = record { node = node; name = name; limits = no_new_limits; entries = [] }

-- nothing is required of a board's attributes
abbrev pub no_requirements : Requirements
no_requirements = record { pairs = []; keys = [] }

-- ---- entries

-- the same creator with one entry more
abbrev pub AddsEntry : CreatorSeen → CreatorSeen → (Added → Type 0) → Type 0
AddsEntry old new IsIt = (a : Added) × IsIt a × (new ≡ record old { entries = old.entries ++ a ∷ [] })
