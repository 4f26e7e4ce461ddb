-- What the lent forms of creators, openers and factories answer over a domain's tables, and how they leave them.
use Rattle.std.specs.Prelude.{◌≡◌, ℕ, Bool, if◌then◌else◌, List, [], Option, Some, None, option_map, Result, IfOk}
use Rattle.board_layout.specs.Answer.{Answers, Refuses, with_value}
use Rattle.board_layout.specs.declared.type_detail.TypeDetail.{TypeDetail}
use Rattle.board_model.specs.declared.attributes.Attribute.{Attribute}
use Rattle.board_model.specs.declared.tables.Entry.{Entry}
use Rattle.board_model.specs.declared.tables.NewLimits.{NewLimits}
use Rattle.board_model.specs.declared.tables.ThingKind.TheVariants.{Factory}
use Rattle.board_model.specs.Tables.{Added, board_at}
use Rattle.board_model.specs.declared.attributes.Requirements.{Requirements}
use Rattle.board_names.specs.declared.errors.boards.BlackboardCreateError.{BlackboardCreateError}
use Rattle.board_names.specs.declared.errors.boards.BlackboardCreateError.TheVariants as create_error
use Rattle.board_names.specs.declared.errors.boards.BlackboardOpenError.{BlackboardOpenError}
use Rattle.board_names.specs.declared.errors.boards.BlackboardOpenError.TheVariants as open_error
use Rattle.board_service.specs.declared.made.Made.{Made}
use Rattle.board_domain.specs.Services.{CreatorSeen, OpenerSeen, FactorySeen, factory_made}
use Rattle.board_service.specs.Domain as calls
use Rattle.board_service.specs.Domain.{stands_as, held, after_create, after_open}
use Rattle.board_service.specs.declared.told.DynamicConfig.{DynamicConfig}
use Rattle.board_service.specs.Facts.{IsDomain}
use Rattle.board_service.specs.Told.{use_in}
use Rattle.board_cells.specs.Cells.{PlaceSeen, AreNew}
use Rattle.board_domain.specs.Walks.{nodes_in, keys_in}
use Rattle.board_handles.specs.BoardEnds.{Core}
use Rattle.board_domain.specs.Factories.{KeepsBoard}

-- ---- create

-- a board that is asked for
pub record NewBoard : Type 0 where
  pub node : ℕ
  pub name : List ℕ
  pub keys : TypeDetail
  pub limits : NewLimits
  pub attributes : List Attribute
  pub entries : List Added

abbrev pub new_board : ℕ → List ℕ → TypeDetail → NewLimits → List Attribute → List Added → NewBoard
new_board node name keys limits attributes entries =
    record { node = node; name = name; keys = keys; limits = limits; attributes = attributes; entries = entries }

-- the board that a creator asks for, with keys of this type and these attributes
abbrev pub asked_board : CreatorSeen → TypeDetail → List Attribute → NewBoard
asked_board c keys attributes = new_board c.node c.name keys c.limits attributes c.entries

-- the board was made, and each of its entries has a new cell, whose write end is parked
abbrev pub IsMade : NewBoard → Core → Core → Type 0
IsMade b old new =
    (cells : List PlaceSeen) × AreNew b.entries cells
    × (new ≡ after_create old b.node b.name b.keys b.limits b.attributes b.entries cells)

-- the factory tells what is fixed of the board that such a `create` makes
abbrev pub TellsMade : NewBoard → Core → FactorySeen → Type 0
TellsMade b old f = (new : Core) × IsMade b old new × KeepsBoard new f

-- a typed `create` gives what one over the tables of some domain gives, of which nothing more is known; what it leaves there isn't said
abbrev pub CreatesSomewhere : Result FactorySeen BlackboardCreateError → (List ℕ → List ℕ → Bool) → NewBoard → Type 0
CreatesSomewhere result same_key b =
    (old : Core) × IsDomain old
    × Answers (with_value factory_made result) create_error.OutOfMemory (calls.create_answer old same_key b.name b.entries)
    × Refuses (with_value factory_made result) (calls.create_answer old same_key b.name b.entries)
    × IfOk result (TellsMade b old)

-- ---- open

-- what the opening of a board answers: the factory's thing, and the board's number
abbrev pub open_answer : Core → TypeDetail → OpenerSeen → Requirements → Result Made BlackboardOpenError
open_answer d keys o needs = calls.open_answer d o.node o.name keys o.limits needs

-- the factory tells what is fixed of the board that such an `open` finds
abbrev pub TellsOpened : ℕ → List ℕ → Core → FactorySeen → Type 0
TellsOpened node name old f = (new : Core) × (new ≡ after_open old node name) × KeepsBoard new f

-- a typed `open` gives what one over the tables of some domain gives, of which nothing more is known; what it leaves there isn't said
abbrev pub OpensSomewhere : Result FactorySeen BlackboardOpenError → OpenerSeen → TypeDetail → Requirements → Type 0
OpensSomewhere result o keys needs =
    (old : Core) × IsDomain old
    × Answers (with_value factory_made result) open_error.OutOfMemory (open_answer old keys o needs)
    × Refuses (with_value factory_made result) (open_answer old keys o needs)
    × IfOk result (TellsOpened o.node o.name old)

-- ---- what is told of a board

-- nothing is taken
abbrev pub none_taken : DynamicConfig
none_taken = record { readers = 0; writers = 0; nodes = 0 }

abbrev pub or_none_taken : Option DynamicConfig → DynamicConfig
or_none_taken None = none_taken
or_none_taken (Some taken) = taken

-- how much is taken of the board of a factory, and nothing where that isn't held
abbrev pub taken_of : Core → TypeDetail → ℕ → DynamicConfig
taken_of d keys factory =
    if stands_as d keys factory Factory
    then or_none_taken (option_map (use_in d.tables.things) (board_at d.tables (held d factory).board)) else none_taken

-- the nodes with things of the board of a factory, ascending, and none where that isn't held
abbrev pub nodes_of : Core → TypeDetail → ℕ → List ℕ
nodes_of d keys factory =
    if stands_as d keys factory Factory then nodes_in d.tables.things (board_at d.tables (held d factory).board) else []

-- the keys of the board of a factory, and none where that isn't held
abbrev pub keys_of : {K : Type 0} → (Entry → K) → Core → TypeDetail → ℕ → List K
keys_of of d keys factory =
    if stands_as d keys factory Factory then keys_in of (board_at d.tables (held d factory).board) else []
