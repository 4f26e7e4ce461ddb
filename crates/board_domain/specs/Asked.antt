-- What a factory tells of its board, by what was asked for alone.
use Rattle.std.specs.Prelude.{◌≡◌, ◌≤◌, ℕ, true, List, Option, IfSome}
use Rattle.board_layout.specs.declared.type_detail.TypeDetail.{TypeDetail}
use Rattle.board_model.specs.declared.attributes.Attribute.{Attribute}
use Rattle.board_model.specs.declared.attributes.Requirements.{Requirements}
use Rattle.board_model.specs.declared.tables.Limits.{Limits}
use Rattle.board_model.specs.declared.tables.NewLimits.{NewLimits}
use Rattle.board_model.specs.Tables.{limit_of, meets}
use Rattle.board_service.specs.declared.told.StaticConfig.{StaticConfig}

-- what is fixed of a board that is made with keys of this type, these limits and so many entries
abbrev pub config_asked : TypeDetail → NewLimits → ℕ → StaticConfig
config_asked keys limits entries = record {
  type_details = keys;
  max_readers = limit_of 8 limits.shared.max_readers;
  max_nodes = limit_of 20 limits.shared.max_nodes;
  max_writers = limit_of 1 limits.max_writers;
  entries = entries;
}

-- a limit is none below the one that was asked for
abbrev pub IsNoLess : Option ℕ → ℕ → Type 0
IsNoLess asked limit = IfSome asked (λ n. n ≤ limit)

-- a board that was opened is as was asked: its keys are of this type, its limits none below those that were asked for, and its attributes meet what is needed
pub record IsAsAsked (keys : TypeDetail) (limits : Limits) (needs : Requirements) (config : StaticConfig) (attributes : List Attribute) : Type 0 where
  pub keyed : config.type_details ≡ keys
  pub readers : IsNoLess limits.max_readers config.max_readers
  pub nodes : IsNoLess limits.max_nodes config.max_nodes
  pub met : meets needs attributes ≡ true
