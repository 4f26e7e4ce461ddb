-- What is shown of a domain, and what a key and a new name are to it.
use Rattle.std.specs.Prelude.{◌≡◌, true, ℕ, List, Option}
use Rattle.board_model.specs.declared.answer.Info.{Info}
use Rattle.board_model.specs.declared.value.Key.{Key}
use Rattle.board_model.specs.LawfulSession.{is_typed_key}
use Rattle.board_model.specs.Replies.{id_number, info_of}
use Rattle.board_model.specs.Tables.{Tables, board_at}
use Rattle.board_model.specs.Things.{Held, thing_of, with_name}
use Rattle.script_parties.specs.declared.lookups.FoundThing.{FoundThing}
use Rattle.script_parties.specs.Overview.{standing_with}
use Rattle.script_parties.specs.Parties.{Parties}

-- the tables of numbers, with things that have names in place of those that have numbers
abbrev pub named_tables : Tables ℕ ℕ → List Held → Tables (List ℕ) (List ℕ)
named_tables t things = record { boards = t.boards; things = things; last_board = t.last_board; last_port = t.last_port }

-- the thing that a party holds under a name
abbrev pub party_thing : Parties → List ℕ → List ℕ → Option Held
party_thing p party name = thing_of p.tables.things party name

-- what is found of a thing: its board and its kind
abbrev pub found_of : Held → FoundThing
found_of x = record { board = x.board; kind = x.kind }

-- the key is of the type of the keys of the thing's board
abbrev pub HasKeyType : Parties → Held → Key → Type 0
HasKeyType p x k = is_typed_key (board_at p.tables x.board) k ≡ true

-- a party's thing has another name
abbrev pub renamed : Parties → List ℕ → List ℕ → List ℕ → Parties
renamed p party old new = record p { tables = with_name p.tables party old new }

-- what is told of a board
abbrev pub info_shown : Parties → ℕ → Info
info_shown p board = info_of p.tables.things (board_at p.tables board)

-- the port number of a reader or writer, the entry id of a handle
abbrev pub id_shown : Parties → Held → ℕ
id_shown p x = id_number (standing_with p.tables) x x.kind
