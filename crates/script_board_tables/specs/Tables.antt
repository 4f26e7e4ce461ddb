-- What of the definitions' state a checker's tables of boards have.
use Rattle.std.specs.Prelude.{◌≡◌, ℕ, ◌==◌, if◌then◌else◌, nat_eq, List, [], slice_get, Option, Some, None, option_map}
use Rattle.std.specs.HashMap.{get}
use Rattle.std.specs.Global.{Vec}
use Rattle.board_model.specs.Tables.{Tables}
use Rattle.board_model.specs.Things.{Kept, Standing}
use Rattle.board_model.specs.Requests.{Published}
use Rattle.script_board_tables.specs.declared.tables.BoardTables.{BoardTables}
use Rattle.script_board_tables.specs.declared.tables.BoardRow.{BoardRow}
use Rattle.script_board_tables.specs.declared.tables.KeptValue.{KeptValue}
pub use Rattle.script_seats.specs.Seats.{SeatOf, same_seat}

-- the boards and things
abbrev pub tables_of : BoardTables → Tables (List ℕ) (List ℕ)
tables_of t = record { boards = t.boards.boards; things = t.things; last_board = t.boards.last; last_port = t.last_port }

-- the words of a loan
abbrev pub loan_at : BoardTables → List ℕ → List ℕ → Option (List (Option ℕ))
loan_at t party name = get same_seat t.loans (record { party = party; name = name })

-- a kept value as the definitions see it
abbrev pub kept_in : KeptValue → Kept
kept_in v = record { type = v.value_type; words = v.words; generation = v.generation }

-- a value that was kept
abbrev pub kept_at : BoardTables → List ℕ → List ℕ → Option Kept
kept_at t party name = option_map kept_in (get same_seat t.values (record { party = party; name = name }))

-- what parties hold
abbrev pub standing_of : BoardTables → Standing
standing_of t = record { tables = tables_of t; loans = loan_at t; values = kept_at t }

-- the words of a row, if there is one
abbrev pub words_in : Option BoardRow → List ℕ
words_in None = []
words_in (Some row) = row.words.items

-- the words of each board number
abbrev pub memory_of : BoardTables → ℕ → List ℕ
memory_of t n = words_in (get nat_eq t.rows n)

-- a list, if there is one
abbrev pub list_in : Option (Vec (List ℕ)) → List (List ℕ)
list_in None = []
list_in (Some v) = v.items

-- the list of an entry of a row, if there is one
abbrev pub lists_in : Option BoardRow → ℕ → List (List ℕ)
lists_in None i = []
lists_in (Some row) i = list_in (slice_get row.published.items i)

-- all values that were published
abbrev pub published_of : BoardTables → Published
published_of t n i = lists_in (get nat_eq t.rows n) i

-- the lists of a board number are these, and the others stay as they are
abbrev pub with_lists : Published → ℕ → List (Vec (List ℕ)) → Published
with_lists lists number published n i = if n == number then list_in (slice_get published i) else lists n i

-- the tables have these things, words and lists
pub record Has (t : BoardTables) (s : Standing) (m : ℕ → List ℕ) (p : Published) : Type 0 where
  pub standing : standing_of t ≡ s
  pub memory : memory_of t ≡ m
  pub lists : published_of t ≡ p
