-- What callers see of a loan, and what becomes of it.
use Rattle.std.specs.Prelude.{ℕ, ◌+◌, Bool, if◌then◌else◌, List, Option, Some, slice_set}
use Rattle.board_ports.specs.declared.write_core.WriteCore.{WriteCore}

-- the write handle that is out, and the words that were put, each where it goes
pub record LoanSeen : Type 0 where
  pub handle : WriteCore
  pub words : List (Option ℕ)

-- the word at this index was put
abbrev pub with_put : LoanSeen → ℕ → ℕ → LoanSeen
with_put l index word = record l { words = slice_set l.words index (Some word) }

-- the handle after one more publication
abbrev pub raised : WriteCore → WriteCore
raised h = record h { generation = h.generation + 1 }

-- the handle after its loan, which was published or not
abbrev pub handle_back : Bool → WriteCore → WriteCore
handle_back published h = if published then raised h else h
