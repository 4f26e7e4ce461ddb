-- Entries and their counters.
use Rattle.std.specs.Prelude.{◌≡◌, ℕ, Some}
use Rattle.board_model.specs.declared.tables.Entry.{Entry}
use Rattle.board_model.specs.Tables.{entry_at}
use Rattle.script_boards.specs.Machine.{tables_of}
use Rattle.script_machine.specs.declared.machine.Machine.{Machine}

-- the entry stands
abbrev pub EntryStands : {C : Type 0} → Machine C → ℕ → ℕ → Type 0
EntryStands m board i = (e : Entry) × (entry_at (tables_of m.boards) board i ≡ Some e)
