use Rattle.std.proofs.Common.{◌≡◌, ℕ, ◌∙◌, ◌≤◌, ◌<◌, length, get_or, Option, None, rules, refl}
use Rattle.std.proofs.lemmas.Option.{slice_get_past, slice_get_read}
use Rattle.board_model.specs.Replies.{keeps_key}
use Rattle.board_model.specs.Tables.{board_at, entry_from, of_type}
use Rattle.board_model.specs.TypeTable.{value_detail}
use Rattle.script_board_rows.specs.Found.{place_found}
use Rattle.script_board_tables.specs.Tables.{tables_of}
use Rattle.script_board_tables.proofs.Places.{a_board, a_place, given, not_given}
use Rattle.script_board_tables.proofs.tables.BoardTables.entry_found.Goals as goal

abbrev no_pair : Option (ℕ × ℕ)
no_pair = None

pub returns : goal.returns
returns c =
    let b = c.in_ok-board.board.now in
    let k = c.in_ok-place.place in
    let there : a_board b ≡ board_at (tables_of c.args.self.now) c.args.number = search rules in
    let placed : a_place k ≡ place_found (of_type (value_detail c.args.value_type) (entry_from 0 (keeps_key c.args.key.now) b.entries)) = search rules in
    let below : k < length b.entries = search rules in
    let read : c.in_ok-entry.entry.now ≡ get_or b.entries k c.in_ok-entry.entry.now = search rules in
    given (board_at (tables_of c.args.self.now) c.args.number) b (keeps_key c.args.key.now) (value_detail c.args.value_type) k there placed c.in_ok-entry.entry.now (slice_get_read b.entries (length b.entries) k c.in_ok-entry.entry.now refl below read)

pub returns-in_err-entry : goal.returns-in_err-entry
returns-in_err-entry c =
    let b = c.in_ok-board.board.now in
    let k = c.in_ok-place.place in
    let there : a_board b ≡ board_at (tables_of c.args.self.now) c.args.number = search rules in
    let placed : a_place k ≡ place_found (of_type (value_detail c.args.value_type) (entry_from 0 (keeps_key c.args.key.now) b.entries)) = search rules in
    let past : length b.entries ≤ k = search rules in
    let none : c.from_residual-in_err-entry.result ≡ no_pair = search rules in
    none ∙ not_given (board_at (tables_of c.args.self.now) c.args.number) b (keeps_key c.args.key.now) (value_detail c.args.value_type) k there placed (slice_get_past b.entries k past)
