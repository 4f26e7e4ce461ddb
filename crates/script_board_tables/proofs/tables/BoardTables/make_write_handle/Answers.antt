use Rattle.std.proofs.Common.{◌≡◌, true, false, refl, rules, sym}
use Rattle.std.specs.List.{list_any}
use Rattle.board_model.specs.Replies.{keeps_key}
use Rattle.board_model.specs.Requests as requests
use Rattle.board_model.specs.Tables.{board_at, entry_found, is_write_handle}
use Rattle.board_model.specs.TypeTable.{value_detail}
use Rattle.script_board_tables.specs.Tables.{tables_of}
use Rattle.script_board_tables.proofs.AskLemmas.{entry_mut_made, found_as, second_handle}
use Rattle.script_board_tables.proofs.tables.BoardTables.make_write_handle.Goals as goal

pub returns-then-has_write_handle : goal.returns-then-has_write_handle
returns-then-has_write_handle c =
    let old = c.args.self.now in
    let of = c.args.writer.now in
    let found = entry_found (board_at (tables_of old) of.board) (keeps_key c.args.key.now) (value_detail c.args.value_type) in
    let taken : list_any (is_write_handle of.board c.args.found.0) old.things ≡ true = search rules in
    second_handle old old c.args.party.now c.args.name of found c.args.found.0 c.args.found.1 (found_as found c.args.found.0 c.args.found.1 (sym c.requires))
    (requests.table (requests.entry_mut c.args.name of c.args.key.now c.args.value_type)) refl taken refl refl

pub returns : goal.returns
returns c =
    let old = c.args.self.now in
    let of = c.args.writer.now in
    let found = entry_found (board_at (tables_of old) of.board) (keeps_key c.args.key.now) (value_detail c.args.value_type) in
    let free : list_any (is_write_handle of.board c.args.found.0) old.things ≡ false = search rules in
    entry_mut_made old c.hold.new.self c.args.party.now c.args.name of found c.args.found.0 c.args.found.1 (found_as found c.args.found.0 c.args.found.1 (sym c.requires))
    (requests.table (requests.entry_mut c.args.name of c.args.key.now c.args.value_type)) refl refl refl free c.port.result c.port.ensures c.in_ok-hold.ensures
