use Rattle.std.proofs.Common.{◌≡◌, ℕ, Option, Some, None, refl, rules}
use Rattle.std.specs.Prelude.{option_map}
use Rattle.board_model.specs.declared.answer.Reply.TheVariants as reply
use Rattle.board_names.specs.declared.errors.boards.EntryHandleError.TheVariants as error
use Rattle.board_model.specs.Replies.{keeps_key}
use Rattle.board_model.specs.Requests as requests
use Rattle.board_model.specs.TableCalls.{entry_refusals, first_of, id_of, with_read_handle}
use Rattle.board_model.specs.Tables.{board_at, entry_found}
use Rattle.board_model.specs.TypeTable.{value_detail}
use Rattle.script_board_tables.specs.Calls.{place_and_id}
use Rattle.script_board_tables.specs.Tables.{tables_of}
use Rattle.script_board_tables.proofs.AskLemmas.{call_refused, entry_made, found_as, not_found}
use Rattle.script_board_tables.proofs.tables.BoardTables.make_entry.Goals as goal

abbrev no_pair : Option (ℕ × ℕ)
no_pair = None

abbrev a_pair : ℕ × ℕ → Option (ℕ × ℕ)
a_pair p = Some p

pub returns-in-None : goal.returns-in-None
returns-in-None c =
    let t = tables_of c.args.self.now in
    let of = c.args.reader.now in
    let found = entry_found (board_at t of.board) (keeps_key c.args.key.now) (value_detail c.args.value_type) in
    let none : no_pair ≡ option_map place_and_id found = search rules in
    let f = not_found found none in
    call_refused c.args.self.now c.args.party.now (requests.table (requests.entry c.args.name of c.args.key.now c.args.value_type)) reply.EntryError (id_of found) (with_read_handle t of c.args.name found) (first_of (entry_refusals found))
    error.EntryDoesNotExist refl (rw f refl) refl refl

pub returns-in_ok-hold-in-Some : goal.returns-in_ok-hold-in-Some
returns-in_ok-hold-in-Some c =
    let t = tables_of c.args.self.now in
    let of = c.args.reader.now in
    let found = entry_found (board_at t of.board) (keeps_key c.args.key.now) (value_detail c.args.value_type) in
    let some : a_pair c.in-Some.found ≡ option_map place_and_id found = search rules in
    entry_made c.args.self.now c.hold.new.self c.args.party.now c.args.name of found c.in-Some.found.0 c.in-Some.found.1 (found_as found c.in-Some.found.0 c.in-Some.found.1 some)
    (requests.table (requests.entry c.args.name of c.args.key.now c.args.value_type)) refl refl refl c.in_ok-hold-in-Some.ensures
