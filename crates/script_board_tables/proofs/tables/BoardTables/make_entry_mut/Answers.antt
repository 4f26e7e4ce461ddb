use Rattle.std.proofs.Common.{◌≡◌, ℕ, Option, None, refl, rules}
use Rattle.std.specs.Prelude.{option_map}
use Rattle.board_model.specs.declared.answer.Reply.TheVariants as reply
use Rattle.board_names.specs.declared.errors.boards.EntryHandleMutError.TheVariants as error
use Rattle.board_model.specs.Replies.{keeps_key}
use Rattle.board_model.specs.Requests as requests
use Rattle.board_model.specs.TableCalls.{entry_mut_refusals, first_of, id_of, with_write_handle}
use Rattle.board_model.specs.Tables.{board_at, entry_found}
use Rattle.board_model.specs.TypeTable.{value_detail}
use Rattle.script_board_tables.specs.Calls.{place_and_id}
use Rattle.script_board_tables.specs.Tables.{tables_of}
use Rattle.script_board_tables.proofs.AskLemmas.{call_refused, not_found}
use Rattle.script_board_tables.proofs.tables.BoardTables.make_entry_mut.Goals as goal

abbrev no_pair : Option (ℕ × ℕ)
no_pair = None

pub returns-in-None : goal.returns-in-None
returns-in-None c =
    let t = tables_of c.args.self.now in
    let of = c.args.writer.now in
    let found = entry_found (board_at t of.board) (keeps_key c.args.key.now) (value_detail c.args.value_type) in
    let none : no_pair ≡ option_map place_and_id found = search rules in
    let f = not_found found none in
    call_refused c.args.self.now c.args.party.now (requests.table (requests.entry_mut c.args.name of c.args.key.now c.args.value_type)) reply.EntryMutError (id_of found) (with_write_handle t of c.args.name found)
    (first_of (entry_mut_refusals t.things of.board found)) error.EntryDoesNotExist refl (rw f refl) refl refl
