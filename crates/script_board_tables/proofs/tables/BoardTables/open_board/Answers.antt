use Rattle.std.proofs.Common.{◌≡◌, Option, None, rules, sym}
use Rattle.std.specs.Str.{bytes_eq}
use Rattle.board_names.specs.declared.errors.boards.BlackboardOpenError.{BlackboardOpenError}
use Rattle.board_model.specs.declared.tables.Board.{Board}
use Rattle.board_model.specs.TableCalls.{first_of, number_of, open_refusals}
use Rattle.board_model.specs.Tables.{board_named}
use Rattle.board_model.specs.TypeTable.{key_detail}
use Rattle.script_board_tables.specs.Tables.{tables_of}
use Rattle.script_board_tables.proofs.AskLemmas.{opened}
use Rattle.script_board_tables.proofs.tables.BoardTables.open_board.Goals as goal

abbrev no_error : Option BlackboardOpenError
no_error = None

pub returns-in_ok-hold-in-None : goal.returns-in_ok-hold-in-None
returns-in_ok-hold-in-None c =
    let t = tables_of c.args.self.now in
    let board = board_named t c.args.name.now in
    let refusal = λ (o : Option Board). first_of (open_refusals bytes_eq t.things c.args.party.now o (key_detail c.args.key_type) c.args.limits c.args.needs.now) in
    let none : no_error ≡ refusal board = search rules in
    let number : c.number_of-number.result ≡ number_of board = search rules in
    opened c.args.self.now c.hold.new.self c.args.party.now c.args.factory c.args.name.now c.args.key_type c.args.limits c.args.needs.now c.number_of-number.result number (sym none) c.in_ok-hold-in-None.ensures
