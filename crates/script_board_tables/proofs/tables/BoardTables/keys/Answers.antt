use Rattle.std.proofs.Common.{◌≡◌, Option, Some, map, ◌∙◌, rules}
use Rattle.std.specs.Prelude.{find}
use Rattle.board_model.specs.declared.tables.Board.{Board}
use Rattle.board_model.specs.Tables.{is_numbered}
use Rattle.board_model.specs.TypeTable.{key_shown, key_type_of}
use Rattle.script_board_tables.proofs.Shown.{board_shown}
use Rattle.script_board_tables.proofs.tables.BoardTables.keys.Goals as goal

abbrev a_board : Board → Option Board
a_board b = Some b

pub returns-in_ok-keys-in-Some : goal.returns-in_ok-keys-in-Some
returns-in_ok-keys-in-Some c =
    let found : find (is_numbered c.args.number) c.args.self.now.boards.boards ≡ a_board c.in-Some.board.now = search rules in
    let listed : c.in_ok-keys-in-Some.keys ≡ map (key_shown (key_type_of c.in-Some.board.now.key)) c.in-Some.board.now.entries = search rules in
    listed ∙ board_shown c.args.number c.args.self.now.boards.boards c.in-Some.board.now c.requires.formed found
