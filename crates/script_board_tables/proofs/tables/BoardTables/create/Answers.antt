use Rattle.std.proofs.Common.{◌≡◌, ℕ, ◌+◌, List, Option, true, false, length, map, sym, ap, ◌∙◌, subst, rules}
use Rattle.std.specs.Prelude.{◌==◌, find, is_some}
use Rattle.board_model.specs.declared.answer.Reply.TheVariants as reply
use Rattle.board_model.specs.declared.tables.Entry.{Entry}
use Rattle.board_model.specs.Replies.{added_of}
use Rattle.board_model.specs.Requests as requests
use Rattle.board_model.specs.Tables.{has_equal_keys, has_name}
use Rattle.board_model.specs.TypeTable.{key_detail, same_key}
use Rattle.script_board_rows.specs.declared.new_board.Opening.{Opening}
use Rattle.script_board_rows.specs.NewBoards.{IsNewBoard, IsOpened}
use Rattle.script_board_tables.specs.NewBoards.{board_of}
use Rattle.script_board_tables.specs.Steps.{Asks}
use Rattle.script_board_tables.proofs.AskLemmas.{board_made, equal_keys, name_stands, none_added, too_large}
use Rattle.script_board_tables.proofs.tables.BoardTables.create.Goals as goal

pub returns-then-is_some : goal.returns-then-is_some
returns-then-is_some c =
    let stands : is_some (find (has_name c.args.name.now) c.args.self.now.boards.boards) ≡ true = search rules in
    name_stands c.args.self.now c.args.party.now c.args.factory c.args.name.now c.args.key_type c.args.limits c.args.attributes c.args.entries.now stands

pub returns-then-is_empty : goal.returns-then-is_empty
returns-then-is_empty c =
    let free : is_some (find (has_name c.args.name.now) c.args.self.now.boards.boards) ≡ false = search rules in
    let none : (length c.args.entries.now == 0) ≡ true = search rules in
    none_added c.args.self.now c.args.party.now c.args.factory c.args.name.now c.args.key_type c.args.limits c.args.attributes c.args.entries.now free none

pub returns-then-has_equal_keys : goal.returns-then-has_equal_keys
returns-then-has_equal_keys c =
    let free : is_some (find (has_name c.args.name.now) c.args.self.now.boards.boards) ≡ false = search rules in
    let some : (length c.args.entries.now == 0) ≡ false = search rules in
    let twice : has_equal_keys (same_key c.args.key_type) (map added_of c.args.entries.now) ≡ true = search rules in
    equal_keys c.args.self.now c.args.party.now c.args.factory c.args.name.now c.args.key_type c.args.limits c.args.attributes c.args.entries.now free some twice

pub returns-in-None : goal.returns-in-None
returns-in-None c =
    let free : is_some (find (has_name c.args.name.now) c.args.self.now.boards.boards) ≡ false = search rules in
    let some : (length c.args.entries.now == 0) ≡ false = search rules in
    too_large c.args.self.now c.args.party.now c.args.factory c.args.name.now c.args.key_type c.args.limits c.args.attributes c.args.entries.now free some
    (subst (λ (o : Option Opening). IsOpened c.args.entries.now o) c.in-None.is c.in_ok-laid.ensures)

pub returns-in_ok-make_board-in-Some : goal.returns-in_ok-make_board-in-Some
returns-in_ok-make_board-in-Some c =
    let free : is_some (find (has_name c.args.name.now) c.args.self.now.boards.boards) ≡ false = search rules in
    let some : (length c.args.entries.now == 0) ≡ false = search rules in
    let apart : has_equal_keys (same_key c.args.key_type) (map added_of c.args.entries.now) ≡ false = search rules in
    let is : IsNewBoard c.args.entries.now c.in-Some.opening = subst (λ (o : Option Opening). IsOpened c.args.entries.now o) c.in-Some.is c.in_ok-laid.ensures in
    let last : c.last-number.result ≡ c.args.self.now.boards.last = c.last-number.ensures in
    subst (λ (n : ℕ). Asks c.args.self.now c.make_board.new.self c.args.party.now (requests.table (requests.create c.args.factory c.args.name.now c.args.key_type c.args.limits c.args.attributes c.args.entries.now)) (reply.Number (n + 1))) (sym last)
    (board_made c.args.self.now c.args.party.now c.args.factory c.args.name.now c.args.key_type c.args.limits c.args.attributes c.args.entries.now free some apart is.small c.make_board.new.self c.board_of-board.result
    c.in-Some.opening.words.items c.in-Some.opening.published.items
    (c.board_of-board.ensures ∙ ap (λ (n : ℕ). board_of (n + 1) c.args.name.now (key_detail c.args.key_type) c.args.limits c.args.attributes c.in-Some.opening.entries.items) last
    ∙ ap (λ (es : List Entry). board_of (c.args.self.now.boards.last + 1) c.args.name.now (key_detail c.args.key_type) c.args.limits c.args.attributes es) is.entries)
    is.words is.published c.in_ok-make_board-in-Some.ensures)
