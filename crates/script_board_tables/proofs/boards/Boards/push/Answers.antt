use Rattle.std.proofs.Common.{◌≡◌, ◌<◌, ◌++◌, ◌∷◌, [], List, cond, length, Option, Some, None, rules, sym, ap, subst, ◌∙◌}
use Rattle.std.specs.Prelude.{ℕ, find, nat_eq}
use Rattle.std.specs.HashMap.{get}
use Rattle.std.specs.Str.{bytes_eq}
use Rattle.board_model.specs.declared.tables.Board.{Board}
use Rattle.board_model.specs.Tables.{has_name}
use Rattle.script_things.specs.Places.{standing}
use Rattle.script_board_tables.specs.Boards.{AreIndexed, Numbered}
use Rattle.script_things.proofs.PlaceLemmas.{standing_pushed}
use Rattle.script_board_tables.proofs.BoardLemmas.{indexes_pushed, indexes_same}
use Rattle.script_board_tables.proofs.boards.Boards.push.Goals as goal

abbrev no_board : Option Board
no_board = None

pub invariant_of-self-in_err-make_room : goal.invariant_of-self-in_err-make_room
invariant_of-self-in_err-make_room c =
    let kept = indexes_same c.self.inside.numbers c.make_room.new.numbers c.self.inside.names c.make_room.new.names c.self.inside.last c.self.inside.places.items c.self.invariant c.make_room.ensures.numbers c.make_room.ensures.names in
    subst (AreIndexed c.make_room.new.numbers c.make_room.new.names c.self.inside.last) (sym c.reserve.ensures.items) kept

pub invariant_of-self-2 : goal.invariant_of-self-2
invariant_of-self-2 c =
    let places = c.self.inside.places.items in
    let board = c.args.board in
    let items : c.push_reserved.new.self.items ≡ places ++ Some board ∷ [] = c.push_reserved.ensures.items ∙ ap (λ (os : List (Option Board)). os ++ Some board ∷ []) c.reserve.ensures.items in
    let longer : length c.reserve.new.self.items ≡ length places = ap (λ (os : List (Option Board)). length os) c.reserve.ensures.items in
    let place : c.len-place.result ≡ length places = search (rules, longer) in
    let higher : c.self.inside.last < board.number = subst (λ (n : Numbered). n.last < board.number) (sym c.self.view_is) c.requires.above in
    let free : find (has_name board.name) (standing places) ≡ no_board = ap (λ (n : Numbered). find (has_name board.name) n.boards) c.self.view_is ∙ c.requires.free in
    let kept = indexes_pushed c.self.inside.numbers c.insert.new.self c.self.inside.names c.insert-2.new.self c.self.inside.last places c.self.invariant board higher free
    (λ n. c.in-Ok.ensures.updates.0 n ∙ ap (λ (k : ℕ). cond (nat_eq board.number n) (Some k) (get nat_eq c.make_room.new.numbers n)) place
    ∙ ap (λ (o : Option ℕ). cond (nat_eq board.number n) (Some (length places)) o) (c.make_room.ensures.numbers n))
    (λ t. c.in-Ok-insert.ensures.updates.0 t ∙ ap (λ (k : ℕ). cond (bytes_eq board.name t) (Some k) (get bytes_eq c.make_room.new.names t)) place
    ∙ ap (λ (o : Option ℕ). cond (bytes_eq board.name t) (Some (length places)) o) (c.make_room.ensures.names t)) in
    subst (AreIndexed c.insert.new.self c.insert-2.new.self board.number) (sym items) kept

pub returns-clause-boards : goal.returns-clause-boards
returns-clause-boards c =
    let places = c.self.inside.places.items in
    let board = c.args.board in
    let items : c.push_reserved.new.self.items ≡ places ++ Some board ∷ [] = c.push_reserved.ensures.items ∙ ap (λ (os : List (Option Board)). os ++ Some board ∷ []) c.reserve.ensures.items in
    ap (λ (os : List (Option Board)). standing os) items ∙ standing_pushed places board ∙ ap (λ (n : Numbered). n.boards ++ board ∷ []) c.self.view_is
