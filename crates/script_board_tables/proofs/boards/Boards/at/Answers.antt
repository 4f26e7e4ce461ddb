use Rattle.std.proofs.Common.{List, Option, rules, sym, ap, subst, ◌∙◌}
use Rattle.std.specs.Prelude.{find, option_copied, slice_get}
use Rattle.board_model.specs.declared.tables.Board.{Board}
use Rattle.board_model.specs.Tables.{is_numbered}
use Rattle.script_board_tables.specs.Boards.{Numbered}
use Rattle.script_things.specs.Places.{IsPlace}
use Rattle.script_things.proofs.PlaceLemmas.{first_of_only, inside, none_found}
use Rattle.script_board_tables.proofs.BoardPlaces.{found_get}
use Rattle.script_board_tables.proofs.boards.Boards.at.Goals as goal

pub board_in-requires : goal.board_in-requires
board_in-requires c =
    let places = c.self.inside.places.items in
    let only = subst (IsPlace (is_numbered c.args.number) places) (sym c.get.ensures.value ∙ ap option_copied c.in-Some.is) (c.self.invariant.numbered c.args.number) in
    let low = inside (is_numbered c.args.number) places c.in-Some.place.now (first_of_only (is_numbered c.args.number) places c.in-Some.place.now only) in
    search (rules, low)

pub returns-in-Some : goal.returns-in-Some
returns-in-Some c =
    let places = c.self.inside.places.items in
    let only = subst (IsPlace (is_numbered c.args.number) places) (sym c.get.ensures.value ∙ ap option_copied c.in-Some.is) (c.self.invariant.numbered c.args.number) in
    let got = ap (λ (os : List (Option Board)). slice_get os c.in-Some.place.now) (sym c.deref.ensures.value) ∙ c.board_in.ensures in
    let found = found_get (is_numbered c.args.number) places c.in-Some.place.now _ (first_of_only (is_numbered c.args.number) places c.in-Some.place.now only) got in
    sym found ∙ ap (λ (n : Numbered). find (is_numbered c.args.number) n.boards) c.self.view_is

pub returns-in-None : goal.returns-in-None
returns-in-None c =
    let places = c.self.inside.places.items in
    let nowhere = subst (IsPlace (is_numbered c.args.number) places) (sym c.get.ensures.value ∙ ap option_copied c.in-None.is) (c.self.invariant.numbered c.args.number) in
    sym (none_found (is_numbered c.args.number) places nowhere) ∙ ap (λ (n : Numbered). find (is_numbered c.args.number) n.boards) c.self.view_is
