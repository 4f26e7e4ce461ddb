use Rattle.std.proofs.Common.{◌≡◌, true, false, get_or, Option, Some, None, rules, sym, ap, subst, ◌∙◌}
use Rattle.std.specs.Prelude.{slice_set}
use Rattle.board_model.specs.declared.tables.Board.{Board}
use Rattle.board_model.specs.Tables.{holds_at, is_numbered, without_first}
use Rattle.script_things.specs.Places.{IsPlace, standing}
use Rattle.script_board_tables.specs.Boards.{AreIndexed, Numbered}
use Rattle.script_things.proofs.PlaceLemmas.{first_of_only, inside, none_without, passes_at, without_at}
use Rattle.script_board_tables.proofs.BoardLemmas.{indexes_taken}
use Rattle.script_board_tables.proofs.boards.Boards.take.Goals as goal

abbrev a_board : Board → Option Board
a_board b = Some b

abbrev no_board : Option Board
no_board = None

pub returns-in_default-clause-boards : goal.returns-in_default-clause-boards
returns-in_default-clause-boards c =
    let test = is_numbered c.args.number in
    let places = c.self.inside.places.items in
    let nowhere = subst (IsPlace test places) (sym c.remove.ensures.value ∙ c.in_default.is) (c.self.invariant.numbered c.args.number) in
    sym (none_without test places nowhere) ∙ ap (λ (n : Numbered). without_first test n.boards) c.self.view_is

pub index_mut-requires : goal.index_mut-requires
index_mut-requires c =
    let test = is_numbered c.args.number in
    let places = c.self.inside.places.items in
    let only = subst (IsPlace test places) (sym c.remove.ensures.value ∙ c.in-Some.is) (c.self.invariant.numbered c.args.number) in
    let low = inside test places c.in-Some.place (first_of_only test places c.in-Some.place only) in
    search (rules, low)

pub unreachable-requires : goal.unreachable-requires
unreachable-requires c =
    let test = is_numbered c.args.number in
    let places = c.self.inside.places.items in
    let only = subst (IsPlace test places) (sym c.remove.ensures.value ∙ c.in-Some.is) (c.self.invariant.numbered c.args.number) in
    let holds = passes_at test places c.in-Some.place (first_of_only test places c.in-Some.place only) c.index_mut.result.now in
    let is : get_or places c.in-Some.place c.index_mut.result.now ≡ no_board = sym c.index_mut.ensures.value ∙ sym c.take.ensures.value ∙ c.in_default-take.is in
    let both : true ≡ false = sym holds ∙ ap (λ (o : Option Board). holds_at o test) is in
    cc

pub invariant_of-self-2 : goal.invariant_of-self-2
invariant_of-self-2 c =
    let test = is_numbered c.args.number in
    let places = c.self.inside.places.items in
    let only = subst (IsPlace test places) (sym c.remove.ensures.value ∙ c.in-Some.is) (c.self.invariant.numbered c.args.number) in
    let stands : get_or places c.in-Some.place c.index_mut.result.now ≡ a_board c.in-Some-take.gone = sym c.index_mut.ensures.value ∙ sym c.take.ensures.value ∙ c.in-Some-take.is in
    let kept = indexes_taken c.self.inside.numbers c.remove.new.self c.self.inside.names c.remove-2.new.self c.self.inside.last places c.self.invariant c.args.number c.in-Some.place c.in-Some-take.gone c.index_mut.result.now
    only stands c.remove.ensures.updates.0 c.remove-2.ensures.updates.0 in
    subst (λ (o : Option Board). AreIndexed c.remove.new.self c.remove-2.new.self c.self.inside.last (slice_set places c.in-Some.place o)) (sym c.take.ensures.after) kept

pub returns-clause-boards : goal.returns-clause-boards
returns-clause-boards c =
    let test = is_numbered c.args.number in
    let places = c.self.inside.places.items in
    let only = subst (IsPlace test places) (sym c.remove.ensures.value ∙ c.in-Some.is) (c.self.invariant.numbered c.args.number) in
    ap (λ (o : Option Board). standing (slice_set places c.in-Some.place o)) c.take.ensures.after
    ∙ without_at test places c.in-Some.place (first_of_only test places c.in-Some.place only)
    ∙ ap (λ (n : Numbered). without_first test n.boards) c.self.view_is
