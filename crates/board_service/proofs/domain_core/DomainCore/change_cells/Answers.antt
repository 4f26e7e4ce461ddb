use Rattle.std.proofs.Common.{◌≡◌, ◌∙◌, Some, refl, sym, ap}
use Rattle.std.specs.Prelude.{option_map}
use Rattle.std.specs.List.{position_from}
use Rattle.std.specs.Fn.{FnOnceReturnsAtMut}
use Rattle.board_index.specs.Boards.{cells_in}
use Rattle.board_model.specs.Tables.{is_numbered}
use Rattle.board_service.specs.Domain.{Domain, cells_of, with_cells}
use Rattle.board_service.specs.Suiting.{suits_board}
use Rattle.board_service.proofs.BesideLemmas.{beside_put, put_count}
use Rattle.board_service.proofs.domain_core.DomainCore.change_cells.Goals as goal

pub invariant_of-self-2 : goal.invariant_of-self-2
invariant_of-self-2 g c =
    let s = c.self.inside.boards in
    let place = position_from (is_numbered c.args.board) 0 s.boards in
    let old = c.in-Some.cells.now in
    let new = c.change.new.arg2 in
    let gave : FnOnceReturnsAtMut g.F.FnOnce c.args.change old c.change.result new = record { shown = _; shows = refl; left = _; met = c.change.ensures; leaves = refl } in
    let had : cells_in s c.args.board ≡ Some old = sym c.cells_mut.ensures.value ∙ ap (option_map (λ x. x.now)) c.in-Some.is in
    record {
      core = record {
        cells = put_count s.cells place new ∙ c.self.invariant.core.cells;
        tables = c.self.invariant.core.tables;
        names = c.self.invariant.core.names;
        kept = c.self.invariant.core.kept;
      };
      suited = beside_put (suits_board g.C.Cells.suit) s.boards s.cells place old new had (λ b. c.requires.keeps b.entries old new c.change.result gave) c.self.invariant.suited;
    }

pub returns-clause-made : goal.returns-clause-made
returns-clause-made g c =
    let s = c.self.inside.boards in
    let old = c.in-Some.cells.now in
    let new = c.change.new.arg2 in
    let gave : FnOnceReturnsAtMut g.F.FnOnce c.args.change old c.change.result new = record { shown = _; shows = refl; left = _; met = c.change.ensures; leaves = refl } in
    let had : cells_in s c.args.board ≡ Some old = sym c.cells_mut.ensures.value ∙ ap (option_map (λ x. x.now)) c.in-Some.is in
    record {
      before = old;
      after = new;
      had = ap (λ (d : Domain g.row.C.Denot). cells_of d c.args.board) (sym c.self.view_is) ∙ had;
      gave = gave;
      left = ap (λ (d : Domain g.row.C.Denot). with_cells d c.args.board new) c.self.view_is;
    }
