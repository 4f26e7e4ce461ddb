use Rattle.std.proofs.Common.{◌≡◌, ◌∙◌, Option, sym, ap, subst}
use Rattle.std.specs.Prelude.{option_map}
use Rattle.board_model.specs.Tables.{board_at, is_numbered}
use Rattle.board_service.specs.Domain.{Domain, cells_of}
use Rattle.board_service.specs.Suiting.{SuitBoard, suits_board}
use Rattle.board_service.proofs.BesideLemmas.{beside_found}
use Rattle.board_service.proofs.domain_core.DomainCore.cells.Goals as goal

pub returns-clause-suit : goal.returns-clause-suit
returns-clause-suit g c =
    let s = c.self.inside.boards in
    let now = c.args.self.now in
    let known : SuitBoard g.C.Cells.suit (board_at now.tables c.args.board) (cells_of now c.args.board) =
    subst (λ (d : Domain g.row.C.Denot). SuitBoard g.C.Cells.suit (board_at d.tables c.args.board) (cells_of d c.args.board)) c.self.view_is
    (beside_found (suits_board g.C.Cells.suit) (is_numbered c.args.board) s.boards s.cells c.self.invariant.suited) in
    let told : option_map (λ x. x.now) c.cells_at.result ≡ cells_of now c.args.board = c.cells_at.ensures.value ∙ ap (λ (d : Domain g.row.C.Denot). cells_of d c.args.board) c.self.view_is in
    subst (λ (o : Option g.row.C.Denot). SuitBoard g.C.Cells.suit (board_at now.tables c.args.board) o) (sym told) known
