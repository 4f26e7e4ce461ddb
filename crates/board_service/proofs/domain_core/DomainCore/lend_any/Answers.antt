use Rattle.std.proofs.Common.{◌∙◌}
use Rattle.std.specs.List.{position_from}
use Rattle.board_model.specs.Tables.{is_numbered}
use Rattle.board_service.specs.Domain.{set_at}
use Rattle.board_service.specs.Suiting.{suits_board}
use Rattle.board_service.proofs.BesideLemmas.{beside_any, put_count}
use Rattle.board_service.proofs.domain_core.DomainCore.lend_any.Goals as goal

pub invariant_of-self-lent : goal.invariant_of-self-lent
invariant_of-self-lent g c = λ lent. (
  λ w.
      let s = c.self.inside.boards in
      let place = position_from (is_numbered c.args.board) 0 s.boards in
      record {
        core = record {
          cells = put_count s.cells place w ∙ c.self.invariant.core.cells;
          tables = c.self.invariant.core.tables;
          names = c.self.invariant.core.names;
          kept = c.self.invariant.core.kept;
        };
        suited = beside_any (suits_board g.C.Cells.suit) (λ b x. c.requires b.entries x) s.boards (set_at s.cells place w);
      },
  c.self.invariant,
)
