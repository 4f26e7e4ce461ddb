use Rattle.std.proofs.Common.{ℕ, ap}
use Rattle.std.specs.Prelude.{◌==◌}
use Rattle.board_model.specs.declared.answer.Reply.TheVariants as reply
use Rattle.script_board_tables.proofs.StepLemmas.{looks}
use Rattle.script_board_tables.proofs.tables.BoardTables.step_fresh.Goals as goal

pub returns : goal.returns
returns c = looks c.args.self.now c.args.party.now c.args.look.now c.read-value.result _ c.read-value.ensures (ap (λ (n : ℕ). reply.Fresh (c.args.look.now.generation == n)) c.generation.ensures)
