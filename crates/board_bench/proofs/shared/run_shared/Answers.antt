use Rattle.std.proofs.Common.{rules, ◌∙◌}
use Rattle.board_bench.proofs.Reading.{have_read_all}
use Rattle.board_bench.proofs.shared.run_shared.Goals as goal

pub returns-clause-seen : goal.returns-clause-seen
returns-clause-seen g c =
    have_read_all _ c.args.width c.args.updates _ _ (search rules) (c.gather.ensures.kept.1 ∙ c.in_ok-passes.ensures.passes) c.race-writer.ensures.kept c.race-writer.ensures.seen
