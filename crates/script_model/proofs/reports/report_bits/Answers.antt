use Rattle.script_model.proofs.ReportLemmas.{anyway, reported_more, some_ids}
use Rattle.script_model.proofs.reports.report_bits.Goals as goal

pub loop-i-preserved : goal.loop-i-preserved
loop-i-preserved c = reported_more c.args.bits c.args.base c.loop-i.i c.args.told.now.items c.loop-i.told.items c.report_bit.new.told.items c.loop-i.invariant c.in_ok-report_bit.ensures.ok

pub returns-in_err-report_bit-clause-memory : goal.returns-in_err-report_bit-clause-memory
returns-in_err-report_bit-clause-memory c = anyway c.from_residual.result _ (some_ids c.args.bits c.args.base c.loop-i.i c.args.count c.loop-i-test.true c.in_err-report_bit.ensures.memory)
