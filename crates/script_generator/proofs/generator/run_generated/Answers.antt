use Rattle.script_generator.proofs.SummaryCuts.{cut_off}
use Rattle.script_generator.proofs.generator.run_generated.Goals as goal

pub returns-in-Err-clause-run : goal.returns-in-Err-clause-run
returns-in-Err-clause-run g c =
    let w = c.in-Err.ensures in
    cut_off c.args.n _ _ c.in-Ok.summary c.as_bytes.result.now c.in-Ok.ensures c.as_bytes.ensures.value c.as_bytes.ensures.fits w.err w.once w.cause.later (λ room takes le. let done = w.unfailing room takes le in absurd cc)
