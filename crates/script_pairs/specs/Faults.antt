-- How the faults of a source are told.
use Rattle.std.specs.Prelude.{◌≢◌, Result, Err, IsErrOf}
use Rattle.script_loop.specs.Runs.{CountStays, CountsOn, HasFailed, HasFailedOnce, Stream}
use Rattle.script_pairs.specs.declared.verdict.CheckError.{CheckError}
use Rattle.script_pairs.specs.declared.verdict.CheckError.TheVariants.{ReadFault}

-- how a source was read; `never_fails` is that no read of it fails, and `never_fails_before_end` that none does till one has told the end
pub record TellsFaults {T : Type 0} (source : Stream) (never_fails never_fails_before_end : Type 0) (result : Result T CheckError) : Type 0 where
  -- it fails to read only where the source's count of faults rises, by one: a failed read isn't tried once more
  pub cause : IsErrOf result ReadFault → HasFailed source
  pub once : IsErrOf result ReadFault → HasFailedOnce source
  -- a fault is told: with any other answer the count stays
  pub told : result ≢ Err ReadFault → CountStays source
  pub later : CountsOn source
  pub reads : never_fails → result ≢ Err ReadFault
  -- the source isn't read behind its end: one whose reads may fail only there doesn't fail here
  pub before_end : never_fails_before_end → result ≢ Err ReadFault
