use Rattle.std.proofs.Common.{rules, ◌≡◌, ap, Err}
use Rattle.board_files.specs.Memory.{counts_of}
use Rattle.board_files.specs.declared.files.FilesError.TheVariants.{Failed}
use Rattle.board_files.proofs.CountLemmas.{counts-failed}
use Rattle.board_files.proofs.memory_files.MemoryFilesFiles.remove.Goals as goal

pub returns-in_err-begin-clause-counts : goal.returns-in_err-begin-clause-counts
returns-in_err-begin-clause-counts c =
    let is : c.from_residual.result ≡ Err Failed = search rules in
    counts-failed (counts_of c.args.self.now) (counts_of c.begin.new.self) c.from_residual.result is c.in_err-begin.ensures.risen (ap (λ m. m.short_writes) c.in_err-begin.ensures.err)
    (ap (λ m. m.calls) c.in_err-begin.ensures.err)
