use Rattle.std.proofs.Common.{◌≡◌, ◌<◌}
use Rattle.std.specs.Prelude.{IfSome}
use Rattle.board_files.specs.Files.{AreListed}
use Rattle.board_files.proofs.ListLemmas.{IsListedTo}
use Rattle.board_files.proofs.file_storage.FileStorage.list.Given as goal

abbrev pub invariant-loop-index : goal.invariant-loop-index
invariant-loop-index g l =
    (g.F.Files.told l.files ≡ g.F.Files.told l.initial.files)
    × ((g.F.Files.counts l.files).faults ≡ (g.F.Files.counts l.initial.files).faults)
    × ((g.F.Files.counts l.files).short_writes ≡ (g.F.Files.counts l.initial.files).short_writes)
    × IfSome (g.F.Files.told l.initial.files) (λ t. IsListedTo l.cfg t.files l.index l.names.items)
    × (0 < l.index → IfSome (g.F.Files.told l.initial.files) (λ t. AreListed t.files))
