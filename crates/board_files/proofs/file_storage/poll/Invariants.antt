use Rattle.std.proofs.Common.{◌≡◌}
use Rattle.board_files.proofs.CountLemmas.{HasCalled}
use Rattle.board_files.proofs.file_storage.poll.Given as goal

abbrev pub invariant-loop-poll : goal.invariant-loop-poll
invariant-loop-poll g l =
    (g.F.Files.told l.files ≡ g.F.Files.told l.initial.files)
    × ((g.F.Files.counts l.files).faults ≡ (g.F.Files.counts l.initial.files).faults)
    × ((g.F.Files.counts l.files).short_writes ≡ (g.F.Files.counts l.initial.files).short_writes)
    × HasCalled l.poll (g.F.Files.counts l.initial.files).calls (g.F.Files.counts l.files).calls
