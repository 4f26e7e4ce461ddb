use Rattle.std.proofs.Common.{rules, ◌^◌, ◌<◌, length, [], arith, subst}
use Rattle.board_files.proofs.ChangeLemmas.{length-replayed}
use Rattle.board_files.proofs.held_files.HeldFiles.are_few.Goals as goal

pub returns : goal.returns
returns c =
    let changes = c.self.inside.changes.items in
    let few : length c.as_slice-changes.result.now < 2 ^ 63 = search rules in
    let fewer : length changes < 2 ^ 63 = subst (λ l. length l < 2 ^ 63) c.as_slice-changes.ensures.value few in
    let files = length-replayed [] changes in
    subst (λ t. length t.files < 2 ^ 63) c.self.view_is (omega (arith, files, fewer))
