use Rattle.std.proofs.Common.{rules, ◌≡◌, ◌+◌, ◌∙◌, ap, length, replicate, sym}
use Rattle.board_cell.specs.Passes.{note}
use Rattle.board_bench.specs.Watchers.{capped, read_last}
use Rattle.board_bench.proofs.Reading.{counted_on, read_last_push}
use Rattle.board_bench.proofs.shared.watch.Goals as goal

pub gets-preserved : goal.gets-preserved
gets-preserved g c =
    let i = c.gets.invariant in
    let got = c.get-watcher.ensures.got in
    let zeros = replicate c.args.cell.now.width 0 in
    let new = note c.get-watcher.result c.get-watcher.new.out.items in
    let more : c.saturating_add-watcher.result ≡ capped (capped (length c.gets.watcher.pass.notes) + 1) = search (rules, i.gets) in
    record {
      pass = search rules;
      out = c.get-watcher.ensures.width;
      read = sym (ap (read_last zeros) got.notes ∙ read_last_push zeros c.gets.watcher.pass.notes new);
      gets = more ∙ counted_on c.gets.watcher.pass.notes new ∙ ap (λ notes. capped (length notes)) (sym got.notes);
    }
