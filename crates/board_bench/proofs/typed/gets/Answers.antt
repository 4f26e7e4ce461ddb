use Rattle.std.proofs.Common.{◌∙◌, ◌∷◌, [], ap, arith, length, length-append, refl}
use Rattle.board_cell.specs.Passes.{note}
use Rattle.board_handles.specs.Handles.{ReadSeen}
use Rattle.board_bench.proofs.Values.{none_read, one_read}
use Rattle.board_bench.proofs.typed.gets.Goals as goal

pub loop-init : goal.loop-init
loop-init g c = record {
  kept = refl;
  count = omega arith;
  values = none_read _ _ _;
  rises = λ before. before;
}

pub loop-preserved : goal.loop-preserved
loop-preserved g c =
    let i = c.loop.invariant in
    let got = c.get.ensures.got in
    let new = note c.get.result.generation got.0 in
    let more = ap length got.1.notes ∙ length-append c.loop.handle.pass.notes (new ∷ []) in
    record {
      kept = c.get.ensures.kept ∙ ap (λ (h : ReadSeen). record h { pass = c.get.new.self.pass }) i.kept;
      count = omega (arith, more, i.count);
      values = one_read _ _ _ _ _ _ _ _ got.0 i.values got.1.notes (c.get_ref-latest.ensures ∙ got.2);
      rises = λ before. c.get.ensures.rises;
    }
