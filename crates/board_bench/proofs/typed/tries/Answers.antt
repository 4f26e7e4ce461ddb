use Rattle.std.proofs.Common.{◌≡◌, ◌∙◌, ◌∷◌, [], Err, ap, arith, length, length-append, refl, rules}
use Rattle.board_cell.specs.Passes.{note}
use Rattle.board_handles.specs.Handles.{ReadSeen}
use Rattle.board_bench.proofs.Tries.{gave_up, loads_of_one, no_older}
use Rattle.board_bench.proofs.Values.{none_read, one_read}
use Rattle.board_bench.proofs.typed.tries.Goals as goal

pub loop-init : goal.loop-init
loop-init g c = record {
  kept = refl;
  count = omega arith;
  loads = omega arith;
  values = none_read _ _ _;
  reached = omega arith;
  rises = λ before. before;
}

pub loop-preserved : goal.loop-preserved
loop-preserved g c =
    let i = c.loop.invariant in
    let got = c.in_ok-latest.ensures.got in
    let noted = got.gets.gets.notes in
    let more = ap length noted ∙ length-append c.loop.handle.pass.notes (note got.generation got.words ∷ []) in
    let loaded = loads_of_one _ _ _ _ got.gets in
    record {
      kept = c.try_once.ensures.kept ∙ ap (λ (h : ReadSeen). record h { pass = c.try_once.new.handle.pass }) i.kept;
      count = omega (arith, more, i.count);
      loads = omega (arith, loaded, i.loads);
      values = one_read _ _ _ _ _ _ _ _ got.words i.values noted got.value_is;
      reached = no_older _ _ _ _ _ _ i.reached got.gets;
      rises = λ before. c.try_once.ensures.rises;
    }

pub returns-in_err-latest-clause-again : goal.returns-in_err-latest-clause-again
returns-in_err-latest-clause-again g c =
    let e = c.in_err-latest.field-0.0 in
    let is : c.from_residual.result ≡ Err e = search rules in
    rw is (gave_up _ _ _ _ _ c.loop.invariant.reached c.in_err-latest.ensures.again)
