use Rattle.std.proofs.Common.{◌≡◌, ℕ, List, sym, ◌+◌, ◌<◌, ◌^◌, [], ◌∷◌, ◌++◌, arith, subst, ◌∙◌, ap, length}
use Rattle.board_model.specs.declared.line.Line.{Line}
use Rattle.script_generator.specs.Counting.{HasCounted}
use Rattle.script_generator.specs.Generator.{choice, drawn, generated, line_for, number_after, opening}
use Rattle.script_generator.proofs.GeneratedBytes.{spells_drawn}
use Rattle.script_generator.proofs.GeneratorEnds.{drawn_more, length_run, number_more}
use Rattle.script_generator.proofs.generator.summary_of.Goals as goal

pub run-requires-clause-room : goal.run-requires-clause-room
run-requires-clause-room c = record {
  lines = opening ++ drawn c.args.n c.loop-k.k;
  few = let l = length_run c.args.n c.loop-k.k in let most = c.requires in omega (arith, l, c.loop-k-test.true, most);
  run = c.loop-k.invariant.run;
}

pub run-requires-clause-plain : goal.run-requires-clause-plain
run-requires-clause-plain c =
    let few : c.loop-k.k + 1 < 2 ^ 64 = let most = c.requires in omega (arith, c.loop-k-test.true, most) in
    (_, spells_drawn (choice c.number_after-number.result) (c.loop-k.k + 1) c.in_ok-line.line.now few c.in_ok-line.ensures)

pub loop-k-preserved : goal.loop-k-preserved
loop-k-preserved c =
    let x = c.number_after-number.ensures ∙ ap number_after c.loop-k.invariant.number in
    let l : Line = line_for (choice c.number_after-number.result) (c.loop-k.k + 1) in
    let most = c.requires in
    let spells = spells_drawn (choice c.number_after-number.result) (c.loop-k.k + 1) c.in_ok-line.line.now (omega (arith, c.loop-k-test.true, most)) c.in_ok-line.ensures in
    let ran = c.in_ok-run.ensures l spells in
    let all = drawn_more c.args.n c.loop-k.k c.number_after-number.result x in
    let few : length ((opening ++ drawn c.args.n c.loop-k.k) ++ l ∷ []) < 2 ^ 62 = subst (λ (ls : List Line). length ls < 2 ^ 62) (sym all) (omega (arith, length_run c.args.n (c.loop-k.k + 1), c.loop-k-test.true, most)) in
    record {
      run = subst (HasCounted c.run.new.self) all (ran.run (opening ++ drawn c.args.n c.loop-k.k) few c.loop-k.invariant.run);
      number = number_more c.args.n c.loop-k.k c.number_after-number.result x;
      first = ran.entries 1 0 c.loop-k.invariant.first;
      second = ran.entries 1 1 c.loop-k.invariant.second;
    }

pub summary-requires-clause-running : goal.summary-requires-clause-running
summary-requires-clause-running c = record {
  lines = opening ++ drawn c.args.n c.loop-k.k;
  few = let l = length_run c.args.n c.loop-k.k in let most = c.requires in omega (arith, l, c.loop-k.auto.k-end, most);
  run = c.loop-k.invariant.run;
}

pub returns : goal.returns
returns c =
    let end : c.loop-k.k ≡ c.args.n = omega (arith, c.loop-k-test.false, c.loop-k.auto.k-end) in
    c.summary.ensures (generated c.args.n) (subst (λ (k : ℕ). HasCounted c.loop-k.generator (opening ++ drawn c.args.n k)) end c.loop-k.invariant.run)
