use Rattle.std.proofs.Common.{◌≡◌, ◌∷◌, ◌∙◌, [], ap, arith, length, length-append, sym}
use Rattle.std.proofs.lemmas.List.Elements.{All-push, All-same}
use Rattle.board_cell.specs.Passes.{note}
use Rattle.board_cell.specs.declared.threaded.view.Note.{Note}
use Rattle.board_bench.proofs.Tries.{loads_of_one, no_older}
use Rattle.board_bench.proofs.solo.tries.Goals as goal

pub loop-preserved : goal.loop-preserved
loop-preserved c =
    let i = c.loop.invariant in
    let got = c.in_ok-try_get.ensures.ok in
    let width = c.try_get.ensures.width in
    let new = note c.in_ok-try_get.field-0 c.try_get.new.out.items in
    let more = ap length got.gets.notes ∙ length-append c.loop.reader.notes (new ∷ []) in
    let loaded = loads_of_one _ _ _ _ got in
    let is_wide = λ (n : Note). length n.words ≡ c.args.cell.now.width in
    (got.gets.cell ∙ i.0, width ∙ sym c.requires.width, omega (arith, more, i.2), omega (arith, loaded, i.3), λ wide. All-same is_wide _ _ got.gets.notes (All-push is_wide _ _ (i.4 wide) width), no_older _ _ _ _ _ _ i.5 got)
