use Rattle.std.proofs.Common.{◌≡◌, ◌+◌, ◌≤◌, ℕ, length, List, sym, ap, subst, ◌∙◌, arith}
use Rattle.std.specs.Prelude.{slice_index, slice_set}
use Rattle.std.proofs.lemmas.Grind.{get_or_default_zero}
use Rattle.board_cell_model.specs.OwedAccesses.{spare_at}
use Rattle.board_cell.specs.WholeCalls.{LiesAmong, PublishesIn}
use Rattle.board_cell.proofs.WholeLemmas.{copy_ends, published, stepped}
use Rattle.board_cell.proofs.whole_calls.update_on.Goals as goal

pub loop-i-preserved : goal.loop-i-preserved
loop-i-preserved g c =
    let i = c.loop-i.invariant in
    let less = c.loop-i-test.true in
    let old = g.W.Words.list c.load-generation.new.self in
    let mid = g.W.Words.list c.loop-i.words in
    let start = spare_at c.args.shape c.load-generation.result in
    let same : length old ≡ length (g.W.Words.list c.args.words.now) = ap (λ (l : List ℕ). length l) c.load-generation.ensures.same in
    let within : start + c.args.shape.words ≤ length old = omega (arith, copy_ends c.args.shape c.load-generation.result, c.requires.cell.within, same) in
    let word = c.index.ensures ∙ get_or_default_zero c.args.value.now.items c.loop-i.i c.index.result.now (omega (arith, less, c.requires.width)) in
    let put = c.store.ensures ∙ ap (λ (n : ℕ). slice_set mid n c.index.result.now) c.spare_word.ensures ∙ ap (λ (w : ℕ). slice_set mid (start + c.loop-i.i) w) word in
    stepped start c.args.shape.words c.loop-i.i c.args.value.now.items old mid (g.W.Words.list c.store.new.self) within less i.0 i.1 i.2 i.3 put

pub returns-clause-published : goal.returns-clause-published
returns-clause-published g c =
    let i = c.loop-i.invariant in
    let past = c.loop-i-test.false in
    let same = c.load-generation.ensures.same in
    let old = g.W.Words.list c.load-generation.new.self in
    let new = g.W.Words.list c.store-2.new.self in
    let lies = subst (λ (ws : List ℕ). LiesAmong c.args.shape ws) (sym same) c.requires.cell in
    let counter = ap (λ (ws : List ℕ). slice_index ws c.args.shape.first) same ∙ sym c.load-generation.ensures.word in
    let all = published c.args.shape c.args.value.now.items old (g.W.Words.list c.loop-i.words) new c.load-generation.result lies c.requires.width counter
    i.0 (λ k lt. i.1 k (omega (arith, past, lt))) i.2 i.3 c.store-2.ensures in
    subst (λ (ws : List ℕ). PublishesIn c.args.shape c.args.value.now.items ws new) same all
