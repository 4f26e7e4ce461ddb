use Rattle.std.proofs.Common.{◌≡◌, ◌∙◌, ◌%◌, ◌==◌, if◌then◌else◌, ◌∷◌, ◌++◌, [], Bor, ap, arith, length, length-append, refl, sym}
use Rattle.std.proofs.lemmas.List.{append-nil}
use Rattle.board_handles.specs.Handles.{WriteSeen}
use Rattle.board_bench.proofs.Turns.{first_turn, in_turn_next, second_turn}
use Rattle.board_bench.proofs.typed.updates.Goals.{then-i-eq0, else-i-eq0}
use Rattle.board_bench.proofs.typed.updates.Goals as goal

pub loop-i-init : goal.loop-i-init
loop-i-init g c = record {
  found = refl;
  cell = refl;
  one = refl;
  two = refl;
  count = omega arith;
  values = sym (append-nil _);
}

pub loop-i-preserved : goal.loop-i-preserved
loop-i-preserved g c =
    let i = c.loop-i.invariant in
    let words_of = g.V.ZeroCopySend.words_of in
    let words = words_of c.if-i-eq0.value.now in
    let one = words_of c.args.one in
    let two = words_of c.args.two in
    let now = λ (r : Bor g.row.V.Denot). words_of r.now in
    let turn : words ≡ (if c.loop-i.i % 2 == 0 then one else two) = elim c.if-i-eq0.branch [
      | then-i-eq0 w ↦ first_turn one two words c.loop-i.i w.if-i-eq0.true (ap now w.value-is ∙ ap words_of i.one)
      | else-i-eq0 w ↦ second_turn one two words c.loop-i.i w.if-i-eq0.false (ap now w.value-is ∙ ap words_of i.two)
    ] in
    let old = c.loop-i.handle.held.published in
    let published : c.update_with_copy.new.self.held.published ≡ old ++ words ∷ [] = ap (λ (h : WriteSeen). h.held.published) c.update_with_copy.ensures in
    let more = ap length published ∙ length-append old (words ∷ []) in
    record {
      found = ap (λ (h : WriteSeen). h.found) c.update_with_copy.ensures ∙ i.found;
      cell = ap (λ (h : WriteSeen). h.held.cell) c.update_with_copy.ensures ∙ i.cell;
      one = i.one;
      two = i.two;
      count = omega (arith, more, i.count);
      values = in_turn_next one two words c.loop-i.i c.args.handle.now.held.published old _ i.values published turn;
    }
