use Rattle.std.proofs.Common.{◌≡◌, ℕ, suc, ◌+◌, ◌<◌, ◌∙◌, ap, length, arith}
use Rattle.std.specs.Prelude.{slice_index_or}
use Rattle.std.specs.List.{remove}
use Rattle.board_things.proofs.Joined.{filled_merge, whole_merge}
use Rattle.board_things.proofs.parts.join_at.Goals as goal

pub returns-then-pairs-clause-joined : goal.returns-then-pairs-clause-joined
returns-then-pairs-clause-joined c =
    let ps = c.args.parts.now.items in
    let i = c.args.part in
    let next : suc i < length ps = omega (arith, c.len-then-part-len.ensures, c.if-part-len-2.true, c.args.parts.now.ok.0) in
    whole_merge ps c.remove-next.new.self.items i c.index_mut.result.now c.remove-next.result c.append.new.self next (c.remove-next.ensures.items ∙ ap (λ (k : ℕ). remove ps k) (let e : i + 1 ≡ suc i = omega arith in e))
    c.index_mut.ensures.value (c.remove-next.ensures.value ∙ ap (λ (k : ℕ). slice_index_or ps k c.remove-next.result) (let e : i + 1 ≡ suc i = omega arith in e)) c.append.ensures

pub returns-then-pairs-clause-filled : goal.returns-then-pairs-clause-filled
returns-then-pairs-clause-filled c =
    let ps = c.args.parts.now.items in
    let i = c.args.part in
    let next : suc i < length ps = omega (arith, c.len-then-part-len.ensures, c.if-part-len-2.true, c.args.parts.now.ok.0) in
    filled_merge ps c.remove-next.new.self.items i c.index_mut.result.now c.remove-next.result c.append.new.self next (c.remove-next.ensures.items ∙ ap (λ (k : ℕ). remove ps k) (let e : i + 1 ≡ suc i = omega arith in e))
    c.index_mut.ensures.value c.append.ensures c.requires.filled
