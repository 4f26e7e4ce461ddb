use Rattle.std.proofs.Common.{◌≡◌, ◌<◌, ◌+◌, ◌/◌, ℕ, ap, sym, subst, arith}
use Rattle.board_event_core.specs.IdSets.{IdSet}
use Rattle.board_event_core.proofs.BitLemmas.{no_other_word, scan_view}
use Rattle.board_event_core.proofs.bit_set.BitSet.next_word.Goals as goal

pub returns-else-index-eq0-clause-none : goal.returns-else-index-eq0-clause-none
returns-else-index-eq0-clause-none c = λ k from low.
    let same : c.self.inside.max ≡ c.args.self.now.max = ap (λ (s : IdSet). s.max) c.self.view_is in
    let within : k < c.self.inside.max / 64 + 1 = omega (arith, c.loop-at.invariant.1, c.len-last.ensures, c.self.invariant, low) in
    scan_view c.self.inside.words.items c.self.inside.max k 0 c.args.self.now c.self.view_is c.self.invariant
    (subst (λ (m : ℕ). k < m / 64 + 1) same within) (sym (c.loop-at.invariant.2 k from low)) (omega arith)

pub returns-else-index-eq0-clause-some : goal.returns-else-index-eq0-clause-some
returns-else-index-eq0-clause-some c = λ none.
    let same : c.self.inside.max ≡ c.args.self.now.max = ap (λ (s : IdSet). s.max) c.self.view_is in
    let within : c.loop-at.at < c.self.inside.max / 64 + 1 = omega (arith, c.loop-at.invariant.1, c.len-last.ensures, c.self.invariant) in
    let word = scan_view c.self.inside.words.items c.self.inside.max c.loop-at.at c.index.result.now c.args.self.now c.self.view_is c.self.invariant
    (subst (λ (m : ℕ). c.loop-at.at < m / 64 + 1) same within) c.index.ensures (omega arith) in
    absurd (no_other_word c.args.self.now.ids c.loop-at.at c.index.result.now word none (omega arith))

pub returns-after-loop-at-clause-none : goal.returns-after-loop-at-clause-none
returns-after-loop-at-clause-none c = λ k from low.
    let same : c.self.inside.max ≡ c.args.self.now.max = ap (λ (s : IdSet). s.max) c.self.view_is in
    let within : k < c.self.inside.max / 64 + 1 = omega (arith, c.loop-at.invariant.1, c.len-last.ensures, c.self.invariant, low) in
    scan_view c.self.inside.words.items c.self.inside.max k 0 c.args.self.now c.self.view_is c.self.invariant
    (subst (λ (m : ℕ). k < m / 64 + 1) same within) (sym (c.loop-at.invariant.2 k from low)) (omega arith)

pub returns-after-loop-at-clause-some : goal.returns-after-loop-at-clause-some
returns-after-loop-at-clause-some c = λ none.
    let same : c.self.inside.max ≡ c.args.self.now.max = ap (λ (s : IdSet). s.max) c.self.view_is in
    subst (λ (m : ℕ). c.loop-at.at ≡ m / 64) same (omega (arith, c.loop-at.invariant.1, c.len-last.ensures, c.self.invariant))
