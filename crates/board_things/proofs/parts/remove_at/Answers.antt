use Rattle.std.proofs.Common.{◌≡◌, ℕ, ◌+◌, List, ◌∙◌, sym, ap, length, set, arith}
use Rattle.std.specs.List.{remove}
use Rattle.board_things.specs.Nodes.{joined, part_at}
use Rattle.board_things.proofs.Joined.{ahead, joined_remove, joined_without, read_at}
use Rattle.board_things.proofs.Pairs.{Pair}
use Rattle.board_things.proofs.parts.remove_at.Goals as goal

pub returns-then-pairs-eq1-clause-joined : goal.returns-then-pairs-eq1-clause-joined
returns-then-pairs-eq1-clause-joined c =
    let ps = c.args.parts.now.items in
    let i = c.args.part in
    let read : length (part_at i ps) ≡ 1 =
    sym (ap (λ (p : List Pair). length p) (c.pairs.ensures ∙ read_at ps i c.index.result.now c.requires.part c.index.ensures)) ∙ c.if-pairs-eq1.true in
    let first : 0 ≡ c.args.place = omega (arith, c.requires.place, read) in
    ap (λ (qs : List (List Pair)). joined qs) c.remove.ensures.items ∙ joined_without ps i c.requires.part read ∙ joined_remove ps i 0 c.requires.part (omega (arith, read))
    ∙ ap (λ (k : ℕ). remove (joined ps) (ahead i ps + k)) first

pub returns-else-pairs-eq1-clause-joined : goal.returns-else-pairs-eq1-clause-joined
returns-else-pairs-eq1-clause-joined c =
    let ps = c.args.parts.now.items in
    let i = c.args.part in
    let read = read_at ps i c.index_mut.result.now c.requires.part c.index_mut.ensures.value in
    ap (λ (p : List Pair). joined (set ps i p)) (c.remove-else-pairs-eq1.ensures ∙ ap (λ (p : List Pair). remove p c.args.place) read)
    ∙ joined_remove ps i c.args.place c.requires.part c.requires.place
