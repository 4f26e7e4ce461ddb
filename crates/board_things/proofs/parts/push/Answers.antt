use Rattle.std.proofs.Common.{◌≡◌, ℕ, suc, ◌<◌, List, ◌∙◌, ap, length, set, arith}
use Rattle.std.specs.List.{insert}
use Rattle.board_things.specs.Nodes.{joined, part_at}
use Rattle.board_things.proofs.Joined.{ahead_of_last, joined_insert, read_at}
use Rattle.board_things.proofs.Pairs.{Pair}
use Rattle.board_things.proofs.parts.push.Goals as goal

pub returns-then-not-is_full-clause-joined : goal.returns-then-not-is_full-clause-joined
returns-then-not-is_full-clause-joined c =
    let ps = c.args.parts.now.items in
    let i = c.in-Some.last in
    let x = c.args.pair in
    let last : suc i ≡ length ps = omega (arith, c.in-Some.ensures, c.len.ensures, c.args.parts.now.ok.0) in
    let inside : i < length ps = omega (arith, last) in
    let read = read_at ps i c.index_mut.result.now inside c.index_mut.ensures.value in
    let k : length c.pairs-place.result.now ≡ length (part_at i ps) = ap (λ (p : List Pair). length p) (c.pairs-place.ensures ∙ read_at ps i c.index-then-not-is_full.result.now inside c.index-then-not-is_full.ensures) in
    ap (λ (p : List Pair). joined (set ps i p)) (c.insert.ensures ∙ ap (λ (n : ℕ). insert c.index_mut.result.now n x) k ∙ ap (λ (p : List Pair). insert p (length (part_at i ps)) x) read)
    ∙ joined_insert ps i (length (part_at i ps)) x inside (omega arith)
    ∙ ap (λ (n : ℕ). insert (joined ps) n x) (ahead_of_last ps i last)
