use Rattle.std.proofs.Common.{◌≡◌, ℕ, ◌++◌, List, ◌∙◌, ap, length, take, drop, rules, arith}
use Rattle.board_things.specs.Nodes.{ends_from}
use Rattle.board_things.proofs.Joined.{ahead}
use Rattle.board_things.proofs.PartEnds.{ahead_and_rest, ends_split, fits_ends, take_resized}
use Rattle.board_things.proofs.ends.count_from.Goals as goal

pub loop-i-init : goal.loop-i-init
loop-i-init c =
    let ps = c.args.parts.now in
    let i = c.args.first in
    let es = c.args.ends.now.items in
    let kept = ap (λ (xs : List ℕ). take i xs) c.in-Ok.ensures.items ∙ take_resized i (length ps) es _ c.requires.inside (fits_ends i ps es c.requires.inside c.requires.ahead) ∙ c.requires.ahead in
    let told : c.count_of-end.result ≡ ahead i ps = c.count_of-end.ensures (take i ps) (ap (λ (xs : List ℕ). take i xs) c.deref.ensures.value ∙ kept) in
    record {
      all = ap (λ (xs : List ℕ). xs ++ ends_from c.count_of-end.result (drop i ps)) kept ∙ ap (λ (n : ℕ). ends_from 0 (take i ps) ++ ends_from n (drop i ps)) told ∙ ends_split i ps;
      few = omega (arith, told, ahead_and_rest ps i);
      each = search rules;
    }
