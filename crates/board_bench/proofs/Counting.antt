-- How the gets of several passes add up, and lists of which one item goes over to another.
use Rattle.std.proofs.Common.{◌≡◌, ℕ, ◌+◌, List, [], ◌∷◌, ◌++◌, length, ap, sym, ◌∙◌, arith}
use Rattle.std.specs.Prelude.{sum_by}
use Rattle.std.proofs.lemmas.Grind.{common_steps}
use Rattle.std.proofs.lemmas.List.Sums.{sum_by-append}
use Rattle.board_cell.specs.Passes.{ReaderSeen}
use Rattle.board_bench.specs.Watchers.{capped, gets_of}

counted_sum : (m n : ℕ) → capped (capped m + capped n) ≡ capped (m + n)
counted_sum m n = grind arith

-- with one more pass its gets are added
pub gets_of-push : (passes : List ReaderSeen) (p : ReaderSeen) → capped (gets_of passes + capped (length p.notes)) ≡ gets_of (passes ++ p ∷ [])
gets_of-push passes p =
    let one : sum_by (λ (q : ReaderSeen). length q.notes) (p ∷ []) ≡ length p.notes = omega arith in
    let all = sum_by-append (λ (q : ReaderSeen). length q.notes) passes (p ∷ []) ∙ ap (λ n. sum_by (λ (q : ReaderSeen). length q.notes) passes + n) one in
    counted_sum (sum_by (λ (q : ReaderSeen). length q.notes) passes) (length p.notes) ∙ ap capped (sym all)

-- the last item goes over, so both together stay as many
pub moved : {X Y : Type 0} (xs ys : List X) (x : X) (ps qs : List Y) (p : Y) (n : ℕ) → xs ≡ ys ++ x ∷ [] → qs ≡ ps ++ p ∷ [] → length ps + length xs ≡ n → length qs + length ys ≡ n
moved xs ys x ps qs p n e f s = grind (arith, common_steps, ap length e, ap length f)
