use Rattle.std.proofs.Common.{ℕ, zero, suc, ◌≡◌, ◌<◌, ◌^◌, List, [], ◌∷◌, length, refl, ap, ◌∙◌, subst, sym}
use Rattle.std.specs.Prelude.{All, slice_index}
use Rattle.std.proofs.Math.Facts.{Fits-lt-pow}
use Rattle.std.proofs.lemmas.List.{get_or_default}
use Rattle.board_bench.specs.declared.block.Block.{Block}
use Rattle.board_bench.proofs.block.BlockZeroCopySend.from_words.Goals as goal

-- so many items from a place on, each by its place
abbrev items_from : ℕ → ℕ → List ℕ → List ℕ
items_from k zero xs = []
items_from k (suc n) xs = slice_index xs k ∷ items_from (suc k) n xs

behind_one : (k n x : ℕ) (xs : List ℕ) → items_from (suc k) n (x ∷ xs) ≡ items_from k n xs
behind_one k zero x xs = refl
behind_one k (suc n) x xs = ap (λ (ys : List ℕ). slice_index xs k ∷ ys) (behind_one (suc k) n x xs)

all_items : (xs : List ℕ) → items_from 0 (length xs) xs ≡ xs
all_items [] = refl
all_items (x ∷ xs) = ap (λ (ys : List ℕ). x ∷ ys) (behind_one 0 (length xs) x xs ∙ all_items xs)

-- the 32 items of a list are all of it
all_32 : (xs : List ℕ) → length xs ≡ 32 → items_from 0 32 xs ≡ xs
all_32 xs h = subst (λ n. items_from 0 n xs ≡ xs) h (all_items xs)

-- a value of these words
abbrev block_of : List ℕ → Block
block_of words = record { words = words }

-- the words of a slice are all small, also where they are named one by one
small_32 : (xs : List ℕ) → length xs ≡ 32 → All (λ word. word < 2 ^ 64) xs → All (λ word. word < 2 ^ 64) (items_from 0 32 xs)
small_32 xs h small = subst (All (λ word. word < 2 ^ 64)) (sym (all_32 xs h)) small

pub returns-clause-value : goal.returns-clause-value
returns-clause-value c = ap block_of (all_32 c.args.words.now c.requires)

pub returns-clause-valid : goal.returns-clause-valid
returns-clause-valid c =
    let words = c.args.words.now in
    let small : All (λ word. word < 2 ^ 64) words = λ k d lt. subst (λ x. x < 2 ^ 64) (get_or_default words k 0 d lt) (Fits-lt-pow (c.type_inv.words k)) in
    (refl, small_32 words c.requires small)
