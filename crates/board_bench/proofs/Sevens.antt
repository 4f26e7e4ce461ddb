-- What typed gets copied last, where the last value has 7 in each word.
use Rattle.std.proofs.Common.{◌≡◌, ◌∙◌, ◌<◌, ◌≢◌, ℕ, zero, suc, true, eqb, List, [], ◌∷◌, ap, arith, get_or, refl, replicate, subst, sym, take}
use Rattle.std.specs.Cmp.Lexicographic.{pointwise}
use Rattle.std.proofs.lemmas.Bool.{eqb-true}
use Rattle.std.proofs.lemmas.Slice.Eq.{bytes_eq-Decides}
use Rattle.board_cell.specs.declared.threaded.view.Note.{Note}
use Rattle.board_handles.specs.Handles.{ReadSeen}
use Rattle.board_bench.specs.Handles.{HasReadSevens, last_value, read_seen}
use Rattle.board_bench.specs.Watchers.{read_last}
use Rattle.board_bench.specs.declared.block.Block.{Block}
use Rattle.board_bench.specs.declared.widths.ReadHandle.{ReadHandle}
use Rattle.board_bench.proofs.Values.{last_value_read}

-- words that have the same number at each place begin with as many of it
pub take_same : (n x : ℕ) (words : List ℕ) → x ≢ 0 → ((k : ℕ) → k < n → get_or words k 0 ≡ x) → take n words ≡ replicate n x
take_same zero x words some each = refl
take_same (suc n) x [] some each = absurd (some (sym (each 0 (omega arith))))
take_same (suc n) x (w ∷ words) some each =
    let rest = take_same n x words some (λ k lt. each (suc k) (omega (arith, lt))) in
    ap (λ first. first ∷ take n words) (each 0 (omega arith)) ∙ ap (λ l. x ∷ l) rest

-- of one word
pub one_seven : (notes : List Note) → eqb (last_value (λ words. get_or words 0 0) 7 notes) 7 ≡ true → take 1 (read_last (replicate 1 7) notes) ≡ replicate 1 7
one_seven notes h =
    let words = read_last (7 ∷ []) notes in
    let is : get_or words 0 0 ≡ 7 = sym (last_value_read (λ words. get_or words 0 0) (7 ∷ []) notes) ∙ eqb-true _ _ h in
    take_same 1 7 words (omega arith) (λ k lt. let none : k ≡ 0 = omega (arith, lt) in rw none is)

-- the same number stands at four places
four_same : (x : ℕ) (words : List ℕ) → get_or words 0 0 ≡ x → get_or words 1 0 ≡ x → get_or words 2 0 ≡ x → get_or words 3 0 ≡ x → (k : ℕ) → k < 4 → get_or words k 0 ≡ x
four_same x words a b c d zero lt = a
four_same x words a b c d (suc zero) lt = b
four_same x words a b c d (suc (suc zero)) lt = c
four_same x words a b c d (suc (suc (suc zero))) lt = d
four_same x words a b c d (suc (suc (suc (suc k)))) lt = absurd (omega (arith, lt))

-- four words of these
abbrev first_four : List ℕ → List ℕ
first_four words = get_or words 0 0 ∷ get_or words 1 0 ∷ get_or words 2 0 ∷ get_or words 3 0 ∷ []

-- of four words
pub four_sevens : (notes : List Note) → pointwise eqb (last_value first_four (replicate 4 7) notes) (replicate 4 7) ≡ true → take 4 (read_last (replicate 4 7) notes) ≡ replicate 4 7
four_sevens notes h =
    let words = read_last (replicate 4 7) notes in
    let is : first_four words ≡ replicate 4 7 = sym (last_value_read first_four (replicate 4 7) notes) ∙ (bytes_eq-Decides _ _).0 h in
    take_same 4 7 words (omega arith) (four_same 7 words (cc is) (cc is) (cc is) (cc is))

-- a value of these words
abbrev block_of : List ℕ → Block
block_of words = record { words = words }

-- of 32 words
pub many_sevens : (notes : List Note) → pointwise eqb (last_value block_of (block_of (replicate 32 7)) notes).words (replicate 32 7) ≡ true → take 32 (read_last (replicate 32 7) notes) ≡ replicate 32 7
many_sevens notes h =
    let sevens = replicate 32 7 in
    let is : read_last sevens notes ≡ sevens = sym (ap (λ (b : Block). b.words) (last_value_read block_of sevens notes)) ∙ (bytes_eq-Decides _ _).0 h in
    ap (take 32) is

-- of the width of this handle
pub sevens_of : (width n : ℕ) (r : ReadHandle) (h : ReadSeen) → width ≡ n → read_seen r ≡ h → HasReadSevens n h → HasReadSevens width (read_seen r)
sevens_of width n r h wide is has = subst (λ w. HasReadSevens w (read_seen r)) (sym wide) (subst (HasReadSevens n) (sym is) has)
