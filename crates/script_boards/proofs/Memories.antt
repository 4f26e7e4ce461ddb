-- The words of the boards, one after another.
use Rattle.std.proofs.Common.{◌≡◌, ℕ, suc, ◌+◌, ◌≤◌, Bool, true, false, cond, List, [], ◌∷◌, get_or, set, arith, refl, sym, ap, ◌∙◌, Option, Some, ◌⊎◌, inl, inr}
use Rattle.std.specs.Prelude.{◌==◌}
use Rattle.std.specs.List.{position_from, count_by}
use Rattle.std.proofs.lemmas.List.Sums.{sum_by-cons}
use Rattle.std.proofs.lemmas.Bool.{eqb-true}
use Rattle.board_model.specs.declared.tables.Board.{Board}
use Rattle.board_model.specs.Tables.{is_numbered}
use Rattle.script_parties.specs.Parties.{words_of_boards}

chosen : {A : Type 0} (b : Bool) (x y z : A) → cond b x y ≡ z → ((b ≡ true) × (x ≡ z)) ⊎ ((b ≡ false) × (y ≡ z))
chosen true x y z e = inl (refl, e)
chosen false x y z e = inr (refl, e)

abbrev a_number : ℕ → Option ℕ
a_number n = Some n

abbrev one_if : Bool → ℕ
one_if b = cond b 1 0

count-cons : {X : Type 0} (p : X → Bool) (x : X) (xs : List X) → count_by p (x ∷ xs) ≡ one_if (p x) + count_by p xs
count-cons p x xs = sum_by-cons (λ y. cond (p y) 1 0) x xs

module _ (f g : ℕ → List ℕ) (n : ℕ) (same : (m : ℕ) → (m == n) ≡ false → g m ≡ f m) where
  other_head : (b : Board) (bs : List Board) (x : Bool) → (b.number == n) ≡ x → one_if x + count_by (is_numbered n) bs ≡ 0
      → (count_by (is_numbered n) bs ≡ 0 → words_of_boards g bs ≡ words_of_boards f bs) → g b.number ∷ words_of_boards g bs ≡ f b.number ∷ words_of_boards f bs
  other_head b bs true i q more = absurd (omega (arith, q))
  other_head b bs false i q more =
      ap (λ (w : List ℕ). w ∷ words_of_boards g bs) (same b.number i)
      ∙ ap (λ (ws : List (List ℕ)). f b.number ∷ ws) (more (omega (arith, q)))

  -- where no board has the number, the words are the same
  pub same_words : (bs : List Board) → count_by (is_numbered n) bs ≡ 0 → words_of_boards g bs ≡ words_of_boards f bs
  same_words [] h = refl
  same_words (b ∷ bs) h = other_head b bs (b.number == n) refl (sym (count-cons (is_numbered n) b bs) ∙ h) (same_words bs)

  -- the words of the one board with the number change
  set_head : (new : List ℕ) → g n ≡ new → (b : Board) (bs : List Board) (i k : ℕ) (x : Bool) → (b.number == n) ≡ x → one_if x + count_by (is_numbered n) bs ≤ 1
      → cond x (Some i) (position_from (is_numbered n) (i + 1) bs) ≡ Some k
      → ((j : ℕ) → position_from (is_numbered n) (i + 1) bs ≡ Some j → count_by (is_numbered n) bs ≤ 1 → (at : ℕ) × (j ≡ i + 1 + at) × (words_of_boards g bs ≡ set (words_of_boards f bs) at new))
      → (at : ℕ) × (k ≡ i + at) × (g b.number ∷ words_of_boards g bs ≡ set (f b.number ∷ words_of_boards f bs) at new)
  set_head new e b bs i k true h c p more =
      let q : a_number i ≡ a_number k = p in
      let ik : i ≡ k = cc in
      let bn : b.number ≡ n = eqb-true b.number n h in
      (0, omega (arith, ik), ap (λ (w : List ℕ). w ∷ words_of_boards g bs) (ap g bn ∙ e) ∙ ap (λ (ws : List (List ℕ)). new ∷ ws) (same_words bs (omega (arith, c))))
  set_head new e b bs i k false h c p more =
      let m = more k p (omega (arith, c)) in
      (suc m.0, omega (arith, m.1), ap (λ (w : List ℕ). w ∷ words_of_boards g bs) (same b.number h) ∙ ap (λ (ws : List (List ℕ)). f b.number ∷ ws) m.2)

  set_from : (new : List ℕ) → g n ≡ new → (bs : List Board) (i k : ℕ) → position_from (is_numbered n) i bs ≡ Some k → count_by (is_numbered n) bs ≤ 1
      → (at : ℕ) × (k ≡ i + at) × (words_of_boards g bs ≡ set (words_of_boards f bs) at new)
  set_from new e [] i k p c = absurd cc
  set_from new e (b ∷ bs) i k p c =
      let more : (j : ℕ) → position_from (is_numbered n) (i + 1) bs ≡ Some j → count_by (is_numbered n) bs ≤ 1 → (at : ℕ) × (j ≡ i + 1 + at) × (words_of_boards g bs ≡ set (words_of_boards f bs) at new)
      = λ j. set_from new e bs (i + 1) j in
      let h : one_if (is_numbered n b) + count_by (is_numbered n) bs ≤ 1 = omega (arith, count-cons (is_numbered n) b bs, c) in
      set_head new e b bs i k (b.number == n) refl h p more

  pub words-set : (new : List ℕ) → g n ≡ new → (bs : List Board) (k : ℕ) → Some k ≡ position_from (is_numbered n) 0 bs → count_by (is_numbered n) bs ≤ 1
      → words_of_boards g bs ≡ set (words_of_boards f bs) k new
  words-set new e bs k p c =
      let s = set_from new e bs 0 k (sym p) c in
      let q : s.0 ≡ k = omega (arith, s.1) in
      s.2 ∙ ap (λ (at : ℕ). set (words_of_boards f bs) at new) q

words_from : (f : ℕ → List ℕ) (n : ℕ) (bs : List Board) (i k : ℕ) (d : List ℕ) → position_from (is_numbered n) i bs ≡ Some k → (at : ℕ) × (k ≡ i + at) × (get_or (words_of_boards f bs) at d ≡ f n)
words_from f n [] i k d p = absurd cc
words_from f n (b ∷ bs) i k d p =
    elim (chosen (b.number == n) (Some i) (position_from (is_numbered n) (i + 1) bs) (Some k) p) [
      | inl h ↦ (0, (let q : a_number i ≡ a_number k = h.1 in let ik : i ≡ k = cc in omega (arith, ik)), ap f (eqb-true b.number n h.0))
      | inr h ↦ let more = words_from f n bs (i + 1) k d h.1 in (suc more.0, omega (arith, more.1), more.2)
    ]

-- the words at the place of a board
pub words_at : (f : ℕ → List ℕ) (n : ℕ) (bs : List Board) (k : ℕ) (d : List ℕ) → Some k ≡ position_from (is_numbered n) 0 bs → get_or (words_of_boards f bs) k d ≡ f n
words_at f n bs k d p =
    let w = words_from f n bs 0 k d (sym p) in
    let q : w.0 ≡ k = omega (arith, w.1) in
    ap (λ (at : ℕ). get_or (words_of_boards f bs) at d) (sym q) ∙ w.2
