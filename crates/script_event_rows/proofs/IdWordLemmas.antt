-- Words of 64 bits that have the ids of a set, after a change.
use Rattle.std.proofs.Common.{◌≡◌, ℕ, zero, suc, ◌+◌, ◌-◌, ◌*◌, ◌/◌, ◌%◌, ◌<◌, ◌≤◌, ◌^◌, Bool, true, false, eqb, refl, sym, ◌∙◌, ap, inl, inr, arith, subst, List, length, get_or, bit_and, bit_or, w64}
use Rattle.std.proofs.Math.ListN.{set, replicate}
use Rattle.std.proofs.lemmas.List.{get_or-set_same, get_or-set_other, get_or_read, length-set}
use Rattle.std.specs.Prelude.{not, if◌then◌else◌, ◌==◌}
use Rattle.std.proofs.lemmas.Bool.{false≢true}
use Rattle.std.proofs.lemmas.Bool.Decides.{Decides-eqb}
use Rattle.std.proofs.lemmas.Nat.Bits.{bit_at-zero, bit_at-lt, bit_at_set_same, bit_at_set_other, bit_at_clear_same, bit_at_clear_other}
use Rattle.std.specs.Int.{bit_at}
use Rattle.std.specs.FinSet as fin
use Rattle.board_event_model.specs.Ids.{Ids, IsWord, has, in_word, is_set}
use Rattle.board_event_model.proofs.SetLemmas.{either, is_false, not_true, has_inserted, has_itself, has_kept, has_removed, has_left, has_retained, has_retain, has_empty}
use Rattle.script_event_rows.specs.IdWords.{Become, HaveIds}

same_bool : (a b : Bool) → (a ≡ true → b ≡ true) → (b ≡ true → a ≡ true) → a ≡ b
same_bool true b f g = sym (f refl)
same_bool false true f g = g refl
same_bool false false f g = refl

eqb_is : (a b : ℕ) → eqb a b ≡ true → a ≡ b
eqb_is a b h = (Decides-eqb a b).0 h

is_eqb : (a b : ℕ) → a ≡ b → eqb a b ≡ true
is_eqb a b h = (Decides-eqb a b).1 h

differ : (a b : ℕ) → eqb a b ≡ false → a ≡ b → ⊥
differ a b h e = false≢true (sym h ∙ is_eqb a b e)

-- ---- one bit

one_not_zero : (b : ℕ) → b ≡ 0 → eqb b 1 ≡ false
one_not_zero b e = ap (λ (x : ℕ). eqb x 1) e

-- the bit of id q where a word is changed
new_bit : (ws : List ℕ) (k v q : ℕ) → k < length ws → q / 64 ≡ k → bit_at (get_or (set ws k v) (q / 64) 0) (q % 64) ≡ bit_at v (q % 64)
new_bit ws k v q low same = ap (λ (w : ℕ). bit_at w (q % 64)) (ap (λ (i : ℕ). get_or (set ws k v) i 0) same ∙ get_or-set_same ws k v 0 low)

old_bit : (ws : List ℕ) (k v q : ℕ) → (q / 64 ≡ k → ⊥) → is_set (set ws k v) q ≡ is_set ws q
old_bit ws k v q apart = ap (λ (w : ℕ). eqb (bit_at w (q % 64)) 1) (get_or-set_other ws k (q / 64) v 0 apart)

-- ---- words without ids

zero_at : (n i : ℕ) → ◌≡◌ {A = ℕ} (get_or (replicate n 0) i 0) 0
zero_at zero i = refl
zero_at (suc n) zero = refl
zero_at (suc n) (suc i) = zero_at n i

pub none_in : (ws : List ℕ) (n : ℕ) → ws ≡ replicate n 0 → HaveIds ws fin.empty
none_in ws n e i =
    is_false _ (has_empty i)
    ∙ sym (ap (λ (x : List ℕ). is_set x i) e ∙ ap (λ (w : ℕ). eqb (bit_at w (i % 64)) 1) (zero_at n (i / 64)) ∙ ap (λ (b : ℕ). eqb b 1) (bit_at-zero (i % 64)))

-- ---- an id put in

abbrev with_bit : List ℕ → ℕ → List ℕ
with_bit ws id = set ws (id / 64) (bit_or (get_or ws (id / 64) 0) (1 * 2 ^ (id % 64) % 18446744073709551616))

set_at_id : (ws : List ℕ) (id : ℕ) → id / 64 < length ws → is_set (with_bit ws id) id ≡ true
set_at_id ws id low = is_eqb _ 1 (new_bit ws (id / 64) _ id low refl ∙ bit_at_set_same w64 (get_or ws (id / 64) 0) (id % 64) (omega arith))

set_elsewhere : (ws : List ℕ) (id q : ℕ) → id / 64 < length ws → (q ≡ id → ⊥) → is_set (with_bit ws id) q ≡ is_set ws q
set_elsewhere ws id q low apart =
    elim (either (eqb (q / 64) (id / 64))) [
      | inl same ↦ (
          let s = eqb_is (q / 64) (id / 64) same in
          let d : (q % 64 ≡ id % 64 → ⊥) = (λ m. apart (omega (arith, s, m))) in
          ap (λ (b : ℕ). eqb b 1) (new_bit ws (id / 64) _ q low s ∙ bit_at_set_other w64 (get_or ws (id / 64) 0) (id % 64) (omega arith) (q % 64) d
          ∙ ap (λ (i : ℕ). bit_at (get_or ws i 0) (q % 64)) (sym s)))
      | inr other ↦ old_bit ws (id / 64) _ q (differ (q / 64) (id / 64) other)
    ]

inserted_elsewhere : (ids : Ids) (id q : ℕ) → (q ≡ id → ⊥) → has (fin.insert ids id) q ≡ has ids q
inserted_elsewhere ids id q apart = same_bool _ _
    (λ m. elim (has_inserted ids id q m) [ inl s ↦ absurd (apart s) | inr o ↦ o ])
    (has_kept ids id q)

put_in : (ws : List ℕ) (id : ℕ) (ids : Ids) → id / 64 < length ws → HaveIds ws ids → HaveIds (with_bit ws id) (fin.insert ids id)
put_in ws id ids low h q =
    elim (either (eqb q id)) [
      | inl same ↦ subst (λ (x : ℕ). has (fin.insert ids id) x ≡ is_set (with_bit ws id) x) (sym (eqb_is q id same)) (has_itself ids id ∙ sym (set_at_id ws id low))
      | inr apart ↦ inserted_elsewhere ids id q (differ q id apart) ∙ h q ∙ sym (set_elsewhere ws id q low (differ q id apart))
    ]

-- ---- an id taken out

abbrev without_bit : List ℕ → ℕ → List ℕ
without_bit ws id = set ws (id / 64) (bit_and (get_or ws (id / 64) 0) (18446744073709551615 - 1 * 2 ^ (id % 64) % 18446744073709551616))

clear_at_id : (ws : List ℕ) (id : ℕ) → id / 64 < length ws → is_set (without_bit ws id) id ≡ false
clear_at_id ws id low = one_not_zero _ (new_bit ws (id / 64) _ id low refl ∙ bit_at_clear_same w64 (get_or ws (id / 64) 0) (id % 64) (omega arith))

clear_elsewhere : (ws : List ℕ) (id q : ℕ) → id / 64 < length ws → (q ≡ id → ⊥) → is_set (without_bit ws id) q ≡ is_set ws q
clear_elsewhere ws id q low apart =
    elim (either (eqb (q / 64) (id / 64))) [
      | inl same ↦ (
          let s = eqb_is (q / 64) (id / 64) same in
          let d : (q % 64 ≡ id % 64 → ⊥) = (λ m. apart (omega (arith, s, m))) in
          ap (λ (b : ℕ). eqb b 1) (new_bit ws (id / 64) _ q low s ∙ bit_at_clear_other w64 (get_or ws (id / 64) 0) (id % 64) (omega arith) (q % 64) (omega arith) d
          ∙ ap (λ (i : ℕ). bit_at (get_or ws i 0) (q % 64)) (sym s)))
      | inr other ↦ old_bit ws (id / 64) _ q (differ (q / 64) (id / 64) other)
    ]

removed_itself : (ids : Ids) (id : ℕ) → has (fin.remove ids id) id ≡ false
removed_itself ids id = is_false _ (λ m. (has_removed ids id id m).0 refl)

removed_elsewhere : (ids : Ids) (id q : ℕ) → (q ≡ id → ⊥) → has (fin.remove ids id) q ≡ has ids q
removed_elsewhere ids id q apart = same_bool _ _
    (λ m. (has_removed ids id q m).1)
    (λ m. elim (has_left ids id q m) [ inl s ↦ absurd (apart s) | inr o ↦ o ])

taken_out : (ws : List ℕ) (id : ℕ) (ids : Ids) → id / 64 < length ws → HaveIds ws ids → HaveIds (without_bit ws id) (fin.remove ids id)
taken_out ws id ids low h q =
    elim (either (eqb q id)) [
      | inl same ↦ subst (λ (x : ℕ). has (fin.remove ids id) x ≡ is_set (without_bit ws id) x) (sym (eqb_is q id same)) (removed_itself ids id ∙ sym (clear_at_id ws id low))
      | inr apart ↦ removed_elsewhere ids id q (differ q id apart) ∙ h q ∙ sym (clear_elsewhere ws id q low (differ q id apart))
    ]

-- ---- a word emptied

retained_within : (ids : Ids) (k q : ℕ) → in_word k q ≡ true → has (fin.retain ids (λ i. not (in_word k i))) q ≡ false
retained_within ids k q same = is_false _ (λ m. false≢true (sym (not_true _ (has_retained ids (λ i. not (in_word k i)) q m).1) ∙ same))

retained_elsewhere : (ids : Ids) (k q : ℕ) → in_word k q ≡ false → has (fin.retain ids (λ i. not (in_word k i))) q ≡ has ids q
retained_elsewhere ids k q apart = same_bool _ _
    (λ m. (has_retained ids (λ i. not (in_word k i)) q m).0)
    (λ m. has_retain ids (λ i. not (in_word k i)) q m (ap not apart))

emptied : (ws : List ℕ) (k : ℕ) (ids : Ids) → k < length ws → HaveIds ws ids → HaveIds (set ws k 0) (fin.retain ids (λ i. not (in_word k i)))
emptied ws k ids low h q =
    elim (either (eqb (q / 64) k)) [
      | inl same ↦ retained_within ids k q same ∙ sym (one_not_zero _ (new_bit ws k 0 q low (eqb_is (q / 64) k same) ∙ bit_at-zero (q % 64)))
      | inr apart ↦ retained_elsewhere ids k q apart ∙ h q ∙ sym (old_bit ws k 0 q (differ (q / 64) k apart))
    ]

-- ---- a word read

bit_flag : (b : ℕ) → b < 2 → b ≡ (if eqb b 1 then 1 else 0)
bit_flag b h =
    elim (either (eqb b 1)) [
      | inl y ↦ rw y (eqb_is b 1 y)
      | inr n ↦ rw n (let d = differ b 1 n in omega arith)
    ]

pub word_is : (ws : List ℕ) (k w : ℕ) (ids : Ids) → HaveIds ws ids → k < length ws → w ≡ get_or ws k w → w < 2 ^ 64 → IsWord ids k w
word_is ws k w ids h low read small =
    let is : w ≡ get_or ws k 0 = get_or_read ws k w low read 0 in
    record {
      small = small;
      bits = λ i below. (
          let d : (64 * k + i) / 64 ≡ k = omega arith in
          let m : (64 * k + i) % 64 ≡ i = omega arith in
          let same : is_set ws (64 * k + i) ≡ eqb (bit_at w i) 1 =
          ap (λ (j : ℕ). eqb (bit_at (get_or ws j 0) ((64 * k + i) % 64)) 1) d ∙ ap (λ (j : ℕ). eqb (bit_at (get_or ws k 0) j) 1) m ∙ ap (λ (x : ℕ). eqb (bit_at x i) 1) (sym is) in
          bit_flag _ (bit_at-lt w i) ∙ ap (λ (b : Bool). if b then 1 else 0) (sym (h (64 * k + i) ∙ same)));
    }

-- ---- the same, as changes of words that were read

pub becomes_put : (ws : List ℕ) (id w : ℕ) → id / 64 < length ws → w ≡ get_or ws (id / 64) w
    → Become ws (set ws (id / 64) (bit_or w (1 * 2 ^ (id % 64) % 18446744073709551616))) (λ ids. fin.insert ids id)
becomes_put ws id w low read = record {
  count = length-set ws (id / 64) _;
  ids = λ ids h. subst (λ (x : ℕ). HaveIds (set ws (id / 64) (bit_or x (1 * 2 ^ (id % 64) % 18446744073709551616))) (fin.insert ids id)) (sym (get_or_read ws (id / 64) w low read 0)) (put_in ws id ids low h);
}

pub becomes_taken : (ws : List ℕ) (id w : ℕ) → id / 64 < length ws → w ≡ get_or ws (id / 64) w
    → Become ws (set ws (id / 64) (bit_and w (18446744073709551615 - 1 * 2 ^ (id % 64) % 18446744073709551616))) (λ ids. fin.remove ids id)
becomes_taken ws id w low read = record {
  count = length-set ws (id / 64) _;
  ids = λ ids h. subst (λ (x : ℕ). HaveIds (set ws (id / 64) (bit_and x (18446744073709551615 - 1 * 2 ^ (id % 64) % 18446744073709551616))) (fin.remove ids id)) (sym (get_or_read ws (id / 64) w low read 0)) (taken_out ws id ids low h);
}

pub becomes_emptied : (ws : List ℕ) (k : ℕ) → k < length ws → Become ws (set ws k 0) (λ ids. fin.retain ids (λ i. not (in_word k i)))
becomes_emptied ws k low = record { count = length-set ws k 0; ids = λ ids h. emptied ws k ids low h }
