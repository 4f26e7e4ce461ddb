-- Words of 64 bits as a set of ids.
use Rattle.std.proofs.Common.{◌≡◌, ℕ, zero, suc, ◌+◌, ◌-◌, ◌*◌, ◌/◌, ◌%◌, ◌<◌, ◌≤◌, ◌^◌, Bool, true, false, cond, eqb, refl, sym, ◌∙◌, ap, inl, inr, arith, rules, subst, List, [], ◌∷◌, Some, None, length, get_or, bit_and, bit_or, w64}
use Rattle.std.proofs.Math.ListN.{set, replicate}
use Rattle.std.proofs.lemmas.List.{get_or-set_same, get_or-set_other, get_or_read}
use Rattle.std.specs.Prelude.{not, if◌then◌else◌, ◌==◌}
use Rattle.std.proofs.lemmas.Bool.{false≢true}
use Rattle.std.proofs.lemmas.Bool.Decides.{Decides-eqb}
use Rattle.std.proofs.lemmas.Nat.Bits.{bit_at-zero, bit_at-lt, shr_and_one, bit_at_set_same, bit_at_set_other, bit_at_clear_same, bit_at_clear_other, bit_at-trailing_zeros}
use Rattle.std.specs.List.{list_any}
use Rattle.std.specs.Int.{bit_at, trailing_zeros}
use Rattle.std.specs.Cmp.{nat_cmp_total}
use Rattle.std.specs.FinMap.{nat_cmp-IsAntisymmetric}
use Rattle.std.specs.FinSet as fin
use Rattle.board_event_model.specs.Ids.{Ids, IsWord, has, ids_where, in_word, is_set}
use Rattle.board_event_model.proofs.SetLemmas.{either, or_split, or_left, or_right, is_false, not_true, has_inserted, has_itself, has_kept, has_removed, has_left, has_retained, has_retain, has_empty}
use Rattle.board_event_core.specs.IdSets.{ids_of, IdSet, IsLeast, IsLeastIn, IsListOf}

same_bool : (a b : Bool) → (a ≡ true → b ≡ true) → (b ≡ true → a ≡ true) → a ≡ b
same_bool true b f g = sym (f refl)
same_bool false true f g = g refl
same_bool false false f g = refl

eqb_is : (a b : ℕ) → eqb a b ≡ true → a ≡ b
eqb_is a b h = (Decides-eqb a b).0 h

is_eqb : (a b : ℕ) → a ≡ b → eqb a b ≡ true
is_eqb a b h = (Decides-eqb a b).1 h

differ : (a b : ℕ) → eqb a b ≡ false → a ≡ b → ⊥
differ a b h e = false≢true (sym h ∙ is_eqb a b e)

pub same_ids : (s t : Ids) → ((q : ℕ) → has s q ≡ true → has t q ≡ true) → ((q : ℕ) → has t q ≡ true → has s q ≡ true) → s ≡ t
same_ids s t f g = fin.same_set nat_cmp_total nat_cmp-IsAntisymmetric s t (λ q. same_bool _ _ (f q) (g q))

-- ---- members of a set made of the ids that pass

record Passes (p : ℕ → Bool) (at n q : ℕ) : Type 0 where
  passes : p q ≡ true
  low : at ≤ q
  high : q < at + n

further : (p : ℕ → Bool) (at n q : ℕ) → Passes p (at + 1) n q → Passes p at (suc n) q
further p at n q h = record { passes = h.passes; low = (let l = h.low in omega arith); high = (let u = h.high in omega arith) }

where_in : (p : ℕ → Bool) (at n q : ℕ) → has (fin.from_list (ids_where p at n)) q ≡ true → Passes p at n q
where_in p at zero q h = absurd (has_empty q h)
where_in p at (suc n) q h =
    elim (either (p at)) [
      | inl y ↦ (
          let g : has (fin.insert (fin.from_list (ids_where p (at + 1) n)) at) q ≡ true = rw y at h in
          elim (has_inserted (fin.from_list (ids_where p (at + 1) n)) at q g) [
            | inl same ↦ record { passes = ap p same ∙ y; low = (let s = same in omega arith); high = (let s = same in omega arith) }
            | inr o ↦ further p at n q (where_in p (at + 1) n q o)
          ])
      | inr f ↦ (
          let g : has (fin.from_list (ids_where p (at + 1) n)) q ≡ true = rw f at h in
          further p at n q (where_in p (at + 1) n q g))
    ]

where_out : (p : ℕ → Bool) (at n q : ℕ) → p q ≡ true → at ≤ q → q < at + n → has (fin.from_list (ids_where p at n)) q ≡ true
where_out p at zero q h low high = absurd (omega arith)
where_out p at (suc n) q h low high =
    elim (either (eqb q at)) [
      | inl same ↦ rw (sym (ap p (eqb_is q at same)) ∙ h) (subst (λ (x : ℕ). has (fin.insert (fin.from_list (ids_where p (at + 1) n)) at) x ≡ true) (sym (eqb_is q at same)) (has_itself (fin.from_list (ids_where p (at + 1) n)) at))
      | inr apart ↦ (
          let d = differ q at apart in
          let rest = where_out p (at + 1) n q h (omega arith) (omega arith) in
          elim (either (p at)) [
            | inl y ↦ rw y (has_kept (fin.from_list (ids_where p (at + 1) n)) at q rest)
            | inr f ↦ rw f rest
          ])
    ]

past_is : (ws : List ℕ) (i : ℕ) → length ws ≤ i → get_or ws i 0 ≡ 0
past_is [] i h = refl
past_is (w ∷ ws) zero h = absurd (omega arith)
past_is (w ∷ ws) (suc i) h = past_is ws i (omega arith)

one_not_zero : (b : ℕ) → eqb b 1 ≡ true → b ≡ 0 → ⊥
one_not_zero b h e = let f = eqb_is b 1 h in omega arith

set_low : (ws : List ℕ) (q : ℕ) → is_set ws q ≡ true → q / 64 < length ws
set_low ws q h =
    let f : (length ws ≤ q / 64 → ⊥) = (λ l. one_not_zero (bit_at (get_or ws (q / 64) 0) (q % 64)) h (ap (λ (w : ℕ). bit_at w (q % 64)) (past_is ws (q / 64) l) ∙ bit_at-zero (q % 64))) in
    omega arith

pub has_in : (ws : List ℕ) (q : ℕ) → has (ids_of ws) q ≡ true → is_set ws q ≡ true
has_in ws q h = (where_in (is_set ws) 0 (64 * length ws) q h).passes

pub has_out : (ws : List ℕ) (q : ℕ) → is_set ws q ≡ true → has (ids_of ws) q ≡ true
has_out ws q h = let l = set_low ws q h in where_out (is_set ws) 0 (64 * length ws) q h (omega arith) (omega arith)

pub has_ids : (ws : List ℕ) (q : ℕ) → has (ids_of ws) q ≡ is_set ws q
has_ids ws q = same_bool _ _ (has_in ws q) (has_out ws q)

-- ---- a word changed

-- the bit of id q where a word is changed
new_bit : (ws : List ℕ) (k v q : ℕ) → k < length ws → q / 64 ≡ k → bit_at (get_or (set ws k v) (q / 64) 0) (q % 64) ≡ bit_at v (q % 64)
new_bit ws k v q low same = ap (λ (w : ℕ). bit_at w (q % 64)) (ap (λ (i : ℕ). get_or (set ws k v) i 0) same ∙ get_or-set_same ws k v 0 low)

old_bit : (ws : List ℕ) (k v q : ℕ) → (q / 64 ≡ k → ⊥) → bit_at (get_or (set ws k v) (q / 64) 0) (q % 64) ≡ bit_at (get_or ws (q / 64) 0) (q % 64)
old_bit ws k v q apart = ap (λ (w : ℕ). bit_at w (q % 64)) (get_or-set_other ws k (q / 64) v 0 apart)

same_id : (q id : ℕ) → q / 64 ≡ id / 64 → q % 64 ≡ id % 64 → q ≡ id
same_id q id h m = omega arith

abbrev pub with_bit : List ℕ → ℕ → List ℕ
with_bit ws id = set ws (id / 64) (bit_or (get_or ws (id / 64) 0) (1 * 2 ^ (id % 64) % 18446744073709551616))

abbrev pub without_bit : List ℕ → ℕ → List ℕ
without_bit ws id = set ws (id / 64) (bit_and (get_or ws (id / 64) 0) (18446744073709551615 - 1 * 2 ^ (id % 64) % 18446744073709551616))

set_at_id : (ws : List ℕ) (id : ℕ) → id / 64 < length ws → is_set (with_bit ws id) id ≡ true
set_at_id ws id low = is_eqb _ 1 (new_bit ws (id / 64) _ id low refl ∙ bit_at_set_same w64 (get_or ws (id / 64) 0) (id % 64) (omega arith))

set_elsewhere : (ws : List ℕ) (id q : ℕ) → id / 64 < length ws → (q ≡ id → ⊥) → is_set (with_bit ws id) q ≡ is_set ws q
set_elsewhere ws id q low apart =
    elim (either (eqb (q / 64) (id / 64))) [
      | inl same ↦ (
          let s = eqb_is (q / 64) (id / 64) same in
          let d : (q % 64 ≡ id % 64 → ⊥) = (λ m. apart (same_id q id s m)) in
          ap (λ (b : ℕ). eqb b 1) (new_bit ws (id / 64) _ q low s ∙ bit_at_set_other w64 (get_or ws (id / 64) 0) (id % 64) (omega arith) (q % 64) d
          ∙ ap (λ (i : ℕ). bit_at (get_or ws i 0) (q % 64)) (sym s)))
      | inr other ↦ ap (λ (b : ℕ). eqb b 1) (old_bit ws (id / 64) _ q (differ (q / 64) (id / 64) other))
    ]

pub ids_with : (ws : List ℕ) (id : ℕ) → id / 64 < length ws → ids_of (with_bit ws id) ≡ fin.insert (ids_of ws) id
ids_with ws id low = same_ids _ _
    (λ q h. elim (either (eqb q id)) [
      | inl same ↦ subst (λ (x : ℕ). has (fin.insert (ids_of ws) id) x ≡ true) (sym (eqb_is q id same)) (has_itself (ids_of ws) id)
      | inr apart ↦ has_kept (ids_of ws) id q (has_out ws q (sym (set_elsewhere ws id q low (differ q id apart)) ∙ has_in (with_bit ws id) q h))
    ])
    (λ q h. elim (either (eqb q id)) [
      | inl same ↦ subst (λ (x : ℕ). has (ids_of (with_bit ws id)) x ≡ true) (sym (eqb_is q id same)) (has_out (with_bit ws id) id (set_at_id ws id low))
      | inr apart ↦ elim (has_inserted (ids_of ws) id q h) [
        | inl s ↦ absurd (differ q id apart s)
        | inr o ↦ has_out (with_bit ws id) q (set_elsewhere ws id q low (differ q id apart) ∙ has_in ws q o)
      ]
    ])

clear_at_id : (ws : List ℕ) (id : ℕ) → id / 64 < length ws → is_set (without_bit ws id) id ≡ true → ⊥
clear_at_id ws id low h = one_not_zero _ h (new_bit ws (id / 64) _ id low refl ∙ bit_at_clear_same w64 (get_or ws (id / 64) 0) (id % 64) (omega arith))

clear_elsewhere : (ws : List ℕ) (id q : ℕ) → id / 64 < length ws → (q ≡ id → ⊥) → is_set (without_bit ws id) q ≡ is_set ws q
clear_elsewhere ws id q low apart =
    elim (either (eqb (q / 64) (id / 64))) [
      | inl same ↦ (
          let s = eqb_is (q / 64) (id / 64) same in
          let d : (q % 64 ≡ id % 64 → ⊥) = (λ m. apart (same_id q id s m)) in
          ap (λ (b : ℕ). eqb b 1) (new_bit ws (id / 64) _ q low s ∙ bit_at_clear_other w64 (get_or ws (id / 64) 0) (id % 64) (omega arith) (q % 64) (omega arith) d
          ∙ ap (λ (i : ℕ). bit_at (get_or ws i 0) (q % 64)) (sym s)))
      | inr other ↦ ap (λ (b : ℕ). eqb b 1) (old_bit ws (id / 64) _ q (differ (q / 64) (id / 64) other))
    ]

pub ids_without : (ws : List ℕ) (id : ℕ) → id / 64 < length ws → ids_of (without_bit ws id) ≡ fin.remove (ids_of ws) id
ids_without ws id low = same_ids _ _
    (λ q h. elim (has_left (ids_of ws) id q (elim (either (eqb q id)) [
      | inl same ↦ absurd (clear_at_id ws id low (subst (λ (x : ℕ). is_set (without_bit ws id) x ≡ true) (eqb_is q id same) (has_in (without_bit ws id) q h)))
      | inr apart ↦ has_out ws q (sym (clear_elsewhere ws id q low (differ q id apart)) ∙ has_in (without_bit ws id) q h)
    ])) [
      | inl s ↦ absurd (clear_at_id ws id low (subst (λ (x : ℕ). is_set (without_bit ws id) x ≡ true) s (has_in (without_bit ws id) q h)))
      | inr o ↦ o
    ])
    (λ q h. let w = has_removed (ids_of ws) id q h in has_out (without_bit ws id) q (clear_elsewhere ws id q low w.0 ∙ has_in ws q w.1))

pub ids_without_word : (ws : List ℕ) (k : ℕ) → k < length ws → ids_of (set ws k 0) ≡ fin.retain (ids_of ws) (λ i. not (in_word k i))
ids_without_word ws k low = same_ids _ _
    (λ q h. elim (either (eqb (q / 64) k)) [
      | inl same ↦ absurd (one_not_zero _ (has_in (set ws k 0) q h) (new_bit ws k 0 q low (eqb_is (q / 64) k same) ∙ bit_at-zero (q % 64)))
      | inr apart ↦ has_retain (ids_of ws) (λ i. not (in_word k i)) q
          (has_out ws q (ap (λ (b : ℕ). eqb b 1) (sym (old_bit ws k 0 q (differ (q / 64) k apart))) ∙ has_in (set ws k 0) q h))
          (ap not apart)
    ])
    (λ q h. let w = has_retained (ids_of ws) (λ i. not (in_word k i)) q h in
    has_out (set ws k 0) q (ap (λ (b : ℕ). eqb b 1) (old_bit ws k 0 q (differ (q / 64) k (not_true _ w.1))) ∙ has_in ws q w.0))

bit_flag : (b : ℕ) → b < 2 → b ≡ (if eqb b 1 then 1 else 0)
bit_flag b h =
    elim (either (eqb b 1)) [
      | inl y ↦ rw y (eqb_is b 1 y)
      | inr n ↦ rw n (let d = differ b 1 n in omega arith)
    ]

pub word_is : (ws : List ℕ) (k : ℕ) → get_or ws k 0 < 2 ^ 64 → IsWord (ids_of ws) k (get_or ws k 0)
word_is ws k small = record {
  small = small;
  bits = λ i low. (
      let d : (64 * k + i) / 64 ≡ k = omega arith in
      let m : (64 * k + i) % 64 ≡ i = omega arith in
      let same : is_set ws (64 * k + i) ≡ eqb (bit_at (get_or ws k 0) i) 1 = ap (λ (j : ℕ). eqb (bit_at (get_or ws j 0) ((64 * k + i) % 64)) 1) d ∙ ap (λ (j : ℕ). eqb (bit_at (get_or ws k 0) j) 1) m in
      bit_flag _ (bit_at-lt (get_or ws k 0) i) ∙ ap (λ (b : Bool). if b then 1 else 0) (sym (has_ids ws (64 * k + i) ∙ same)));
}

zero_at : (n i : ℕ) → ◌≡◌ {A = ℕ} (get_or (replicate n 0) i 0) 0
zero_at zero i = refl
zero_at (suc n) zero = refl
zero_at (suc n) (suc i) = zero_at n i

-- words of zeros
pub ids_none : (n : ℕ) → ids_of (replicate n 0) ≡ fin.empty
ids_none n = same_ids _ _
    (λ q h. absurd (one_not_zero _ (has_in (replicate n 0) q h) (ap (λ (w : ℕ). bit_at w (q % 64)) (zero_at n (q / 64)) ∙ bit_at-zero (q % 64))))
    (λ q h. absurd (has_empty q h))

-- ---- the same, seen as a bit set

read_at : (ws : List ℕ) (i w : ℕ) → i < length ws → w ≡ get_or ws i w → w ≡ get_or ws i 0
read_at ws i w low h = get_or_read ws i w low h 0

within : (max id : ℕ) (n : ℕ) → n ≡ max / 64 + 1 → id ≤ max → id / 64 < n
within max id n same low = let d : id / 64 ≤ max / 64 = omega arith in omega arith

abbrev pub id_set : ℕ → Ids → IdSet
id_set max ids = record { max = max; ids = ids }

pub set_view : (ws : List ℕ) (max id w : ℕ) (value : IdSet) → id_set max (ids_of ws) ≡ value → length ws ≡ max / 64 + 1 → id ≤ value.max → w ≡ get_or ws (id / 64) w
    → id_set max (ids_of (set ws (id / 64) (bit_or w (1 * 2 ^ (id % 64) % 18446744073709551616)))) ≡ record value { ids = fin.insert value.ids id }
set_view ws max id w value is len low read =
    let l = within max id (length ws) len (subst (λ (v : IdSet). id ≤ v.max) (sym is) low) in
    ap (λ (x : ℕ). id_set max (ids_of (set ws (id / 64) (bit_or x (1 * 2 ^ (id % 64) % 18446744073709551616))))) (read_at ws (id / 64) w l read)
    ∙ ap (id_set max) (ids_with ws id l)
    ∙ ap (λ (v : IdSet). record v { ids = fin.insert v.ids id }) is

pub id_low : (ws : List ℕ) (max id : ℕ) (value : IdSet) → id_set max (ids_of ws) ≡ value → has value.ids id ≡ true → id / 64 < length ws
id_low ws max id value is h = set_low ws id (has_in ws id (ap (λ (v : IdSet). has v.ids id) is ∙ h))

pub clear_view : (ws : List ℕ) (max id w : ℕ) (value : IdSet) → id_set max (ids_of ws) ≡ value → has value.ids id ≡ true → w ≡ get_or ws (id / 64) w
    → id_set max (ids_of (set ws (id / 64) (bit_and w (18446744073709551615 - 1 * 2 ^ (id % 64) % 18446744073709551616)))) ≡ record value { ids = fin.remove value.ids id }
clear_view ws max id w value is h read =
    let l = id_low ws max id value is h in
    ap (λ (x : ℕ). id_set max (ids_of (set ws (id / 64) (bit_and x (18446744073709551615 - 1 * 2 ^ (id % 64) % 18446744073709551616))))) (read_at ws (id / 64) w l read)
    ∙ ap (id_set max) (ids_without ws id l)
    ∙ ap (λ (v : IdSet). record v { ids = fin.remove v.ids id }) is

pub swap_view : (ws : List ℕ) (max k : ℕ) (value : IdSet) → id_set max (ids_of ws) ≡ value → length ws ≡ max / 64 + 1 → k < value.max / 64 + 1
    → id_set max (ids_of (set ws k 0)) ≡ record value { ids = fin.retain value.ids (λ i. not (in_word k i)) }
swap_view ws max k value is len low =
    let l : k < max / 64 + 1 = subst (λ (v : IdSet). k < v.max / 64 + 1) (sym is) low in
    ap (id_set max) (ids_without_word ws k (omega arith))
    ∙ ap (λ (v : IdSet). record v { ids = fin.retain v.ids (λ i. not (in_word k i)) }) is

pub scan_view : (ws : List ℕ) (max k w : ℕ) (value : IdSet) → id_set max (ids_of ws) ≡ value → length ws ≡ max / 64 + 1 → k < value.max / 64 + 1 → w ≡ get_or ws k w → w < 2 ^ 64
    → IsWord value.ids k w
scan_view ws max k w value is len low read small =
    let l : k < max / 64 + 1 = subst (λ (v : IdSet). k < v.max / 64 + 1) (sym is) low in
    let same = read_at ws k w (omega arith) read in
    subst (λ (v : IdSet). IsWord v.ids k w) is (subst (λ (x : ℕ). IsWord (ids_of ws) k x) (sym same) (word_is ws k (subst (λ (x : ℕ). x < 2 ^ 64) same small)))

-- a word that has bits isn't the word without
pub no_other_word : (ids : Ids) (k w : ℕ) → IsWord ids k w → IsWord ids k 0 → (w ≡ 0 → ⊥) → ⊥
no_other_word ids k w word none some =
    let t = bit_at-trailing_zeros w64 w (omega (arith, some)) word.small in
    let bit = sym t.1 ∙ word.bits (trailing_zeros w64 w) t.0 ∙ sym (none.bits (trailing_zeros w64 w) t.0) ∙ bit_at-zero (trailing_zeros w64 w) in
    omega (arith, bit)

pub has_view : (ws : List ℕ) (max id w : ℕ) (value : IdSet) → id_set max (ids_of ws) ≡ value → id / 64 < length ws → w ≡ get_or ws (id / 64) w
    → eqb (bit_and (w / 2 ^ (id % 64)) 1) 1 ≡ has value.ids id
has_view ws max id w value is l read =
    ap (λ (b : ℕ). eqb b 1) (shr_and_one w (id % 64) ∙ ap (λ (x : ℕ). bit_at x (id % 64)) (read_at ws (id / 64) w l read))
    ∙ sym (has_ids ws id)
    ∙ ap (λ (v : IdSet). has v.ids id) is

pub past_view : (ws : List ℕ) (max id : ℕ) (value : IdSet) → id_set max (ids_of ws) ≡ value → length ws ≤ id / 64 → false ≡ has value.ids id
past_view ws max id value is past = sym (is_false _ (λ h. let l = id_low ws max id value is h in omega arith))

-- ---- the least id

no_bit : (ws : List ℕ) (i : ℕ) → get_or ws (i / 64) 0 ≡ 0 → is_set ws i ≡ true → ⊥
no_bit ws i z h = one_not_zero _ h (ap (λ (w : ℕ). bit_at w (i % 64)) z ∙ bit_at-zero (i % 64))

pub none_least : (ws : List ℕ) → ((j : ℕ) → j < length ws → get_or ws j 0 ≡ 0) → IsLeastIn ws None
none_least ws z i = is_false _ (λ h. let l = set_low ws i h in no_bit ws i (z (i / 64) l) h)

above : (k at i : ℕ) → (i / 64 < k → ⊥) → (i / 64 ≡ k → i % 64 < at → ⊥) → at < 64 → 64 * k + at ≤ i
above k at i a b low = grind arith

pub some_least : (ws : List ℕ) (k at : ℕ) → k < length ws → (get_or ws k 0 ≡ 0 → ⊥) → get_or ws k 0 < 2 ^ 64 → ((j : ℕ) → j < k → get_or ws j 0 ≡ 0) → at ≡ trailing_zeros w64 (get_or ws k 0) → IsLeastIn ws (Some (64 * k + at))
some_least ws k at low some small zeros is =
    let t = bit_at-trailing_zeros w64 (get_or ws k 0) (omega arith) small in
    let below : at < 64 = subst (λ (x : ℕ). x < 64) (sym is) t.0 in
    let one : bit_at (get_or ws k 0) at ≡ 1 = subst (λ (x : ℕ). bit_at (get_or ws k 0) x ≡ 1) (sym is) t.1 in
    let d : (64 * k + at) / 64 ≡ k = omega arith in
    let m : (64 * k + at) % 64 ≡ at = omega arith in (
      is_eqb _ 1 (ap (λ (j : ℕ). bit_at (get_or ws j 0) ((64 * k + at) % 64)) d ∙ ap (λ (j : ℕ). bit_at (get_or ws k 0) j) m ∙ one),
      λ i h. (
          let a : (i / 64 < k → ⊥) = (λ l. no_bit ws i (zeros (i / 64) l) h) in
          let b : (i / 64 ≡ k → i % 64 < at → ⊥) = (λ s l. one_not_zero _ h (ap (λ (j : ℕ). bit_at (get_or ws j 0) (i % 64)) s ∙ t.2 (i % 64) (subst (λ (x : ℕ). i % 64 < x) is l))) in
          above k at i a b below),
    )

pub least_view : (ws : List ℕ) (max : ℕ) (value : IdSet) (id : ℕ) → id_set max (ids_of ws) ≡ value → IsLeastIn ws (Some id) → IsLeast value.ids id
least_view ws max value id is h = subst (λ (v : IdSet). IsLeast v.ids id) is (record { member = has_out ws id h.0; least = λ i m. h.1 i (has_in ws i m) })

pub none_view : (ws : List ℕ) (max : ℕ) (value : IdSet) → id_set max (ids_of ws) ≡ value → IsLeastIn ws None → (i : ℕ) → has value.ids i ≡ false
none_view ws max value is h i = subst (λ (v : IdSet). has v.ids i ≡ false) is (has_ids ws i ∙ h i)

-- ---- all ids

pub list_none : (s : Ids) → ((i : ℕ) → has s i ≡ false) → IsListOf [] s
list_none s h = record { ascending = search rules; members = λ i. sym (h i) }

pub list_more : (s : Ids) (id : ℕ) (xs : List ℕ) → IsLeast s id → IsListOf xs (fin.remove s id) → IsListOf (id ∷ xs) s
list_more s id xs least rest = record {
  ascending = (
    (λ y h. (
        let w = has_removed s id y (sym (rest.members y) ∙ h) in
        let l = least.least y w.1 in
        let d : (y ≡ id → ⊥) = w.0 in omega arith)),
    rest.ascending,
  );
  members = λ i. same_bool _ _
      (λ h. elim (or_split (eqb id i) (list_any (λ z. z == i) xs) h) [
        | inl same ↦ ap (has s) (sym (eqb_is id i same)) ∙ least.member
        | inr o ↦ (has_removed s id i (sym (rest.members i) ∙ o)).1
      ])
      (λ h. elim (has_left s id i h) [
        | inl same ↦ or_left (eqb id i) _ (is_eqb id i (sym same))
        | inr o ↦ or_right (eqb id i) _ (rest.members i ∙ o)
      ]);
}

pub empty_is : (s : Ids) → ((i : ℕ) → has s i ≡ false) → s ≡ fin.empty
empty_is s h = same_ids s fin.empty (λ q m. absurd (false≢true (sym (h q) ∙ m))) (λ q m. absurd (has_empty q m))

pub fewer : (s : Ids) (id : ℕ) → has s id ≡ true → fin.len (fin.remove s id) < fin.len s
fewer s id h =
    let e : fin.len (fin.remove s id) ≡ fin.len s - 1 = fin.len-remove nat_cmp_total s id ∙ ap (λ (b : Bool). cond b (fin.len s - 1) (fin.len s)) h in
    let some : (fin.len s ≡ 0 → ⊥) = (λ z. has_empty id (ap (λ (x : Ids). has x id) (sym (fin.empty_of_len s z)) ∙ h)) in
    omega arith
