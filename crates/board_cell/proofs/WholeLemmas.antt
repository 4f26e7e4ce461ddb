-- What whole calls read of a cell, and write.
use Rattle.std.proofs.Common.{◌≡◌, ◌≢◌, ◌⊎◌, inl, inr, ⊎_elim, ℕ, ◌+◌, ◌*◌, ◌%◌, ◌<◌, ◌≤◌, List, length, length-set, sym, ap, ◌∙◌, arith}
use Rattle.std.specs.Prelude.{slice_index, slice_set}
use Rattle.std.proofs.lemmas.List.{ext_get_or, get_or-set_same, get_or-set_other}
use mathlib.Core.Logic.{dite}
use native.Mathlib.Decide.{ℕ_discrete}
use Rattle.board_layout.specs.declared.shape.CellShape.{CellShape}
use Rattle.board_layout.specs.Layout.{cell_end}
use Rattle.board_cell_model.specs.OwedAccesses.{copy_at, current_at, spare_at}
use Rattle.board_cell.specs.WholeCalls.{CellsHaveOneValue, LiesAmong, LieApart, OthersKeepTheirValues, PublishesIn, generation_in}

-- each copy stands behind the head, or behind the other copy
copies : (c : CellShape) (g : ℕ) → (copy_at c g ≡ c.first + c.head) ⊎ (copy_at c g ≡ c.first + c.head + c.words)
copies c g = dite (ℕ_discrete (g % 2) 0)
    (λ even. inl (ap (λ (m : ℕ). c.first + c.head + m * c.words) even ∙ omega arith))
    (λ odd. let one : g % 2 ≡ 1 = omega (odd, arith) in inr (ap (λ (m : ℕ). c.first + c.head + m * c.words) one ∙ omega arith))

pub copy_ends : (c : CellShape) (g : ℕ) → copy_at c g + c.words ≤ cell_end c
copy_ends c g = ⊎_elim (λ e. omega (arith, e)) (λ e. omega (arith, e)) (copies c g)

pub copy_begins : (c : CellShape) (g : ℕ) → c.first + c.head ≤ copy_at c g
copy_begins c g = ⊎_elim (λ e. omega (arith, e)) (λ e. omega (arith, e)) (copies c g)

two_later : (c : CellShape) (g : ℕ) → copy_at c ((g + 1) + 1) ≡ copy_at c g
two_later c g = let e : ((g + 1) + 1) % 2 ≡ g % 2 = omega arith in ap (λ (m : ℕ). c.first + c.head + m * c.words) e

-- the value lies in the spare copy, all else is as before, and then the counter is raised
pub published : (shape : CellShape) (value old mid new : List ℕ) (g : ℕ) → LiesAmong shape old → length value ≡ shape.words → slice_index old shape.first ≡ g
    → length mid ≡ length old
    → ((k : ℕ) → k < shape.words → slice_index mid (spare_at shape g + k) ≡ slice_index value k)
    → ((k : ℕ) → k < spare_at shape g → slice_index mid k ≡ slice_index old k)
    → ((k : ℕ) → spare_at shape g + shape.words ≤ k → slice_index mid k ≡ slice_index old k)
    → new ≡ slice_set mid shape.first (g + 1) → PublishesIn shape value old new
published shape value old mid new g lies wide is long copied low high raised =
    let begins = copy_begins shape g in
    let ends = copy_ends shape g in
    let inside : shape.first < length mid = omega (arith, lies.head, lies.within, long) in
    let counter : slice_index new shape.first ≡ g + 1 = ap (λ (l : List ℕ). slice_index l shape.first) raised ∙ get_or-set_same mid shape.first (g + 1) 0 inside in
    let other : (k : ℕ) → k ≢ shape.first → slice_index new k ≡ slice_index mid k = λ k apart. ap (λ (l : List ℕ). slice_index l k) raised ∙ get_or-set_other mid shape.first k (g + 1) 0 apart in
    let spot : current_at shape (generation_in shape new) ≡ spare_at shape g = ap (λ (n : ℕ). copy_at shape (n + 1)) counter ∙ two_later shape g in
    record {
      count = ap (λ (l : List ℕ). length l) raised ∙ length-set mid shape.first (g + 1) ∙ long;
      generation = counter ∙ ap (λ (n : ℕ). n + 1) (sym is);
      value = record {
        width = wide;
        each = λ i lt.
            ap (λ (n : ℕ). slice_index new (n + i)) spot
            ∙ other (spare_at shape g + i) (λ e. absurd (omega (arith, e, begins, lies.head)))
            ∙ copied i lt;
      };
      before = λ i lt. other i (λ e. absurd (omega (arith, e, lt))) ∙ low i (omega (arith, lt, begins));
      behind = λ i le. other i (λ e. absurd (omega (arith, e, le, lies.head))) ∙ high i (omega (arith, le, ends));
    }

pub one_value : CellsHaveOneValue
one_value shape words u v hu hv =
    ext_get_or 0 u v (hu.width ∙ sym hv.width) (λ i lt.
    let inside : i < shape.words = omega (arith, lt, hu.width) in
    sym (hu.each i inside) ∙ hv.each i inside)

-- the words of a cell that lies apart are as before
apart_same : (shape other : CellShape) (value old new : List ℕ) (k : ℕ) → LieApart shape other → PublishesIn shape value old new → other.first ≤ k → k < cell_end other → slice_index new k ≡ slice_index old k
apart_same shape other value old new k (inl before) p from upto = p.behind k (omega (arith, before, from))
apart_same shape other value old new k (inr behind) p from upto = p.before k (omega (arith, behind, upto))

pub others_keep : OthersKeepTheirValues
others_keep shape other value kept old new apart p h = record {
  width = h.width;
  each = λ i lt.
      let counter : generation_in other new ≡ generation_in other old = apart_same shape other value old new other.first apart p (omega arith) (omega (arith, lt)) in
      let begins = copy_begins other (generation_in other old + 1) in
      let ends = copy_ends other (generation_in other old + 1) in
      ap (λ (n : ℕ). slice_index new (current_at other n + i)) counter
      ∙ apart_same shape other value old new (current_at other (generation_in other old) + i) apart p (omega (arith, begins)) (omega (arith, ends, lt))
      ∙ h.each i lt;
}

-- one more word of the value in the spare copy
pub stepped : (start wide i : ℕ) (value old mid new : List ℕ) → start + wide ≤ length old → i < wide → length mid ≡ length old
    → ((k : ℕ) → k < i → slice_index mid (start + k) ≡ slice_index value k)
    → ((k : ℕ) → k < start → slice_index mid k ≡ slice_index old k)
    → ((k : ℕ) → start + wide ≤ k → slice_index mid k ≡ slice_index old k)
    → new ≡ slice_set mid (start + i) (slice_index value i)
    → (length new ≡ length old) × ((k : ℕ) → k < i + 1 → slice_index new (start + k) ≡ slice_index value k)
    × ((k : ℕ) → k < start → slice_index new k ≡ slice_index old k) × ((k : ℕ) → start + wide ≤ k → slice_index new k ≡ slice_index old k)
stepped start wide i value old mid new within lt long copied low high set_is =
    let other : (k : ℕ) → k ≢ start + i → slice_index new k ≡ slice_index mid k = λ k apart. ap (λ (l : List ℕ). slice_index l k) set_is ∙ get_or-set_other mid (start + i) k (slice_index value i) 0 apart in (
      ap (λ (l : List ℕ). length l) set_is ∙ length-set mid (start + i) (slice_index value i) ∙ long,
      λ k less. dite (ℕ_discrete k i)
          (λ same. ap (λ (m : ℕ). slice_index new (start + m)) same ∙ ap (λ (l : List ℕ). slice_index l (start + i)) set_is
          ∙ get_or-set_same mid (start + i) (slice_index value i) 0 (omega (arith, within, lt, long)) ∙ ap (λ (m : ℕ). slice_index value m) (sym same))
          (λ apart. other (start + k) (λ e. apart (omega (arith, e))) ∙ copied k (omega (arith, less, apart))),
      λ k less. other k (λ e. absurd (omega (arith, e, less))) ∙ low k less,
      λ k more. other k (λ e. absurd (omega (arith, e, more, lt))) ∙ high k more,
    )
