-- Names of boards differ, as boards come and go, and the name of a board that went is free.
use Rattle.std.proofs.Common.{◌≡◌, ℕ, ◌≤◌, Bool, true, false, cond, List, [], ◌∷◌, ◌++◌, refl, ap, subst, Option, Some, None, arith}
use Rattle.std.specs.Prelude.{find, IfSome}
use Rattle.std.specs.List.{list_any, count_by}
use Rattle.std.proofs.lemmas.Slice.Eq.{bytes_eq-Decides}
use Rattle.board_model.specs.declared.tables.Board.{Board}
use Rattle.board_model.specs.Tables.{has_name, is_numbered, without_first}
use Rattle.board_model.proofs.ListLemmas.{any_counts, count_none, count_push, count_without, same_bytes}
use Rattle.board_service.proofs.LimitLemmas.{fewer_counted}

abbrev pub Differ : List Board → Type 0
Differ bs = (name : List ℕ) → count_by (has_name name) bs ≤ 1

-- one board more, whose name is free
pub names_more : (bs : List Board) (b : Board) → Differ bs → list_any (has_name b.name) bs ≡ false → Differ (bs ++ b ∷ [])
names_more bs b h free name = at (has_name name b) refl
  where
    at : (z : Bool) → has_name name b ≡ z → count_by (has_name name) (bs ++ b ∷ []) ≤ 1
    at true e =
        let none : list_any (has_name name) bs ≡ false = subst (λ (n : List ℕ). list_any (has_name n) bs ≡ false) (same_bytes b.name name e) free in
        let one : ◌≡◌ {A = ℕ} (cond (has_name name b) 1 0) 1 = ap (λ (c : Bool). cond c 1 0) e in
        omega (arith, count_push (has_name name) bs b, count_none (has_name name) bs none, one)
    at false e =
        let none : ◌≡◌ {A = ℕ} (cond (has_name name b) 1 0) 0 = ap (λ (c : Bool). cond c 1 0) e in
        omega (arith, count_push (has_name name) bs b, h name, none)

-- one board less
pub names_less : (bs : List Board) (q : Board → Bool) → Differ bs → Differ (without_first q bs)
names_less bs q h name = omega (arith, fewer_counted (has_name name) q bs, h name)

-- the name of the board that went is free
pub name_free : (q : Board → Bool) (bs : List Board) (b : Board) → Differ bs → find q bs ≡ Some b → list_any (has_name b.name) (without_first q bs) ≡ false
name_free q bs b h found = at (list_any (has_name b.name) (without_first q bs)) refl
  where
    one : ◌≡◌ {A = ℕ} (cond (has_name b.name b) 1 0) 1
    one = ap (λ (c : Bool). cond c 1 0) ((bytes_eq-Decides b.name b.name).1 refl)

    at : (z : Bool) → list_any (has_name b.name) (without_first q bs) ≡ z → z ≡ false
    at true e = absurd (omega (arith, any_counts (has_name b.name) (has_name b.name) (λ x k. k) (without_first q bs) e, count_without (has_name b.name) q bs b found, one, h b.name))
    at false e = refl

-- the same of the board with a number, where it stood
pub name_free_at : (n : ℕ) (bs : List Board) → Differ bs → IfSome (find (is_numbered n) bs) (λ b. list_any (has_name b.name) (without_first (is_numbered n) bs) ≡ false)
name_free_at n bs h = at (find (is_numbered n) bs) refl
  where
    at : (o : Option Board) → find (is_numbered n) bs ≡ o → IfSome o (λ b. list_any (has_name b.name) (without_first (is_numbered n) bs) ≡ false)
    at None e = tt
    at (Some b) e = name_free (is_numbered n) bs b h e
