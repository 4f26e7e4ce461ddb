-- Slots are equal only where their bytes are.
use Rattle.std.proofs.Common.{◌≡◌, ℕ, true, List, [], ◌∷◌, refl, arith, nat_eq}
use Rattle.std.specs.Prelude.{slice_index, ◌&&◌}
use Rattle.board_layout.specs.Keys.{IsEqualByBytes}
use Rattle.board_layout.proofs.EqualBytes.{keys_same}
use Rattle.board_index_tests.specs.declared.slot.Slot.{Slot}

-- lists of two numbers are the same where both numbers are
two_same : (x y u v : ℕ) → (nat_eq x u && nat_eq y v) ≡ true → ◌≡◌ {A = List ℕ} (x ∷ y ∷ []) (u ∷ v ∷ [])
two_same x y u v e =
    let first : x ≡ u = grind (arith, e) in
    let second : y ≡ v = grind (arith, e) in
    rw (first, second) refl

pub slot_by_bytes : IsEqualByBytes (λ (s t : Slot). nat_eq s.shelf t.shelf && nat_eq s.number t.number) (λ words. record { shelf = slice_index words 0; number = slice_index words 1 }) 16 2
slot_by_bytes a b h k e = keys_same 16 2 a b (omega arith) h k (two_same _ _ _ _ e)
