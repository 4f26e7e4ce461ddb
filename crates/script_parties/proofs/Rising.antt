-- Things whose numbers rise.
use Rattle.std.proofs.Common.{◌≡◌, ℕ, ◌+◌, ◌≤◌, Bool, true, false, cond, List, [], ◌∷◌, ◌++◌, arith}
use Rattle.board_model.specs.declared.tables.Thing.{Thing}
use Rattle.board_model.specs.Tables.{without_first}
use Rattle.script_parties.specs.Named.{AreRising}

pub pushed : (low last : ℕ) (ts : List (Thing ℕ ℕ)) (t : Thing ℕ ℕ) → AreRising low last ts → t.name ≡ last + 1 → AreRising low (last + 1) (ts ++ t ∷ [])
pushed low last [] t h e = (omega (arith, h, e), omega (arith, e))
pushed low last (x ∷ xs) t h e = (h.0, pushed x.name last xs t h.1 e)

lowered : (low lower last : ℕ) (ts : List (Thing ℕ ℕ)) → lower ≤ low → AreRising low last ts → AreRising lower last ts
lowered low lower last [] le h = omega (arith, le, h)
lowered low lower last (t ∷ ts) le h = (omega (arith, le, h.0), h.1)

pub fewer : (p : Thing ℕ ℕ → Bool) (low last : ℕ) (ts : List (Thing ℕ ℕ)) → AreRising low last ts → AreRising low last (without_first p ts)
fewer p low last [] h = h
fewer p low last (t ∷ ts) h =
    elim (p t) as (λ b. AreRising low last (cond b ts (t ∷ without_first p ts))) [
      | true ↦ lowered t.name low last ts (omega (arith, h.0)) h.1
      | false ↦ (h.0, fewer p t.name last ts h.1)
    ]
