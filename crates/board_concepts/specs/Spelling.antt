-- How numbers and texts are spelled.
use Rattle.std.specs.Prelude.{◌≡◌, ℕ, ◌+◌, ◌*◌, ◌<◌, ◌≤◌, List, [], ◌∷◌, ◌++◌, ◌⊎◌, length}

-- The bytes begin with the shortest spelling of n in groups of 7 bits, the low group first, and `rest` is behind it.
-- Each group but the last has its high bit set; a group above it that is 0 is never spelled.
abbrev pub Spelled : ℕ → List ℕ → List ℕ → Type 0
Spelled n [] rest = ⊥
Spelled n (b ∷ bytes) rest =
    ((b < 128) × (n ≡ b) × (rest ≡ bytes))
    ⊎ ((128 ≤ b) × ((high : ℕ) × (0 < high) × (n + 128 ≡ b + 128 * high) × Spelled high bytes rest))

-- the bytes begin with the spelling of a text, its length and its bytes
abbrev pub SpelledText : List ℕ → List ℕ → List ℕ → Type 0
SpelledText text bytes rest = Spelled (length text) bytes (text ++ rest)

-- the new bytes are the old ones and then a spelling: whatever stands behind it, it is read off the front
abbrev pub Puts : (List ℕ → List ℕ → Type 0) → List ℕ → List ℕ → Type 0
Puts IsSpelled old new = (front : List ℕ) × (new ≡ old ++ front) × ((rest : List ℕ) → IsSpelled (front ++ rest) rest)
