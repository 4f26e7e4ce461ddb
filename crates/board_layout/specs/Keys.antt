-- Keys as values.
use Rattle.std.specs.Prelude.{◌≡◌, ℕ, zero, suc, ◌<◌, ◌≤◌, Bool, true, List, [], ◌∷◌, length, slice_index, take, drop}
use denote.Bor.{Bor}
use Rattle.board_layout.specs.Bytes.{little}

-- this many words of bytes, the low byte first, with zeros behind
abbrev pub words_in : ℕ → List ℕ → List ℕ
words_in zero bytes = []
words_in (suc count) bytes = little (take 8 bytes) ∷ words_in count (drop 8 bytes)

-- the value of a type of this size and so many words that begins these bytes
abbrev pub key_value : {K : Type 0} → (List ℕ → K) → ℕ → ℕ → List ℕ → K
key_value value_of size words bytes = value_of (words_in words (take size bytes))

-- a value of this size and alignment, in bytes, fits, and its alignment is above 8
abbrev pub IsMisaligned : ℕ → ℕ → ℕ → Type 0
IsMisaligned capacity size alignment = (size ≤ capacity) × (8 < alignment)

-- the value of a type of this size and so many words that begins these bytes is this one
abbrev pub ReadsAs : {K : Type 0} → (List ℕ → K) → ℕ → ℕ → List ℕ → K → Type 0
ReadsAs value_of size words bytes value = key_value value_of size words bytes ≡ value

-- what holds of a call is said of a call on these bytes
abbrev pub CalledOn : (Bor (List ℕ) → Bor (List ℕ) → Type 0) → List ℕ → List ℕ → Type 0
CalledOn says left right = (l r : Bor (List ℕ)) × (l.now ≡ left) × (r.now ≡ right) × says l r

-- whether two keys are equal by their type
abbrev pub same_keys : {K : Type 0} → (K → K → Bool) → (List ℕ → K) → ℕ → ℕ → List ℕ → List ℕ → Bool
same_keys eq value_of size words a b = eq (key_value value_of size words a) (key_value value_of size words b)

-- whether a key is equal to a value
abbrev pub is_key : {K : Type 0} → (K → K → Bool) → (List ℕ → K) → ℕ → ℕ → K → List ℕ → Bool
is_key eq value_of size words key bytes = eq (key_value value_of size words bytes) key

-- the bytes of a key, with those behind them
pub record IsKeyBytes (bytes : List ℕ) : Type 0 where
  pub every : length bytes ≡ 64
  pub each : (i : ℕ) → slice_index bytes i < 256

-- keys that are equal by their type have the same bytes
abbrev pub IsEqualByBytes : {K : Type 0} → (K → K → Bool) → (List ℕ → K) → ℕ → ℕ → Type 0
IsEqualByBytes eq value_of size words = (a b : List ℕ) → IsKeyBytes a → IsKeyBytes b → same_keys eq value_of size words a b ≡ true → take size a ≡ take size b
