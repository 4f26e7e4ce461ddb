-- How values lie in words.
use Rattle.std.specs.Prelude.{◌≡◌, ℕ, ◌+◌, ◌*◌, ◌<◌, ◌≤◌, List, length, slice_index, All, ◌^◌}
use Rattle.board_layout.specs.Bytes.{byte_at}

-- the least number of words that hold this many bytes
pub record IsWordCount (size words : ℕ) : Type 0 where
  pub holds : size ≤ 8 * words
  pub least : 8 * words < size + 8

-- the words of a value of this many bytes, with zeros behind its bytes
pub record AreWordsOf (size count : ℕ) (words : List ℕ) : Type 0 where
  pub every : length words ≡ count
  pub small : All (λ word. word < 2 ^ 64) words
  pub behind : (i : ℕ) → size ≤ i → byte_at words i ≡ 0

-- eight bytes
pub record IsEightBytes (bytes : List ℕ) : Type 0 where
  pub every : length bytes ≡ 8
  pub each : (i : ℕ) → slice_index bytes i < 256
