-- Laws of numbers in lines: a text is read as a number exactly where it is that number's decimal spelling, below 2^64.
use Rattle.std.specs.Prelude.{◌≡◌, ℕ, ◌<◌, ◌^◌, List, Some, decimal}
use Rattle.script_grammar.specs.TokenReading.{read_number}

-- a number is read from its decimal spelling alone, and from that it is
pub record NumbersAreSpelledOnce : Type 0 where
  pub spelled : (text : List ℕ) (n : ℕ) → read_number text ≡ Some n → (text ≡ decimal n) × (n < 2 ^ 64)
  pub read : (n : ℕ) → n < 2 ^ 64 → read_number (decimal n) ≡ Some n
