-- What a write takes, and how a fault is counted.
use Rattle.std.specs.Prelude.{ℕ, ◌+◌, ◌-◌, ◌^◌, ◌<◌, ◌≤◌, min, List, length, Result, IfOk}

-- how much of a piece was written: at least a byte of one that is not empty
pub record IsWritten (n : ℕ) (bytes : List ℕ) : Type 0 where
  pub most : n ≤ length bytes
  pub some : 0 < length bytes → 0 < n

abbrev pub Writes : {E : Type 0} → Result ℕ E → List ℕ → Type 0
Writes r bytes = IfOk r (λ n. IsWritten n bytes)

-- a count of faults after one more, as far as a u64 counts
abbrev pub one_fault_more : ℕ → ℕ
one_fault_more count = min (count + 1) (2 ^ 64 - 1)
