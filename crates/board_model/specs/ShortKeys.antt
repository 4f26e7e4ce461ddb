-- Keys of eight bytes, as an entry keeps them.
use Rattle.std.specs.Prelude.{◌≡◌, ℕ, ◌<◌, List, ◌++◌, length, replicate, take}
use Rattle.std.specs.List.{AllByRecursion}

-- eight bytes, and zeros behind them
pub record IsShortKey (bytes : List ℕ) : Type 0 where
  pub size : length (take 8 bytes) ≡ 8
  pub small : AllByRecursion (λ b. b < 256) (take 8 bytes)
  pub rest : bytes ≡ take 8 bytes ++ replicate 56 0
