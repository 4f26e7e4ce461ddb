-- Sets of ids, and the ids of one word of 64 bits.
use Rattle.std.specs.Prelude.{◌≡◌, ℕ, zero, suc, ◌+◌, ◌-◌, ◌*◌, ◌/◌, ◌%◌, ◌<◌, ◌^◌, Bool, ◌==◌, if◌then◌else◌, List, [], ◌∷◌, slice_index}
use Rattle.std.specs.Int.{bit_at}
use Rattle.std.specs.Ordering.{nat_cmp}
use Rattle.std.specs.FinSet as set

-- a set of ids
abbrev pub Ids : Type 0
Ids = set.FinSet nat_cmp

-- whether an id is in the set
abbrev pub has : Ids → ℕ → Bool
has ids i = set.contains ids i

-- whether an id is one of word k, which are 64k to 64k + 63
abbrev pub in_word : ℕ → ℕ → Bool
in_word k i = i / 64 == k

-- v has the set's ids of word k as bits
pub record IsWord (ids : Ids) (k v : ℕ) : Type 0 where
  pub small : v < 2 ^ 64
  pub bits : (i : ℕ) → i < 64 → bit_at v i ≡ (if has ids (64 * k + i) then 1 else 0)

-- the ids from one on, of so many, that pass, ascending
abbrev pub ids_where : (ℕ → Bool) → ℕ → ℕ → List ℕ
ids_where p at zero = []
ids_where p at (suc n) = if p at then at ∷ ids_where p (at + 1) n else ids_where p (at + 1) n

-- ---- ids as bits

-- whether an id is in a list of words: id i is bit i mod 64 of word i / 64
abbrev pub is_set : List ℕ → ℕ → Bool
is_set words i = bit_at (slice_index words (i / 64)) (i % 64) == 1

-- the id of a bit, where it is set
abbrev pub id_of_bit : ℕ → ℕ → ℕ → List ℕ
id_of_bit base bits i = if bit_at bits i == 1 then (base + i) ∷ [] else []

-- the ids of so many bits from the first on, those that are set
abbrev pub ids_of_bits : ℕ → ℕ → ℕ → List ℕ
ids_of_bits base bits count = ids_where (λ i. bit_at bits (i - base) == 1) base count
