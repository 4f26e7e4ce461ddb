-- What clauses see of a bit set: its greatest id and its ids; and the words that hold them.
use Rattle.std.specs.Prelude.{◌≡◌, not, ℕ, ◌*◌, ◌<◌, ◌≤◌, true, false, Option, Some, None, [], ◌∷◌, ⊤, ◌==◌, List, length, refl}
use Rattle.std.specs.List.{FoldsTo, list_any}
use Rattle.std.specs.Coded.{Coded, code_by, coded×, coded_ℕ}
use Rattle.std.specs.FinSet as set
use Rattle.board_event_model.specs.Ids.{Ids, has, ids_where, in_word, is_set}

-- a bit set: its greatest id, and the ids in it
pub record IdSet : Type 0 where
  pub max : ℕ
  pub ids : Ids

-- the set with one id more
abbrev pub with_id : IdSet → ℕ → IdSet
with_id s id = record s { ids = set.insert s.ids id }

-- the set without the ids of a word
abbrev pub without_word : IdSet → ℕ → IdSet
without_word s word = record s { ids = set.retain s.ids (λ i. not (in_word word i)) }

-- it is stored as a pair
abbrev pub id_set_code : Coded IdSet
id_set_code = code_by (ℕ × Ids) (coded× coded_ℕ (set.code coded_ℕ)) (λ s. (s.max, s.ids)) (λ p. record { max = p.0; ids = p.1 }) (λ _. refl)

-- the id is the set's least
pub record IsLeast (ids : Ids) (id : ℕ) : Type 0 where
  pub member : has ids id ≡ true
  pub least : (i : ℕ) → has ids i ≡ true → id ≤ i

-- nothing is taken from an empty set; else the least id is
abbrev pub IsAcquired : IdSet → IdSet → Option ℕ → Type 0
IsAcquired old new None = ((i : ℕ) → has old.ids i ≡ false) × (new ≡ old)
IsAcquired old new (Some id) = IsLeast old.ids id × (new ≡ record old { ids = set.remove old.ids id })

-- each number is below all that follow
abbrev pub IsAscending : List ℕ → Type 0
IsAscending [] = ⊤
IsAscending (x ∷ xs) = ((y : ℕ) → list_any (λ z. z == y) xs ≡ true → x < y) × IsAscending xs

-- the list has the ids of the set, ascending
pub record IsListOf (xs : List ℕ) (ids : Ids) : Type 0 where
  pub ascending : IsAscending xs
  pub members : (i : ℕ) → list_any (λ z. z == i) xs ≡ has ids i

-- a callback is called on each id of a set, the least first, where `step` tells a call of it
abbrev pub IsCalledOnEach : {F : Type 0} → (F → ℕ → F → Type 0) → F → Ids → Type 0
IsCalledOnEach {F} step callback all = (ids : List ℕ) × IsListOf ids all × (last : F) × FoldsTo step callback ids last

-- ---- the words of a bit set. No clause of a public call cites what follows.

-- the ids of a list of words
abbrev pub ids_of : List ℕ → Ids
ids_of words = set.from_list (ids_where (is_set words) 0 (64 * length words))

-- the least id of the words, if they have one
abbrev pub IsLeastIn : List ℕ → Option ℕ → Type 0
IsLeastIn ws None = (i : ℕ) → is_set ws i ≡ false
IsLeastIn ws (Some id) = (is_set ws id ≡ true) × ((i : ℕ) → is_set ws i ≡ true → id ≤ i)
