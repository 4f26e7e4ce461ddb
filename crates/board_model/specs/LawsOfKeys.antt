-- Laws of keys: when they are equal, what a lookup takes, and how they are told.
use Rattle.std.specs.Prelude.{◌≡◌, ℕ, ◌<◌, Bool, true, false, List, slice_get, Some, None}
use Rattle.board_model.specs.declared.tables.Entry.{Entry}
use Rattle.board_model.specs.declared.value.Key.{Key}
use Rattle.board_model.specs.declared.value.KeyType.{KeyType}
use Rattle.board_model.specs.LineGrammar.{IsKey}
use Rattle.board_model.specs.TypeTable.{key_bytes, key_of, same_key, type_of_key}
use Rattle.board_model.specs.Tables.{entry_from}

-- a key is told as it was added
abbrev pub KeysAreToldAsAdded : Type 0
KeysAreToldAsAdded = (k : Key) → IsKey k → key_of (type_of_key k) (key_bytes k) ≡ k

-- equality of keys is an equivalence
pub record IsEquivalence (k : KeyType) : Type 0 where
  pub itself : (a : List ℕ) → same_key k a a ≡ true
  pub turned : (a b : List ℕ) → same_key k a b ≡ true → same_key k b a ≡ true
  pub joined : (a b c : List ℕ) → same_key k a b ≡ true → same_key k b c ≡ true → same_key k a c ≡ true

-- this holds for the keys of each type
abbrev pub EqualKeysAreAnEquivalence : Type 0
EqualKeysAreAnEquivalence = (k : KeyType) → IsEquivalence k

-- the entry at this place has a key that passes the test, and none before it has
pub record IsFirst (is_key : List ℕ → Bool) (entries : List Entry) (place : ℕ) (e : Entry) : Type 0 where
  pub there : slice_get entries place ≡ Some e
  pub passes : is_key e.key.bytes ≡ true
  pub before : (i : ℕ) (f : Entry) → i < place → slice_get entries i ≡ Some f → is_key f.key.bytes ≡ false

-- a lookup takes the first entry, in the order of adding, whose key is equal
abbrev pub LookupsTakeTheFirst : Type 0
LookupsTakeTheFirst = (is_key : List ℕ → Bool) (entries : List Entry) (place : ℕ) (e : Entry) → entry_from 0 is_key entries ≡ Some (place, e) → IsFirst is_key entries place e

-- where a lookup takes none, no entry's key is equal, and the other way round
pub record LookupsTakeNone : Type 0 where
  pub none : (is_key : List ℕ → Bool) (entries : List Entry) → entry_from 0 is_key entries ≡ None
      → (i : ℕ) (e : Entry) → slice_get entries i ≡ Some e → is_key e.key.bytes ≡ false
  pub all : (is_key : List ℕ → Bool) (entries : List Entry) → ((i : ℕ) (e : Entry) → slice_get entries i ≡ Some e → is_key e.key.bytes ≡ false)
      → entry_from 0 is_key entries ≡ None
