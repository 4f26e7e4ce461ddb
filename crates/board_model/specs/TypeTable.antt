-- The key types and value types of a script: their details, the words of a value, the bytes of a key, and when keys are equal.
use Rattle.std.specs.Prelude.{ℕ, ◌==◌, Bool, true, false, ◌&&◌, if◌then◌else◌, List, [], ◌∷◌, map, take, codes}
use Rattle.std.specs.Str.{bytes_eq}
use Rattle.std.specs.Char.{to_ascii_lowercase}
use Rattle.board_layout.specs.declared.type_detail.TypeDetail.{TypeDetail}
use Rattle.board_layout.specs.declared.type_detail.TypeVariant.{TypeVariant}
use Rattle.board_layout.specs.declared.type_detail.TypeVariant.TheVariants.{FixedSize, Dynamic}
use Rattle.board_layout.specs.Bytes.{byte_of, padded, details, little}
use Rattle.board_model.specs.declared.tables.Entry.{Entry}
use Rattle.board_model.specs.declared.value.KeyType.{KeyType}
use Rattle.board_model.specs.declared.value.KeyType.TheVariants as key_type
use Rattle.board_model.specs.declared.value.ValueType.{ValueType}
use Rattle.board_model.specs.declared.value.ValueType.TheVariants as type
use Rattle.board_model.specs.declared.value.Key.{Key}
use Rattle.board_model.specs.declared.value.Key.TheVariants as key
use Rattle.board_model.specs.declared.value.Value.{Value}
use Rattle.board_model.specs.declared.value.Value.TheVariants as value

-- ---- value types

-- the name, size and alignment that a board keeps of a value type
abbrev pub value_detail : ValueType → TypeDetail
value_detail type.Bool = details (codes "bool") 1 1
value_detail type.U64 = details (codes "u64") 8 8
value_detail type.Q4 = details (codes "[u64; 4]") 32 8

-- how many words a value of the type takes
abbrev pub word_count : ValueType → ℕ
word_count type.Bool = 1
word_count type.U64 = 1
word_count type.Q4 = 4

-- the type that a value was written with
abbrev pub type_of : Value → ValueType
type_of (value.Bool b) = type.Bool
type_of (value.U64 n) = type.U64
type_of (value.Q4 a b c d) = type.Q4

-- the words that a value is kept in, in their order
abbrev pub value_words : Value → List ℕ
value_words (value.Bool b) = (if b then 1 else 0) ∷ []
value_words (value.U64 n) = n ∷ []
value_words (value.Q4 a b c d) = a ∷ b ∷ c ∷ d ∷ []

-- ---- details

-- whether both are of fixed size, or both are not
abbrev pub same_variant : TypeVariant → TypeVariant → Bool
same_variant FixedSize FixedSize = true
same_variant FixedSize Dynamic = false
same_variant Dynamic FixedSize = false
same_variant Dynamic Dynamic = true

-- whether two details agree in all that they say
abbrev pub same_type : TypeDetail → TypeDetail → Bool
same_type a b = same_variant a.variant b.variant && bytes_eq a.type_name b.type_name && (a.size == b.size) && (a.alignment == b.alignment)

-- the value type with these details, in a script
abbrev pub value_type_of : TypeDetail → ValueType
value_type_of d = if same_type d (value_detail type.Bool) then type.Bool else if same_type d (value_detail type.U64) then type.U64 else type.Q4

-- ---- key types

-- the name, size and alignment that a board keeps of a key type
abbrev pub key_detail : KeyType → TypeDetail
key_detail key_type.U64 = details (codes "u64") 8 8
key_detail key_type.F8 = details (codes "f8") 8 1

-- the key type with these details, in a script
abbrev pub key_type_of : TypeDetail → KeyType
key_type_of d = if same_type d (key_detail key_type.U64) then key_type.U64 else key_type.F8

-- the key type that a key was written with
abbrev pub type_of_key : Key → KeyType
type_of_key (key.U64 n) = key_type.U64
type_of_key (key.F8 text) = key_type.F8

-- whether the two are one key type
abbrev pub same_key_type : KeyType → KeyType → Bool
same_key_type key_type.U64 key_type.U64 = true
same_key_type key_type.U64 key_type.F8 = false
same_key_type key_type.F8 key_type.U64 = false
same_key_type key_type.F8 key_type.F8 = true

-- the eight bytes of a word, the low one first
abbrev pub word_bytes : ℕ → List ℕ
word_bytes n = byte_of n 0 ∷ byte_of n 1 ∷ byte_of n 2 ∷ byte_of n 3 ∷ byte_of n 4 ∷ byte_of n 5 ∷ byte_of n 6 ∷ byte_of n 7 ∷ []

-- the bytes of a key as an entry keeps them, 64 with zeros behind
abbrev pub key_bytes : Key → List ℕ
key_bytes (key.U64 n) = padded 64 (word_bytes n)
key_bytes (key.F8 text) = padded 64 text

-- whether two kept keys are equal: by their bytes, for f8 up to ASCII case
abbrev pub same_key : KeyType → List ℕ → List ℕ → Bool
same_key key_type.U64 a b = bytes_eq a b
same_key key_type.F8 a b = bytes_eq (map to_ascii_lowercase a) (map to_ascii_lowercase b)

-- the text that stands before the zeros behind it
abbrev pub up_to_zero : List ℕ → List ℕ
up_to_zero [] = []
up_to_zero (b ∷ bytes) = if b == 0 then [] else b ∷ up_to_zero bytes

-- the key that is kept so, as it was added
abbrev pub key_of : KeyType → List ℕ → Key
key_of key_type.U64 bytes = key.U64 (little (take 8 bytes))
key_of key_type.F8 bytes = key.F8 (up_to_zero bytes)

-- the key of an entry. A script's keys have no more than eight bytes
abbrev pub key_shown : KeyType → Entry → Key
key_shown k e = key_of k (take 8 e.key.bytes)
