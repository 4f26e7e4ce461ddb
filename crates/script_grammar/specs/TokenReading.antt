-- Readers of tokens: how one goes on after another, and the names, numbers, types, keys and values that a token may be.
use Rattle.std.specs.Prelude.{ℕ, ◌+◌, ◌-◌, ◌*◌, Bool, true, false, not, ◌&&◌, nat_lt, ◌==◌, if◌then◌else◌, List, [], ◌∷◌, codes, Option, Some, None}
use Rattle.std.specs.Str.{bytes_eq, all_ascii_digits}
use Rattle.std.specs.List.{slice_split}
use Rattle.board_model.specs.declared.value.KeyType.{KeyType}
use Rattle.board_model.specs.declared.value.KeyType.TheVariants as key_type
use Rattle.board_model.specs.declared.value.ValueType.{ValueType}
use Rattle.board_model.specs.declared.value.ValueType.TheVariants as type
use Rattle.board_model.specs.declared.value.Key.{Key}
use Rattle.board_model.specs.declared.value.Key.TheVariants as key
use Rattle.board_model.specs.declared.value.Value.{Value}
use Rattle.board_model.specs.declared.value.Value.TheVariants as value
use Rattle.board_model.specs.LineGrammar.{is_attribute_key, is_attribute_value, is_name, is_visible, is_board_name}

-- ---- readers, one after another

infixl 10 ◌>>=◌
-- go on with what was read, where something was
abbrev pub ◌>>=◌ : {A B : Type 0} → Option A → (A → Option B) → Option B
(Some x) >>= f = f x
None >>= f = None

-- where the test holds
abbrev pub guard : {A : Type 0} → Bool → Option A → Option A
guard true o = o
guard false o = None

-- what the first token reads as, and the tokens behind it
abbrev pub first_by : {A : Type 0} → (List ℕ → Option A) → List (List ℕ) → Option (A × List (List ℕ))
first_by read [] = None
first_by read (t ∷ ts) = read t >>= λ x. Some (x, ts)

-- no token is left
abbrev pub is_end : List (List ℕ) → Bool
is_end [] = true
is_end (t ∷ ts) = false

-- the tokens of a line's bytes: the parts between its spaces
abbrev pub split_tokens : List ℕ → List (List ℕ)
split_tokens bytes = slice_split (λ b. b == 32) bytes

-- what stands beside a word in a table
abbrev pub beside : {A : Type 0} → List ℕ → List (List ℕ × A) → Option A
beside word [] = None
beside word (entry ∷ table) = if bytes_eq word entry.0 then Some entry.1 else beside word table

-- what follows a prefix
abbrev pub behind : List ℕ → List ℕ → Option (List ℕ)
behind [] text = Some text
behind (p ∷ prefix) [] = None
behind (p ∷ prefix) (b ∷ text) = guard (b == p) (behind prefix text)

-- ---- tokens

-- the number that digits go on to
abbrev pub read_on : ℕ → List ℕ → ℕ
read_on n [] = n
read_on n (c ∷ cs) = read_on (10 * n + (c - 48)) cs

-- one digit, or no leading zero
abbrev pub is_plain_numeral : List ℕ → Bool
is_plain_numeral [] = false
is_plain_numeral (c ∷ []) = true
is_plain_numeral (c ∷ d ∷ cs) = not (c == 48)

-- the number of a row of digits, where it fits in 64 bits
abbrev pub read_digits : List ℕ → Option ℕ
read_digits text = guard (all_ascii_digits text && nat_lt (read_on 0 text) 18446744073709551616) (Some (read_on 0 text))

-- a number of 64 bits, written in its one way
unfoldable pub read_number : List ℕ → Option ℕ
read_number text = guard (is_plain_numeral text) (read_digits text)

-- the name of a party or of a thing
unfoldable pub read_name : List ℕ → Option (List ℕ)
read_name text = guard (is_name text) (Some text)

-- the name under which a board is created and opened
unfoldable pub read_board_name : List ℕ → Option (List ℕ)
read_board_name text = guard (is_board_name text) (Some text)

-- the key of an attribute
unfoldable pub read_attribute_key : List ℕ → Option (List ℕ)
read_attribute_key text = guard (is_attribute_key text) (Some text)

-- the value of an attribute
unfoldable pub read_attribute_value : List ℕ → Option (List ℕ)
read_attribute_value text = guard (is_attribute_value text) (Some text)

-- the words for the types of keys
abbrev pub key_type_words : List (List ℕ × KeyType)
key_type_words = (codes "u64", key_type.U64) ∷ (codes "f8", key_type.F8) ∷ []

-- the type of the keys
unfoldable pub read_key_type : List ℕ → Option KeyType
read_key_type text = beside text key_type_words

-- the words for the types of values
abbrev pub value_type_words : List (List ℕ × ValueType)
value_type_words = (codes "bool", type.Bool) ∷ (codes "u64", type.U64) ∷ (codes "q4", type.Q4) ∷ []

-- the type of a value
unfoldable pub read_value_type : List ℕ → Option ValueType
read_value_type text = beside text value_type_words

-- a key, from what follows `u64:` and from what follows `f8:`
unfoldable pub read_key_behind : Option (List ℕ) → Option (List ℕ) → Option Key
read_key_behind (Some digits) other = read_number digits >>= λ n. Some (key.U64 n)
read_key_behind None (Some text) = guard (is_visible 8 text) (Some (key.F8 text))
read_key_behind None None = None

-- a key, by the type before its colon
unfoldable pub read_key : List ℕ → Option Key
read_key text = read_key_behind (behind (codes "u64:") text) (behind (codes "f8:") text)

-- four numbers, from the parts between commas
unfoldable pub read_four : List (List ℕ) → Option Value
read_four parts =
    first_by read_number parts >>= λ a. first_by read_number a.1 >>= λ b. first_by read_number b.1 >>= λ c. first_by read_number c.1 >>= λ d.
    guard (is_end d.1) (Some (value.Q4 a.0 b.0 c.0 d.0))

-- a value of words, from what follows `u64:` and from what follows `q4:`
unfoldable pub read_words_behind : Option (List ℕ) → Option (List ℕ) → Option Value
read_words_behind (Some digits) other = read_number digits >>= λ n. Some (value.U64 n)
read_words_behind None (Some text) = read_four (slice_split (λ b. b == 44) text)
read_words_behind None None = None

-- a value, by the type before its colon
unfoldable pub read_value : List ℕ → Option Value
read_value text =
    if bytes_eq text (codes "bool:true") then Some (value.Bool true) else
    if bytes_eq text (codes "bool:false") then Some (value.Bool false) else
    read_words_behind (behind (codes "u64:") text) (behind (codes "q4:") text)
