-- A reader of board lines. It goes through the tokens of a line from the front, and gives the line that they are, where there is one.
use Rattle.std.specs.Prelude.{ℕ, zero, suc, Bool, false, if◌then◌else◌, List, [], ◌∷◌, drop, codes, Option, Some, None}
use Rattle.std.specs.Str.{bytes_eq}
use Rattle.board_model.specs.declared.attributes.Attribute.{Attribute}
use Rattle.board_model.specs.declared.attributes.Requirements.{Requirements}
use Rattle.board_model.specs.declared.tables.Limits.{Limits}
use Rattle.board_model.specs.declared.value.AddedEntry.{AddedEntry}
use Rattle.board_model.specs.declared.value.KeyType.{KeyType}
use Rattle.board_model.specs.declared.value.ValueType.{ValueType}
use Rattle.board_model.specs.declared.value.Key.{Key}
use Rattle.board_model.specs.declared.line.Call.{Call}
use Rattle.board_model.specs.declared.line.Call.TheVariants as call
use Rattle.board_model.specs.declared.line.Line.{Line}
use Rattle.board_model.specs.declared.line.Line.TheVariants as line
use Rattle.script_grammar.specs.TokenReading.{◌>>=◌, first_by, guard, is_end, read_attribute_key, read_attribute_value, read_board_name, read_key, read_key_type, read_name, read_number, read_value, read_value_type}

-- ---- the optional parts of a call, which stand in their order

-- the next token is this word
abbrev pub begins_with : List ℕ → List (List ℕ) → Bool
begins_with word [] = false
begins_with word (t ∷ ts) = bytes_eq t word

-- a limit, where its word stands, and the tokens behind it
unfoldable pub read_limit : List ℕ → List (List ℕ) → Option (Option ℕ × List (List ℕ))
read_limit word ts = if begins_with word ts then (first_by read_number (drop 1 ts) >>= λ n. Some (Some n.0, n.1)) else Some (None, ts)

-- the limit of readers, and then that of nodes
unfoldable pub read_limits : List (List ℕ) → Option (Limits × List (List ℕ))
read_limits ts =
    read_limit (codes "readers") ts >>= λ r. read_limit (codes "nodes") r.1 >>= λ n.
    Some (record { max_readers = r.0; max_nodes = n.0 }, n.1)

-- at most so many parts, each behind the word
unfoldable pub read_parts : {A : Type 0} → ℕ → List ℕ → (List (List ℕ) → Option (A × List (List ℕ))) → List (List ℕ) → Option (List A × List (List ℕ))
read_parts zero word read ts = Some ([], ts)
read_parts (suc most) word read ts =
    if begins_with word ts then (read (drop 1 ts) >>= λ x. read_parts most word read x.1 >>= λ xs. Some (x.0 ∷ xs.0, xs.1)) else Some ([], ts)

-- a key and a value
unfoldable pub read_pair : List (List ℕ) → Option (Attribute × List (List ℕ))
read_pair ts = first_by read_attribute_key ts >>= λ k. first_by read_attribute_value k.1 >>= λ v. Some (record { key = k.0; value = v.0 }, v.1)

-- the pairs that an opener needs, and then the keys
unfoldable pub read_needs : List (List ℕ) → Option (Requirements × List (List ℕ))
read_needs ts =
    read_parts 8 (codes "need") read_pair ts >>= λ pairs. read_parts 8 (codes "needkey") (first_by read_attribute_key) pairs.1 >>= λ keys.
    Some (record { pairs = pairs.0; keys = keys.0 }, keys.1)

-- ---- calls

-- an added entry: its word, its key and its first value
unfoldable pub read_entry : List ℕ → List ℕ → List ℕ → Option AddedEntry
read_entry word k v = guard (bytes_eq word (codes "add")) (read_key k >>= λ key. read_value v >>= λ value. Some (record { key = key; value = value }))

-- the added entries, which take up the rest of the line
unfoldable pub read_entries : List (List ℕ) → Option (List AddedEntry)
read_entries [] = Some []
read_entries (word ∷ []) = None
read_entries (word ∷ k ∷ []) = None
read_entries (word ∷ k ∷ v ∷ rest) = read_entry word k v >>= λ e. read_entries rest >>= λ es. Some (e ∷ es)

-- what `create` and `open` begin with: the factory's name, the board's, the type of the keys and the limits
unfoldable pub read_board : List (List ℕ) → Option ((List ℕ × List ℕ × KeyType × Limits) × List (List ℕ))
read_board ts =
    first_by read_name ts >>= λ f. first_by read_board_name f.1 >>= λ n. first_by read_key_type n.1 >>= λ k. read_limits k.1 >>= λ limits.
    Some ((f.0, n.0, k.0, limits.0), limits.1)

-- the limit of writers, attributes and entries may follow
unfoldable pub read_create : List (List ℕ) → Option Call
read_create ts =
    read_board ts >>= λ b. read_limit (codes "writers") b.1 >>= λ w. read_parts 8 (codes "attr") read_pair w.1 >>= λ attributes. read_entries attributes.1 >>= λ entries.
    Some (call.Create b.0.0 b.0.1 b.0.2 (record { shared = b.0.3; max_writers = w.0 }) attributes.0 entries)

-- needs may follow
unfoldable pub read_open : List (List ℕ) → Option Call
read_open ts = read_board ts >>= λ b. read_needs b.1 >>= λ needs. guard (is_end needs.1) (Some (call.Open b.0.0 b.0.1 b.0.2 b.0.3 needs.0))

-- a single name and no more
unfoldable pub read_one_name : List (List ℕ) → Option (List ℕ)
read_one_name ts = first_by read_name ts >>= λ a. guard (is_end a.1) (Some a.0)

-- two names and no more
unfoldable pub read_two_names : List (List ℕ) → Option (List ℕ × List ℕ)
read_two_names ts = first_by read_name ts >>= λ a. first_by read_name a.1 >>= λ b. guard (is_end b.1) (Some (a.0, b.0))

-- the name that may stand at the end
unfoldable pub read_name_if_any : List (List ℕ) → Option (Option (List ℕ))
read_name_if_any [] = Some None
read_name_if_any (t ∷ ts) = read_name t >>= λ n. guard (is_end ts) (Some (Some n))

-- what asks for a handle of an entry: its name, the port's, a key and a type of values, and no more
unfoldable pub read_entry_parts : List (List ℕ) → Option (List ℕ × List ℕ × Key × ValueType)
read_entry_parts ts =
    first_by read_name ts >>= λ h. first_by read_name h.1 >>= λ p. first_by read_key p.1 >>= λ k. first_by read_value_type k.1 >>= λ t.
    guard (is_end t.1) (Some (h.0, p.0, k.0, t.0))

-- reading by a handle, where a name may be given to what is read
unfoldable pub read_get : List (List ℕ) → Option Call
read_get ts = first_by read_name ts >>= λ h. read_name_if_any h.1 >>= λ v. Some (call.Get h.0 v)

-- writing a value by a write handle
unfoldable pub read_update : List (List ℕ) → Option Call
read_update ts = first_by read_name ts >>= λ m. first_by read_value m.1 >>= λ v. guard (is_end v.1) (Some (call.Update m.0 v.0))

-- putting one word into a loan, at an index
unfoldable pub read_put : List (List ℕ) → Option Call
read_put ts =
    first_by read_name ts >>= λ l. first_by read_number l.1 >>= λ i. first_by read_number i.1 >>= λ w.
    guard (is_end w.1) (Some (call.Put l.0 i.0 w.0))

-- filling a loan with a whole value
unfoldable pub read_fill : List (List ℕ) → Option Call
read_fill ts =
    first_by read_name ts >>= λ l. first_by read_name l.1 >>= λ m. first_by read_value m.1 >>= λ v.
    guard (is_end v.1) (Some (call.Fill l.0 m.0 v.0))

-- the call of a word with two names or one behind it
unfoldable pub read_named_call : List ℕ → List (List ℕ) → Option Call
read_named_call word ts =
    if bytes_eq word (codes "reader") then (read_two_names ts >>= λ p. Some (call.Reader p.0 p.1)) else
    if bytes_eq word (codes "writer") then (read_two_names ts >>= λ p. Some (call.Writer p.0 p.1)) else
    if bytes_eq word (codes "fresh") then (read_two_names ts >>= λ p. Some (call.Fresh p.0 p.1)) else
    if bytes_eq word (codes "loan") then (read_two_names ts >>= λ p. Some (call.Loan p.0 p.1)) else
    if bytes_eq word (codes "discard") then (read_two_names ts >>= λ p. Some (call.Discard p.0 p.1)) else
    if bytes_eq word (codes "publish") then (read_two_names ts >>= λ p. Some (call.Publish p.0 p.1)) else
    if bytes_eq word (codes "gen") then (read_one_name ts >>= λ a. Some (call.Gen a)) else
    if bytes_eq word (codes "keys") then (read_one_name ts >>= λ a. Some (call.Keys a)) else
    if bytes_eq word (codes "nodes") then (read_one_name ts >>= λ a. Some (call.Nodes a)) else
    if bytes_eq word (codes "info") then (read_one_name ts >>= λ a. Some (call.Info a)) else
    if bytes_eq word (codes "id") then (read_one_name ts >>= λ a. Some (call.Id a)) else None

-- the call of a word, but for the two that have optional parts
unfoldable pub read_plain_call : List ℕ → List (List ℕ) → Option Call
read_plain_call word ts =
    if bytes_eq word (codes "entry") then (read_entry_parts ts >>= λ e. Some (call.Entry e.0 e.1 e.2 e.3)) else
    if bytes_eq word (codes "entrymut") then (read_entry_parts ts >>= λ e. Some (call.EntryMut e.0 e.1 e.2 e.3)) else
    if bytes_eq word (codes "get") then read_get ts else
    if bytes_eq word (codes "update") then read_update ts else
    if bytes_eq word (codes "put") then read_put ts else
    if bytes_eq word (codes "fill") then read_fill ts else
    read_named_call word ts

-- a call, by its word
unfoldable pub read_call : List (List ℕ) → Option Call
read_call [] = None
read_call (word ∷ ts) =
    if bytes_eq word (codes "create") then read_create ts else
    if bytes_eq word (codes "open") then read_open ts else
    read_plain_call word ts

-- ---- lines

-- a line that begins a call: a party, and what it calls
unfoldable pub read_begin : List (List ℕ) → Option Line
read_begin ts = first_by read_name ts >>= λ p. read_call p.1 >>= λ c. Some (line.Begin p.0 c)

-- a line that asks for the words of a board, by its number
unfoldable pub read_words : List (List ℕ) → Option Line
read_words ts = first_by read_number ts >>= λ n. guard (is_end n.1) (Some (line.Words n.0))

-- the line of a word, but for `begin`
unfoldable pub read_plain_line : List ℕ → List (List ℕ) → Option Line
read_plain_line word ts =
    if bytes_eq word (codes "step") then (read_one_name ts >>= λ p. Some (line.Step p)) else
    if bytes_eq word (codes "drop") then (read_two_names ts >>= λ p. Some (line.Release p.0 p.1)) else
    if bytes_eq word (codes "abandon") then (read_one_name ts >>= λ p. Some (line.Abandon p)) else
    if bytes_eq word (codes "words") then read_words ts else None

-- a line of the grammar, by its first word
unfoldable pub read_line : List (List ℕ) → Option Line
read_line [] = None
read_line (word ∷ rest) = if bytes_eq word (codes "begin") then read_begin rest else read_plain_line word rest
