-- The lines of a script and their bytes.
use Rattle.std.specs.Prelude.{◌≡◌, ℕ, ◌<◌, ◌≤◌, ◌^◌, Bool, true, false, not, ◌&&◌, ◌||◌, nat_le, ◌==◌, List, [], ◌∷◌, ◌++◌, length, codes, decimal, Option, Some, None}
use Rattle.std.specs.List.{join_with_byte, flat_map, list_all, AllByRecursion}
use Rattle.board_model.specs.declared.attributes.Attribute.{Attribute}
use Rattle.board_model.specs.declared.attributes.Requirements.{Requirements}
use Rattle.board_model.specs.declared.tables.Limits.{Limits}
use Rattle.board_model.specs.declared.tables.NewLimits.{NewLimits}
use Rattle.board_model.specs.declared.value.AddedEntry.{AddedEntry}
use Rattle.board_model.specs.declared.value.KeyType.{KeyType}
use Rattle.board_model.specs.declared.value.KeyType.TheVariants as key_type
use Rattle.board_model.specs.declared.value.ValueType.{ValueType}
use Rattle.board_model.specs.declared.value.ValueType.TheVariants as type
use Rattle.board_model.specs.declared.value.Key.{Key}
use Rattle.board_model.specs.declared.value.Key.TheVariants as key
use Rattle.board_model.specs.declared.value.Value.{Value}
use Rattle.board_model.specs.declared.value.Value.TheVariants as value
use Rattle.board_model.specs.declared.line.Call.{Call}
use Rattle.board_model.specs.declared.line.Call.TheVariants as call
use Rattle.board_model.specs.declared.line.Line.{Line}
use Rattle.board_model.specs.declared.line.Line.TheVariants as line

-- ---- the tokens of a line, which are parted by one space

-- how a line names a type of keys
abbrev pub key_type_text : KeyType → List ℕ
key_type_text key_type.U64 = codes "u64"
key_type_text key_type.F8 = codes "f8"

-- how a line names a type of values
abbrev pub value_type_text : ValueType → List ℕ
value_type_text type.Bool = codes "bool"
value_type_text type.U64 = codes "u64"
value_type_text type.Q4 = codes "q4"

-- a key behind the name of its type
abbrev pub key_text : Key → List ℕ
key_text (key.U64 n) = codes "u64:" ++ decimal n
key_text (key.F8 text) = codes "f8:" ++ text

-- a value behind the name of its type
abbrev pub value_text : Value → List ℕ
value_text (value.Bool true) = codes "bool:true"
value_text (value.Bool false) = codes "bool:false"
value_text (value.U64 n) = codes "u64:" ++ decimal n
value_text (value.Q4 a b c d) = codes "q4:" ++ join_with_byte 44 (decimal a ∷ decimal b ∷ decimal c ∷ decimal d ∷ [])

-- a limit that is set stands behind its word
abbrev pub limit_tokens : List ℕ → Option ℕ → List (List ℕ)
limit_tokens word None = []
limit_tokens word (Some n) = word ∷ decimal n ∷ []

-- the limits that are set, readers first
abbrev pub limits_tokens : Limits → List (List ℕ)
limits_tokens l = limit_tokens (codes "readers") l.max_readers ++ limit_tokens (codes "nodes") l.max_nodes

-- those of a new board: writers last
abbrev pub new_limits_tokens : NewLimits → List (List ℕ)
new_limits_tokens l = limits_tokens l.shared ++ limit_tokens (codes "writers") l.max_writers

-- an attribute behind its word: key, then value
abbrev pub pair_tokens : List ℕ → Attribute → List (List ℕ)
pair_tokens word a = word ∷ a.key ∷ a.value ∷ []

-- a key that is to be there, whatever its value
abbrev pub needed_key_tokens : List ℕ → List (List ℕ)
needed_key_tokens k = codes "needkey" ∷ k ∷ []

-- an entry of a new board: key, then first value
abbrev pub entry_tokens : AddedEntry → List (List ℕ)
entry_tokens e = codes "add" ∷ key_text e.key ∷ value_text e.value ∷ []

-- a name that may be left out
abbrev pub name_tokens : Option (List ℕ) → List (List ℕ)
name_tokens None = []
name_tokens (Some v) = v ∷ []

-- a call: its word, then what it names, then its optional parts
abbrev pub call_tokens : Call → List (List ℕ)
call_tokens (call.Create f name k limits attributes entries) =
    codes "create" ∷ f ∷ name ∷ key_type_text k ∷ (new_limits_tokens limits ++ (flat_map (pair_tokens (codes "attr")) attributes ++ flat_map entry_tokens entries))
call_tokens (call.Open f name k limits needs) =
    codes "open" ∷ f ∷ name ∷ key_type_text k ∷ (limits_tokens limits ++ (flat_map (pair_tokens (codes "need")) needs.pairs ++ flat_map needed_key_tokens needs.keys))
call_tokens (call.Reader r f) = codes "reader" ∷ r ∷ f ∷ []
call_tokens (call.Writer w f) = codes "writer" ∷ w ∷ f ∷ []
call_tokens (call.Entry h r k t) = codes "entry" ∷ h ∷ r ∷ key_text k ∷ value_type_text t ∷ []
call_tokens (call.EntryMut m w k t) = codes "entrymut" ∷ m ∷ w ∷ key_text k ∷ value_type_text t ∷ []
call_tokens (call.Get h v) = codes "get" ∷ h ∷ name_tokens v
call_tokens (call.Fresh h v) = codes "fresh" ∷ h ∷ v ∷ []
call_tokens (call.Update m v) = codes "update" ∷ m ∷ value_text v ∷ []
call_tokens (call.Loan l m) = codes "loan" ∷ l ∷ m ∷ []
call_tokens (call.Discard l m) = codes "discard" ∷ l ∷ m ∷ []
call_tokens (call.Put l i w) = codes "put" ∷ l ∷ decimal i ∷ decimal w ∷ []
call_tokens (call.Publish l m) = codes "publish" ∷ l ∷ m ∷ []
call_tokens (call.Fill l m v) = codes "fill" ∷ l ∷ m ∷ value_text v ∷ []
call_tokens (call.Keys f) = codes "keys" ∷ f ∷ []
call_tokens (call.Nodes f) = codes "nodes" ∷ f ∷ []
call_tokens (call.Info f) = codes "info" ∷ f ∷ []
call_tokens (call.Id t) = codes "id" ∷ t ∷ []
call_tokens (call.Gen m) = codes "gen" ∷ m ∷ []

-- a whole line, token after token
abbrev pub tokens : Line → List (List ℕ)
tokens (line.Begin p c) = codes "begin" ∷ p ∷ call_tokens c
tokens (line.Step p) = codes "step" ∷ p ∷ []
tokens (line.Release p t) = codes "drop" ∷ p ∷ t ∷ []
tokens (line.Abandon p) = codes "abandon" ∷ p ∷ []
tokens (line.Words b) = codes "words" ∷ decimal b ∷ []

-- the bytes of a line: its tokens with one space between two
abbrev pub spell : Line → List ℕ
spell l = join_with_byte 32 (tokens l)

-- ---- which texts and numbers may stand in a line

-- a to z and 0 to 9
abbrev pub is_name_byte : ℕ → Bool
is_name_byte b = nat_le 97 b && nat_le b 122 || nat_le 48 b && nat_le b 57

-- the name of a party or a thing
abbrev pub is_name : List ℕ → Bool
is_name text = not (length text == 0) && nat_le (length text) 16 && list_all is_name_byte text

-- a printed character of ASCII other than the space
abbrev pub is_visible_byte : ℕ → Bool
is_visible_byte b = nat_le 33 b && nat_le b 126

-- 1 to so many visible bytes
abbrev pub is_visible : ℕ → List ℕ → Bool
is_visible most text = not (length text == 0) && nat_le (length text) most && list_all is_visible_byte text

-- the name of a board
abbrev pub is_board_name : List ℕ → Bool
is_board_name text = is_visible 255 text

-- a number of 64 bits
abbrev pub IsNumber : ℕ → Type 0
IsNumber n = n < 2 ^ 64

-- a key that an entry may have
abbrev pub IsKey : Key → Type 0
IsKey (key.U64 n) = IsNumber n
IsKey (key.F8 text) = is_visible 8 text ≡ true

-- a value that an entry may have
abbrev pub IsValue : Value → Type 0
IsValue (value.Bool b) = Unit {0}
IsValue (value.U64 n) = IsNumber n
IsValue (value.Q4 a b c d) = IsNumber a × IsNumber b × IsNumber c × IsNumber d

-- an entry that a new board may be given
pub record IsAddedEntry (e : AddedEntry) : Type 0 where
  pub key : IsKey e.key
  pub value : IsValue e.value

-- a number of 64 bits, where there is one
abbrev pub IsNumberIfAny : Option ℕ → Type 0
IsNumberIfAny None = Unit {0}
IsNumberIfAny (Some n) = IsNumber n

-- limits that a line may set
pub record AreLimits (l : Limits) : Type 0 where
  pub readers : IsNumberIfAny l.max_readers
  pub nodes : IsNumberIfAny l.max_nodes

-- those of a new board
pub record AreNewLimits (l : NewLimits) : Type 0 where
  pub shared : AreLimits l.shared
  pub writers : IsNumberIfAny l.max_writers

-- the key of an attribute
abbrev pub is_attribute_key : List ℕ → Bool
is_attribute_key text = is_visible 64 text

-- the value of an attribute
abbrev pub is_attribute_value : List ℕ → Bool
is_attribute_value text = is_visible 256 text

-- an attribute that a board may have
pub record IsAttribute (a : Attribute) : Type 0 where
  pub key : is_attribute_key a.key ≡ true
  pub value : is_attribute_value a.value ≡ true

-- at most 8 attributes
pub record AreAttributes (attributes : List Attribute) : Type 0 where
  pub few : length attributes ≤ 8
  pub each : AllByRecursion IsAttribute attributes

-- at most 8 attributes and at most 8 keys that are to be there
pub record AreRequirements (needs : Requirements) : Type 0 where
  pub pairs : AreAttributes needs.pairs
  pub few : length needs.keys ≤ 8
  pub each : AllByRecursion (λ k. is_attribute_key k ≡ true) needs.keys

-- a name, where there is one
abbrev pub IsNameIfAny : Option (List ℕ) → Type 0
IsNameIfAny None = Unit {0}
IsNameIfAny (Some v) = is_name v ≡ true

-- the names, keys, values and numbers of a call are of the grammar
abbrev pub IsCall : Call → Type 0
IsCall (call.Create f name k limits attributes entries) = (is_name f ≡ true) × (is_board_name name ≡ true) × AreNewLimits limits × AreAttributes attributes × AllByRecursion IsAddedEntry entries
IsCall (call.Open f name k limits needs) = (is_name f ≡ true) × (is_board_name name ≡ true) × AreLimits limits × AreRequirements needs
IsCall (call.Reader r f) = (is_name r ≡ true) × (is_name f ≡ true)
IsCall (call.Writer w f) = (is_name w ≡ true) × (is_name f ≡ true)
IsCall (call.Entry h r k t) = (is_name h ≡ true) × (is_name r ≡ true) × IsKey k
IsCall (call.EntryMut m w k t) = (is_name m ≡ true) × (is_name w ≡ true) × IsKey k
IsCall (call.Get h v) = (is_name h ≡ true) × IsNameIfAny v
IsCall (call.Fresh h v) = (is_name h ≡ true) × (is_name v ≡ true)
IsCall (call.Update m v) = (is_name m ≡ true) × IsValue v
IsCall (call.Loan l m) = (is_name l ≡ true) × (is_name m ≡ true)
IsCall (call.Discard l m) = (is_name l ≡ true) × (is_name m ≡ true)
IsCall (call.Put l i w) = (is_name l ≡ true) × IsNumber i × IsNumber w
IsCall (call.Publish l m) = (is_name l ≡ true) × (is_name m ≡ true)
IsCall (call.Fill l m v) = (is_name l ≡ true) × (is_name m ≡ true) × IsValue v
IsCall (call.Keys f) = is_name f ≡ true
IsCall (call.Nodes f) = is_name f ≡ true
IsCall (call.Info f) = is_name f ≡ true
IsCall (call.Id t) = is_name t ≡ true
IsCall (call.Gen m) = is_name m ≡ true

-- a line of the grammar: its names, keys, values and numbers are of the grammar
abbrev pub IsLine : Line → Type 0
IsLine (line.Begin p c) = (is_name p ≡ true) × IsCall c
IsLine (line.Step p) = is_name p ≡ true
IsLine (line.Release p t) = (is_name p ≡ true) × (is_name t ≡ true)
IsLine (line.Abandon p) = is_name p ≡ true
IsLine (line.Words b) = IsNumber b

-- these bytes are a line of the grammar
pub record Spells (text : List ℕ) (l : Line) : Type 0 where
  pub line : IsLine l
  pub bytes : text ≡ spell l
  pub short : length text ≤ 4096
