-- Which attributes a service may have.
use Rattle.std.specs.Prelude.{◌≡◌, ℕ, ◌≤◌, Bool, IsTrue, nat_le, ◌&&◌, List, length}
use Rattle.std.specs.List.{list_all}
use Rattle.board_layout.specs.Types.{is_printable}
use Rattle.board_model.specs.declared.attributes.Attribute.{Attribute}

-- at most so many bytes from 0x20 to 0x7E
abbrev pub is_text : ℕ → List ℕ → Bool
is_text most text = nat_le (length text) most && list_all is_printable text

-- a key of up to 64 bytes and a value of up to 256
abbrev pub is_attribute : Attribute → Bool
is_attribute a = is_text 64 a.key && is_text 256 a.value

-- the pair of this key and this value
abbrev pub pair_of : List ℕ → List ℕ → Attribute
pair_of key value = record { key = key; value = value }

-- these are the key and the value of an attribute
abbrev pub are_texts : List ℕ → List ℕ → Bool
are_texts key value = is_attribute (pair_of key value)

-- the attributes of a service: up to 8
pub record AreAttributes (attributes : List Attribute) : Type 0 where
  pub few : length attributes ≤ 8
  pub each : IsTrue (list_all is_attribute attributes)

-- the keys that are required: up to 8
pub record AreKeys (keys : List (List ℕ)) : Type 0 where
  pub few : length keys ≤ 8
  pub each : IsTrue (list_all (is_text 64) keys)

-- what may stand in a list meets one that is full
abbrev pub MeetsFull : {A : Type 0} → Bool → List A → Type 0
MeetsFull may_stand list = IsTrue may_stand × (length list ≡ 8)
