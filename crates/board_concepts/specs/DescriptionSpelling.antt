-- How a description is spelled: its fields, one after another, and nothing behind them.
use Rattle.std.specs.Prelude.{◌≡◌, ℕ, ◌<◌, ◌^◌, ◌⊎◌, ◌↔◌, List, [], ◌∷◌, ◌++◌, length, IsTrue, Result, Ok, IfOk, IsErrOf}
use Rattle.std.specs.List.{list_all}
use Rattle.board_layout.specs.Types.{IsTypeName}
use Rattle.board_layout.specs.Answer.{Answers}
use Rattle.board_layout.specs.declared.type_detail.TypeDetail.{TypeDetail}
use Rattle.board_layout.specs.declared.type_detail.TypeVariant.{TypeVariant}
use Rattle.board_layout.specs.declared.type_detail.TypeVariant.TheVariants as variant
use Rattle.board_model.specs.declared.attributes.Attribute.{Attribute}
use Rattle.board_names.specs.Names.{IsServiceName}
use Rattle.board_names.specs.declared.errors.service.DeserializeError.{DeserializeError}
use Rattle.board_names.specs.declared.errors.service.DeserializeError.TheVariants.{InternalError, OutOfMemory}
use Rattle.board_concepts.specs.Attributes.{AreAttributes, is_attribute}
use Rattle.board_concepts.specs.Spelling.{Spelled, SpelledText}
use Rattle.board_concepts.specs.declared.description.Description.{Description}

-- the number of a variant
abbrev pub variant_number : TypeVariant → ℕ
variant_number variant.FixedSize = 0
variant_number variant.Dynamic = 1

-- the bytes that stand before the fields of a type
pub record TypeFields : Type 0 where
  pub name : List ℕ
  pub size : List ℕ
  pub alignment : List ℕ

-- the bytes begin with a type's fields, one after another
pub record SpelledTypeAt (t : TypeDetail) (bytes rest : List ℕ) (at : TypeFields) : Type 0 where
  pub variant : Spelled (variant_number t.variant) bytes at.name
  pub name : SpelledText t.type_name at.name at.size
  pub size : Spelled t.size at.size at.alignment
  pub alignment : Spelled t.alignment at.alignment rest

abbrev pub SpelledType : TypeDetail → List ℕ → List ℕ → Type 0
SpelledType t bytes rest = (at : TypeFields) × SpelledTypeAt t bytes rest at

-- the bytes begin with an attribute, its key and then its value
abbrev pub SpelledAttribute : Attribute → List ℕ → List ℕ → Type 0
SpelledAttribute a bytes rest = (value : List ℕ) × SpelledText a.key bytes value × SpelledText a.value value rest

-- the bytes begin with attributes, one after another
abbrev pub SpelledEach : List Attribute → List ℕ → List ℕ → Type 0
SpelledEach [] bytes rest = bytes ≡ rest
SpelledEach (a ∷ attributes) bytes rest = (next : List ℕ) × SpelledAttribute a bytes next × SpelledEach attributes next rest

-- the bytes begin with so many attributes of the right texts
pub record AreSpelled (attributes : List Attribute) (count : ℕ) (bytes rest : List ℕ) : Type 0 where
  pub counted : length attributes ≡ count
  pub rule : IsTrue (list_all is_attribute attributes)
  pub spelled : SpelledEach attributes bytes rest

-- the bytes begin with a list of attributes, its length and its items
abbrev pub SpelledList : List Attribute → List ℕ → List ℕ → Type 0
SpelledList attributes bytes rest = (items : List ℕ) × Spelled (length attributes) bytes items × SpelledEach attributes items rest

-- a description can be written: it has version 2, or version 1 and one writer
abbrev pub IsWritable : Description → Type 0
IsWritable d = (d.version ≡ 2) ⊎ ((d.version ≡ 1) × (d.max_writers ≡ 1))

-- the bytes begin with the limit of writers: in version 1 it isn't spelled, and is 1
abbrev pub SpelledWriters : ℕ → ℕ → List ℕ → List ℕ → Type 0
SpelledWriters version writers bytes rest =
    ((version ≡ 2) × Spelled writers bytes rest) ⊎ ((version ≡ 1) × (writers ≡ 1) × (bytes ≡ rest))

-- the bytes that stand before the fields of a description
pub record Fields : Type 0 where
  pub name : List ℕ
  pub key : List ℕ
  pub max_readers : List ℕ
  pub max_nodes : List ℕ
  pub max_writers : List ℕ
  pub attributes : List ℕ

-- the bytes are a description's fields, one after another, and nothing is behind them
pub record SpelledAt (d : Description) (bytes : List ℕ) (at : Fields) : Type 0 where
  pub version : Spelled d.version bytes at.name
  pub name : SpelledText d.name at.name at.key
  pub key : SpelledType d.key at.key at.max_readers
  pub max_readers : Spelled d.max_readers at.max_readers at.max_nodes
  pub max_nodes : Spelled d.max_nodes at.max_nodes at.max_writers
  pub max_writers : SpelledWriters d.version d.max_writers at.max_writers at.attributes
  pub attributes : SpelledList d.attributes at.attributes []

-- these bytes spell a description
abbrev pub SpelledDescription : Description → List ℕ → Type 0
SpelledDescription d bytes = (at : Fields) × SpelledAt d bytes at

-- the description of these fields
abbrev pub described : ℕ → List ℕ → TypeDetail → ℕ → ℕ → ℕ → List Attribute → Description
described version name key max_readers max_nodes max_writers attributes =
    record { version = version; name = name; key = key; max_readers = max_readers; max_nodes = max_nodes; max_writers = max_writers; attributes = attributes }

-- what a program can hold as a type
pub record IsType (t : TypeDetail) : Type 0 where
  pub name : IsTypeName t.type_name
  pub size : t.size < 2 ^ 64
  pub alignment : t.alignment < 2 ^ 64

-- what a program can hold as a description
pub record IsDescription (d : Description) : Type 0 where
  pub version : d.version < 2 ^ 32
  pub name : IsServiceName d.name
  pub key : IsType d.key
  pub max_readers : d.max_readers < 2 ^ 64
  pub max_nodes : d.max_nodes < 2 ^ 64
  pub max_writers : d.max_writers < 2 ^ 64
  pub attributes : AreAttributes d.attributes

-- reading answers with the description that the bytes spell, exactly where they spell one and there is memory for it
pub record Reads (Spells : Description → List ℕ → Type 0) (bytes : List ℕ) (result : Result Description DeserializeError) : Type 0 where
  pub found : IfOk result (λ d. Spells d bytes)
  pub every : (d : Description) → IsDescription d → Spells d bytes → Answers result OutOfMemory (Ok d)
  pub none : IsErrOf result InternalError ↔ ((d : Description) → IsDescription d → Spells d bytes → ⊥)

-- bytes begin with one spelling at most, and nothing is behind it
abbrev pub IsPrefixFree : (Description → List ℕ → Type 0) → Type 0
IsPrefixFree Spells = (d e : Description) (bytes more : List ℕ) → Spells d bytes → Spells e (bytes ++ more) → (d ≡ e) × (more ≡ [])

-- what is read from a spelling of a description is that description, want of memory aside
abbrev pub ReadsBack : (Description → List ℕ → Type 0) → Type 0
ReadsBack Spells = (d : Description) (bytes : List ℕ) (result : Result Description DeserializeError) →
    IsDescription d → Spells d bytes → Reads Spells bytes result → Answers result OutOfMemory (Ok d)
