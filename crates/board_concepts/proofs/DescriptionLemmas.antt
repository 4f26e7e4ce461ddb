-- Descriptions and their fields.
use Rattle.std.proofs.Common.{◌≡◌, ℕ, List, refl}
use Rattle.board_layout.specs.declared.type_detail.TypeDetail.{TypeDetail}
use Rattle.board_concepts.specs.declared.description.Description.{Description}
use Rattle.board_concepts.specs.DescriptionSpelling.{described}

-- a description is that of its fields
pub is_described : (d : Description) (version : ℕ) (name : List ℕ) (key : TypeDetail) (max_readers max_nodes max_writers : ℕ)
    → version ≡ d.version → name ≡ d.name → key ≡ d.key → max_readers ≡ d.max_readers → max_nodes ≡ d.max_nodes → max_writers ≡ d.max_writers
    → d ≡ described version name key max_readers max_nodes max_writers d.attributes
is_described d version name key max_readers max_nodes max_writers v n k r m w = rw (v, n, k, r, m, w) refl
