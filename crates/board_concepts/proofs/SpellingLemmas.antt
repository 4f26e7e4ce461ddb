-- Spellings put one behind another.
use Rattle.std.proofs.Common.{◌≡◌, ℕ, ◌+◌, ◌≤◌, ◌<◌, List, [], ◌∷◌, ◌++◌, length, take, get_or, refl, sym, ap, subst, ◌∙◌}
use Rattle.std.proofs.lemmas.List.{append_assoc, append-nil, take_more, take_all}
use Rattle.board_layout.specs.declared.type_detail.TypeDetail.{TypeDetail}
use Rattle.board_model.specs.declared.attributes.Attribute.{Attribute}
use Rattle.board_concepts.specs.declared.description.Description.{Description}
use Rattle.board_concepts.specs.Spelling.{Puts, Spelled, SpelledText}
use Rattle.board_concepts.specs.DescriptionSpelling.{SpelledAttribute, SpelledEach, SpelledType, SpelledList, SpelledDescription, variant_number, SpelledWriters}

-- two spellings one behind the other are one
pub puts_then : (R S T : List ℕ → List ℕ → Type 0) (old mid new : List ℕ)
    → ((bytes at rest : List ℕ) → R bytes at → S at rest → T bytes rest)
    → Puts R old mid → Puts S mid new → Puts T old new
puts_then R S T old mid new both first second = (
  first.0 ++ second.0,
  second.1 ∙ ap (λ l. l ++ second.0) first.1 ∙ append_assoc old first.0 second.0,
  λ rest. subst (λ l. T l rest) (sym (append_assoc first.0 second.0 rest))
      (both (first.0 ++ (second.0 ++ rest)) (second.0 ++ rest) rest (first.2 (second.0 ++ rest)) (second.2 rest)),
)

-- nothing is put
pub puts_none : (old : List ℕ) → Puts (SpelledEach []) old old
puts_none old = ([], sym (append-nil old), λ rest. refl)

each_then : (attributes : List Attribute) (a : Attribute) (bytes at rest : List ℕ) → SpelledEach attributes bytes at → SpelledAttribute a at rest
    → SpelledEach (attributes ++ a ∷ []) bytes rest
each_then [] a bytes at rest same last = (rest, subst (λ l. SpelledAttribute a l rest) (sym same) last, refl)
each_then (b ∷ attributes) a bytes at rest each last = (each.0, each.1, each_then attributes a each.0 at rest each.2 last)

-- one more attribute
pub puts_more : (attributes : List Attribute) (i : ℕ) (a : Attribute) (old mid new : List ℕ) → i < length attributes → a ≡ get_or attributes i a
    → Puts (SpelledEach (take i attributes)) old mid → Puts (SpelledAttribute a) mid new → Puts (SpelledEach (take (i + 1) attributes)) old new
puts_more attributes i a old mid new lt is first second =
    let e : take (i + 1) attributes ≡ take i attributes ++ a ∷ [] = take_more attributes i a lt ∙ ap (λ x. take i attributes ++ x ∷ []) (sym is) in
    subst (λ l. Puts (SpelledEach l) old new) (sym e)
    (puts_then (SpelledEach (take i attributes)) (SpelledAttribute a) (SpelledEach (take i attributes ++ a ∷ [])) old mid new (each_then (take i attributes) a) first second)

-- all attributes
pub puts_all : (attributes : List Attribute) (i : ℕ) (old new : List ℕ) → length attributes ≤ i → Puts (SpelledEach (take i attributes)) old new
    → Puts (SpelledEach attributes) old new
puts_all attributes i old new le puts = subst (λ l. Puts (SpelledEach l) old new) (take_all i attributes le) puts

-- the fields of a type from one on
abbrev AlignmentOn : TypeDetail → List ℕ → List ℕ → Type 0
AlignmentOn t = Spelled t.alignment

abbrev SizeOn : TypeDetail → List ℕ → List ℕ → Type 0
SizeOn t bytes rest = (at : List ℕ) × Spelled t.size bytes at × AlignmentOn t at rest

abbrev NameOn : TypeDetail → List ℕ → List ℕ → Type 0
NameOn t bytes rest = (at : List ℕ) × SpelledText t.type_name bytes at × SizeOn t at rest

-- the fields of a type, one behind another
pub puts_type : (t : TypeDetail) (a b c d e : List ℕ) → Puts (Spelled (variant_number t.variant)) a b → Puts (SpelledText t.type_name) b c
    → Puts (Spelled t.size) c d → Puts (Spelled t.alignment) d e → Puts (SpelledType t) a e
puts_type t a b c d e variant name size alignment =
    let sizes : Puts (SizeOn t) c e = puts_then (Spelled t.size) (AlignmentOn t) (SizeOn t) c d e (λ bytes at rest r s. (at, r, s)) size alignment in
    let names : Puts (NameOn t) b e = puts_then (SpelledText t.type_name) (SizeOn t) (NameOn t) b c e (λ bytes at rest r s. (at, r, s)) name sizes in
    puts_then (Spelled (variant_number t.variant)) (NameOn t) (SpelledType t) a b e
    (λ bytes at rest r s. (record { name = at; size = s.0; alignment = s.2.0 }, record { variant = r; name = s.1; size = s.2.1; alignment = s.2.2 }))
    variant names

-- the fields of a description from one on
abbrev WritersOn : Description → List ℕ → List ℕ → Type 0
WritersOn d bytes rest = (at : List ℕ) × SpelledWriters d.version d.max_writers bytes at × SpelledList d.attributes at rest

abbrev NodesOn : Description → List ℕ → List ℕ → Type 0
NodesOn d bytes rest = (at : List ℕ) × Spelled d.max_nodes bytes at × WritersOn d at rest

abbrev ReadersOn : Description → List ℕ → List ℕ → Type 0
ReadersOn d bytes rest = (at : List ℕ) × Spelled d.max_readers bytes at × NodesOn d at rest

abbrev KeyOn : Description → List ℕ → List ℕ → Type 0
KeyOn d bytes rest = (at : List ℕ) × SpelledType d.key bytes at × ReadersOn d at rest

abbrev ServiceOn : Description → List ℕ → List ℕ → Type 0
ServiceOn d bytes rest = (at : List ℕ) × SpelledText d.name bytes at × KeyOn d at rest

abbrev VersionOn : Description → List ℕ → List ℕ → Type 0
VersionOn d bytes rest = (at : List ℕ) × Spelled d.version bytes at × ServiceOn d at rest

-- the fields of a description, one behind another, are the bytes
pub puts_description : (d : Description) (a b c e f g out : List ℕ) → Puts (Spelled d.version) [] a → Puts (SpelledText d.name) a b → Puts (SpelledType d.key) b c
    → Puts (Spelled d.max_readers) c e → Puts (Spelled d.max_nodes) e f → Puts (SpelledWriters d.version d.max_writers) f g → Puts (SpelledList d.attributes) g out → SpelledDescription d out
puts_description d a b c e f g out version name key readers nodes writers attributes =
    let writers_on : Puts (WritersOn d) f out = puts_then (SpelledWriters d.version d.max_writers) (SpelledList d.attributes) (WritersOn d) f g out (λ bytes at rest r s. (at, r, s)) writers attributes in
    let nodes_on : Puts (NodesOn d) e out = puts_then (Spelled d.max_nodes) (WritersOn d) (NodesOn d) e f out (λ bytes at rest r s. (at, r, s)) nodes writers_on in
    let readers_on : Puts (ReadersOn d) c out = puts_then (Spelled d.max_readers) (NodesOn d) (ReadersOn d) c e out (λ bytes at rest r s. (at, r, s)) readers nodes_on in
    let key_on : Puts (KeyOn d) b out = puts_then (SpelledType d.key) (ReadersOn d) (KeyOn d) b c out (λ bytes at rest r s. (at, r, s)) key readers_on in
    let name_on : Puts (ServiceOn d) a out = puts_then (SpelledText d.name) (KeyOn d) (ServiceOn d) a b out (λ bytes at rest r s. (at, r, s)) name key_on in
    let all : Puts (VersionOn d) [] out = puts_then (Spelled d.version) (ServiceOn d) (VersionOn d) [] a out (λ bytes at rest r s. (at, r, s)) version name_on in
    let is : VersionOn d out [] = subst (λ l. VersionOn d l []) (append-nil all.0 ∙ sym all.1) (all.2 []) in (
      record { name = is.0; key = is.2.0; max_readers = is.2.2.0; max_nodes = is.2.2.2.0; max_writers = is.2.2.2.2.0; attributes = is.2.2.2.2.2.0 },
      record {
        version = is.1;
        name = is.2.1;
        key = is.2.2.1;
        max_readers = is.2.2.2.1;
        max_nodes = is.2.2.2.2.1;
        max_writers = is.2.2.2.2.2.1;
        attributes = is.2.2.2.2.2.2;
      },
    )
