-- Bytes begin with at most one spelling.
use Rattle.std.proofs.Common.{◌≡◌, ℕ, List, [], ◌∷◌, ◌++◌, length, take, drop, refl, sym, ap, subst, ◌∙◌, inl, inr, arith}
use Rattle.std.proofs.lemmas.List.{append_assoc}
use Rattle.std.proofs.Math.Seq.{take-append_seam, drop-append_seam}
use Rattle.board_layout.specs.declared.type_detail.TypeDetail.{TypeDetail}
use Rattle.board_layout.specs.declared.type_detail.TypeVariant.{TypeVariant}
use Rattle.board_layout.specs.declared.type_detail.TypeVariant.TheVariants as variant
use Rattle.board_model.specs.declared.attributes.Attribute.{Attribute}
use Rattle.board_concepts.specs.declared.description.Description.{Description}
use Rattle.board_concepts.specs.Spelling.{Spelled, SpelledText}
use Rattle.board_concepts.specs.DescriptionSpelling.{SpelledType, SpelledAttribute, SpelledEach, SpelledList, SpelledWriters, SpelledDescription, IsPrefixFree, variant_number}

-- A spelling that begins the bytes `a` is the one that begins `b`, which goes on with `more` behind `a`.
-- What is behind the one goes on with `more` in what is behind the other.
number_in : (n m : ℕ) (bytes more rest other : List ℕ) → Spelled n bytes rest → Spelled m (bytes ++ more) other → (n ≡ m) × (other ≡ rest ++ more)
number_in n m [] more rest other s t = absurd s
number_in n m (b ∷ bytes) more rest other (inl x) (inl y) = (x.1 ∙ sym y.1, y.2 ∙ ap (λ l. l ++ more) (sym x.2))
number_in n m (b ∷ bytes) more rest other (inl x) (inr y) = absurd (omega (arith, x.0, y.0))
number_in n m (b ∷ bytes) more rest other (inr x) (inl y) = absurd (omega (arith, x.0, y.0))
number_in n m (b ∷ bytes) more rest other (inr x) (inr y) =
    let same = number_in x.1.0 y.1.0 bytes more rest other x.1.3 y.1.3 in
    (omega (arith, same.0, x.1.2, y.1.2), same.1)

module _ (a b more rest other : List ℕ) (on : b ≡ a ++ more) where
  same_number : (n m : ℕ) → Spelled n a rest → Spelled m b other → (n ≡ m) × (other ≡ rest ++ more)
  same_number n m s t = number_in n m a more rest other s (subst (λ l. Spelled m l other) on t)

  same_text : (t u : List ℕ) → SpelledText t a rest → SpelledText u b other → (t ≡ u) × (other ≡ rest ++ more)
  same_text t u s v =
      let same : (length t ≡ length u) × (u ++ other ≡ (t ++ rest) ++ more) =
      number_in (length t) (length u) a more (t ++ rest) (u ++ other) s (subst (λ l. SpelledText u l other) on v) in
      let whole : u ++ other ≡ t ++ (rest ++ more) = same.1 ∙ append_assoc t rest more in (
        sym (take-append_seam t (rest ++ more)) ∙ ap (λ l. take (length t) l) (sym whole) ∙ ap (λ (k : ℕ). take k (u ++ other)) same.0 ∙ take-append_seam u other,
        sym (drop-append_seam u other) ∙ ap (λ l. drop (length u) l) whole ∙ ap (λ (k : ℕ). drop k (t ++ (rest ++ more))) (sym same.0) ∙ drop-append_seam t (rest ++ more),
      )

same_variant : (v w : TypeVariant) → variant_number v ≡ variant_number w → v ≡ w
same_variant variant.FixedSize variant.FixedSize e = refl
same_variant variant.FixedSize variant.Dynamic e = absurd (omega (arith, e))
same_variant variant.Dynamic variant.FixedSize e = absurd (omega (arith, e))
same_variant variant.Dynamic variant.Dynamic e = refl

same_detail : (t u : TypeDetail) → t.variant ≡ u.variant → t.type_name ≡ u.type_name → t.size ≡ u.size → t.alignment ≡ u.alignment → t ≡ u
same_detail t u v n s a =
    let e : ◌≡◌ {A = TypeDetail} (record { variant = t.variant; type_name = t.type_name; size = t.size; alignment = t.alignment })
    (record { variant = u.variant; type_name = u.type_name; size = u.size; alignment = u.alignment }) = rw (v, n, s, a) refl in
    e

same_type : (t u : TypeDetail) (a b more rest other : List ℕ) → b ≡ a ++ more → SpelledType t a rest → SpelledType u b other → (t ≡ u) × (other ≡ rest ++ more)
same_type t u a b more rest other on s v =
    let variants = same_number a b more s.0.name v.0.name on (variant_number t.variant) (variant_number u.variant) s.1.variant v.1.variant in
    let names = same_text s.0.name v.0.name more s.0.size v.0.size variants.1 t.type_name u.type_name s.1.name v.1.name in
    let sizes = same_number s.0.size v.0.size more s.0.alignment v.0.alignment names.1 t.size u.size s.1.size v.1.size in
    let alignments = same_number s.0.alignment v.0.alignment more rest other sizes.1 t.alignment u.alignment s.1.alignment v.1.alignment in
    (same_detail t u (same_variant t.variant u.variant variants.0) names.0 sizes.0 alignments.0, alignments.1)

same_attribute : (x y : Attribute) (a b more rest other : List ℕ) → b ≡ a ++ more → SpelledAttribute x a rest → SpelledAttribute y b other → (x ≡ y) × (other ≡ rest ++ more)
same_attribute x y a b more rest other on s v =
    let keys = same_text a b more s.0 v.0 on x.key y.key s.1 v.1 in
    let values = same_text s.0 v.0 more rest other keys.1 x.value y.value s.2 v.2 in
    (same_pair x y keys.0 values.0, values.1)
  where
    same_pair : (x y : Attribute) → x.key ≡ y.key → x.value ≡ y.value → x ≡ y
    same_pair x y k v = let e : ◌≡◌ {A = Attribute} (record { key = x.key; value = x.value }) (record { key = y.key; value = y.value }) = rw (k, v) refl in e

same_each : (xs ys : List Attribute) (a b more rest other : List ℕ) → length xs ≡ length ys → b ≡ a ++ more → SpelledEach xs a rest → SpelledEach ys b other
    → (xs ≡ ys) × (other ≡ rest ++ more)
same_each [] [] a b more rest other counted on s v = (refl, sym v ∙ on ∙ ap (λ l. l ++ more) s)
same_each [] (y ∷ ys) a b more rest other counted on s v = absurd (omega (arith, counted))
same_each (x ∷ xs) [] a b more rest other counted on s v = absurd (omega (arith, counted))
same_each (x ∷ xs) (y ∷ ys) a b more rest other counted on s v =
    let first = same_attribute x y a b more s.0 v.0 on s.1 v.1 in
    let others = same_each xs ys s.0 v.0 more rest other (omega (arith, counted)) first.1 s.2 v.2 in
    (rw (first.0, others.0) refl, others.1)

same_list : (xs ys : List Attribute) (a b more rest other : List ℕ) → b ≡ a ++ more → SpelledList xs a rest → SpelledList ys b other → (xs ≡ ys) × (other ≡ rest ++ more)
same_list xs ys a b more rest other on s v =
    let counts = same_number a b more s.0 v.0 on (length xs) (length ys) s.1 v.1 in
    same_each xs ys s.0 v.0 more rest other counts.0 counts.1 s.2 v.2

same_writers : (v w n m : ℕ) (a b more rest other : List ℕ) → b ≡ a ++ more → v ≡ w → SpelledWriters v n a rest → SpelledWriters w m b other → (n ≡ m) × (other ≡ rest ++ more)
same_writers v w n m a b more rest other on same (inl x) (inl y) = same_number a b more rest other on n m x.1 y.1
same_writers v w n m a b more rest other on same (inl x) (inr y) = absurd (omega (arith, same, x.0, y.0))
same_writers v w n m a b more rest other on same (inr x) (inl y) = absurd (omega (arith, same, x.0, y.0))
same_writers v w n m a b more rest other on same (inr x) (inr y) = (x.1 ∙ sym y.1, sym y.2 ∙ on ∙ ap (λ l. l ++ more) x.2)

same_fields : (d e : Description) → d.version ≡ e.version → d.name ≡ e.name → d.key ≡ e.key → d.max_readers ≡ e.max_readers → d.max_nodes ≡ e.max_nodes
    → d.max_writers ≡ e.max_writers → d.attributes ≡ e.attributes → d ≡ e
same_fields d e v n k r m w a =
    let same : ◌≡◌ {A = Description} (record { version = d.version; name = d.name; key = d.key; max_readers = d.max_readers; max_nodes = d.max_nodes; max_writers = d.max_writers; attributes = d.attributes })
    (record { version = e.version; name = e.name; key = e.key; max_readers = e.max_readers; max_nodes = e.max_nodes; max_writers = e.max_writers; attributes = e.attributes }) = rw (v, n, k, r, m, w, a) refl in
    same

-- no spelling begins another, and no two descriptions have one spelling
pub prefix_free : IsPrefixFree SpelledDescription
prefix_free d e bytes more s v =
    let versions = same_number bytes (bytes ++ more) more s.0.name v.0.name refl d.version e.version s.1.version v.1.version in
    let names = same_text s.0.name v.0.name more s.0.key v.0.key versions.1 d.name e.name s.1.name v.1.name in
    let keys = same_type d.key e.key s.0.key v.0.key more s.0.max_readers v.0.max_readers names.1 s.1.key v.1.key in
    let readers = same_number s.0.max_readers v.0.max_readers more s.0.max_nodes v.0.max_nodes keys.1 d.max_readers e.max_readers s.1.max_readers v.1.max_readers in
    let nodes = same_number s.0.max_nodes v.0.max_nodes more s.0.max_writers v.0.max_writers readers.1 d.max_nodes e.max_nodes s.1.max_nodes v.1.max_nodes in
    let writers = same_writers d.version e.version d.max_writers e.max_writers s.0.max_writers v.0.max_writers more s.0.attributes v.0.attributes nodes.1 versions.0 s.1.max_writers v.1.max_writers in
    let lists = same_list d.attributes e.attributes s.0.attributes v.0.attributes more [] [] writers.1 s.1.attributes v.1.attributes in
    (same_fields d e versions.0 names.0 keys.0 readers.0 nodes.0 writers.0 lists.0, sym lists.1)
