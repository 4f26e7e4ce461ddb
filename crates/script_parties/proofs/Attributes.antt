-- Attributes that may be written are attributes of a service.
use Rattle.std.proofs.Common.{◌≡◌, ℕ, ◌≤◌, true, List, [], ◌∷◌, length, refl, arith}
use Rattle.std.specs.Prelude.{◌&&◌, ◌==◌, not, nat_le}
use Rattle.std.specs.List.{AllByRecursion, list_all}
use Rattle.std.proofs.lemmas.Bool.{and_from, and_parts, le-leb, leb-true}
use Rattle.board_layout.specs.Types.{is_printable}
use Rattle.board_concepts.specs.Attributes as concepts
use Rattle.board_model.specs.declared.attributes.Attribute.{Attribute}
use Rattle.board_model.specs.LineGrammar.{AreAttributes, IsAttribute, is_attribute_key, is_visible, is_visible_byte}

printable : (b : ℕ) → is_visible_byte b ≡ true → is_printable b ≡ true
printable b h =
    let p = and_parts (nat_le 33 b) (nat_le b 126) h in
    let low : 33 ≤ b = leb-true 33 b p.0 in
    and_from (nat_le 32 b) (nat_le b 126) (le-leb 32 b (omega arith)) p.1

all_printable : (text : List ℕ) → list_all is_visible_byte text ≡ true → list_all is_printable text ≡ true
all_printable [] h = refl
all_printable (b ∷ text) h =
    let p = and_parts (is_visible_byte b) (list_all is_visible_byte text) h in
    and_from (is_printable b) (list_all is_printable text) (printable b p.0) (all_printable text p.1)

-- a visible text is a text of an attribute
text_of : (most : ℕ) (text : List ℕ) → is_visible most text ≡ true → concepts.is_text most text ≡ true
text_of most text h =
    let p = and_parts (not (length text == 0) && nat_le (length text) most) (list_all is_visible_byte text) h in
    let q = and_parts (not (length text == 0)) (nat_le (length text) most) p.0 in
    and_from (nat_le (length text) most) (list_all is_printable text) q.1 (all_printable text p.1)

each_attribute : (xs : List Attribute) → AllByRecursion IsAttribute xs → list_all concepts.is_attribute xs ≡ true
each_attribute [] h = refl
each_attribute (a ∷ xs) h =
    and_from (concepts.is_attribute a) (list_all concepts.is_attribute xs)
    (and_from (concepts.is_text 64 a.key) (concepts.is_text 256 a.value) (text_of 64 a.key h.0.key) (text_of 256 a.value h.0.value))
    (each_attribute xs h.1)

each_key : (keys : List (List ℕ)) → AllByRecursion (λ k. is_attribute_key k ≡ true) keys → list_all (concepts.is_text 64) keys ≡ true
each_key [] h = refl
each_key (k ∷ keys) h = and_from (concepts.is_text 64 k) (list_all (concepts.is_text 64) keys) (text_of 64 k h.0) (each_key keys h.1)

pub attributes_of : (xs : List Attribute) → AreAttributes xs → concepts.AreAttributes xs
attributes_of xs h = record { few = h.few; each = each_attribute xs h.each }

pub keys_of : (keys : List (List ℕ)) → length keys ≤ 8 → AllByRecursion (λ k. is_attribute_key k ≡ true) keys → concepts.AreKeys keys
keys_of keys few h = record { few = few; each = each_key keys h }
