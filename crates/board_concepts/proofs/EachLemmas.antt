-- Attributes that are spelled one after another.
use Rattle.std.proofs.Common.{◌≡◌, ℕ, ◌-◌, List, [], ◌∷◌, ◌++◌, Some, None, Option, refl, sym, ap, ◌∙◌, arith}
use Rattle.std.specs.Prelude.{IsTrue, IfSome}
use Rattle.std.specs.List.{list_all}
use Rattle.std.proofs.lemmas.Bool.{and_parts, and_from}
use Rattle.std.proofs.lemmas.List.{append_assoc}
use Rattle.board_model.specs.declared.attributes.Attribute.{Attribute}
use Rattle.board_concepts.specs.Attributes.{is_attribute}
use Rattle.board_concepts.specs.DescriptionSpelling.{SpelledAttribute, AreSpelled}

-- the first attribute, and those behind it
pub record First (each : List Attribute) (count : ℕ) (bytes rest : List ℕ) : Type 0 where
  pub first : Attribute
  pub others : List Attribute
  pub next : List ℕ
  pub is : each ≡ first ∷ others
  pub rule : IsTrue (is_attribute first)
  pub spelled : SpelledAttribute first bytes next
  pub left : AreSpelled others (count - 1) next rest

pub spelled_first : (each : List Attribute) (count : ℕ) (bytes rest : List ℕ) → (count ≡ 0 → ⊥) → AreSpelled each count bytes rest → First each count bytes rest
spelled_first [] count bytes rest some h = absurd (some (sym h.counted))
spelled_first (a ∷ others) count bytes rest some h =
    let rules = and_parts (is_attribute a) (list_all is_attribute others) h.rule in
    record {
      first = a;
      others = others;
      next = h.spelled.0;
      is = refl;
      rule = rules.0;
      spelled = h.spelled.1;
      left = record { counted = omega (arith, h.counted); rule = rules.1; spelled = h.spelled.2 };
    }

pub spelled_more : (a : Attribute) (others : List Attribute) (count : ℕ) (bytes next rest : List ℕ) → (count ≡ 0 → ⊥) → IsTrue (is_attribute a)
    → SpelledAttribute a bytes next → AreSpelled others (count - 1) next rest → AreSpelled (a ∷ others) count bytes rest
spelled_more a others count bytes next rest some rule spelled left = record {
  counted = omega (arith, left.counted, some);
  rule = and_from (is_attribute a) (list_all is_attribute others) rule left.rule;
  spelled = (next, spelled, left.spelled);
}

-- a fact on what there is gives another
pub IfSome-weaker : {X : Type 0} (P Q : X → Type 0) (r : Option X) → ((x : X) → P x → Q x) → IfSome r P → IfSome r Q
IfSome-weaker P Q None f h = tt
IfSome-weaker P Q (Some x) f h = f x h

-- a list that was added to with its first, and then with the others
pub added : (old mid new each others : List Attribute) (first attribute : Attribute) → each ≡ first ∷ others → attribute ≡ first → mid ≡ old ++ attribute ∷ []
    → new ≡ mid ++ others → new ≡ old ++ each
added old mid new each others first attribute is same pushed filled =
    filled ∙ ap (λ l. l ++ others) pushed ∙ append_assoc old (attribute ∷ []) others ∙ ap (λ a. old ++ a ∷ others) same ∙ ap (λ l. old ++ l) (sym is)
