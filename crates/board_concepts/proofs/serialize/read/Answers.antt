use Rattle.std.proofs.Common.{◌≡◌, [], List, Ok, sym, subst, ap, ◌∙◌, refl}
use Rattle.board_model.specs.declared.attributes.Attribute.{Attribute}
use Rattle.board_concepts.specs.Attributes.{AreAttributes}
use Rattle.board_concepts.specs.DescriptionSpelling.{SpelledList, described}
use Rattle.board_concepts.proofs.serialize.read.Goals as goal

pub returns-in_default-list_of : goal.returns-in_default-list_of
returns-in_default-list_of c =
    let list : (a : List Attribute) × AreAttributes a × SpelledList a c.in-Some.front.attributes.now [] = c.if-not-is_list.ensures.yes in
    record {
      found = tt;
      every = λ d is s differs. absurd (differs refl);
      none = (
        λ internal. absurd (cc internal),
        λ no. absurd (no _ (c.in-Some.ensures.rule list.0 list.1) (c.in-Some.ensures.found list.0 list.2)),
      );
    }

pub returns : goal.returns
returns c =
    let list : (a : List Attribute) × AreAttributes a × SpelledList a c.in-Some.front.attributes.now [] = c.if-not-is_list.ensures.yes in
    let kept : c.in-Ok.attributes ≡ list.0 = c.in-Ok.ensures list.0 list.1 list.2 in
    record {
      found = c.in-Some.ensures.found c.in-Ok.attributes (subst (λ a. SpelledList a c.in-Some.front.attributes.now []) (sym kept) list.2);
      every = λ d is s.
          let front = c.in-Some.ensures.every d s.0 is s.1 in
          let there : SpelledList d.attributes c.in-Some.front.attributes.now [] = subst (λ b. SpelledList d.attributes b []) (sym front.0) s.1.attributes in
          let met = c.in-Ok.ensures d.attributes is.attributes there in
          λ differs. ap (λ a. Ok (described c.in-Some.front.version c.in-Some.front.name c.in-Some.front.key c.in-Some.front.max_readers c.in-Some.front.max_nodes c.in-Some.front.max_writers a)) met ∙ ap Ok (sym front.1);
      none = (
        λ internal. absurd (cc internal),
        λ no. absurd (no _ (c.in-Some.ensures.rule list.0 list.1) (c.in-Some.ensures.found list.0 list.2)),
      );
    }
