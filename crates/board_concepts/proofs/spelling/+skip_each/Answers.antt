use Rattle.std.proofs.Common.{◌-◌, List, ◌∷◌, subst, sym}
use Rattle.board_model.specs.declared.attributes.Attribute.{Attribute}
use Rattle.board_concepts.specs.DescriptionSpelling.{AreSpelled}
use Rattle.board_concepts.proofs.EachLemmas.{spelled_first, spelled_more, IfSome-weaker}
use Rattle.board_concepts.proofs.spelling.+skip_each.Goals as goal

pub returns-in_default-clause-every : goal.returns-in_default-clause-every
returns-in_default-clause-every t c = λ each rest s.
    let f = spelled_first each c.args.count c.args.bytes.now rest c.if-count-eq0.false s in
    c.in_default.ensures.every f.first f.next f.rule f.spelled

pub returns-clause-found : goal.returns-clause-found
returns-clause-found t c = IfSome-weaker
    (λ left. (x : List Attribute) × AreSpelled x (c.args.count - 1) c.in-Some.behind.now left.now)
    (λ left. (x : List Attribute) × AreSpelled x c.args.count c.args.bytes.now left.now)
    c.skip_each.result
    (λ left h. (
      c.in-Some.field-0-0 ∷ h.0,
      spelled_more c.in-Some.field-0-0 h.0 c.args.count c.args.bytes.now c.in-Some.behind.now left.now c.if-count-eq0.false c.in-Some.ensures.rule c.in-Some.ensures.found h.1,
    ))
    c.skip_each.ensures.found

pub returns-clause-every : goal.returns-clause-every
returns-clause-every t c = λ each rest s.
    let f = spelled_first each c.args.count c.args.bytes.now rest c.if-count-eq0.false s in
    let same = c.in-Some.ensures.every f.first f.next f.rule f.spelled in
    c.skip_each.ensures.every f.others rest (subst (λ b. AreSpelled f.others (c.args.count - 1) b rest) (sym same.1) f.left)
