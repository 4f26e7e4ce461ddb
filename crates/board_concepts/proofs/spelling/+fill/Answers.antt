use Rattle.std.proofs.Common.{◌≡◌, ◌-◌, ◌++◌, [], ◌∷◌, subst, sym, arith}
use Rattle.std.proofs.lemmas.Grind.{common_steps}
use Rattle.board_concepts.specs.DescriptionSpelling.{AreSpelled}
use Rattle.board_concepts.proofs.EachLemmas.{spelled_first, added}
use Rattle.board_concepts.proofs.spelling.+fill.Goals as goal

pub unreachable-requires : goal.unreachable-requires
unreachable-requires t c =
    let f = spelled_first c.requires.spelled.0 c.args.count c.args.bytes.now c.requires.spelled.1 c.if-count-eq0.false c.requires.spelled.2 in
    c.in_default.ensures.every f.first f.next f.rule f.spelled

pub fill-requires : goal.fill-requires
fill-requires t c =
    let f = spelled_first c.requires.spelled.0 c.args.count c.args.bytes.now c.requires.spelled.1 c.if-count-eq0.false c.requires.spelled.2 in
    let same = c.in-Some.ensures.every f.first f.next f.rule f.spelled in
    let some = c.if-count-eq0.false in
    let room = c.requires.room in
    let pushed : c.push.new.self ≡ c.args.set.now ++ c.in-Some.attribute ∷ [] = grind (arith, common_steps) in (
      omega (arith, c.decreases, some),
      (
        grind (arith, common_steps, some, room, pushed),
        (
          f.others,
          c.requires.spelled.1,
          subst (λ b. AreSpelled f.others (c.args.count - 1) b c.requires.spelled.1) (sym same.1) f.left,
        ),
      ),
    )

pub returns : goal.returns
returns t c = λ each rest s.
    let f = spelled_first each c.args.count c.args.bytes.now rest c.if-count-eq0.false s in
    let same = c.in-Some.ensures.every f.first f.next f.rule f.spelled in
    let pushed : c.push.new.self ≡ c.args.set.now ++ c.in-Some.attribute ∷ [] = grind (arith, common_steps) in
    let filled = c.in_ok-fill.ensures f.others rest (subst (λ b. AreSpelled f.others (c.args.count - 1) b rest) (sym same.1) f.left) in
    added c.args.set.now c.push.new.self _ each f.others f.first c.in-Some.attribute f.is same.0 pushed filled
