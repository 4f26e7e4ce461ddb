use Rattle.std.proofs.Common.{rules, sym, subst}
use Rattle.std.specs.Prelude.{Ok}
use Rattle.board_layout.specs.Bytes.{details}
use Rattle.board_layout.specs.Keys.{same_keys}
use Rattle.board_service.specs.Facts.{IsDomain}
use Rattle.board_domain.specs.Factories.{factory_of}
use Rattle.board_domain.specs.Kept.{seen_of}
use Rattle.board_domain.specs.LentForms as lent
use Rattle.board_domain.specs.Services.{CreatorSeen, FactorySeen}
use Rattle.board_domain.proofs.creator.Creator.create_with_attributes.Goals as goal

pub returns-clause-answer : goal.returns-clause-answer
returns-clause-answer g c =
    let K = g.K.ZeroCopySend in
    let keys = details K.type_bytes K.SIZE K.ALIGNMENT in
    let same_key = same_keys g.K.PartialEq.eq K.value_of K.SIZE K.WORDS in
    let asked = c.self.inside.asked in
    let facts : IsDomain c.deref_mut.result.now.tables = search rules in
    let made = c.in_ok-made.ensures in
    let factory = factory_of c.in_ok-made.field-0 asked.name in
    let here : lent.CreatesSomewhere (Ok factory) same_key (lent.asked_board (seen_of asked) keys c.into_set.result) =
    (c.deref_mut.result.now.tables, facts, made.answer, made.refused, (c.new_board-made.new.state.tables, made.ok, made.kept)) in
    subst (λ (f : FactorySeen). lent.CreatesSomewhere (Ok f) same_key (lent.asked_board c.args.self keys c.args.attributes)) (sym c.new.ensures)
    (subst (λ (seen : CreatorSeen). lent.CreatesSomewhere (Ok factory) same_key (lent.asked_board seen keys c.args.attributes)) c.self.view_is
    (subst (λ attributes. lent.CreatesSomewhere (Ok factory) same_key (lent.asked_board (seen_of asked) keys attributes)) c.into_set.ensures here))
