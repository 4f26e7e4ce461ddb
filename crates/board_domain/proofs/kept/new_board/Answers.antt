use Rattle.std.proofs.Common.{ap, map, sym, subst, ◌∙◌, All, List}
use Rattle.board_layout.specs.Bytes.{details}
use Rattle.board_layout.specs.Keys.{same_keys}
use Rattle.board_layout.specs.Layout.{IsShape}
use Rattle.board_model.specs.Tables.{shapes_of}
use Rattle.board_service.specs.Entries.{as_added}
use Rattle.board_service.specs.declared.made.Made.{Made}
use Rattle.board_service.specs.declared.new_entry.NewEntry.{NewEntry}
use Rattle.board_handles.proofs.LentLemmas.{ok_is_no_refusal}
use Rattle.board_domain.specs.LentForms as lent
use Rattle.board_domain.proofs.AskedLemmas.{config_made, attributes_shown}
use Rattle.board_domain.proofs.KeptLemmas.{created_number, is_made}
use Rattle.board_domain.proofs.kept.new_board.Goals as goal

pub create_refusal-refusal-requires-clause-shapes : goal.create_refusal-refusal-requires-clause-shapes
create_refusal-refusal-requires-clause-shapes g c = subst (λ (es : List NewEntry). All IsShape (shapes_of (map as_added es))) (sym c.as_slice.ensures.value) c.requires.shapes

pub kept_with-requires : goal.kept_with-requires
kept_with-requires g c =
    let K = g.K.ZeroCopySend in
    let d = c.args.state.now.tables in
    let added = map as_added c.args.asked.entries.items in
    let b = lent.new_board c.args.asked.node c.args.asked.name (details K.type_bytes K.SIZE K.ALIGNMENT) c.args.asked.limits c.args.attributes added in
    let number = created_number d (same_keys g.K.PartialEq.eq K.value_of K.SIZE K.WORDS) c.args.asked.name added c.in_ok-made.made (c.in_ok-made.ensures.answer (ok_is_no_refusal _ _)) in
    attributes_shown b d c.create.new.self (is_made b d c.create.new.self c.in_ok-made.ensures.ok) c.facts.ensures c.in_ok-made.made.number c.in-Ok.copied number c.in-Ok.ensures.ok

pub returns-clause-config : goal.returns-clause-config
returns-clause-config g c =
    let K = g.K.ZeroCopySend in
    let d = c.args.state.now.tables in
    let added = map as_added c.args.asked.entries.items in
    let b = lent.new_board c.args.asked.node c.args.asked.name (details K.type_bytes K.SIZE K.ALIGNMENT) c.args.asked.limits c.args.attributes added in
    let number = created_number d (same_keys g.K.PartialEq.eq K.value_of K.SIZE K.WORDS) c.args.asked.name added c.in_ok-made.made (c.in_ok-made.ensures.answer (ok_is_no_refusal _ _)) in
    let kept = c.kept_with.result in
    config_made b d c.create.new.self (is_made b d c.create.new.self c.in_ok-made.ensures.ok) c.facts.ensures kept.made.number kept.config kept.attributes
    (ap (λ (m : Made). m.number) c.kept_with.ensures.made ∙ number) c.kept_with.ensures.kept
