use Rattle.std.proofs.Common.{rules, ◌≡◌, ap, ◌∙◌, subst, true}
use Rattle.board_layout.specs.Bytes.{details}
use Rattle.board_layout.specs.Keys.{is_key}
use Rattle.board_model.specs.declared.tables.ThingKind.TheVariants.{ReadHandle}
use Rattle.board_service.specs.declared.made.Made.{Made}
use Rattle.board_service.specs.Domain.{entry_answer, entry_of_thing}
use Rattle.board_service.specs.Facts.{IsHeldBeside}
use Rattle.board_handles.specs.BoardEnds.{Core}
use Rattle.board_handles.proofs.LentLemmas.{held_as, ok_is_no_refusal, read_is, read_refused}
use Rattle.board_handles.proofs.reader.Reader.entry_in.Goals as goal

pub returns-in-Err-clause-answer : goal.returns-in-Err-clause-answer
returns-in-Err-clause-answer g c = λ not_memory.
    let K = g.K.ZeroCopySend in
    let V = g.V.ZeroCopySend in
    let stands : c.is_held.result ≡ true = search rules in
    read_refused c.args.state.now.tables (details K.type_bytes K.SIZE K.ALIGNMENT) c.new-value.result (details V.type_bytes V.SIZE V.ALIGNMENT)
    (is_key g.K.PartialEq.eq K.value_of K.SIZE K.WORDS c.args.key.now) V.WORDS c.self.inside.made.thing c.args.self.now.thing
    c.in-Err.why c.is_held.result c.new-value.ensures (ap (λ (m : Made). m.thing) c.self.view_is) c.is_held.ensures.value stands c.in-Err.ensures

pub returns-in-Err-clause-refused : goal.returns-in-Err-clause-refused
returns-in-Err-clause-refused g c = λ e refused.
    let K = g.K.ZeroCopySend in
    let V = g.V.ZeroCopySend in
    let stands : c.is_held.result ≡ true = search rules in
    read_refused c.args.state.now.tables (details K.type_bytes K.SIZE K.ALIGNMENT) c.new-value.result (details V.type_bytes V.SIZE V.ALIGNMENT)
    (is_key g.K.PartialEq.eq K.value_of K.SIZE K.WORDS c.args.key.now) V.WORDS c.self.inside.made.thing c.args.self.now.thing
    c.in-Err.why c.is_held.result c.new-value.ensures (ap (λ (m : Made). m.thing) c.self.view_is) c.is_held.ensures.value stands c.in-Err.ensures
    ∙ refused

pub returns-in-Err-read_handle_of-clause-answer : goal.returns-in-Err-read_handle_of-clause-answer
returns-in-Err-read_handle_of-clause-answer g c = λ not_memory.
    let K = g.K.ZeroCopySend in
    let V = g.V.ZeroCopySend in
    let stands : c.is_held.result ≡ true = search rules in
    c.in-Err-read_handle_of.ensures.answer not_memory
    ∙ read_is c.args.state.now.tables (details K.type_bytes K.SIZE K.ALIGNMENT) c.new-value.result (details V.type_bytes V.SIZE V.ALIGNMENT)
    (is_key g.K.PartialEq.eq K.value_of K.SIZE K.WORDS c.args.key.now) V.WORDS c.self.inside.made.thing c.args.self.now.thing c.board_of-board.result
    c.in-Ok.found c.is_held.result c.new-value.ensures (ap (λ (m : Made). m.thing) c.self.view_is) c.board_of-board.ensures.value c.is_held.ensures.value stands c.in-Ok.ensures

pub returns-in-Err-read_handle_of-clause-refused : goal.returns-in-Err-read_handle_of-clause-refused
returns-in-Err-read_handle_of-clause-refused g c = λ e refused.
    let K = g.K.ZeroCopySend in
    let V = g.V.ZeroCopySend in
    let stands : c.is_held.result ≡ true = search rules in
    c.in-Err-read_handle_of.ensures.refused e (
    read_is c.args.state.now.tables (details K.type_bytes K.SIZE K.ALIGNMENT) c.new-value.result (details V.type_bytes V.SIZE V.ALIGNMENT)
    (is_key g.K.PartialEq.eq K.value_of K.SIZE K.WORDS c.args.key.now) V.WORDS c.self.inside.made.thing c.args.self.now.thing c.board_of-board.result
    c.in-Ok.found c.is_held.result c.new-value.ensures (ap (λ (m : Made). m.thing) c.self.view_is) c.board_of-board.ensures.value c.is_held.ensures.value stands c.in-Ok.ensures
    ∙ refused)

pub returns-in-Ok-entry-clause-held : goal.returns-in-Ok-entry-clause-held
returns-in-Ok-entry-clause-held g c =
    let K = g.K.ZeroCopySend in
    let reader = c.self.inside.made.thing in
    let kept : c.read_handle_of.new.tables ≡ c.args.state.now.tables = c.in-Ok-read_handle_of.ensures.same in
    let told = c.in-Ok-entry.ensures.answer (ok_is_no_refusal _ _)
    ∙ ap (λ (d : Core). entry_answer d (entry_of_thing d reader (is_key g.K.PartialEq.eq K.value_of K.SIZE K.WORDS c.args.key.now) c.new-value.result)) kept in
    let beside = subst (λ (d : Core). IsHeldBeside d c.entry.new.self reader c.in-Ok-entry.field-0.thing ReadHandle) kept c.in-Ok-entry.ensures.held in
    held_as c.args.state.now.tables c.entry.new.self _ c.in-Ok.found _ c.in-Ok-read_handle_of.handle.found reader c.args.self.now.thing ReadHandle
    c.in-Ok.ensures told c.in-Ok-read_handle_of.ensures.found (ap (λ (m : Made). m.thing) c.self.view_is) beside
