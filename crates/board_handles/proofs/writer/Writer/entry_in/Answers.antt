use Rattle.std.proofs.Common.{ap, ◌∙◌}
use Rattle.board_layout.specs.Bytes.{details}
use Rattle.board_layout.specs.Keys.{is_key}
use Rattle.board_model.specs.declared.tables.ThingKind.TheVariants.{WriteHandle}
use Rattle.board_service.specs.declared.made.Made.{Made}
use Rattle.board_handles.specs.BoardEnds.{Core}
use Rattle.board_handles.proofs.LentLemmas.{held_as, held_ends, ok_is_no_refusal, taken_tables, write_done}
use Rattle.board_handles.proofs.writer.Writer.entry_in.Goals as goal

pub returns-in-Ok-entry_mut-clause-ok : goal.returns-in-Ok-entry_mut-clause-ok
returns-in-Ok-entry_mut-clause-ok g c =
    let K = g.K.ZeroCopySend in
    let V = g.V.ZeroCopySend in
    write_done c.args.state.now.tables (details K.type_bytes K.SIZE K.ALIGNMENT) c.new-value.result (details V.type_bytes V.SIZE V.ALIGNMENT)
    (is_key g.K.PartialEq.eq K.value_of K.SIZE K.WORDS c.args.key.now) V.WORDS c.self.inside.made.thing c.args.self.now.thing c.board_of-board.result
    c.in-Ok.found c.entry_mut.new.self c.take_handle.new.tables
    c.new-value.ensures (ap (λ (m : Made). m.thing) c.self.view_is) c.board_of-board.ensures.value
    c.in-Ok.ensures c.in-Ok-entry_mut.ensures.ok c.take_handle.ensures.after

pub returns-in-Ok-entry_mut-clause-held : goal.returns-in-Ok-entry_mut-clause-held
returns-in-Ok-entry_mut-clause-held g c =
    held_ends c.args.state.now.tables c.entry_mut.new.self c.take_handle.new.tables c.args.self.now.thing _ WriteHandle
    (ap (λ (d : Core). d.tables) c.take_handle.ensures.after ∙ taken_tables c.entry_mut.new.self c.board_of-board.result c.in-Ok.found.entry)
    (held_as c.args.state.now.tables c.entry_mut.new.self _ c.in-Ok.found _ c.take_handle.result.found c.self.inside.made.thing c.args.self.now.thing WriteHandle
    c.in-Ok.ensures (c.in-Ok-entry_mut.ensures.answer (ok_is_no_refusal _ _)) c.take_handle.ensures.found (ap (λ (m : Made). m.thing) c.self.view_is) c.in-Ok-entry_mut.ensures.held)
