use Rattle.std.proofs.Common.{◌∙◌, ◌-◌}
use Rattle.std.proofs.lemmas.List.{length-set}
use Rattle.board_event_model.specs.EventMemory as event
use Rattle.board_event_model.specs.EventMemory.{CanPerform}
use Rattle.board_event_model.specs.EventSessions.{event_of}
use Rattle.script_event_rows.specs.EventRows.{StandsFor}
use Rattle.script_event_tables.proofs.TableLemmas.{both, changed_owners, changed_rows, kept_rows, on_err, row_of}
use Rattle.script_event_tables.proofs.event_table.EventTable.perform.Goals as goal

pub perform-requires : goal.perform-requires
perform-requires c =
    let s = c.requires.can.0 in
    let are = c.requires.can.1 in
    both (event_of s.stands c.args.number) (StandsFor c.index_mut-row.result.now) (λ e. CanPerform e c.args.access)
    (row_of c.args.self.now.rows.items s.stands c.args.number c.index_mut-row.result.now are.rows c.requires.made.first c.requires.made.last c.index_mut-row.ensures.value) c.requires.can.2

pub returns-in_err-answer-clause-err : goal.returns-in_err-answer-clause-err
returns-in_err-answer-clause-err c = on_err c.from_residual.result (λ s are. record {
  count = length-set c.args.self.now.rows.items (c.args.number - 1) c.perform.new.self ∙ are.count;
  rows = kept_rows c.args.self.now.rows.items s.stands c.args.number c.index_mut-row.result.now c.perform.new.self are.rows c.requires.made.first c.requires.made.last c.index_mut-row.ensures.value c.in_err-answer.ensures.err;
  names = are.names;
  each = are.each;
  owners = are.owners;
})

pub returns-clause-after : goal.returns-clause-after
returns-clause-after c = λ s are. record {
  count = length-set c.args.self.now.rows.items (c.args.number - 1) c.perform.new.self ∙ are.count;
  rows = changed_rows c.args.self.now.rows.items s.stands c.args.number c.index_mut-row.result.now c.perform.new.self are.rows c.requires.made.first c.requires.made.last c.index_mut-row.ensures.value (λ e. event.after e c.args.access) c.in_ok-answer.ensures.after;
  names = are.names;
  each = are.each;
  owners = changed_owners c.args.self.now.listeners s.stands c.args.number (λ e. event.after e c.args.access) are.owners;
}
