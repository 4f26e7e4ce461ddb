use Rattle.std.proofs.Common.{◌≡◌, ◌<◌, ◌^◌, rules, sym, ap, subst, ◌∙◌, true, false}
use Rattle.board_layout.specs.declared.shape.CellShape.{CellShape}
use Rattle.board_layout.specs.Layout.{cell_end, cell_shape}
use Rattle.board_cell.specs.Calls.{publication}
use Rattle.board_model.specs.declared.answer.Reason.TheVariants as reason
use Rattle.board_model.specs.declared.tables.Entry.{Entry}
use Rattle.board_model.specs.Tables.{entry_of}
use Rattle.board_model.specs.TypeTable.{same_type, type_of, value_detail, value_words}
use Rattle.script_boards.specs.Begins.{holds}
use Rattle.script_boards.proofs.Bounds.{bounded}
use Rattle.script_boards.proofs.CallChecks.{cell_is_low, counter_is_low, refused_for, value_fits}
use Rattle.script_boards.proofs.LoanChecks.{found_loan, loan_counter, fill_begins, fill_mistyped}
use Rattle.script_boards.proofs.machine.BoardMachine.check_fill.Goals as goal

pub new-requires-clause-width : goal.new-requires-clause-width
new-requires-clause-width g c =
    let t : same_type (value_detail (type_of c.args.value)) c.entry_held-entry.result.now.value ≡ true = search rules in
    let led = c.requires.led in
    value_fits c.args.self.now led.state led.represents led.reached.sound c.in-Some.found.board (entry_of c.in-Some.found.kind) c.entry_held-entry.result.now c.entry_held-entry.ensures c.args.value t
    ∙ ap (λ (x : CellShape). x.words) (sym (c.shape.ensures ∙ ap (λ (e : Entry). cell_shape e.cell) c.entry.view_is))

pub new-requires-clause-shape : goal.new-requires-clause-shape
new-requires-clause-shape g c =
    let led = c.requires.led in
    subst (λ (x : CellShape). cell_end x < 2 ^ 64) (sym (c.shape.ensures ∙ ap (λ (e : Entry). cell_shape e.cell) c.entry.view_is))
    (cell_is_low c.args.self.now led.state led.represents led.reached.sound c.in-Some.found.board (entry_of c.in-Some.found.kind) c.entry_held-entry.result.now c.entry_held-entry.ensures)

pub new-requires-clause-room : goal.new-requires-clause-room
new-requires-clause-room g c =
    let it = found_loan c.args.self.now c.args.party.now c.args.loan c.in-Some.found (sym c.thing_of_loan.ensures ∙ c.in-Some.is) in
    let led = c.requires.led in
    counter_is_low c.args.self.now led.state led.represents led.reached.sound c.in-Some.found.board (entry_of c.in-Some.found.kind) c.entry_held-entry.result.now c.entry_held-entry.ensures c.args.generation (bounded led.state led.reached)
    (loan_counter c.args.self.now c.args.party.now c.args.loan c.in-Some.found it.words it.held c.args.generation c.requires.generation)

pub returns : goal.returns
returns g c =
    let m = c.args.self.now in
    let party = c.args.party.now in
    let x = c.in-Some.found in
    let entry = c.entry_held-entry.result.now in
    let it = found_loan m party c.args.loan x (sym c.thing_of_loan.ensures ∙ c.in-Some.is) in
    let counter = loan_counter m party c.args.loan x it.words it.held c.args.generation c.requires.generation in
    let untaken : holds m party c.args.handle ≡ false = search rules in
    let t : same_type (value_detail (type_of c.args.value)) entry.value ≡ true = search rules in
    λ s rep sound.
    fill_begins m s rep party sound x entry c.entry_held-entry.ensures c.args.loan it.words it.held c.args.handle c.args.value untaken t c.args.generation counter c.new.result
    (c.new.ensures ∙ ap (λ (y : CellShape). publication y c.args.generation (value_words c.args.value)) (c.shape.ensures ∙ ap (λ (e : Entry). cell_shape e.cell) c.entry.view_is))

pub returns-in_err-require : goal.returns-in_err-require
returns-in_err-require g c =
    let m = c.args.self.now in
    let party = c.args.party.now in
    let x = c.in-Some.found in
    let entry = c.entry_held-entry.result.now in
    let it = found_loan m party c.args.loan x (sym c.thing_of_loan.ensures ∙ c.in-Some.is) in
    let untaken : holds m party c.args.handle ≡ false = search rules in
    let t : same_type (value_detail (type_of c.args.value)) entry.value ≡ false = sym c.is_value_of.ensures ∙ c.in_err-require.ensures.0 in
    let refused = refused_for c.from_residual-in_err-require.result c.in_err-require.field-0.0 reason.Type c.from_residual-in_err-require.ensures.1 c.in_err-require.ensures.1 in
    λ s rep sound.
    rw refused (fill_mistyped m s rep party sound x entry c.entry_held-entry.ensures c.args.loan it.words it.held c.args.handle c.args.value untaken t)
